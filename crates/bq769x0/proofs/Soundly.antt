-- A call on a record that is sound goes on; on one that is not it makes no transfer. What holds of 9, and of what it goes on with, holds of it.
-- Assumes nothing.
use mathlib.Core.Path.{◌≡◌, refl, sym, ap}
use mathlib.Core.Bool.{Bool, true, false, not}
use Rattle.std.proofs.Common.{Result, Ok, Err}
use Rattle.refusals.specs.declared.Error.{Error}
use Rattle.refusals.specs.declared.Error.TheVariants as E
use Rattle.laws.specs.Choice.{when◌then◌else◌}
use Rattle.bus.specs.Transfers.{Bus}
use Rattle.bus.specs.Programs.{Prog, ret, on_tape}
use Rattle.bus.specs.Raw.{Done}
use Rattle.bus.proofs.Always.{always}
use Rattle.bq769x0.specs.Record.{is_sound, soundness}
use Rattle.bq769x0.specs.Registers.{soundly}
use Rattle.bq769x0.specs.declared.BQ769x0.{BQ769x0}

module _ {A : Type 0} (d : BQ769x0) (nine : A) (p : Prog A) (b : Bus) where
  pub sound_on : is_sound d ≡ true → on_tape (soundly d nine p) b ≡ on_tape p b
  unfolding soundly
  sound_on e = simp e

  pub sound_off : is_sound d ≡ false → on_tape (soundly d nine p) b ≡ record { answer = nine; bus = b }
  unfolding soundly on_tape
  sound_off e = simp e

-- what the code's test says where it refuses nothing
pub tested : (d : BQ769x0) (done : Done) → Ok done ≡ soundness d → is_sound d ≡ true
tested d done e = by_test (is_sound d) e
  where
    is_ok : Result Done Error → Bool
    is_ok (Ok done) = true
    is_ok (Err e) = false

    by_test : (t : Bool) → Ok done ≡ (when t then Ok tt else Err E.BadDevice) → t ≡ true
    by_test true e = refl
    by_test false e = sym (ap is_ok e)

pub always_soundly : {A : Type 0} (P : A → Type 0) (d : BQ769x0) (nine : A) (p : Prog A) → P nine
    → (is_sound d ≡ true → always P p) → always P (soundly d nine p)
unfolding soundly always
always_soundly P d nine p off on = by_test (is_sound d) refl
  where
    by_test : (t : Bool) → is_sound d ≡ t → always P (when not t then ret nine else p)
    by_test true e = on e
    by_test false e = off
