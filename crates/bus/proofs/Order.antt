-- The order of a transfer's refusals: a log with no room is 17, whatever the tape says; else it is as the tape says, 16 where nothing is left.
-- Assumes nothing.
use mathlib.Core.Path.{◌≡◌, refl, sym, subst}
use mathlib.Core.Bool.{Bool, true, false}
use mathlib.Core.List.{List, [], ◌∷◌}
use Prim.Native.Nat.{ℕ, ◌+◌}
use native.Mathlib.Omega.{arith}
use lib.Dec.{leb}
use lib.ListN.{length, drop}
use Rattle.refusals.specs.Refusal.{no}
use Rattle.bus.specs.Transfers.{Transfer, Outcome, stopped, Bus, log_field, wanted, says, answered, outcome}
use Rattle.bus.specs.declared.Cursor.{Cursor}

module _ (want need size : ℕ) (tape : List ℕ) (at : Cursor) where
  pub full : leb (at.log + need) size ≡ false → answered want need size tape at ≡ stopped (no 17 [])
  unfolding answered
  full h = rw h

  pub with_room : leb (at.log + need) size ≡ true → answered want need size tape at ≡ says want (drop at.tape tape)
  unfolding answered
  with_room h = rw h

-- what holds of what the tape says, where there is room, and of 17 holds of a transfer's outcome
pub by_room : (t : Transfer) (b : Bus) (P : Outcome → Type 0)
    → (leb (b.at.log + length (log_field t)) (length b.log) ≡ true → P (says (wanted t) (drop b.at.tape b.tape)))
    → P (stopped (no 17 []))
    → P (outcome t b)
unfolding outcome
by_room t b P roomy none = by (leb (b.at.log + length (log_field t)) (length b.log)) refl
  where
    by : (c : Bool) → leb (b.at.log + length (log_field t)) (length b.log) ≡ c → P (outcome t b)
    by true e = subst P (sym (with_room _ _ _ b.tape b.at e)) (roomy e)
    by false e = subst P (sym (full _ _ _ b.tape b.at e)) none

pub ended : (want : ℕ) (rest : List ℕ) → length rest ≡ 0 → says want rest ≡ stopped (no 16 [])
unfolding says
ended want [] h = refl
ended want (a ∷ rest) h = absurd (omega arith)
