-- What the code does with a write: its first byte is the register, and what follows it is the data.
-- Assumes nothing.
use mathlib.Core.Path.{◌≡◌, refl, sym, ap, ◌∙◌}
use mathlib.Core.Bool.{Bool, true, false, ◌&&◌}
use mathlib.Core.List.{List, [], ◌∷◌}
use mathlib.Core.Option.{Option, none, some}
use Prim.Native.Nat.{ℕ, ◌+◌, ◌/◌, ◌≤◌}
use native.Mathlib.Omega.{arith}
use lib.ListN.{length}
use lib.Dec.{eqb, leb}
use borrow.Author.Tests.{leb-true, eq-eqb}
use Rattle.frames.specs.Frames.{write_byte}
use Rattle.laws.specs.Choice.{when◌then◌else◌}
use Rattle.bus.specs.Transfers.{Transfer, write, Outcome, done, fault}
use Rattle.chip.specs.Inside.{saying}
use Rattle.chip.specs.Devices.{Reached, reached}
use Rattle.chip.specs.Chip.{with_regs, begun, complete, stores, agreed, accepted, stored_of, written, acknowledged}
use Rattle.chip.specs.Chip.{answers, carried, respond_cut}
use Rattle.chip.specs.declared.Chip.{Chip}
use Rattle.chip.proofs.Answers.{own_empty, own_write, responds, unanswered}

empty : (l : List ℕ) → length l ≡ 0 → l ≡ []
empty [] e = refl
empty (x ∷ l) e = absurd (omega arith)

module _ (c : Chip) (l : List ℕ) where
  pub answered_none : length l ≡ 0 → true ≡ answers c (write c.address l)
  answered_none e = sym (ap (λ (m : List ℕ). answers c (write c.address m)) (empty l e) ∙ own_empty c)

  pub written_none : length l ≡ 0 → c ≡ written c l
  unfolding written
  written_none e = sym (ap (written c) (empty l e))

  pub acknowledged_none : length l ≡ 0 → true ≡ acknowledged c l
  unfolding acknowledged
  acknowledged_none e = sym (ap (acknowledged c) (empty l e))

  module _ (r : ℕ) (bytes : List ℕ) (is : l ≡ r ∷ bytes) where
    pub answered_some : leb (r + begun c.check (length bytes)) 256 ≡ answers c (write c.address l)
    answered_some = sym (ap (λ (m : List ℕ). answers c (write c.address m)) is ∙ own_write c r bytes)

    pub rest_within : answers c (write c.address l) ≡ true → (check : Bool) → c.check ≡ check → r + begun check (length bytes) ≤ 256
    rest_within h check e = rw e at (leb-true (r + begun c.check (length bytes)) 256 (answered_some ∙ h))

    pub written_checked : c.check ≡ true → with_regs c (stores r (agreed (write_byte c.address ∷ r ∷ []) bytes) c.regs) ≡ written c l
    unfolding written stored_of accepted
    written_checked e = rw (is, e)

    pub written_alone : c.check ≡ false → with_regs c (stores r bytes c.regs) ≡ written c l
    unfolding written stored_of accepted
    written_alone e = rw (is, e)

    acknowledged_some : (check : Bool) → c.check ≡ check
        → acknowledged c l ≡ eqb (length (accepted check (write_byte c.address ∷ r ∷ []) bytes)) (complete check (length bytes))
    unfolding acknowledged stored_of
    acknowledged_some check e = rw (is, e)

    pub acknowledged_alone : c.check ≡ false → true ≡ acknowledged c l
    unfolding accepted complete
    acknowledged_alone e = sym (acknowledged_some false e ∙ eq-eqb (length bytes) (length bytes) refl)

    pub acknowledged_checked : c.check ≡ true
        → eqb (length (agreed (write_byte c.address ∷ r ∷ []) bytes)) (length bytes / 2) ≡ acknowledged c l
    unfolding accepted complete
    acknowledged_checked e = sym (acknowledged_some true e)

-- ---- the chip after a transfer that is answered, and after one that is not
module _ (cut : Option ℕ) (c : Chip) (t : Transfer) where
  pub device_on : answers c t ≡ true → (carried cut c t).device ≡ (respond_cut cut c t).device
  device_on there = sym (ap (λ (x : Reached Chip Outcome). x.device) (responds cut c t there))

  pub device_off : answers c t ≡ false → c ≡ (respond_cut cut c t).device
  device_off away = sym (ap (λ (x : Reached Chip Outcome). x.device) (unanswered cut c t away))

-- ---- how a write is answered
module _ (c : Chip) (l : List ℕ) where
  abbrev sent : Transfer
  sent = write c.address l

  pub cut_faults : (j : ℕ) → (respond_cut (some j) c sent).answer ≡ saying false []
  unfolding respond_cut carried
  cut_faults j = by (answers c sent)
    where
      by : (yes : Bool) → (when yes then carried (some j) c sent else reached (fault []) c).answer ≡ fault []
      by true = refl
      by false = refl

  pub whole_goes : (respond_cut none c sent).answer ≡ saying (answers c sent && acknowledged c l) []
  unfolding respond_cut carried
  whole_goes = by (answers c sent) (acknowledged c l)
    where
      by : (yes good : Bool)
          → (when yes then reached (when good then done [] else fault []) (written c l) else reached (fault []) c).answer
          ≡ saying (yes && good) []
      by true true = refl
      by true false = refl
      by false good = refl
