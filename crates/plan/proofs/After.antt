-- What is left of the plan where neither 12 nor 9 applies, and the numbers that it is refused with.
-- Assumes nothing.
use mathlib.Core.Path.{◌≡◌, refl, ap, sym, ◌∙◌}
use mathlib.Core.Bool.{Bool, true, false, true≢false, not, ◌&&◌}
use mathlib.Core.List.{[]}
use Prim.Native.Nat.{ℕ, ◌<◌}
use native.Mathlib.Omega.{arith}
use lib.Dec.{eqb}
use lib.IntN.{ℤ}
use borrow.Author.Tests.{eq-eqb, ne_eqb}
use Rattle.refusals.specs.Refusal.{Answer, value, refused, no}
use Rattle.protection.specs.Ranges.{range_for, for_both}
use Rattle.protection.specs.Steps.{scd_lower, scd_upper, ocd_lower, ocd_upper}
use Rattle.protection.specs.declared.range.OCDSCDRange.{OCDSCDRange}
use Rattle.adc.specs.Trips.{reading_of, trip_code}
use Rattle.plan.specs.Exactly.{is_no}
use Rattle.plan.specs.Order.{◌and_then◌}
use Rattle.plan.specs.Plan.{Planned, set_for, plan_for}
use Rattle.plan.specs.Steps.{bad_shunt}
use Rattle.plan.specs.Trips.{trip_code_for, within_for}
use Rattle.plan.specs.declared.Config.{Config}
use Rattle.plan.proofs.Only.{Only, range_only, protect_only}
use Rattle.plan.proofs.Order.{past, out}
use Rattle.plan.proofs.Shunt.{bad, good}

-- the code of an asked voltage, where the gain is not 0
abbrev pub code_of : ℕ → ℤ → ℤ → ℕ
code_of gain offset asked = trip_code (reading_of gain offset asked)

code_given : (gain : ℕ) (offset asked : ℤ) → 0 < gain → trip_code_for gain offset asked ≡ value (code_of gain offset asked)
unfolding trip_code_for ◌and_then◌
code_given gain offset asked h = simp (ne_eqb gain 0 (omega arith))

-- and where it is 0
code_none : (gain : ℕ) (offset asked : ℤ) → gain ≡ 0 → trip_code_for gain offset asked ≡ refused (no 9 [])
unfolding trip_code_for ◌and_then◌
code_none gain offset asked e = simp (eq-eqb gain 0 e)

-- the range for two steps in mV
abbrev pub choice : ℕ → ℕ → Answer OCDSCDRange
choice scd ocd = for_both (range_for scd_lower scd_upper scd) (range_for ocd_lower ocd_upper ocd)

pub choice_only : (scd ocd : ℕ) → Only 6 (choice scd ocd)
choice_only scd ocd = range_only (range_for scd_lower scd_upper scd) (range_for ocd_lower ocd_upper ocd)

module _ (gain : ℕ) (offset : ℤ) (config : Config) (scd ocd : ℕ) where
  abbrev pub ov : ℤ
  ov = config.ov_threshold.0

  abbrev pub uv : ℤ
  uv = config.uv_threshold.0

  abbrev pub settled : OCDSCDRange → Answer Planned
  settled range = set_for gain offset config scd ocd range (code_of gain offset ov) (code_of gain offset uv)

  abbrev pub rest : OCDSCDRange → Answer Planned
  rest range = within_for gain offset ov uv and_then λ _. settled range

  pub only_12 : bad_shunt config.shunt.0 ≡ true → plan_for gain offset config scd ocd ≡ refused (no 12 [])
  unfolding plan_for
  only_12 shunt = out _ (bad _ shunt)

  pub only_9 : bad_shunt config.shunt.0 ≡ false → gain ≡ 0 → plan_for gain offset config scd ocd ≡ refused (no 9 [])
  unfolding plan_for
  only_9 shunt e = past _ _ (good _ shunt) ∙ out _ (code_none gain offset ov e)

  pub past_9 : bad_shunt config.shunt.0 ≡ false → 0 < gain → plan_for gain offset config scd ocd ≡ choice scd ocd and_then rest
  unfolding plan_for
  past_9 shunt h =
      past _ _ (good _ shunt)
      ∙ past _ _ (code_given gain offset ov h)
      ∙ past _ _ (code_given gain offset uv h)

-- an answer whose next step is never the refusal n is n just where the step itself is
pub next_not : {A B : Type 0} (n : ℕ) (a : Answer A) (next : A → Answer B)
    → ((x : A) → is_no n (next x) ≡ false) → is_no n (a and_then next) ≡ is_no n a
unfolding ◌and_then◌
next_not n (value x) next not = not x
next_not n (refused r) next not = refl

pub only_not : {A : Type 0} (m n : ℕ) → eqb m n ≡ false → (a : Answer A) → Only m a → is_no n a ≡ false
only_not m n other (value a) only = refl
only_not {A = A} m n other (refused r) only = ap (λ (a : Answer A). is_no n a) (only r refl) ∙ other

-- what follows the choice of a range refuses with n just where the test of the voltages does, n not being 20
pub rest_number :
    (n : ℕ) → eqb 20 n ≡ false → (gain : ℕ) (offset : ℤ) (config : Config) (scd ocd : ℕ) (range : OCDSCDRange)
    → is_no n (rest gain offset config scd ocd range) ≡ is_no n (within_for gain offset config.ov_threshold.0 config.uv_threshold.0)
unfolding set_for
rest_number n other gain offset config scd ocd range =
    next_not n (within_for gain offset config.ov_threshold.0 config.uv_threshold.0) (λ _. settled gain offset config scd ocd range)
    (λ _. next_not n _ _ (λ _. refl) ∙ only_not 20 n other _ (protect_only config scd ocd range))

-- a refusal that comes after 6 is given where 6 is not and what follows gives it
pub after_6 :
    {A B : Type 0} (n : ℕ) (a : Answer A) (next : A → Answer B) (t : Bool)
    → eqb 6 n ≡ false
    → Only 6 a
    → ((x : A) → is_no n (next x) ≡ t)
    → is_no n (a and_then next) ≡ not (is_no 6 a) && t
unfolding ◌and_then◌
after_6 n (value x) next t other only says = says x
after_6 {A = A} n (refused r) next t other only says =
    ap (λ (a : Answer A). is_no n a) (only r refl) ∙ other ∙ sym (ap (λ (a : Answer A). not (is_no 6 a) && t) (only r refl))

pub shares : {A : Type 0} (a : Answer A) → Only 6 a → is_no 6 a ≡ false → (x : A) × (a ≡ value x)
shares (value x) only e = (x, refl)
shares {A = A} (refused r) only e = absurd (true≢false (sym (ap (λ (a : Answer A). is_no 6 a) (only r refl)) ∙ e))
