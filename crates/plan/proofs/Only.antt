-- The one number that a step refuses with: 12 the test of a shunt, 13 a choice of step, 9 a trip code, 6 a choice of range, 20 the register bytes.
-- Assumes nothing.
use mathlib.Core.Path.{◌≡◌, refl, ap, sym}
use mathlib.Core.Bool.{Bool, true, false, cond, ◌&&◌}
use mathlib.Core.List.{List, []}
use Prim.Native.Nat.{ℕ, ◌*◌, ◌/◌}
use lib.Dec.{eqb, ltb}
use lib.IntN.{ℤ}
use Rattle.refusals.specs.Refusal.{Answer, value, refused, Refusal, no, refused_if}
use Rattle.protection.specs.Ranges.{range_bits, code_for, has_lower, has_upper, for_both}
use Rattle.protection.specs.Steps.{mv_across, chosen, step_for}
use Rattle.protection.specs.declared.range.OCDSCDRange.{OCDSCDRange}
use Rattle.protection.specs.declared.range.OCDSCDRange.TheVariants as R
use Rattle.plan.specs.Order.{◌and_then◌}
use Rattle.plan.specs.Registers.{protect_for}
use Rattle.plan.specs.Steps.{bad_shunt, shunt_for}
use Rattle.plan.specs.Trips.{trip_code_for}
use Rattle.plan.specs.declared.Config.{Config}
use Rattle.refusals.proofs.Values.{refused_not}

-- a refusal of a is the refusal n, without figures
abbrev pub Only : {A : Type 0} → ℕ → Answer A → Type 0
Only n a = (r : Refusal) → a ≡ refused r → a ≡ refused (no n [])

value_only : {A : Type 0} (n : ℕ) (a : A) → Only n (value a)
value_only n a r e = refused_not (sym e)

refused_only : {A : Type 0} (n : ℕ) → Only {A = A} n (refused (no n []))
refused_only n r e = refl

then_only : {A B : Type 0} (n : ℕ) (a : Answer A) (next : A → Answer B) → Only n a → ((x : A) → Only n (next x)) → Only n (a and_then next)
unfolding ◌and_then◌
then_only {A = A} n (value x) next here later = later x
then_only {A = A} n (refused r) next here later = λ s e. ap (λ (b : Answer A). b and_then next) (here r refl)

if_only : {A : Type 0} (n : ℕ) (t : Bool) (a : A) → Only n (refused_if t n (value a))
if_only n true a = refused_only n
if_only n false a = value_only n a

pub shunt_only : (shunt : ℕ) → Only 12 (shunt_for shunt)
unfolding shunt_for
shunt_only shunt = if_only 12 (bad_shunt shunt) shunt

pub step_only : (xs : List ℕ) (amperes shunt : ℕ) → Only 13 (step_for xs amperes shunt)
unfolding mv_across
step_only xs amperes shunt = by_test (ltb (amperes * shunt) 256000)
  where
    by_test : (t : Bool) → Only 13 (chosen xs (cond t (value (amperes * shunt / 1000)) (refused (no 13 []))))
    by_test true = value_only 13 _
    by_test false = refused_only 13

pub code_only : (gain : ℕ) (offset asked : ℤ) → Only 9 (trip_code_for gain offset asked)
unfolding trip_code_for
code_only gain offset asked = then_only 9 _ _ (if_only 9 (eqb gain 0) _) (λ reading. value_only 9 _)

pub range_only : (scd ocd : OCDSCDRange) → Only 6 (for_both scd ocd)
range_only scd ocd = by_tests (has_lower scd && has_lower ocd) (has_upper scd && has_upper ocd)
  where
    by_tests : (lower upper : Bool) → Only 6 (cond lower (value R.Lower) (cond upper (value R.Upper) (refused (no 6 []))))
    by_tests true upper = value_only 6 R.Lower
    by_tests false true = value_only 6 R.Upper
    by_tests false false = refused_only 6

pub range_bits_only : (range : OCDSCDRange) → Only 20 (range_bits range)
range_bits_only R.Lower = value_only 20 _
range_bits_only R.Upper = value_only 20 _
range_bits_only R.Unknown = refused_only 20

pub step_code_only : (lower upper : List ℕ) (range : OCDSCDRange) (n : ℕ) → Only 20 (code_for lower upper range n)
unfolding code_for
step_code_only lower upper R.Lower n = value_only 20 _
step_code_only lower upper R.Upper n = value_only 20 _
step_code_only lower upper R.Unknown n = refused_only 20

pub protect_only : (config : Config) (scd ocd : ℕ) (range : OCDSCDRange) → Only 20 (protect_for config scd ocd range)
unfolding protect_for
protect_only config scd ocd range =
    then_only 20 _ _ (range_bits_only range)
    (λ _. then_only 20 _ _ (step_code_only _ _ range scd)
    (λ _. then_only 20 _ _ (step_code_only _ _ range ocd)
    (λ _. value_only 20 _)))
