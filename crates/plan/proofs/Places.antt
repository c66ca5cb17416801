-- A step that the range used has stands in the published list of the range at its code.
-- Assumes nothing.
use mathlib.Core.Path.{◌≡◌, refl, ap, sym, subst, ◌∙◌}
use mathlib.Core.Bool.{Bool, true, false, cond, not, ◌&&◌, ◌||◌}
use mathlib.Core.List.{List, []}
use Prim.Native.Nat.{ℕ}
use lib.Dec.{eqb}
use lib.ListN.{get_or}
use borrow.Author.Tests.{eqb-true}
use denote.Enum.Declared.{Record}
use Rattle.laws.proofs.Tests.{is_true}
use Rattle.laws.proofs.Variants.{Each}
use Rattle.refusals.specs.Refusal.{value, refused, no}
use Rattle.protection.specs.Ranges.{is_in, code_in}
use Rattle.protection.specs.declared.range.OCDSCDRange.{OCDSCDRange}
use Rattle.protection.specs.declared.range.OCDSCDRange.TheVariants as R
use Rattle.plan.specs.Fields.{of_range}
use Rattle.plan.proofs.Fits.{by_range}
use Rattle.refusals.proofs.Values.{same_value, refused_not}

-- the range chosen has both steps
abbrev HasBoth : Bool → Bool → Bool → Bool → OCDSCDRange → Type 0
HasBoth sl su ol ou range = (of_range range sl su ≡ true) × (of_range range ol ou ≡ true)

pub has_both :
    (sl su ol ou : Bool) (range : OCDSCDRange)
    → cond (sl && ol) (value R.Lower) (cond (su && ou) (value R.Upper) (refused (no 6 []))) ≡ value range
    → HasBoth sl su ol ou range
has_both true su true ou range e = subst (HasBoth true su true ou) (same_value e) (refl, refl)
has_both true true false true range e = subst (HasBoth true true false true) (same_value e) (refl, refl)
has_both false true ol true range e = subst (HasBoth false true ol true) (same_value e) (refl, refl)
has_both true true false false range e = refused_not e
has_both true false false ou range e = refused_not e
has_both false true ol false range e = refused_not e
has_both false false ol ou range e = refused_not e

-- where a list has a step, it has the step's millivolts at the step's code
abbrev placed : List ℕ → ℕ → Bool
placed xs n = not (is_in n xs) || eqb (get_or xs (code_in xs n) 0) n

at_place : (xs : List ℕ) (n : ℕ) → placed xs n ≡ true → is_in n xs ≡ true → get_or xs (code_in xs n) 0 ≡ n
at_place xs n test is = eqb-true _ _ (sym (ap (λ (t : Bool). not t || eqb (get_or xs (code_in xs n) 0) n) is) ∙ test)

in_list : (range : OCDSCDRange) (n : ℕ) (lower upper : List ℕ) → is_in n (of_range range lower upper) ≡ of_range range (is_in n lower) (is_in n upper)
in_list R.Lower n lower upper = refl
in_list R.Upper n lower upper = refl
in_list R.Unknown n lower upper = refl

-- a step that the range used has stands in the range's list at its code
pub in_place :
    (enum : Record) (mv : enum.D → ℕ) (lower upper : List ℕ)
    → Each enum (λ step. placed lower (mv step))
    → Each enum (λ step. placed upper (mv step))
    → (range : OCDSCDRange) (step : enum.D)
    → of_range range (is_in (mv step) lower) (is_in (mv step) upper) ≡ true
    → get_or (of_range range lower upper) (code_in (of_range range lower upper) (mv step)) 0 ≡ mv step
in_place enum mv lower upper in-lower in-upper range step has =
    at_place (of_range range lower upper) (mv step) (is_true _ (by_range placed enum mv lower upper in-lower in-upper range step))
    (in_list range (mv step) lower upper ∙ has)
