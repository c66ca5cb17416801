-- The ladder beside the two published lists, for SCD and for OCD: its lines have the steps of the two and no others, and leave no gap and no
-- overlap. So a number on a line has the line's step by the lists.
-- Assumes nothing.
use mathlib.Core.Path.{◌≡◌, refl, sym, ◌∙◌}
use mathlib.Core.Bool.{Bool, true, cond, ◌&&◌, ◌||◌}
use mathlib.Core.List.{List, [], ◌∷◌, map, ◌++◌}
use Prim.Native.Nat.{ℕ, suc, ◌<◌}
use borrow.Author.Tests.{eqb-true, le-leb}
use denote.Enum.Declared.{Record}
use lib.Dec.{eqb, leb}
use Rattle.laws.proofs.Tests.{all_below, below, agree, agreeing}
use Rattle.laws.proofs.Variants.{by_variants, Each, each}
use Rattle.protection.specs.Inside.{Line, On, scd_line, ocd_line}
use Rattle.protection.specs.Ranges.{is_in}
use Rattle.protection.specs.Scd as scd
use Rattle.protection.specs.Ocd as ocd
use Rattle.protection.specs.Steps.{scd_lower, scd_upper, ocd_lower, ocd_upper, highest, step}
use Rattle.protection.proofs.InRange.{scd_in, ocd_in}
use Rattle.protection.specs.contracts.scd.SCDThreshold as scd-steps
use Rattle.protection.specs.contracts.ocd.OCDThreshold as ocd-steps

abbrev pub on : Line → ℕ → Bool
on line n = leb line.from n && leb n line.to

-- a kind's lines, each by its step
pub record Beside {A : Type 0} (mv_of : A → ℕ) (line : A → Line) (steps : List A) (lower upper : List ℕ) : Type 0 where
  -- each line's top is a step of one of the lists; but the highest step's line goes on to 255
  pub published : (t : A) → is_in (mv_of t) lower || is_in (mv_of t) upper ≡ true
  pub top : (t : A) → (line t).to ≡ cond (eqb (mv_of t) (highest (lower ++ upper))) 255 (mv_of t)
  -- each step of either list has its line
  pub has_line : map (λ x. is_in x (map mv_of steps)) (lower ++ upper) ≡ map (λ _. true) (lower ++ upper)
  -- no gap and no overlap from 0 to 255: the lines begin at 0 and then each after the top of the one before, and after the last top is 256
  pub joined : map (λ t. (line t).from) steps ++ (256 ∷ []) ≡ 0 ∷ map (λ t. suc (line t).to) steps
  -- a number is on a line exactly where the line's step is its step by the lists
  pub exactly : (t : A) (n : ℕ) → n < 256 → on (line t) n ≡ eqb (mv_of t) (step (lower ++ upper) n)

pub picked :
    {A : Type 0} {mv_of : A → ℕ} {line : A → Line} {steps : List A} {lower upper : List ℕ}
    → Beside mv_of line steps lower upper
    → (t : A) (n : ℕ) → n < 256 → On (line t) n → mv_of t ≡ step (lower ++ upper) n
picked beside t n h is = eqb-true _ _ (sym (beside.exactly t n h) ∙ rw (le-leb _ _ is.0, le-leb _ _ is.1))

module _ (enum : Record) (mv_of : enum.D → ℕ) (line : enum.D → Line) (lower upper : List ℕ) where
  agrees : enum.D → ℕ → Bool
  agrees t n = agree (on (line t) n) (eqb (mv_of t) (step (lower ++ upper) n))

  by_tests : Each enum (λ t. all_below 256 (agrees t)) → (t : enum.D) (n : ℕ) → n < 256 → on (line t) n ≡ eqb (mv_of t) (step (lower ++ upper) n)
  unfolding agrees
  by_tests all t n h = agreeing _ _ (below 256 (agrees t) (each enum (λ t. all_below 256 (agrees t)) all t) n h)

pub scd_beside : Beside scd.mv_of scd_line scd.thresholds scd_lower scd_upper
unfolding agrees step
scd_beside =
    record {
      published = scd_in;
      top = by_variants scd-steps.enum _ _ refl;
      has_line = refl;
      joined = refl;
      exactly = by_tests scd-steps.enum scd.mv_of scd_line scd_lower scd_upper tt;
    }

pub ocd_beside : Beside ocd.mv_of ocd_line ocd.thresholds ocd_lower ocd_upper
unfolding agrees step
ocd_beside =
    record {
      published = ocd_in;
      top = by_variants ocd-steps.enum _ _ refl;
      has_line = refl;
      joined = refl;
      exactly = by_tests ocd-steps.enum ocd.mv_of ocd_line ocd_lower ocd_upper tt;
    }
