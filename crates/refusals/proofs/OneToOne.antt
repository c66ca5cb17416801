-- A refusal's number and figures tell which case it is: `as_refusal` has a left inverse.
-- Assumes nothing.
use mathlib.Core.Path.{◌≡◌, refl, ap}
use Rattle.std.specs.Prelude.{ℕ, ◌-◌, List, [], ◌∷◌, get_or, ℤ, Result, Ok, Err}
use lib.IntN.{nat_abs}
use Rattle.laws.proofs.Inverse.{one_to_one}
use Rattle.laws.proofs.Variants.{by_variants}
use Rattle.refusals.specs.Refusal.{Refusal, Answer, value, refused, as_refusal, as_answer, in_numbers}
use Rattle.refusals.specs.declared.Error.{Error}
use Rattle.refusals.specs.declared.Error.TheVariants as E
use Rattle.units.specs.declared.MilliVolts.{MilliVolts}
use Rattle.refusals.specs.contracts.Error as declared

-- the cases in the order of their numbers, with their figures: a register, or two voltages
abbrev cases : ℕ → ℤ → ℤ → List Error
cases reg first second =
    let low : MilliVolts = record { 0 = first } in
    let high : MilliVolts = record { 0 = second } in
    E.CRCMismatch ∷
    E.I2CError ∷
    E.BufTooLarge ∷
    E.Uninitialized ∷
    E.VerifyError reg ∷
    E.OCDSCDRangeMismatch ∷
    E.UVThresholdUnobtainable low high ∷
    E.OVThresholdUnobtainable low high ∷
    E.BadDevice ∷
    E.BadCellCount ∷
    E.BadAddress ∷
    E.BadShunt ∷
    E.CurrentTooLarge ∷
    E.RegisterRunsOut ∷
    E.BadTape ∷
    E.TapeEnded ∷
    E.LogFull ∷
    E.UnknownFlags ∷
    E.NoRoom ∷
    E.UnknownRange ∷
    E.NoSuchInput ∷
    E.NotOnDevice ∷
    E.Neighbours ∷
    E.TooManyCells ∷
    []

pub case_back : Refusal → Error
case_back r =
    let numbers = in_numbers r in
    get_or (cases (nat_abs numbers.2) numbers.2 numbers.3) (numbers.0 - 1) E.CRCMismatch

pub undone : (e : Error) → case_back (as_refusal e) ≡ e
unfolding case_back
undone = by_variants declared.enum (λ e. case_back (as_refusal e)) (λ e. e) refl

pub as_refusal_one : (a b : Error) → as_refusal a ≡ as_refusal b → a ≡ b
as_refusal_one = one_to_one as_refusal case_back undone

-- a code's answer of two cases from what it tells: the left inverse of every map of such an answer into `Answer`
abbrev pub answer_back : {A B : Type 0} → (B → A) → (Error → A) → Answer B → A
answer_back made refuse (value b) = made b
answer_back made refuse (refused r) = refuse (case_back r)

-- two answers of the code that tell one thing are one, where no two values tell one thing
module _ {A B : Type 0} (said : A → B) (back : B → A) (undone_value : (a : A) → back (said a) ≡ a) where
  made_back : Answer B → Result A Error
  made_back = answer_back (λ b. Ok (back b)) Err

  answer_undone : (a : Result A Error) → made_back (as_answer said a) ≡ a
  unfolding made_back
  answer_undone (Ok a) = ap Ok (undone_value a)
  answer_undone (Err e) = ap Err (undone e)

  pub answer_agree : (a b : Result A Error) → as_answer said a ≡ as_answer said b → a ≡ b
  answer_agree = one_to_one (as_answer said) made_back answer_undone
