-- The rules of a set of inputs that are to be balanced together, and their refusals, in order: 22, 23, 24.
-- Assumes nothing.
use Rattle.std.specs.Prelude.{ℕ, Bool, false, ◌&&◌, ◌||◌, List, [], ◌∷◌, ltb, Result}
use Rattle.std.specs.Int.Count.{ones}
use Rattle.refusals.specs.Refusal.{Answer, value, refused_if, as_answer}
use Rattle.refusals.specs.declared.Error.{Error}
use Rattle.cellbal.specs.Sets.{is_on, named, blocks}

abbrev pub one_of : {A : Type 0} → List A → (A → Bool) → Bool
one_of [] test = false
one_of (a ∷ l) test = test a || one_of l test

-- 22: an input is on that a device with inputs 1 to x does not have
unfoldable pub not_on_device : ℕ → ℕ → Bool
not_on_device x set = one_of named λ input. ltb x input && is_on set input

-- two inputs, one after the other, are on
abbrev pub together : ℕ → List ℕ → Bool
together set [] = false
together set (i ∷ []) = false
together set (i ∷ j ∷ block) = is_on set i && is_on set j || together set (j ∷ block)

-- 23: so in a block of five; 5 and 6, and 10 and 11, are of two blocks
unfoldable pub neighbours : ℕ → Bool
neighbours set = one_of blocks (together set)

-- 24: more inputs are on than the board's limit, by the ones of the set itself
unfoldable pub too_many : ℕ → ℕ → Bool
too_many limit set = ltb limit (ones set)

unfoldable pub allowed : ℕ → ℕ → ℕ → Answer (Unit {0})
allowed x set limit =
    refused_if (not_on_device x set) 22 (
    refused_if (neighbours set) 23 (
    refused_if (too_many limit set) 24 (value tt)))

-- as the code answers
abbrev pub as_judged : Result (Unit {0}) Error → Answer (Unit {0})
as_judged = as_answer (λ _. tt)
