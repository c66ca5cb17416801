-- The numbers that a call can refuse with, and the figures named with them: the table, one line a refusal.
-- Assumes nothing.
use Rattle.std.specs.Prelude.{ℕ, Bool, true, false, List, [], ◌∷◌, length, get_or, ℤ, pos, Result, Ok, Err}
use Rattle.refusals.specs.declared.Error.{Error}
use Rattle.refusals.specs.declared.Error.TheVariants as E
use Rattle.refusals.specs.declared.InNumbers.{InNumbers}

pub record Refusal : Type 0 where
  pub number : ℕ
  pub figures : List ℤ

abbrev pub no : ℕ → List ℤ → Refusal
no n fs = record { number = n; figures = fs }

-- what a call answers: a value, or a refusal
pub data Answer (A : Type 0) : Type 0 where
  value : A → Answer A
  refused : Refusal → Answer A

-- an answer with another value in its value's place
abbrev pub answering : {A B : Type 0} → Answer A → B → Answer B
answering (value a) b = value b
answering (refused r) b = refused r

-- an unsound record
abbrev pub nine : Refusal
nine = no 9 []

-- the refusal in an answer, to be handed on; a value has none, is never asked, and is given 9
abbrev pub refusal_in : {A : Type 0} → Answer A → Refusal
refusal_in (value a) = nine
refusal_in (refused r) = r

-- 0 where accepted, else the refusal's
abbrev pub number_of : {A : Type 0} → Answer A → ℕ
number_of (value a) = 0
number_of (refused r) = r.number

-- a refusal without figures where a test holds, and else what follows
abbrev pub refused_if : {A : Type 0} → Bool → ℕ → Answer A → Answer A
refused_if true n answer = refused (no n [])
refused_if false n answer = answer

abbrev pub as_refusal : Error → Refusal
as_refusal E.CRCMismatch = no 1 []
as_refusal E.I2CError = no 2 []
as_refusal E.BufTooLarge = no 3 []
as_refusal E.Uninitialized = no 4 []
as_refusal (E.VerifyError reg) = no 5 (pos reg ∷ [])
as_refusal E.OCDSCDRangeMismatch = no 6 []
as_refusal (E.UVThresholdUnobtainable low high) = no 7 (low.0 ∷ high.0 ∷ [])
as_refusal (E.OVThresholdUnobtainable low high) = no 8 (low.0 ∷ high.0 ∷ [])
as_refusal E.BadDevice = no 9 []
as_refusal E.BadCellCount = no 10 []
as_refusal E.BadAddress = no 11 []
as_refusal E.BadShunt = no 12 []
as_refusal E.CurrentTooLarge = no 13 []
as_refusal E.RegisterRunsOut = no 14 []
as_refusal E.BadTape = no 15 []
as_refusal E.TapeEnded = no 16 []
as_refusal E.LogFull = no 17 []
as_refusal E.UnknownFlags = no 18 []
as_refusal E.NoRoom = no 19 []
as_refusal E.UnknownRange = no 20 []
as_refusal E.NoSuchInput = no 21 []
as_refusal E.NotOnDevice = no 22 []
as_refusal E.Neighbours = no 23 []
as_refusal E.TooManyCells = no 24 []

-- an answer of the code, whose value says what `said` reads from it
abbrev pub as_answer : {A B : Type 0} → (A → B) → Result A Error → Answer B
as_answer said (Ok a) = value (said a)
as_answer said (Err e) = refused (as_refusal e)

-- the same as the code hands it on: the count of the figures, and zero for one that is not there
abbrev pub in_numbers : Refusal → InNumbers
in_numbers r = record {
  0 = r.number;
  1 = length r.figures;
  2 = get_or r.figures 0 (pos 0);
  3 = get_or r.figures 1 (pos 0);
}
