-- What the bench's C is given of a reading by the wiring: what a call gives, and the inputs' numbers, that C lends beside the list.
-- Assumes nothing.
use Rattle.std.specs.Prelude.{ℕ, List, ℤ}
use Rattle.bus.specs.Programs.{Ran}
use Rattle.procedure.specs.Wired.{Shown}
use Rattle.bench.specs.Calls.{nothing, Given, given, given_of}

pub record GivenBoth : Type 0 where
  pub given : Given ℤ
  pub inputs : List ℕ

abbrev pub shown_by : ℕ → List ℕ → List ℕ → List ℕ → List ℤ → GivenBoth
shown_by number out log inputs list = record { given = given number out log list; inputs = inputs }

abbrev pub as_shown : Ran Shown → GivenBoth
as_shown r = record {
  given = given_of nothing r.answer.answer r.bus r.answer.list;
  inputs = r.answer.inputs;
}
