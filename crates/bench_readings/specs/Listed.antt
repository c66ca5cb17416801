-- What the bench's C is given of a reading of the cells: what a call gives, with the list that it lent.
-- Assumes nothing.
use Rattle.std.specs.Prelude.{ℤ}
use Rattle.bus.specs.Programs.{Ran}
use Rattle.procedure.specs.Cells.{Filled}
use Rattle.bench.specs.Calls.{nothing, Given, given_of}

abbrev pub as_cells : Ran Filled → Given ℤ
as_cells r = given_of nothing r.answer.answer r.bus r.answer.list
