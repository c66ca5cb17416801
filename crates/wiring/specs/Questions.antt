-- The two questions asked of the tables: which inputs carry a pack's cells, and which cell sits on an input. Cells and inputs count from 1.
-- Assumes nothing.
use Rattle.std.specs.Prelude.{ℕ, suc, cond, List, [], ◌∷◌, ◌++◌, eqb, replicate, take, Result}
use Rattle.refusals.specs.Refusal.{Answer, value, refused, no, as_answer}
use Rattle.refusals.specs.declared.Error.{Error}
use Rattle.wiring.specs.Packs.{of_pack}
use Rattle.wiring.specs.Tables.{fitted}

-- the inputs of the cells: 9, 10
unfoldable pub inputs_for : ℕ → ℕ → Answer (List ℕ)
inputs_for x n = of_pack x n (value (fitted x n))

-- which of the cells from k on, on these inputs, sits on one; 21 where none does
abbrev pub cell_from : ℕ → List ℕ → ℕ → Answer ℕ
cell_from k [] input = refused (no 21 [])
cell_from k (i ∷ inputs) input = cond (eqb input i) (value k) (cell_from (suc k) inputs input)

-- the cell on an input: 9, 10, 21
unfoldable pub cell_on : ℕ → ℕ → ℕ → Answer ℕ
cell_on x n input = of_pack x n (cell_from 1 (fitted x n) input)

-- ---- as the code answers
abbrev pub as_allowed : Result (Unit {0}) Error → Answer (Unit {0})
as_allowed = as_answer (λ _. tt)

abbrev pub as_cell_answer : Result ℕ Error → Answer ℕ
as_cell_answer = as_answer (λ cell. cell)

-- fifteen numbers
abbrev pub as_inputs : Result (List ℕ) Error → Answer (List ℕ)
as_inputs = as_answer (λ inputs. inputs)

-- the numbers of a list, and 0 behind them
abbrev pub fifteen : List ℕ → List ℕ
fifteen inputs = take 15 (inputs ++ replicate 15 0)

-- an answer as it is listed
abbrev pub listed : Answer (List ℕ) → Answer (List ℕ)
listed (value inputs) = value (fifteen inputs)
listed (refused r) = refused r
