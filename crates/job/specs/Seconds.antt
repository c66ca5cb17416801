-- The seconds that a delay's code in a job stands for, by the datasheet's list of them.
-- Assumes nothing.
use Rattle.std.specs.Prelude.{ℕ, List, length, get_or, leb, Result}
use Rattle.refusals.specs.Refusal.{Answer, value, refused_if, as_answer}
use Rattle.refusals.specs.declared.Error.{Error}

-- 15 for a code past the list
abbrev pub seconds_for : List ℕ → ℕ → Answer ℕ
seconds_for times code = refused_if (leb (length times) code) 15 (value (get_or times code 0))

abbrev pub as_seconds : Result ℕ Error → Answer ℕ
as_seconds = as_answer (λ seconds. seconds)
