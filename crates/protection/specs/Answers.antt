-- The code's answers in the terms of the definitions: a number, or a refusal.
-- Assumes nothing.
use Rattle.std.specs.Prelude.{ℕ, Result}
use Rattle.refusals.specs.Refusal.{Answer, as_answer}
use Rattle.refusals.specs.declared.Error.{Error}
use Rattle.protection.specs.declared.range.OCDSCDRange.{OCDSCDRange}

abbrev pub as_number : Result ℕ Error → Answer ℕ
as_number = as_answer (λ n. n)

-- a step by its millivolts
abbrev pub as_step : {A : Type 0} → (A → ℕ) → Result A Error → Answer ℕ
as_step = as_answer

abbrev pub as_range : Result OCDSCDRange Error → Answer OCDSCDRange
as_range = as_answer (λ range. range)
