-- What private contracts cite: two registers' answer, as a number or a refusal. Nobody has to believe it.
-- Assumes nothing.
use Rattle.std.specs.Prelude.{ℕ, Result}
use Rattle.refusals.specs.Refusal.{Answer, as_answer}
use Rattle.refusals.specs.declared.Error.{Error}

abbrev pub as_word : Result ℕ Error → Answer ℕ
as_word = as_answer (λ n. n)
