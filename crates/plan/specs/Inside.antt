-- What private contracts cite: the answers of two steps of `plan`, as bytes and refusals. Nobody has to believe it.
-- Assumes nothing.
use Rattle.std.specs.Prelude.{ℕ, List, Result}
use Rattle.refusals.specs.Refusal.{Answer, as_answer}
use Rattle.refusals.specs.declared.Error.{Error}

abbrev pub as_protect : Result (List ℕ) Error → Answer (List ℕ)
as_protect = as_answer (λ bytes. bytes)

abbrev pub as_within : Result (Unit {0}) Error → Answer (Unit {0})
as_within = as_answer (λ _. tt)
