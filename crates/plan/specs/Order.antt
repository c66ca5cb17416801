-- What a call does in order: where a step refuses, that is the answer, and else its value goes on to what follows.
-- Assumes nothing.
use Rattle.refusals.specs.Refusal.{Answer, value, refused}

infixl 10 ◌and_then◌
unfoldable pub ◌and_then◌ : {A B : Type 0} → Answer A → (A → Answer B) → Answer B
value a and_then next = next a
refused r and_then next = refused r
