-- The laws by which a proof goes through a call's steps: past one that has a value, and out at one that refuses.
-- Assumes nothing.
use mathlib.Core.Path.{◌≡◌, refl, ap}
use Rattle.refusals.specs.Refusal.{Answer, value, refused, Refusal}
use Rattle.plan.specs.Order.{◌and_then◌}

module _ {A B : Type 0} {a : Answer A} (next : A → Answer B) where
  pub past : (x : A) → a ≡ value x → a and_then next ≡ next x
  unfolding ◌and_then◌
  past x e = ap (λ (b : Answer A). b and_then next) e

  pub out : {r : Refusal} → a ≡ refused r → a and_then next ≡ refused r
  unfolding ◌and_then◌
  out e = ap (λ (b : Answer A). b and_then next) e

-- the same by the answer's two cases, which the prover computes
abbrev pub by_answer : {A B : Type 0} → (A → Answer B) → Answer A → Answer B
by_answer next (value x) = next x
by_answer next (refused r) = refused r

pub in_turn : {A B : Type 0} (a : Answer A) (next : A → Answer B) → a and_then next ≡ by_answer next a
unfolding ◌and_then◌
in_turn (value x) next = refl
in_turn (refused r) next = refl
