-- Two answers that meet one promise agree: each is told by what it found or by its refusal.
-- Assumes nothing.
use mathlib.Core.Path.{◌≡◌, refl}
use Rattle.std.specs.Prelude.{Result}
use Rattle.refusals.specs.declared.Error.{Error}
use Rattle.refusals.proofs.OneToOne.{answer_agree}
use Rattle.calls.specs.Heads.{as_field, as_head}
use Rattle.calls.specs.declared.Field.{Field}
use Rattle.calls.specs.declared.Heading.{Heading}

pub field_agree : (a b : Result Field Error) → as_field a ≡ as_field b → a ≡ b
field_agree = answer_agree (λ field. field) (λ field. field) (λ _. refl)

pub head_agree : (a b : Result Heading Error) → as_head a ≡ as_head b → a ≡ b
head_agree = answer_agree (λ heading. heading) (λ heading. heading) (λ _. refl)
