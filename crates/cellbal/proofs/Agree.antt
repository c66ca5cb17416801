-- Two outcomes that meet one promise agree: whether a set is allowed.
-- Assumes nothing.
use mathlib.Core.Path.{◌≡◌, refl}
use Rattle.std.specs.Prelude.{Result}
use Rattle.refusals.specs.declared.Error.{Error}
use Rattle.refusals.proofs.OneToOne.{answer_agree}
use Rattle.cellbal.specs.Rules.{as_judged}

pub judged_agree : (a b : Result (Unit {0}) Error) → as_judged a ≡ as_judged b → a ≡ b
judged_agree = answer_agree (λ _. tt) (λ _. tt) (λ _. refl)
