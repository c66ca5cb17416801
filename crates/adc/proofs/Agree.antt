-- Two answers that meet one promise agree: each is told by its value or by its refusal.
-- Assumes nothing.
use mathlib.Core.Path.{◌≡◌, refl}
use lib.IntN.{ℤ}
use Rattle.std.specs.Prelude.{Result}
use Rattle.refusals.specs.declared.Error.{Error}
use Rattle.refusals.proofs.OneToOne.{answer_agree}
use Rattle.units.specs.declared.MilliAmperes.{MilliAmperes}
use Rattle.adc.specs.Conversion.{as_current}
use Rattle.adc.specs.Trips.{as_asked}

pub current_agree : (a b : Result MilliAmperes Error) → as_current a ≡ as_current b → a ≡ b
current_agree = answer_agree (λ current. current.0) (λ current. record { 0 = current }) (λ _. refl)

pub asked_agree : (a b : Result ℤ Error) → as_asked a ≡ as_asked b → a ≡ b
asked_agree = answer_agree (λ reading. reading) (λ reading. reading) (λ _. refl)
