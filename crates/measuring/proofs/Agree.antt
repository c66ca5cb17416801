-- Two outcomes that meet one promise agree: in the answer, in tape and log, and in how far both are used.
-- Assumes nothing.
use mathlib.Core.Path.{◌≡◌, refl, sym, ap, ◌∙◌}
use lib.IntN.{ℤ}
use Rattle.std.specs.Prelude.{Result}
use Rattle.refusals.specs.Refusal.{Answer}
use Rattle.refusals.specs.declared.Error.{Error}
use Rattle.refusals.proofs.OneToOne.{answer_agree}
use Rattle.units.specs.declared.MilliAmperes.{MilliAmperes}
use Rattle.units.specs.declared.MilliVolts.{MilliVolts}
use Rattle.adc.specs.Conversion.{as_current}
use Rattle.adc.proofs.Agree as adc
use Rattle.bus.specs.Transfers.{Bus}
use Rattle.bus.specs.Programs.{Prog, Ran, ends, on_tape}
use Rattle.measuring.specs.Pack.{as_voltage}
use Rattle.measuring.specs.Temperature.{as_temperature}
use Rattle.measuring.specs.declared.degrees.Temperature.{Temperature}

-- a call, whatever its program, where its answer is told one to one
module _ {A E : Type 0} (tell : E → Answer A) (one : (a b : E) → tell a ≡ tell b → a ≡ b) (p : Prog (Answer A)) (b : Bus) where
  told_agree : (a a' : E) (after after' : Bus) → ends (tell a) after ≡ on_tape p b → ends (tell a') after' ≡ on_tape p b
      → (a ≡ a') × (after ≡ after')
  told_agree a a' after after' e e' =
      let same = e ∙ sym e' in
      (one a a' (ap (λ (x : Ran (Answer A)). x.answer) same), ap (λ (x : Ran (Answer A)). x.bus) same)

-- `current`
pub current_agree : (p : Prog (Answer ℤ)) (b : Bus) (a a' : Result MilliAmperes Error) (after after' : Bus)
    → ends (as_current a) after ≡ on_tape p b
    → ends (as_current a') after' ≡ on_tape p b
    → (a ≡ a') × (after ≡ after')
current_agree = told_agree as_current adc.current_agree

-- `voltage`
pub voltage_agree : (p : Prog (Answer ℤ)) (b : Bus) (a a' : Result MilliVolts Error) (after after' : Bus)
    → ends (as_voltage a) after ≡ on_tape p b
    → ends (as_voltage a') after' ≡ on_tape p b
    → (a ≡ a') × (after ≡ after')
voltage_agree = told_agree as_voltage (answer_agree (λ voltage. voltage.0) (λ mv. record { 0 = mv }) (λ _. refl))

-- `temperature`
pub temperature_agree : (p : Prog (Answer Temperature)) (b : Bus) (a a' : Result Temperature Error) (after after' : Bus)
    → ends (as_temperature a) after ≡ on_tape p b
    → ends (as_temperature a') after' ≡ on_tape p b
    → (a ≡ a') × (after ≡ after')
temperature_agree = told_agree as_temperature (answer_agree (λ temperature. temperature) (λ temperature. temperature) (λ _. refl))
