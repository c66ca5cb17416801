-- Two outcomes that meet one promise agree: the definitions that the promises speak through tell any two values of the code's types apart, since
-- each has a left inverse.
-- Assumes nothing.
use mathlib.Core.Path.{◌≡◌, refl}
use Prim.Native.Nat.{ℕ}
use Rattle.std.specs.Prelude.{Result}
use Rattle.laws.proofs.Inverse.{one_to_one}
use Rattle.laws.proofs.Variants.{by_variants}
use Rattle.refusals.specs.declared.Error.{Error}
use Rattle.refusals.proofs.OneToOne.{answer_agree}
use Rattle.protection.specs.Answers.{as_number, as_step, as_range}
use Rattle.protection.specs.Delays.{as_delay}
use Rattle.protection.specs.Scd as scd
use Rattle.protection.specs.Ocd as ocd
use Rattle.protection.specs.declared.range.OCDSCDRange.{OCDSCDRange}
use Rattle.protection.specs.declared.scd.SCDThreshold.{SCDThreshold}
use Rattle.protection.specs.declared.ocd.OCDThreshold.{OCDThreshold}
use Rattle.protection.specs.contracts.scd.SCDThreshold as scd-steps
use Rattle.protection.specs.contracts.ocd.OCDThreshold as ocd-steps

-- a step is told by its millivolts
pub scd_named_lem : (t : SCDThreshold) → scd.named (scd.mv_of t) ≡ t
scd_named_lem = by_variants scd-steps.enum (λ t. scd.named (scd.mv_of t)) (λ t. t) refl

pub ocd_named_lem : (t : OCDThreshold) → ocd.named (ocd.mv_of t) ≡ t
ocd_named_lem = by_variants ocd-steps.enum (λ t. ocd.named (ocd.mv_of t)) (λ t. t) refl

pub scd_agree : (s t : SCDThreshold) → scd.mv_of s ≡ scd.mv_of t → s ≡ t
scd_agree = one_to_one scd.mv_of scd.named scd_named_lem

pub ocd_agree : (s t : OCDThreshold) → ocd.mv_of s ≡ ocd.mv_of t → s ≡ t
ocd_agree = one_to_one ocd.mv_of ocd.named ocd_named_lem

-- an answer is told by its value or by its refusal
pub code_agree : (a b : Result ℕ Error) → as_number a ≡ as_number b → a ≡ b
code_agree = answer_agree (λ n. n) (λ n. n) (λ _. refl)

pub range_agree : (a b : Result OCDSCDRange Error) → as_range a ≡ as_range b → a ≡ b
range_agree = answer_agree (λ range. range) (λ range. range) (λ _. refl)

pub scd_step_agree : (a b : Result SCDThreshold Error) → as_step scd.mv_of a ≡ as_step scd.mv_of b → a ≡ b
scd_step_agree = answer_agree scd.mv_of scd.named scd_named_lem

pub ocd_step_agree : (a b : Result OCDThreshold Error) → as_step ocd.mv_of a ≡ as_step ocd.mv_of b → a ≡ b
ocd_step_agree = answer_agree ocd.mv_of ocd.named ocd_named_lem

pub delay_agree : {D : Type 0} (a b : Result D Error) → as_delay a ≡ as_delay b → a ≡ b
delay_agree = answer_agree (λ delay. delay) (λ delay. delay) (λ _. refl)
