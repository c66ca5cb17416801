-- Two outcomes that meet one promise are one: a choice of steps is told by its millivolts or its refusal, a plan by its values and bytes or its
-- refusal.
-- Assumes nothing.
use mathlib.Core.Path.{◌≡◌, refl}
use Rattle.std.specs.Prelude.{Result}
use Rattle.refusals.specs.declared.Error.{Error}
use Rattle.refusals.proofs.OneToOne as told
use Rattle.protection.proofs.Agree.{scd_named_lem, ocd_named_lem}
use Rattle.protection.specs.Scd as scd
use Rattle.protection.specs.Ocd as ocd
use Rattle.plan.specs.Plan.{Values, Planned, as_values, as_planned, as_init, as_plan}
use Rattle.plan.specs.Steps.{InMv, in_mv, as_steps}
use Rattle.plan.specs.declared.CalculatedValues.{CalculatedValues}
use Rattle.plan.specs.declared.Plan.{Plan}
use Rattle.plan.specs.declared.Steps.{Steps}

abbrev chosen : InMv → Steps
chosen mv = record { scd = scd.named mv.scd; ocd = ocd.named mv.ocd }

chosen_undone : (steps : Steps) → chosen (in_mv steps) ≡ steps
chosen_undone steps = λ i. record { scd = scd_named_lem steps.scd i; ocd = ocd_named_lem steps.ocd i }

-- the values as the code has them
abbrev pub calculated : Values → CalculatedValues
calculated v = record {
  ocdscd_range_used = v.range;
  scd_threshold = record { 0 = v.scd };
  ocd_threshold = record { 0 = v.ocd };
  uv_threshold = record { 0 = v.uv };
  ov_threshold = record { 0 = v.ov };
}

abbrev plan_back : Planned → Plan
plan_back p = record { values = calculated p.values; regs = p.regs }

pub steps_agree : (a b : Result Steps Error) → as_steps a ≡ as_steps b → a ≡ b
steps_agree = told.answer_agree in_mv chosen chosen_undone

pub answer_agree : (a b : Result CalculatedValues Error) → as_init a ≡ as_init b → a ≡ b
answer_agree = told.answer_agree as_values calculated (λ _. refl)

pub plan_agree : (a b : Result Plan Error) → as_plan a ≡ as_plan b → a ≡ b
plan_agree = told.answer_agree as_planned plan_back (λ _. refl)
