-- The code in each step's field is the place of the step in the published list of the range used: at that place the list has the step's millivolts.
-- Assumes nothing.
use mathlib.Core.Path.{◌≡◌, ap, sym, ◌∙◌}
use mathlib.Core.Bool.{true}
use Prim.Native.Nat.{ℕ}
use lib.IntN.{ℤ}
use lib.ListN.{get_or}
use Rattle.refusals.specs.Refusal.{value}
use Rattle.protection.specs.Ranges.{is_in}
use Rattle.protection.specs.Scd as scd
use Rattle.protection.specs.Ocd as ocd
use Rattle.protection.specs.Steps.{scd_lower, scd_upper, ocd_lower, ocd_upper}
use Rattle.protection.specs.declared.scd.SCDThreshold.{SCDThreshold}
use Rattle.protection.specs.declared.ocd.OCDThreshold.{OCDThreshold}
use Rattle.protection.proofs.Shared.{shared}
use Rattle.protection.specs.contracts.scd.SCDThreshold as scd-steps
use Rattle.protection.specs.contracts.ocd.OCDThreshold as ocd-steps
use Rattle.plan.specs.Fields.{Fields, read_back, of_range}
use Rattle.plan.specs.Plan.{Planned, plan_for}
use Rattle.plan.specs.declared.Config.{Config}
use Rattle.plan.proofs.Accepted.{accepted}
use Rattle.plan.proofs.Bytes.{bytes}
use Rattle.plan.proofs.Places.{has_both, in_place}

module _
    (gain : ℕ)
    (offset : ℤ)
    (config : Config)
    (s : SCDThreshold)
    (o : OCDThreshold)
    {p : Planned}
    (e : plan_for gain offset config (scd.mv_of s) (ocd.mv_of o) ≡ value p)
  where
    both :
        (of_range p.values.range (is_in (scd.mv_of s) scd_lower) (is_in (scd.mv_of s) scd_upper) ≡ true)
        × (of_range p.values.range (is_in (ocd.mv_of o) ocd_lower) (is_in (ocd.mv_of o) ocd_upper) ≡ true)
    both =
        let plan = accepted gain offset config (scd.mv_of s) (ocd.mv_of o) e in
        has_both _ _ _ _ p.values.range
        (sym (shared s o) ∙ plan.1.0 ∙ ap (λ (p : Planned). value p.values.range) plan.1.1)

    pub scd_code_is : get_or (of_range p.values.range scd_lower scd_upper) (read_back p.regs).scd_thresh 0 ≡ scd.mv_of s
    scd_code_is =
        ap (λ (f : Fields). get_or (of_range p.values.range scd_lower scd_upper) f.scd_thresh 0) (bytes gain offset config s o e)
        ∙ in_place scd-steps.enum scd.mv_of scd_lower scd_upper tt tt p.values.range s both.0

    pub ocd_code_is : get_or (of_range p.values.range ocd_lower ocd_upper) (read_back p.regs).ocd_thresh 0 ≡ ocd.mv_of o
    ocd_code_is =
        ap (λ (f : Fields). get_or (of_range p.values.range ocd_lower ocd_upper) f.ocd_thresh 0) (bytes gain offset config s o e)
        ∙ in_place ocd-steps.enum ocd.mv_of ocd_lower ocd_upper tt tt p.values.range o both.1
