-- The six bytes of an accepted plan, read back by the register table, hold in each field its code, and 0 in the reserved bits.
-- Assumes nothing.
use mathlib.Core.Path.{◌≡◌, ap, ◌∙◌, sym}
use Prim.Native.Nat.{ℕ}
use lib.IntN.{ℤ}
use Rattle.refusals.specs.Refusal.{value}
use Rattle.protection.specs.Scd as scd
use Rattle.protection.specs.Ocd as ocd
use Rattle.protection.specs.declared.scd.SCDThreshold.{SCDThreshold}
use Rattle.protection.specs.declared.ocd.OCDThreshold.{OCDThreshold}
use Rattle.plan.specs.Fields.{read_back, fields_of}
use Rattle.plan.specs.Plan.{Planned, plan_for}
use Rattle.plan.specs.declared.Config.{Config}
use Rattle.plan.proofs.Accepted.{accepted}
use Rattle.plan.proofs.ReadBack.{in_range}

module _ (gain : ℕ) (offset : ℤ) (config : Config) (s : SCDThreshold) (o : OCDThreshold) where
  pub bytes :
      {p : Planned}
      → plan_for gain offset config (scd.mv_of s) (ocd.mv_of o) ≡ value p
      → read_back p.regs ≡ fields_of gain offset config (scd.mv_of s) (ocd.mv_of o) p.values.range
  bytes e =
      let plan = accepted gain offset config (scd.mv_of s) (ocd.mv_of o) e in
      sym (ap (λ (p : Planned). read_back p.regs) plan.1.1)
      ∙ in_range gain offset config s o plan.0
      ∙ ap (λ (p : Planned). fields_of gain offset config (scd.mv_of s) (ocd.mv_of o) p.values.range) plan.1.1
