-- An accepted plan, by the steps that a configuration is given and on a device's gain and offset, is as the configuration asks; and no other refusal
-- than the definition's own 6, 8 and 7 is one of these numbers.
-- Assumes nothing.
use mathlib.Core.Path.{◌≡◌, refl, sym, ap, ap₂, ◌∙◌}
use mathlib.Core.Bool.{Bool, true, false, cond, not, ◌&&◌}
use mathlib.Core.List.{List, [], ◌++◌}
use mathlib.Core.Option.{none, some}
use Prim.Native.Nat.{ℕ, ◌*◌, ◌/◌, ◌≤◌, ◌<◌}
use native.Mathlib.Omega.{arith}
use lib.Dec.{eqb, leb, ltb}
use lib.IntN.{ℤ}
use lib.ListN.{get_or}
use lib.Signed.{mag}
use borrow.Author.Tests.{ltb-true, leb-true, eqb-false}
use Rattle.laws.specs.Choice.{when◌then◌else◌}
use Rattle.refusals.specs.Refusal.{Answer, value, refused, refused_if, no}
use Rattle.refusals.proofs.Values.{same_value, refused_not}
use Rattle.protection.specs.Delays.{scd_times, ocd_times, uv_times, ov_times}
use Rattle.protection.specs.Scd as scd
use Rattle.protection.specs.Ocd as ocd
use Rattle.protection.specs.Steps.{scd_lower, scd_upper, ocd_lower, ocd_upper, step, mv_across, step_for, chosen}
use Rattle.protection.specs.declared.range.OCDSCDRange.{OCDSCDRange}
use Rattle.protection.specs.declared.scd.SCDThreshold.{SCDThreshold}
use Rattle.protection.specs.declared.ocd.OCDThreshold.{OCDThreshold}
use Rattle.protection.proofs.DelayNames.{scd_names, ocd_names, uv_names, ov_names}
use Rattle.protection.proofs.Walk.{scd_step_lem, ocd_step_lem}
use Rattle.protection.proofs.Walk as walk
use Rattle.plan.specs.AsAsked.{AsAsked}
use Rattle.plan.specs.Exactly.{is_no, apart, of678, unfit}
use Rattle.plan.specs.Fields.{Fields, read_back, fields_of}
use Rattle.plan.specs.Plan.{Planned, values_for, plan_for}
use Rattle.plan.specs.Steps.{InMv, bad_shunt, shunt_for, steps_for, scd_step, ocd_step}
use Rattle.plan.specs.Trips.{ov_limits, uv_limits, figures, obtainable}
use Rattle.plan.specs.declared.Config.{Config}
use Rattle.plan.proofs.Accepted.{first, planned_in, accepted}
use Rattle.plan.proofs.After.{choice}
use Rattle.plan.proofs.Bytes.{bytes}
use Rattle.plan.proofs.Codes.{scd_code_is, ocd_code_is}
use Rattle.plan.proofs.Limits.{ov_exactly, uv_exactly, ov_figures, uv_figures}
use Rattle.plan.proofs.RangeMismatch.{range_mismatch, mismatch_is}
use Rattle.plan.proofs.TripPoints.{ov_asked, uv_asked, ov_written, uv_written, uv_wraps}

-- ---- the steps given are those of the configuration, each a step of the published lists
pub record Given (config : Config) (steps : InMv) : Type 0 where
  pub shunt : bad_shunt config.shunt.0 ≡ false
  pub short : SCDThreshold
  pub over : OCDThreshold
  pub scd_is : scd.mv_of short ≡ scd_step config
  pub ocd_is : ocd.mv_of over ≡ ocd_step config
  pub scd_given : steps.scd ≡ scd_step config
  pub ocd_given : steps.ocd ≡ ocd_step config

shunt_given : (shunt : ℕ) {n : ℕ} → shunt_for shunt ≡ value n → (bad_shunt shunt ≡ false) × (shunt ≡ n)
unfolding shunt_for
shunt_given shunt {n} e = by (bad_shunt shunt) refl e
  where
    by : (t : Bool) → bad_shunt shunt ≡ t → refused_if t 12 (value shunt) ≡ value n → (bad_shunt shunt ≡ false) × (shunt ≡ n)
    by true q e = refused_not e
    by false q e = (q, same_value e)

step_given : (xs : List ℕ) (amperes shunt : ℕ) {n : ℕ} → step_for xs amperes shunt ≡ value n
    → (amperes * shunt / 1000 < 256) × (n ≡ step xs (amperes * shunt / 1000))
unfolding mv_across
step_given xs amperes shunt {n} e = by (ltb (amperes * shunt) 256000) refl e
  where
    by : (t : Bool) → ltb (amperes * shunt) 256000 ≡ t
        → chosen xs (cond t (value (amperes * shunt / 1000)) (refused (no 13 []))) ≡ value n
        → (amperes * shunt / 1000 < 256) × (n ≡ step xs (amperes * shunt / 1000))
    by true q e = (below (ltb-true _ _ q), sym (same_value e))
      where
        below : amperes * shunt < 256000 → amperes * shunt / 1000 < 256
        below h = omega arith
    by false q e = refused_not e

pub steps_given : (config : Config) {steps : InMv} → steps_for config ≡ value steps → Given config steps
unfolding steps_for
steps_given config {steps} e =
    let s = first _ _ e in
    let a = first _ _ s.1.1 in
    let b = first _ _ a.1.1 in
    let shunt = shunt_given config.shunt.0 s.1.0 in
    let i = step_given (scd_lower ++ scd_upper) config.scd_threshold.0 config.shunt.0 (ap (step_for _ _) shunt.1 ∙ a.1.0) in
    let j = step_given (ocd_lower ++ ocd_upper) config.ocd_threshold.0 config.shunt.0 (ap (step_for _ _) shunt.1 ∙ b.1.0) in
    let is = same_value b.1.1 in
    record {
      shunt = shunt.0;
      short = walk.choice scd.mv_of (scd.named 200) (config.scd_threshold.0 * config.shunt.0 / 1000) scd.thresholds;
      over = walk.choice ocd.mv_of (ocd.named 100) (config.ocd_threshold.0 * config.shunt.0 / 1000) ocd.thresholds;
      scd_is = scd_step_lem _ i.0;
      ocd_is = ocd_step_lem _ j.0;
      scd_given = sym (ap (λ (m : InMv). m.scd) is) ∙ i.1;
      ocd_given = sym (ap (λ (m : InMv). m.ocd) is) ∙ j.1;
    }

module _ (gain : ℕ) (offset : ℤ) (config : Config) {steps : InMv} (g : Given config steps) where
  abbrev plan : Answer Planned
  plan = plan_for gain offset config steps.scd steps.ocd

  -- the plan by the steps' names
  abbrev named : Answer Planned
  named = plan_for gain offset config (scd.mv_of g.short) (ocd.mv_of g.over)

  same : named ≡ plan
  same = ap₂ (plan_for gain offset config) (g.scd_is ∙ sym g.scd_given) (g.ocd_is ∙ sym g.ocd_given)

  -- ---- refused: 6, 8 and 7
  outside : (n : ℕ) → eqb n 6 ≡ false → eqb n 7 ≡ false → eqb n 8 ≡ false → leb 6 n && leb n 8 ≡ false
  outside n six seven eight = by (leb 6 n) (leb n 8) refl refl
    where
      by : (a b : Bool) → leb 6 n ≡ a → leb n 8 ≡ b → a && b ≡ false
      by false b p q = refl
      by true false p q = refl
      by true true p q =
          absurd (omega (arith, leb-true 6 n p, leb-true n 8 q, eqb-false n 6 six, eqb-false n 7 seven, eqb-false n 8 eight))

  none_of : (y : Answer Planned) → is_no 6 y ≡ false → is_no 7 y ≡ false → is_no 8 y ≡ false → of678 y ≡ none
  none_of (value p) six seven eight = refl
  none_of (refused r) six seven eight = rw (outside r.number six seven eight)

  module _ (positive : 0 < gain) where
    abbrev ov : Bool
    ov = obtainable config.ov_threshold.0 (ov_limits gain offset)

    abbrev uv : Bool
    uv = obtainable config.uv_threshold.0 (uv_limits gain offset)

    apart_is : apart (scd.mv_of g.short) (ocd.mv_of g.over) ≡ apart (scd_step config) (ocd_step config)
    apart_is = ap₂ apart g.scd_is g.ocd_is

    by_tests : (a o u : Bool) → apart (scd_step config) (ocd_step config) ≡ a → ov ≡ o → uv ≡ u
        → of678 named
        ≡ (when a then some (no 6 [])
        else when not o then some (no 8 (figures (ov_limits gain offset)))
        else when not u then some (no 7 (figures (uv_limits gain offset)))
        else none)
    by_tests true o u a-is o_is u-is =
        ap of678 (mismatch_is gain offset config g.short g.over g.shunt positive (apart_is ∙ a-is))
    by_tests false false u a-is o_is u-is =
        ap of678 (ov_figures gain offset config g.short g.over g.shunt positive (apart_is ∙ a-is) o_is)
    by_tests false true false a-is o_is u-is =
        ap of678 (uv_figures gain offset config g.short g.over g.shunt positive (apart_is ∙ a-is) o_is u-is)
    by_tests false true true a-is o_is u-is =
        let apart-no = apart_is ∙ a-is in
        none_of named
        (range_mismatch gain offset config g.short g.over g.shunt positive ∙ apart-no)
        (uv_exactly gain offset config g.short g.over g.shunt positive ∙ rw (apart-no, o_is, u-is))
        (ov_exactly gain offset config g.short g.over g.shunt positive ∙ rw (apart-no, o_is))

    -- 6, 8 and 7 are given exactly where the definition says, with exactly its limits
    pub exactly : of678 plan ≡ unfit gain offset config
    exactly = ap of678 (sym same) ∙ by_tests (apart (scd_step config) (ocd_step config)) ov uv refl refl refl

  -- ---- accepted
  module _ (device : 365 ≤ gain) (byte : mag offset < 128) {p : Planned} (e : plan ≡ value p) where
    abbrev s : SCDThreshold
    s = g.short

    abbrev o : OCDThreshold
    o = g.over

    e' : named ≡ value p
    e' = same ∙ e

    made : (range : OCDSCDRange) × ((choice (scd.mv_of s) (ocd.mv_of o) ≡ value range)
        × (planned_in gain offset config (scd.mv_of s) (ocd.mv_of o) range ≡ p))
    made = accepted gain offset config (scd.mv_of s) (ocd.mv_of o) e'

    table_is : read_back p.regs ≡ fields_of gain offset config (scd.mv_of s) (ocd.mv_of o) p.values.range
    table_is = bytes gain offset config s o e'

    pub as_asked_is : AsAsked gain offset config p.regs p.values
    as_asked_is =
        let in_range = ap (λ (q : Planned). q.values.range) made.1.1 in
        let a = scd_code_is gain offset config s o e' in
        let b = ocd_code_is gain offset config s o e' in
        let c = ap (λ (f : Fields). f.ov_trip) table_is in
        let d = ap (λ (f : Fields). f.uv_trip) table_is in
        record {
          range = sym (ap₂ choice g.scd_is g.ocd_is) ∙ made.1.0 ∙ ap value in_range;
          fields = table_is ∙ ap₂ (λ (x y : ℕ). fields_of gain offset config x y p.values.range) g.scd_is g.ocd_is;
          scd_step_is = a ∙ g.scd_is;
          ocd_step_is = b ∙ g.ocd_is;
          scd_delay_is = ap (λ (f : Fields). get_or scd_times f.scd_delay 0) table_is ∙ scd_names config.scd_delay;
          ocd_delay_is = ap (λ (f : Fields). get_or ocd_times f.ocd_delay 0) table_is ∙ ocd_names config.ocd_delay;
          uv_delay_is = ap (λ (f : Fields). get_or uv_times f.uv_delay 0) table_is ∙ uv_names config.uv_delay;
          ov_delay_is = ap (λ (f : Fields). get_or ov_times f.ov_delay 0) table_is ∙ ov_names config.ov_delay;
          ov_asked = ov_asked gain offset config s o e' device byte;
          ov_trip_is = ov_written gain offset config s o e' device byte;
          uv_asked = uv_asked gain offset config s o e' device byte;
          uv_trip_is = uv_written gain offset config s o e' device byte;
          uv_wraps = uv_wraps gain offset config s o e' device byte;
          values =
              sym (ap (λ (q : Planned). q.values) made.1.1)
              ∙ (λ i. values_for gain offset config.shunt.0 (sym a i) (sym b i) (in_range i) (sym c i) (sym d i));
        }
