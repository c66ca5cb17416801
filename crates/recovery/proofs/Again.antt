-- From what cut ones have left, an `init` on a whole wire gives what it would have given at first: answer, record and all 256 registers.
-- So it does with another configuration too, if that is accepted; where it is refused, the chip stays as it was left.
-- Assumes nothing.
use mathlib.Core.Path.{◌≡◌, refl, sym, ap, ap₂, ◌∙◌}
use mathlib.Core.Bool.{Bool, true, false, false≢true}
use mathlib.Core.List.{List, []}
use Prim.Native.Nat.{ℕ, zero, suc, ◌≤◌}
use native.Mathlib.Omega.{arith}
use lib.ListN.{length}
use lib.Seq.{take_all}
use Rattle.refusals.specs.Refusal.{Refusal, Answer, value, refused}
use Rattle.frames.specs.Put.{put}
use Rattle.frames.proofs.Put.{put_none}
use Rattle.adc.specs.declared.transfer.AdcTransferFunction.{AdcTransferFunction}
use Rattle.plan.specs.Steps.{InMv}
use Rattle.plan.specs.Plan.{Values, Planned}
use Rattle.plan.specs.declared.Config.{Config}
use Rattle.plan.proofs.Accepted.{first}
use Rattle.laws.specs.Choice.{when◌then◌else◌}
use Rattle.bq769x0.specs.Record.{Left, leaves, leaving, accepts, is_sound, with_calibration, with_shunt}
use Rattle.procedure.specs.Init.{init_by}
use Rattle.bq769x0.specs.declared.BQ769x0.{BQ769x0}
use Rattle.chip.specs.Devices.{reached}
use Rattle.chip.specs.Chip.{with_regs}
use Rattle.chip.specs.OnChip.{Matches, uncut, on_chip}
use Rattle.chip.specs.declared.Chip.{Chip}
use Rattle.recovery.specs.Recovery.{calibration_of, plan_on, bytes_of, counted, regs_left, six}
use Rattle.recovery.specs.Recovery.{Recorded, as_it_was, calibrated, marked, Leaves}
use Rattle.recovery.proofs.Left.{set_up, unplanned, six_all, marks, matches_left, same_calibration, same_plan, overwritten}
use Rattle.recovery.proofs.Whole.{ends, whole}

module _ (choose : Config → Answer InMv) (config : Config) (d : BQ769x0) (c : Chip) (m : Matches d.link c)
    {n : ℕ} {d' : BQ769x0} {c' : Chip} (l : Leaves choose config d c n d' c') (ok : is_sound d ≡ true) (ok' : is_sound d' ≡ true) where
  abbrev AsAtFirst : Config → Type 0
  AsAtFirst other = on_chip (init_by choose d' other) (uncut c') ≡ on_chip (init_by choose d other) (uncut c)

  -- by what comes of the choice and the plan, which are the same
  by_ends_is : (other : Config)
      → on_chip (init_by choose d' other) (uncut c') ≡ ends other d' c' (choose other) (plan_on choose other c)
  by_ends_is other = whole choose other d' c' ok' (matches_left l m) ∙ ap (ends other d' c' (choose other)) (same_plan l m other)

  -- ---- any configuration that is accepted
  module _ (other : Config) (plan : Planned) (accepted : plan_on choose other c ≡ value plan) where
    same_set_up : set_up other d' c' ≡ set_up other d c
    same_set_up =
        ap (λ (adc : AdcTransferFunction). with_shunt (with_calibration d' adc) other.shunt) (same_calibration l m)
        ∙ marks other l.recorded

    same_regs : with_regs c' (regs_left true 6 plan.regs c'.regs) ≡ with_regs c (regs_left true 6 plan.regs c.regs)
    same_regs =
        let size = six_all choose other c plan accepted in
        let all = take_all 6 plan.regs (omega arith) in
        ap (λ (v : List ℕ). with_regs c' (counted (put c'.regs 6 v))) all
        ∙ overwritten l m plan.regs size
        ∙ ap (λ (v : List ℕ). with_regs c (counted (put c.regs 6 v))) (sym all)

    pub anew : AsAtFirst other
    unfolding plan_on
    anew =
        let steps = first (choose other) _ accepted in
        let both = ap₂ (ends other d' c') steps.1.0 accepted in
        let first' = ap₂ (ends other d c) steps.1.0 accepted in
        by_ends_is other
        ∙ both
        ∙ ap₂ (λ (e : BQ769x0) (x : Chip). reached (leaves (value plan.values) e) (uncut x)) same_set_up same_regs
        ∙ sym (whole choose other d c ok m ∙ first')

  -- ---- and one that is refused
  abbrev refused_left : Config → Refusal → Left Values
  refused_left other r = leaving (when accepts (choose other) then with_calibration d' (calibration_of c) else d') r

  refuses_by : (other : Config) (r : Refusal) (y : Answer InMv) → choose other ≡ y → plan_on choose other c ≡ refused r
      → ends other d' c' y (plan_on choose other c) ≡ reached (refused_left other r) (uncut c')
  refuses_by other r (refused q) e f =
      let same : q ≡ r = cc (sym (unplanned choose other c q e) ∙ f) in
      ap (λ (x : Refusal). reached (leaving d' x) (uncut c')) same
      ∙ ap (λ (t : Bool). reached (leaving (when t then with_calibration d' (calibration_of c) else d') r) (uncut c')) (ap accepts (sym e))
  refuses_by other r (value steps) e f =
      ap (ends other d' c' (value steps)) f
      ∙ ap (λ (adc : AdcTransferFunction). reached (leaving (with_calibration d' adc) r) (uncut c')) (same_calibration l m)
      ∙ ap (λ (t : Bool). reached (leaving (when t then with_calibration d' (calibration_of c) else d') r) (uncut c')) (ap accepts (sym e))

  pub stays_refused : (other : Config) (r : Refusal) → plan_on choose other c ≡ refused r
      → on_chip (init_by choose d' other) (uncut c') ≡ reached (refused_left other r) (uncut c')
  stays_refused other r f = by_ends_is other ∙ refuses_by other r (choose other) refl f

  -- ---- the same configuration again: refused, it had brought nothing
  module _ (none : six choose config c ≡ []) where
    nothing_new : n ≤ 0
    nothing_new = omega (arith, l.few, ap length none)

    none_new : (on : Bool) (k : ℕ) (v : List ℕ) → k ≤ length v → (on ≡ true → k ≡ 6) → v ≡ []
        → regs_left on k v c.regs ≡ c.regs
    none_new true k v few last e = absurd (omega (arith, last refl, ap length e))
    none_new false zero v few last e = put_none c.regs 6
    none_new false (suc k) v few last e = absurd (omega (arith, ap length e))

    same_chip : c' ≡ c
    same_chip = l.chip ∙ ap (with_regs c) (none_new l.on n (six choose config c) l.few l.last none)

    calibrated_alike : {e : BQ769x0} → Recorded choose config d c n e
        → with_calibration e (calibration_of c) ≡ with_calibration d (calibration_of c)
    calibrated_alike as_it_was = refl
    calibrated_alike (calibrated q) = refl
    calibrated_alike (marked q) = absurd (omega (arith, nothing_new))

    unchanged : {e : BQ769x0} → Recorded choose config d c n e → accepts (choose config) ≡ false → e ≡ d
    unchanged as_it_was q = refl
    unchanged (calibrated p) q = absurd (false≢true (sym q ∙ p))
    unchanged (marked p) q = absurd (omega (arith, nothing_new))

  by_plan : (y : Answer InMv) (z : Answer Planned) → choose config ≡ y → plan_on choose config c ≡ z → AsAtFirst config
  by_plan (refused r) z e q =
      let none = ap bytes_of (unplanned choose config c r e) in
      by_ends_is config
      ∙ ap (λ (y : Answer InMv). ends config d' c' y (plan_on choose config c)) e
      ∙ ap₂ (λ (x : BQ769x0) (y : Chip). reached (leaving x r) (uncut y)) (unchanged none l.recorded (ap accepts e)) (same_chip none)
      ∙ sym (whole choose config d c ok m ∙ ap (λ (y : Answer InMv). ends config d c y (plan_on choose config c)) e)
  by_plan (value steps) (refused r) e q =
      let none = ap bytes_of q in
      let same = same_chip none in
      by_ends_is config
      ∙ ap₂ (ends config d' c') e q
      ∙ ap (λ (x : Chip). reached (leaving (with_calibration d' (calibration_of x)) r) (uncut x)) same
      ∙ ap (λ (x : BQ769x0). reached (leaving x r) (uncut c)) (calibrated_alike none l.recorded)
      ∙ sym (whole choose config d c ok m ∙ ap₂ (ends config d c) e q)
  by_plan (value steps) (value plan) e q = anew config plan q

  pub again : AsAtFirst config
  again = by_plan (choose config) (plan_on choose config c) refl refl
