-- What a cut `init` leaves: the link and the calibration as they were, and a further first part of the six bytes
-- is one of them.
-- Assumes nothing.
use mathlib.Core.Path.{◌≡◌, refl, sym, ap, ◌∙◌}
use mathlib.Core.Bool.{Bool, true, false, false≢true}
use mathlib.Core.List.{List}
use Prim.Native.Nat.{ℕ, ◌≤◌, max}
use native.Mathlib.Omega.{arith}
use lib.ListN.{length, take, get_or}
use Rattle.refusals.specs.Refusal.{Refusal, Answer, value, refused}
use Rattle.adc.specs.Registers.{calibration}
use Rattle.adc.specs.declared.transfer.AdcTransferFunction.{AdcTransferFunction}
use Rattle.frames.specs.Put.{put}
use Rattle.frames.proofs.Put.{put_none}
use Rattle.plan.specs.Order.{◌and_then◌}
use Rattle.plan.specs.Steps.{InMv}
use Rattle.plan.specs.Plan.{Planned, plan_for}
use Rattle.plan.specs.declared.Config.{Config}
use Rattle.plan.proofs.Accepted.{first}
use Rattle.plan.proofs.Six.{plan_six}
use Rattle.bus.specs.declared.link.Link.{Link}
use Rattle.bq769x0.specs.Record.{accepts, with_calibration, with_shunt}
use Rattle.bq769x0.specs.declared.BQ769x0.{BQ769x0}
use Rattle.chip.specs.Chip.{with_regs}
use Rattle.chip.specs.OnChip.{Matches}
use Rattle.chip.specs.declared.Chip.{Chip}
use Rattle.recovery.specs.Recovery.{calibration_of, plan_on, bytes_of, counted, six, chip_left}
use Rattle.recovery.specs.Recovery.{Recorded, as_it_was, calibrated, marked, Leaves}
use Rattle.recovery.proofs.Forms.{length_left, left_above, left_more, left_over, left_counted}

-- the record calibrated by the chip, and marked with the new shunt
abbrev pub set_up : Config → BQ769x0 → Chip → BQ769x0
set_up config d c = with_shunt (with_calibration d (calibration_of c)) config.shunt

module _ (choose : Config → Answer InMv) (config : Config) (c : Chip) where
  -- the plan, once the steps are chosen
  pub planned : (steps : InMv) → choose config ≡ value steps → (y : Answer Planned)
      → plan_for (calibration_of c).gain (calibration_of c).offset config steps.scd steps.ocd ≡ y
      → plan_on choose config c ≡ y
  unfolding plan_on ◌and_then◌
  planned steps e y q = rw e q

  pub unplanned : (r : Refusal) → choose config ≡ refused r → plan_on choose config c ≡ refused r
  unfolding plan_on ◌and_then◌
  unplanned r e = rw e

  -- six bytes, or none
  pub six_all : (plan : Planned) → plan_on choose config c ≡ value plan → length plan.regs ≡ 6
  unfolding plan_on
  six_all plan e =
      let steps = first (choose config) _ e in
      plan_six _ _ config _ _ plan steps.1.1

  pub six_few : length (six choose config c) ≤ 6
  six_few = by (plan_on choose config c) refl
    where
      by : (y : Answer Planned) → plan_on choose config c ≡ y → length (bytes_of y) ≤ 6
      by (value plan) e = omega (arith, six_all plan e)
      by (refused r) e = omega arith

  -- bit 6 of 05 set in a chip that is left
  pub counted_left : length c.regs ≡ 256 → (on : Bool) (n : ℕ) {c' : Chip} → c' ≡ chip_left choose config c on n
      → with_regs c' (counted c'.regs) ≡ chip_left choose config c true n
  counted_left size on n e =
      ap (λ (x : Chip). with_regs x (counted x.regs)) e
      ∙ ap (with_regs c) (left_counted (six choose config c) c.regs size six_few on n)

module _ {choose : Config → Answer InMv} {config : Config} {d : BQ769x0} {c : Chip} where
  -- nothing yet
  pub at_first : Leaves choose config d c 0 d c
  at_first = record {
    few = omega arith;
    on = false;
    last = λ e. absurd (false≢true e);
    chip = ap (with_regs c) (sym (put_none c.regs 6));
    recorded = as_it_was;
  }

  module _ {n : ℕ} where
    -- ---- the record
    pub same_link : {d' : BQ769x0} → Recorded choose config d c n d' → d'.link ≡ d.link
    same_link as_it_was = refl
    same_link (calibrated e) = refl
    same_link (marked q) = refl

    recalibrates : {d' : BQ769x0} → accepts (choose config) ≡ true → Recorded choose config d c n d'
        → Recorded choose config d c n (with_calibration d' (calibration_of c))
    recalibrates e as_it_was = calibrated e
    recalibrates e (calibrated q) = calibrated q
    recalibrates e (marked q) = marked q

    -- what a configuration, this one or another, makes of it
    pub marks : {d' : BQ769x0} (other : Config) → Recorded choose config d c n d' → set_up other d' c ≡ set_up other d c
    marks other as_it_was = refl
    marks other (calibrated q) = refl
    marks other (marked q) = refl

    more_recorded : {d' : BQ769x0} (k : ℕ) → k ≤ 6 → Recorded choose config d c n d' → Recorded choose config d c (max n k) d'
    more_recorded k h as_it_was = as_it_was
    more_recorded k h (calibrated q) = calibrated q
    more_recorded k h (marked q) = marked (omega arith)

    -- initialised since, with all six new
    pub all_new : {d' : BQ769x0} → d.init_complete ≡ false → Recorded choose config d c n d' → d'.init_complete ≡ true → n ≡ 6
    all_new new as_it_was e = absurd (false≢true (sym new ∙ e))
    all_new new (calibrated q) e = absurd (false≢true (sym new ∙ e))
    all_new new (marked q) e = q

    module _ {d' : BQ769x0} {c' : Chip} (l : Leaves choose config d c n d' c') where
      pub recalibrated : accepts (choose config) ≡ true
          → Leaves choose config d c n (with_calibration d' (calibration_of c)) c'
      recalibrated e = record {
        few = l.few;
        on = l.on;
        last = l.last;
        chip = l.chip;
        recorded = recalibrates e l.recorded;
      }

      -- another record, on the chip as it was left
      pub begun_again : (e : BQ769x0) → Leaves choose config e c n e c'
      begun_again e = record { few = l.few; on = l.on; last = l.last; chip = l.chip; recorded = as_it_was }

      -- ---- the chip
      module _ (m : Matches d.link c) where
        abbrev six' : List ℕ
        six' = six choose config c

        most : length six' ≤ 6
        most = six_few choose config c

        pub matches_left : Matches d'.link c'
        matches_left =
            let same = same_link l.recorded in
            record {
              address = ap (λ (s : Link). s.address) same ∙ m.address ∙ ap (λ (x : Chip). x.address) (sym l.chip);
              check = ap (λ (s : Link). s.check) same ∙ m.check ∙ ap (λ (x : Chip). x.check) (sym l.chip);
              size =
                  ap (λ (x : Chip). length x.regs) l.chip
                  ∙ length_left six' c.regs m.size most l.on n;
            }

        above : (i : ℕ) → 12 ≤ i → get_or c'.regs i 0 ≡ get_or c.regs i 0
        above i h =
            ap (λ (x : Chip). get_or x.regs i 0) l.chip
            ∙ left_above six' c.regs m.size most l.on n i h

        pub same_calibration : calibration_of c' ≡ calibration_of c
        same_calibration =
            let a = above 0x50 (omega arith) in
            let b = above 0x51 (omega arith) in
            let e = above 0x59 (omega arith) in
            λ i. calibration (a i) (b i) (e i)

        abbrev plan_by : Config → AdcTransferFunction → Answer Planned
        plan_by other adc = choose other and_then λ steps. plan_for adc.gain adc.offset other steps.scd steps.ocd

        pub same_plan : (other : Config) → plan_on choose other c' ≡ plan_on choose other c
        unfolding plan_on
        same_plan other = ap (plan_by other) same_calibration

        -- with a first part of the six written over it
        pub more_left : (k : ℕ) → k ≤ length six'
            → with_regs c' (put c'.regs 6 (take k six')) ≡ chip_left choose config c l.on (max n k)
        more_left k h =
            ap (λ (x : Chip). with_regs x (put x.regs 6 (take k six'))) l.chip
            ∙ ap (with_regs c) (left_more six' c.regs m.size most l.on n k l.last l.few h)

        pub more_new : (k : ℕ) → k ≤ length six'
            → Leaves choose config d c (max n k) d' (with_regs c' (put c'.regs 6 (take k six')))
        more_new k h = record {
          few = omega (arith, l.few);
          on = l.on;
          last = λ e. omega (arith, l.last e, l.few, most);
          chip = more_left k h;
          recorded = more_recorded k (omega (arith, most)) l.recorded;
        }

        -- with any six bytes, and then 05: nothing of what was left is to be seen
        pub overwritten : (bytes : List ℕ) → length bytes ≡ 6
            → with_regs c' (counted (put c'.regs 6 bytes)) ≡ with_regs c (counted (put c.regs 6 bytes))
        overwritten bytes all =
            ap (λ (x : Chip). with_regs x (counted (put x.regs 6 bytes))) l.chip
            ∙ ap (with_regs c) (left_over six' c.regs m.size most l.on n bytes all)
