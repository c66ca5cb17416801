-- An `init` on a whole wire, after cut ones, logs what it would have logged at first, and uses as much of its tape; with the same
-- configuration or another.
-- Assumes nothing.
use mathlib.Core.Path.{◌≡◌, refl, sym, ap, subst, ◌∙◌}
use mathlib.Core.Bool.{true}
use mathlib.Core.List.{List, [], ◌∷◌}
use Prim.Native.Nat.{ℕ, ◌≤◌}
use native.Mathlib.Omega.{arith}
use lib.Bits.{bit_or}
use lib.ListN.{length, get_or}
use lib.Seq.{get_or-set_same}
use Rattle.refusals.specs.Refusal.{Answer, value, refused}
use Rattle.adc.specs.declared.transfer.AdcTransferFunction.{AdcTransferFunction}
use Rattle.frames.specs.Put.{put}
use Rattle.frames.proofs.Put.{length_put}
use Rattle.plan.specs.Steps.{InMv}
use Rattle.plan.specs.Plan.{Values, Planned, plan_for}
use Rattle.plan.specs.declared.Config.{Config}
use Rattle.plan.proofs.Six.{plan_six}
use Rattle.bus.specs.Programs.{bind}
use Rattle.bus.specs.Raw.{sound, write_raw}
use Rattle.bus.specs.declared.link.Link.{Link}
use Rattle.bq769x0.specs.Record.{leaves, is_sound, with_calibration, with_shunt}
use Rattle.bq769x0.specs.Registers.{soundly}
use Rattle.bq769x0.specs.declared.BQ769x0.{BQ769x0}
use Rattle.bq769x0.proofs.Speaks.{link_sound, some_inputs}
use Rattle.procedure.specs.Calibrate.{calibrate}
use Rattle.procedure.specs.Init.{onward, onward_by, start_counter, protect, init_by}
use Rattle.chip.specs.Devices.{reached}
use Rattle.chip.specs.Chip.{with_regs, held}
use Rattle.chip.specs.OnChip.{Matches, uncut, on_wire}
use Rattle.chip.specs.declared.Chip.{Chip}
use Rattle.chip.proofs.Devices.{known}
use Rattle.chip.proofs.InStep.{InStep, step_ret, step_stage, step_call, step_off, step_read, step_write}
use Rattle.chip.proofs.Uncut.{read_uncut, write_uncut}
use Rattle.recovery.specs.Recovery.{calibration_of, counted, bit6, Leaves}
use Rattle.recovery.proofs.Calibrated.{calibrate_whole}
use Rattle.recovery.proofs.Left.{same_link, matches_left, same_calibration, overwritten}

-- a record with another link
abbrev linked : Link → BQ769x0 → BQ769x0
linked link d = record {
  link = link;
  cell_count = d.cell_count;
  adc = d.adc;
  shunt = d.shunt;
  init_complete = d.init_complete;
  readings = d.readings;
}

-- ---- two records of one link, on two chips
module _ (link : Link) (speaks : sound link ≡ true) (inputs : 5 ≤ link.x) where
  -- whose bytes of 05 differ in bit 6 at most
  start_counter_in_step : (x x' : Chip) → Matches link x → Matches link x'
      → bit_or (get_or x'.regs 5 0) bit6 ≡ bit_or (get_or x.regs 5 0) bit6
      → (d d' : BQ769x0) (values values' : Values)
      → InStep (start_counter (linked link d') values') (uncut x') (start_counter (linked link d) values) (uncut x)
  unfolding start_counter held
  start_counter_in_step x x' m m' e d d' values values' =
      let byte = bit_or (get_or x.regs 5 0) bit6 in
      let byte' = bit_or (get_or x'.regs 5 0) bit6 in
      step_call _ _ _ _
      (read_uncut link speaks x' m' 5 1 (omega arith) (omega arith) (omega arith))
      (read_uncut link speaks x m 5 1 (omega arith) (omega arith) (omega arith))
      (step_read link speaks x' x m' m 5 1 (omega arith) (omega arith) (omega arith))
      (step_call _ _ _ _
      (write_uncut link speaks x' m' 5 (byte' ∷ []) (omega arith) (omega arith) (omega arith) (omega arith))
      (write_uncut link speaks x m 5 (byte ∷ []) (omega arith) (omega arith) (omega arith) (omega arith))
      (subst (λ (z : ℕ). InStep (write_raw link 5 (z ∷ [])) (uncut x') (write_raw link 5 (byte ∷ [])) (uncut x)) (sym e)
      (step_write link speaks x' x m' m 5 (byte ∷ []) (omega arith) (omega arith) (omega arith) (omega arith)))
      (step_ret _ _ _ _))

  module _ (c c' : Chip) (m : Matches link c) (m' : Matches link c') (d d' : BQ769x0) where
    calibrate_in_step : InStep (calibrate (linked link d')) (uncut c') (calibrate (linked link d)) (uncut c)
    unfolding calibrate
    calibrate_in_step =
        step_call _ _ _ _
        (read_uncut link speaks c' m' 0x50 2 (omega arith) (omega arith) (omega arith))
        (read_uncut link speaks c m 0x50 2 (omega arith) (omega arith) (omega arith))
        (step_read link speaks c' c m' m 0x50 2 (omega arith) (omega arith) (omega arith))
        (step_call _ _ _ _
        (read_uncut link speaks c' m' 0x59 1 (omega arith) (omega arith) (omega arith))
        (read_uncut link speaks c m 0x59 1 (omega arith) (omega arith) (omega arith))
        (step_read link speaks c' c m' m 0x59 1 (omega arith) (omega arith) (omega arith))
        (step_ret _ _ _ _))

    -- of which six bytes and 05 make the same
    module _ (over : (bytes : List ℕ) → length bytes ≡ 6
        → with_regs c' (counted (put c'.regs 6 bytes)) ≡ with_regs c (counted (put c.regs 6 bytes)))
        (config : Config) (steps : InMv) where
      abbrev new : Chip → List ℕ → Chip
      new x bytes = with_regs x (put x.regs 6 bytes)

      new_matches : (x : Chip) → Matches link x → (bytes : List ℕ) → length bytes ≡ 6 → Matches link (new x bytes)
      new_matches x k bytes six = record {
        address = k.address;
        check = k.check;
        size = length_put x.regs 6 bytes (omega (arith, k.size)) ∙ k.size;
      }

      same_05 : (bytes : List ℕ) → length bytes ≡ 6
          → bit_or (get_or (new c' bytes).regs 5 0) bit6 ≡ bit_or (get_or (new c bytes).regs 5 0) bit6
      same_05 bytes six =
          sym (get_or-set_same (new c' bytes).regs 5 _ 0 (omega (arith, (new_matches c' m' bytes six).size)))
          ∙ ap (λ (x : Chip). get_or x.regs 5 0) (over bytes six)
          ∙ get_or-set_same (new c bytes).regs 5 _ 0 (omega (arith, (new_matches c m bytes six).size))

      protect_in_step : (adc : AdcTransferFunction) (y : Answer Planned)
          → plan_for adc.gain adc.offset config steps.scd steps.ocd ≡ y
          → InStep (protect config steps (with_calibration (linked link d') adc)) (uncut c')
          (protect config steps (with_calibration (linked link d) adc)) (uncut c)
      unfolding protect
      protect_in_step adc (refused r) e = step_off _ _ _ _ (known on_wire e (uncut c')) (known on_wire e (uncut c)) (step_ret _ _ _ _)
      protect_in_step adc (value plan) e =
          let six = plan_six _ _ config _ _ plan e in
          let bytes = plan.regs in
          step_call _ _ _ _ (known on_wire e (uncut c')) (known on_wire e (uncut c)) (step_ret _ _ _ _)
          (step_call _ _ _ _
          (write_uncut link speaks c' m' 6 bytes (omega arith) (omega arith) (omega arith) (omega arith))
          (write_uncut link speaks c m 6 bytes (omega arith) (omega arith) (omega arith) (omega arith))
          (step_write link speaks c' c m' m 6 bytes (omega arith) (omega arith) (omega arith) (omega arith))
          (start_counter_in_step (new c bytes) (new c' bytes) (new_matches c m bytes six) (new_matches c' m' bytes six) (same_05 bytes six)
          (with_shunt (with_calibration (linked link d) adc) config.shunt)
          (with_shunt (with_calibration (linked link d') adc) config.shunt) plan.values plan.values))

      -- and whose calibration is the same
      module _ (same : calibration_of c' ≡ calibration_of c) where
        stages_in_step : InStep (bind (calibrate (linked link d')) (onward (protect config steps))) (uncut c')
            (bind (calibrate (linked link d)) (onward (protect config steps))) (uncut c)
        unfolding onward onward_by
        stages_in_step =
            step_stage _ _
            (calibrate_whole (linked link d') speaks (omega arith) (uncut c') m' refl refl
            ∙ ap (λ (adc : AdcTransferFunction). reached (leaves (value tt) (with_calibration (linked link d') adc)) (uncut c')) same)
            (calibrate_whole (linked link d) speaks (omega arith) (uncut c) m refl refl)
            calibrate_in_step
            (protect_in_step (calibration_of c) _ refl)

-- ---- so, from what was left
module _ (choose : Config → Answer InMv) (config : Config) (d : BQ769x0) (c : Chip) (m : Matches d.link c)
    {n : ℕ} {d' : BQ769x0} {c' : Chip} (l : Leaves choose config d c n d' c') (ok : is_sound d ≡ true) (ok' : is_sound d' ≡ true)
    (other : Config) where
  relinked : d' ≡ linked d.link d'
  relinked = λ i. linked (same_link l.recorded i) d'

  abbrev With : BQ769x0 → Type 0
  With x = InStep (init_by choose x other) (uncut c') (init_by choose d other) (uncut c)

  by_choice : (y : Answer InMv) → choose other ≡ y → is_sound (linked d.link d') ≡ true → Matches d.link c'
      → With (linked d.link d')
  unfolding init_by soundly
  by_choice (refused r) e sound' m' =
      rw (sound', ok) (step_off _ _ _ _ (known on_wire e (uncut c')) (known on_wire e (uncut c)) (step_ret _ _ _ _))
  by_choice (value steps) e sound' m' =
      rw (sound', ok)
      (step_call _ _ _ _ (known on_wire e (uncut c')) (known on_wire e (uncut c)) (step_ret _ _ _ _)
      (stages_in_step d.link (link_sound d ok) (some_inputs d ok) c c' m m' d d' (overwritten l m) other steps (same_calibration l m)))

  pub in_step : With d'
  in_step =
      subst With (sym relinked)
      (by_choice (choose other) refl (ap is_sound (sym relinked) ∙ ok')
      (subst (λ (s : Link). Matches s c') (same_link l.recorded) (matches_left l m)))
