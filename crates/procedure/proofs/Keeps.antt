-- What holds of a record, and goes on holding with another calibration, with a shunt stored and with a reading taken, holds of the record that any
-- call leaves, whatever tape and log hold: the calibration, init, whatever way the steps are chosen, and both calls for the cells.
-- Assumes nothing.
use mathlib.Core.Path.{◌≡◌}
use mathlib.Core.Bool.{true, false}
use mathlib.Core.List.{List}
use Prim.Native.Nat.{ℕ, min}
use lib.Dec.{eqb}
use lib.IntN.{ℤ}
use lib.ListN.{length}
use Rattle.refusals.specs.Refusal.{Answer, value, refused, nine}
use Rattle.units.specs.declared.MicroOhms.{MicroOhms}
use Rattle.plan.specs.Steps.{InMv, bad_shunt}
use Rattle.plan.specs.Plan.{Values}
use Rattle.plan.specs.declared.Config.{Config}
use Rattle.plan.proofs.Needs.{plan_needs}
use Rattle.bus.specs.Transfers.{Bus}
use Rattle.bus.specs.Programs.{Prog, ret, on_tape}
use Rattle.bus.specs.Raw.{Done}
use Rattle.bus.proofs.Always.{always, on_tape_lem, always_after, always_call, always_pure}
use Rattle.bq769x0.specs.Record.{Left, leaving, is_sound, with_shunt}
use Rattle.bq769x0.proofs.Soundly.{always_soundly}
use Rattle.bq769x0.specs.declared.BQ769x0.{BQ769x0}
use Rattle.procedure.specs.Calibrate.{calibrated, calibrate, read_adc_characteristics}
use Rattle.procedure.specs.Init.{onward, onward_by, start_counter, protect, set_up, init_by}
use Rattle.procedure.specs.Inputs.{read_inputs}
use Rattle.procedure.specs.Taking.{taking}
use Rattle.procedure.specs.Cells.{Filled, untouched, ready, read_cells, cell_voltages}
use Rattle.procedure.specs.Wired.{Shown, unshown, read_wired, wired}

module _ (K : BQ769x0 → Type 0) where
  -- of the record that a call leaves
  unfoldable pub Kept : {A : Type 0} → Left A → Type 0
  Kept left = K left.device

  -- ---- setting up
  module _ (with-calibration : (d : BQ769x0) (first second : List ℕ) → K d → K (calibrated d first second)) where
    calibrate_keeps : (d : BQ769x0) → K d → always Kept (calibrate d)
    unfolding calibrate always Kept
    calibrate_keeps d e =
        always_call Kept (leaving d) _ (λ r. e) _ λ first.
        always_call Kept (leaving d) _ (λ r. e) _ λ second.
        with-calibration d first second e

    pub read_adc_keeps : (d : BQ769x0) (b : Bus) → K d → K (on_tape (read_adc_characteristics d) b).answer.device
    unfolding read_adc_characteristics Kept
    read_adc_keeps d b e = on_tape_lem Kept _ (always_soundly Kept d (leaving d nine) (calibrate d) e λ sound. calibrate_keeps d e) b

    start_counter_keeps : (d : BQ769x0) (values : Values) → K d → always Kept (start_counter d values)
    unfolding start_counter always Kept
    start_counter_keeps d values e =
        always_call Kept (leaving d) _ (λ r. e) _ λ byte.
        always_call Kept (leaving d) _ (λ r. e) _ λ done.
        e

    -- the shunt is one that is not refused, and the gain is not 0
    module _ (with-shunt : (d : BQ769x0) (shunt : MicroOhms) → K d → bad_shunt shunt.0 ≡ false → eqb d.adc.gain 0 ≡ false
        → K (with_shunt d shunt)) where
      protect_keeps : (config : Config) (steps : InMv) (d : BQ769x0) → K d → always Kept (protect config steps d)
      unfolding protect Kept
      protect_keeps config steps d e =
          always_pure Kept (leaving d) _ (λ r. e) _ λ plan accepted.
          let needs = plan_needs d.adc.gain d.adc.offset config steps.scd steps.ocd plan accepted in
          always_call Kept (leaving d) _ (λ r. e) _ λ done.
          start_counter_keeps (with_shunt d config.shunt) plan.values (with-shunt d config.shunt e needs.0 needs.1)

      onward_keeps : (f : BQ769x0 → Prog (Left Values)) → ((d : BQ769x0) → K d → always Kept (f d))
          → (left : Left Done) → Kept left → always Kept (onward f left)
      unfolding onward onward_by always Kept
      onward_keeps f keeps left e = by_answer left.answer
        where
          by_answer : (y : Answer Done) → always Kept (onward_by f left.device y)
          by_answer (value done) = keeps left.device e
          by_answer (refused r) = e

      pub init_always : (choose : Config → Answer InMv) (d : BQ769x0) (config : Config) → K d → always Kept (init_by choose d config)
      unfolding init_by Kept
      init_always choose d config e =
          always_soundly Kept d (leaving d nine) (set_up choose d config) e λ sound.
          always_call Kept (leaving d) _ (λ r. e) (ret (choose config)) λ steps.
          always_after Kept Kept (calibrate d) (onward (protect config steps)) (calibrate_keeps d e)
          (onward_keeps (protect config steps) (protect_keeps config steps))

      pub init_keeps : (choose : Config → Answer InMv) (d : BQ769x0) (config : Config) (b : Bus) → K d
          → K (on_tape (init_by choose d config) b).answer.device
      unfolding Kept
      init_keeps choose d config b e = on_tape_lem Kept (init_by choose d config) (init_always choose d config e) b

  -- ---- the cells, by either list
  unfoldable pub KeptFilled : Filled → Type 0
  KeptFilled left = K left.device

  unfoldable pub KeptShown : Shown → Type 0
  KeptShown left = K left.device

  module _ (d : BQ769x0) (e : K d) (with-reading : is_sound d ≡ true → (readings : List ℤ) → K (taking d readings)) where
    pub cells_always : (list : List ℤ) → always KeptFilled (cell_voltages d list)
    unfolding cell_voltages read_cells always KeptFilled
    cells_always list =
        always_soundly KeptFilled d (untouched d list nine) _ e λ sound.
        always_call KeptFilled (untouched d list) _ (λ r. e) (ret (ready d (length list))) λ _.
        always_call KeptFilled (untouched d list) _ (λ r. e) (read_inputs d.link d.adc) λ inputs.
        with-reading sound inputs

    pub wired_always : (inputs : List ℕ) (list : List ℤ) → always KeptShown (wired d inputs list)
    unfolding wired read_wired always KeptShown
    wired_always inputs list =
        always_soundly KeptShown d (unshown d inputs list nine) _ e λ sound.
        always_call KeptShown (unshown d inputs list) _ (λ r. e) (ret (ready d (min (length inputs) (length list)))) λ _.
        always_call KeptShown (unshown d inputs list) _ (λ r. e) (read_inputs d.link d.adc) λ readings.
        with-reading sound readings

    pub cells_keep : (list : List ℤ) (b : Bus) → K (on_tape (cell_voltages d list) b).answer.device
    unfolding KeptFilled
    cells_keep list = on_tape_lem KeptFilled (cell_voltages d list) (cells_always list)

    pub wired_keeps : (inputs : List ℕ) (list : List ℤ) (b : Bus) → K (on_tape (wired d inputs list) b).answer.device
    unfolding KeptShown
    wired_keeps inputs list = on_tape_lem KeptShown (wired d inputs list) (wired_always inputs list)
