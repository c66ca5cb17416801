-- A record that fits goes on fitting, whatever call leaves it: the calibration, init, whatever way the steps are chosen, and both calls for the cells.
-- Setting up leaves its readings as they were.
-- Assumes nothing.
use mathlib.Core.Path.{◌≡◌, sym, ap, ◌∙◌}
use mathlib.Core.Bool.{true}
use mathlib.Core.List.{List, ◌++◌, map, map-append}
use Prim.Native.Nat.{ℕ}
use lib.IntN.{ℤ}
use lib.ListN.{length, take, drop, length-map}
use lib.Seq.{take_at}
use Rattle.laws.specs.Over.{◌over◌}
use Rattle.refusals.specs.Refusal.{Answer}
use Rattle.units.specs.declared.MilliVolts.{MilliVolts}
use Rattle.plan.specs.Steps.{InMv}
use Rattle.plan.specs.declared.Config.{Config}
use Rattle.wiring.specs.Tables.{fitted}
use Rattle.wiring.proofs.Rows.{as_many}
use Rattle.bus.specs.Transfers.{Bus}
use Rattle.bus.specs.Programs.{on_tape}
use Rattle.bus.proofs.Always.{always, on_tape_lem}
use Rattle.bq769x0.specs.Record.{is_sound}
use Rattle.bq769x0.specs.Figures.{volts, first_cells, spread_of, Fits}
use Rattle.bq769x0.specs.declared.BQ769x0.{BQ769x0}
use Rattle.bq769x0.specs.declared.Readings.{Readings}
use Rattle.bq769x0.proofs.Sizes.{sound_pack}
use Rattle.procedure.specs.Calibrate.{read_adc_characteristics}
use Rattle.procedure.specs.Init.{init_by}
use Rattle.procedure.specs.Inputs.{as_cells}
use Rattle.procedure.specs.Taking.{of_input, voltages, taking}
use Rattle.procedure.specs.Cells.{cell_voltages}
use Rattle.procedure.specs.Wired.{wired}
use Rattle.procedure.proofs.Moved.{as_held}
use Rattle.procedure.proofs.Keeps.{Kept, read_adc_keeps, init_always, init_keeps, cells_keep, wired_keeps}

-- numbers stored as the first cells are the first cells
pub stored_first : (l : List ℤ) (held : List MilliVolts) (n : ℕ) → length l ≡ n → first_cells n (as_cells l over held) ≡ l
stored_first l held n size =
    let behind = drop (length (as_cells l)) held in
    ap (take n) (map-append volts (as_cells l) behind ∙ ap (λ (r : List ℤ). r ++ map volts behind) (as_held l))
    ∙ take_at l (map volts behind) n size

-- the figures stored are those of the wired cells stored
pub taking_fits : (d : BQ769x0) → is_sound d ≡ true → (readings : List ℤ) → Fits (taking d readings)
taking_fits d sound readings =
    let x = d.link.x in
    let n = d.cell_count in
    let size = length-map (fitted x n) (of_input readings) ∙ as_many x n (sound_pack d sound) in
    ap spread_of (sym (stored_first (voltages x n readings) d.readings.wired n size))

-- ---- setting up leaves the readings as they were
module _ (readings : Readings) where
  abbrev Holds : BQ769x0 → Type 0
  Holds d = d.readings ≡ readings

  pub read_adc_readings : (d : BQ769x0) (b : Bus) → Holds d → Holds (on_tape (read_adc_characteristics d) b).answer.device
  read_adc_readings = read_adc_keeps Holds (λ d first second e. e)

  pub init_readings : (choose : Config → Answer InMv) (d : BQ769x0) (config : Config) (b : Bus) → Holds d
      → Holds (on_tape (init_by choose d config) b).answer.device
  init_readings = init_keeps Holds (λ d first second e. e) (λ d shunt e good some. e)

-- ---- the calls
pub read_adc_fits : (d : BQ769x0) (b : Bus) → Fits d → Fits (on_tape (read_adc_characteristics d) b).answer.device
read_adc_fits = read_adc_keeps Fits (λ d first second e. e)

pub init_fits_always : (choose : Config → Answer InMv) (d : BQ769x0) (config : Config) → Fits d → always (Kept Fits) (init_by choose d config)
init_fits_always = init_always Fits (λ d first second e. e) (λ d shunt e good some. e)

pub init_fits : (choose : Config → Answer InMv) (d : BQ769x0) (config : Config) (b : Bus) → Fits d
    → Fits (on_tape (init_by choose d config) b).answer.device
unfolding Kept
init_fits choose d config b e = on_tape_lem (Kept Fits) (init_by choose d config) (init_fits_always choose d config e) b

pub cells_fit : (d : BQ769x0) → Fits d → (list : List ℤ) (b : Bus) → Fits (on_tape (cell_voltages d list) b).answer.device
cells_fit d e = cells_keep Fits d e (taking_fits d)

pub wired_fits : (d : BQ769x0) → Fits d → (inputs : List ℕ) (list : List ℤ) (b : Bus)
    → Fits (on_tape (wired d inputs list) b).answer.device
wired_fits d e = wired_keeps Fits d e (taking_fits d)
