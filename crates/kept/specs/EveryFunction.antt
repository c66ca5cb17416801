-- Every public function that gives a record back, under its own name and by its promise: on every tape and log, refused or not, a record whose three
-- figures are those of its cells goes on being one, and a sound record stays sound. What the promise says of tape, log and lent bytes is left open here.
-- Assumes nothing.
use Rattle.std.specs.Prelude.{◌≡◌, Bool, true, List, ℕ, ℤ, Result}
use Rattle.refusals.specs.Refusal.{value}
use Rattle.refusals.specs.declared.Error.{Error}
use Rattle.units.specs.declared.MicroOhms.{MicroOhms}
use Rattle.adc.specs.declared.transfer.AdcTransferFunction.{AdcTransferFunction}
use Rattle.plan.specs.Steps.{steps_for}
use Rattle.plan.specs.Plan.{as_init}
use Rattle.plan.specs.declared.CalculatedValues.{CalculatedValues}
use Rattle.plan.specs.declared.Config.{Config}
use Rattle.bus.specs.Transfers.{Bus}
use Rattle.bus.specs.Programs.{ends, on_tape}
use Rattle.bus.specs.Raw.{Done, as_raw}
use Rattle.bus.specs.declared.link.Link.{Link}
use Rattle.bq769x0.specs.Record.{unread, of_parts, with_head, leaves, as_made, as_new, new_for, is_sound, with_calibration, with_readings}
use Rattle.bq769x0.specs.Figures.{first_cells, spread_of, Fits}
use Rattle.bq769x0.specs.declared.BQ769x0.{BQ769x0}
use Rattle.bq769x0.specs.declared.Head.{Head}
use Rattle.bq769x0.specs.declared.Readings.{Readings}
use Rattle.bq769x0.specs.declared.record.New.{New}
use Rattle.procedure.specs.Calibrate.{read_adc_characteristics}
use Rattle.procedure.specs.Init.{init_by}
use Rattle.procedure.specs.Cells.{filled, cell_voltages}
use Rattle.procedure.specs.Wired.{shown, wired}
use Rattle.job_setup.specs.JobInit.{job_init}
use Rattle.firmware.specs.JobCells.{listed, job_cells}
use Rattle.firmware.specs.JobWired.{beside, job_wired}
use Rattle.bench.specs.Calls.{record_by}

-- from a record that was given to the one that is given back
abbrev pub Kept : BQ769x0 → BQ769x0 → Type 0
Kept d d' = (is_sound d ≡ true → is_sound d' ≡ true) × (Fits d → Fits d')

-- with the readings as they were
abbrev pub KeptWhole : BQ769x0 → BQ769x0 → Type 0
KeptWhole d d' = Kept d d' × (d'.readings ≡ d.readings)

-- an init, whatever else it promises
abbrev pub InitKeeps : Type 0
InitKeeps =
    (d d' : BQ769x0) (config : Config) (b after : Bus) (a : Result CalculatedValues Error)
    → ends (leaves (as_init a) d') after ≡ on_tape (init_by steps_for d config) b
    → KeptWhole d d'

pub record EveryFunction : Type 0 where
  -- ---- what makes a record: nothing is read yet
  pub «bq769x0::BQ769x0::new» : (x address n : ℕ) (check : Bool) (r : New) → as_new r ≡ new_for x address n check
      → (as_made r.answer ≡ value tt → is_sound r.device ≡ true) × Fits r.device
  pub «bq769x0::BQ769x0::of_head» : (head : Head) (r : BQ769x0) → r ≡ with_head head unread → Fits r
  pub «bq769x0::BQ769x0::of_parts» : (link : Link) (n : ℕ) (adc : AdcTransferFunction) (shunt : MicroOhms) (mark : Bool) (r : BQ769x0)
      → r ≡ of_parts link n adc shunt mark → Fits r
  pub «bench::record_by» : (x n address : ℕ) (check : Bool) (gain b51 shunt : ℕ) (r : BQ769x0)
      → r ≡ record_by x n address check gain b51 shunt → Fits r
  -- ---- what stores a part of one: a head of the same count, and readings whose figures are right
  pub «bq769x0::BQ769x0::set_head» : (d d' : BQ769x0) (head : Head) → d' ≡ with_head head d.readings
      → head.cell_count ≡ d.cell_count → Fits d → Fits d'
  pub «bq769x0::BQ769x0::store_calibration» : (d d' : BQ769x0) (adc : AdcTransferFunction) → d' ≡ with_calibration d adc
      → Fits d → Fits d'
  pub «bq769x0::BQ769x0::store_readings» : (d d' : BQ769x0) (readings : Readings) → d' ≡ with_readings d readings
      → readings.spread ≡ spread_of (first_cells d.cell_count readings.wired) → Fits d'
  -- ---- setting up, with any calibration, the first time or again: the readings are as before
  pub «setup::calibrate::read_adc_characteristics» : (d d' : BQ769x0) (b after : Bus) (a : Result Done Error)
      → ends (leaves (as_raw a) d') after ≡ on_tape (read_adc_characteristics d) b
      → KeptWhole d d'
  pub «setup::init» : InitKeeps
  pub «recovered::init» : InitKeeps
  -- ---- the cells, by either list
  pub «cells::crate_list::cell_voltages» : (d d' : BQ769x0) (list list' : List ℤ) (b after : Bus) (a : Result Done Error)
      → ends (filled (as_raw a) d' list') after ≡ on_tape (cell_voltages d list) b
      → Kept d d'
  pub «cells::wired::wired» : (d d' : BQ769x0) (inputs inputs' : List ℕ) (list list' : List ℤ) (b after : Bus) (a : Result Done Error)
      → ends (shown (as_raw a) d' inputs' list') after ≡ on_tape (wired d inputs list) b
      → Kept d d'
  -- ---- a job: made, set up and read, whatever record is lent
  pub «job_setup::init» : (d' : BQ769x0) (job : List ℕ) (b after : Bus) (a : Result CalculatedValues Error)
      → ends (leaves (as_init a) d') after ≡ on_tape (job_init job) b
      → Fits d'
  pub «firmware::init_cells» : (d' : BQ769x0) (job list list' : List ℕ) (b after : Bus) (a : Result CalculatedValues Error)
      → ends (listed (as_init a) d' list') after ≡ on_tape (job_cells job list) b
      → Fits d'
  pub «firmware::init_wired» : (d' : BQ769x0) (job inputs inputs' list list' : List ℕ) (b after : Bus) (a : Result CalculatedValues Error)
      → ends (beside (as_init a) d' inputs' list') after ≡ on_tape (job_wired job inputs list) b
      → Fits d'
