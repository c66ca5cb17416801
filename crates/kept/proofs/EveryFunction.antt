-- Every public function that gives a record back keeps it sound and fitting.
-- Assumes nothing.
use mathlib.Core.Path.{◌≡◌, refl, subst, subst⁻¹}
use mathlib.Core.Bool.{Bool, false}
use mathlib.Core.List.{List}
use Prim.Native.Nat.{ℕ}
use lib.IntN.{ℤ, pos}
use lib.ListN.{replicate}
use Rattle.refusals.specs.Refusal.{Answer, value, refused}
use Rattle.refusals.proofs.Values.{refused_not, same_value}
use Rattle.plan.specs.Steps.{steps_for}
use Rattle.plan.specs.Plan.{Values}
use Rattle.bus.specs.Programs.{Ran}
use Rattle.bus.specs.Raw.{Done}
use Rattle.bus.proofs.Always.{always, on_tape_lem, always_after, always_pure}
use Rattle.bq769x0.specs.Record.{of_parts, head_of, Left, leaving, device_allowed, fresh, made_by, new_for}
use Rattle.bq769x0.specs.Figures.{first_cells, spread_of, Fits}
use Rattle.bq769x0.specs.declared.BQ769x0.{BQ769x0}
use Rattle.bq769x0.proofs.Keeps.{new_sound}
use Rattle.bq769x0.proofs.Figures.{unread_fits}
use Rattle.procedure.specs.Cells.{Filled}
use Rattle.procedure.specs.Wired.{Shown}
use Rattle.procedure.proofs.Keeps as keeps
use Rattle.procedure.proofs.Sound.{read_adc_sound, init_sound, cells_sound, wired_sound}
use Rattle.procedure.proofs.Fits.{taking_fits, read_adc_readings, init_readings, read_adc_fits, init_fits_always, init_fits, cells_fit, wired_fits}
use Rattle.job_setup.specs.JobInit.{no_device, made_of, job_init}
use Rattle.firmware.specs.JobCells as by-list
use Rattle.firmware.specs.JobCells.{Listed, storing, job_cells}
use Rattle.firmware.specs.JobWired as by-wiring
use Rattle.firmware.specs.JobWired.{Beside, job_wired}
use Rattle.bench.specs.Calls.{record_by}
use Rattle.kept.specs.EveryFunction.{Kept, KeptWhole, InitKeeps, EveryFunction}

-- ---- made
fresh_fits : (x address n : ℕ) (check : Bool) → Fits (fresh x address n check)
fresh_fits x address n check = unread_fits (head_of (fresh x address n check))

made_fits : (y : Answer Done) (d : BQ769x0) → Fits d → Fits (made_by y d).device
made_fits (value done) d e = e
made_fits (refused r) d e = fresh_fits 0 0 0 false

new_fits : (x address n : ℕ) (check : Bool) → Fits (new_for x address n check).device
unfolding new_for
new_fits x address n check = made_fits (device_allowed x address n) (fresh x address n check) (fresh_fits x address n check)

-- ---- a job: the record that is made fits, and so does the one that its calls leave
made_only : {A : Type 0} (y : Answer A) (d d' : BQ769x0) → made_of y d ≡ value d' → Fits d → Fits d'
made_only (value done) d d' e h = subst Fits (same_value e) h
made_only (refused r) d d' e h = refused_not e

job_fits : (job : List ℕ) → always (keeps.Kept Fits) (job_init job)
unfolding job_init keeps.Kept
job_fits bytes =
    always_pure (keeps.Kept Fits) (leaving no_device) _ (λ r. fresh_fits 0 0 0 false) _ λ job e.
    always_pure (keeps.Kept Fits) (leaving no_device) _ (λ r. fresh_fits 0 0 0 false) _ λ device made.
    let asked = job.device in
    let new = new_for asked.x asked.address asked.cells asked.check in
    init_fits_always steps_for device job.config
    (made_only new.answer new.device device made (new_fits asked.x asked.address asked.cells asked.check))

-- with a reading after it: what is stored in the caller's list leaves the record alone
storing_device : (n : ℕ) (mvs : List ℤ) (list : List ℕ) (values : Values) (d : BQ769x0) (y : Answer Done)
    → (storing n mvs list values d y).left.device ≡ d
storing_device n mvs list values d (value done) = refl
storing_device n mvs list values d (refused r) = refl

FitListed : Listed → Type 0
FitListed a = Fits a.left.device

FitBeside : Beside → Type 0
FitBeside a = FitListed a.listed

ready_fits : (list : List ℕ) (d : BQ769x0) (y : Answer Values) → Fits d → always FitListed (by-list.only_ready list d y)
unfolding by-list.read_cells always FitListed keeps.KeptFilled
ready_fits list d (value values) e =
    always_pure FitListed (by-list.unlisted d list) _ (λ r. e) _ λ room t.
    always_after FitListed (keeps.KeptFilled Fits) _ _ (keeps.cells_always Fits d e (taking_fits d) (replicate 15 (pos 0))) λ read h.
    subst⁻¹ Fits (storing_device d.cell_count read.list list values read.device read.answer) h
ready_fits list d (refused r) e = e

wired_ready_fits : (inputs list : List ℕ) (d : BQ769x0) (y : Answer Values) → Fits d → always FitBeside (by-wiring.only_ready inputs list d y)
unfolding by-wiring.read_wired always FitBeside FitListed keeps.KeptShown
wired_ready_fits inputs list d (value values) e =
    always_pure FitBeside (by-wiring.unlisted d inputs list) _ (λ r. e) _ λ room t.
    always_after FitBeside (keeps.KeptShown Fits) _ _ (keeps.wired_always Fits d e (taking_fits d) inputs (replicate 15 (pos 0))) λ read h.
    subst⁻¹ Fits (storing_device d.cell_count read.list list values read.device read.answer) h
wired_ready_fits inputs list d (refused r) e = e

job_cells_fit : (job list : List ℕ) → always FitListed (job_cells job list)
unfolding job_cells keeps.Kept
job_cells_fit job list =
    always_after FitListed (keeps.Kept Fits) (job_init job) _ (job_fits job) λ left e. ready_fits list left.device left.answer e

job_wired_fits : (job inputs list : List ℕ) → always FitBeside (job_wired job inputs list)
unfolding job_wired keeps.Kept
job_wired_fits job inputs list =
    always_after FitBeside (keeps.Kept Fits) (job_init job) _ (job_fits job) λ left e. wired_ready_fits inputs list left.device left.answer e

-- ---- so of every outcome that meets the promise
init_kept : InitKeeps
init_kept d d' config b after a e =
    subst⁻¹ (λ (x : Ran (Left Values)). KeptWhole d x.answer.device) e
    ((init_sound steps_for d config b, init_fits steps_for d config b), init_readings d.readings steps_for d config b refl)

pub every_function : EveryFunction
unfolding keeps.Kept FitListed FitBeside
every_function = record {
  «bq769x0::BQ769x0::new» = λ x address n check r e. (
    new_sound x address n check e,
    subst⁻¹ (λ (l : Left Done). Fits l.device) e (new_fits x address n check),
  );
  «bq769x0::BQ769x0::of_head» = λ head r e. subst⁻¹ Fits e (unread_fits head);
  «bq769x0::BQ769x0::of_parts» = λ link n adc shunt mark r e. subst⁻¹ Fits e (unread_fits (head_of (of_parts link n adc shunt mark)));
  «bench::record_by» = λ x n address check gain b51 shunt r e.
      subst⁻¹ Fits e (unread_fits (head_of (record_by x n address check gain b51 shunt)));
  «bq769x0::BQ769x0::set_head» = λ d d' head e count h.
      subst⁻¹ Fits e (subst⁻¹ (λ (n : ℕ). d.readings.spread ≡ spread_of (first_cells n d.readings.wired)) count h);
  «bq769x0::BQ769x0::store_calibration» = λ d d' adc e h. subst⁻¹ Fits e h;
  «bq769x0::BQ769x0::store_readings» = λ d d' readings e h. subst⁻¹ Fits e h;
  «setup::calibrate::read_adc_characteristics» = λ d d' b after a e.
      subst⁻¹ (λ (x : Ran (Left Done)). KeptWhole d x.answer.device) e
      ((read_adc_sound d b, read_adc_fits d b), read_adc_readings d.readings d b refl);
  «setup::init» = init_kept;
  «recovered::init» = init_kept;
  «cells::crate_list::cell_voltages» = λ d d' list list' b after a e.
      subst⁻¹ (λ (x : Ran Filled). Kept d x.answer.device) e ((λ s. cells_sound d s list b), (λ f. cells_fit d f list b));
  «cells::wired::wired» = λ d d' inputs inputs' list list' b after a e.
      subst⁻¹ (λ (x : Ran Shown). Kept d x.answer.device) e
      ((λ s. wired_sound d s inputs list b), (λ f. wired_fits d f inputs list b));
  «job_setup::init» = λ d' job b after a e.
      subst⁻¹ (λ (x : Ran (Left Values)). Fits x.answer.device) e (on_tape_lem (keeps.Kept Fits) (job_init job) (job_fits job) b);
  «firmware::init_cells» = λ d' job list list' b after a e.
      subst⁻¹ (λ (x : Ran Listed). Fits x.answer.left.device) e (on_tape_lem FitListed (job_cells job list) (job_cells_fit job list) b);
  «firmware::init_wired» = λ d' job inputs inputs' list list' b after a e.
      subst⁻¹ (λ (x : Ran Beside). Fits x.answer.listed.left.device) e
      (on_tape_lem FitBeside (job_wired job inputs list) (job_wired_fits job inputs list) b);
}
