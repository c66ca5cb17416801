-- What is accepted reports the lower range or the upper, whatever tape and log hold:
-- in bytes 16 to 19 of what C is given stands 0 or 1.
-- Assumes nothing.
use mathlib.Core.Path.{◌≡◌}
use mathlib.Core.Bool.{Bool, true, false, false≢true, not}
use mathlib.Core.List.{List}
use Prim.Native.Nat.{ℕ, ◌<◌}
use native.Mathlib.Omega.{arith}
use lib.IntN.{ℤ, pos}
use lib.ListN.{replicate}
use Rattle.refusals.specs.Refusal.{Answer, value, refused, nine}
use Rattle.plan.specs.Steps.{InMv, steps_for}
use Rattle.plan.specs.Plan.{Values}
use Rattle.plan.specs.InNumbers.{range_number}
use Rattle.plan.specs.declared.Config.{Config}
use Rattle.plan.proofs.Never20.{in_a_range}
use Rattle.job.specs.Jobs.{number_at}
use Rattle.numbers.specs.Numbers.{eight, four}
use Rattle.laws.specs.Choice.{when◌then◌else◌}
use Rattle.bus.specs.Transfers.{Bus}
use Rattle.bus.specs.Programs.{Prog, ret, on_tape}
use Rattle.bus.specs.Raw.{Done}
use Rattle.bus.specs.declared.Cursor.{Cursor}
use Rattle.bq769x0.specs.Record.{Left, leaving, accepts, is_sound}
use Rattle.bq769x0.specs.Registers.{soundly}
use Rattle.procedure.specs.Calibrate.{calibrate}
use Rattle.procedure.specs.Init.{onward, onward_by, start_counter, protect, init_by}
use Rattle.bq769x0.specs.declared.BQ769x0.{BQ769x0}
use Rattle.bus.proofs.Always.{always, on_tape_lem, always_after, always_bind, always_call, always_pure}
use Rattle.procedure.specs.Cells.{cell_voltages}
use Rattle.procedure.specs.Wired.{wired}
use Rattle.job_setup.specs.JobInit.{no_device, job_init}
use Rattle.firmware.specs.JobCells.{Listed, unlisted, storing, read_cells, only_ready, job_cells, as_list}
use Rattle.firmware.specs.JobWired as by-wiring
use Rattle.firmware.specs.JobWired.{Beside, read_wired, job_wired, as_both}
use Rattle.layout.specs.Layout.{laid}
use Rattle.firmware.specs.Handed.{layout, as_c}

abbrev Ranged : Answer Values → Type 0
Ranged (value v) = range_number v.range < 2
Ranged (refused r) = Unit {0}

abbrev InRange : Left Values → Type 0
InRange left = Ranged left.answer

-- ---- `init`
start_counter_in : (d : BQ769x0) (values : Values) → range_number values.range < 2
    → always InRange (start_counter d values)
unfolding start_counter always
start_counter_in d values h =
    always_call InRange (leaving d) _ (λ r. tt) _ λ byte.
    always_call InRange (leaving d) _ (λ r. tt) _ λ done.
    h

protect_in_lem : (config : Config) (steps : InMv) (d : BQ769x0) → always InRange (protect config steps d)
unfolding protect
protect_in_lem config steps d =
    always_pure InRange (leaving d) _ (λ r. tt) _ λ plan e.
    always_call InRange (leaving d) _ (λ r. tt) _ λ done.
    start_counter_in _ plan.values
    (in_a_range _ _ config _ _ (λ range. range_number range < 2) (omega arith) (omega arith) e)

onward_in : (config : Config) (steps : InMv) (d : BQ769x0) (y : Answer Done)
    → always InRange (onward_by (protect config steps) d y)
unfolding onward_by always
onward_in config steps d (value done) = protect_in_lem config steps d
onward_in config steps d (refused r) = tt

init_in : (choose : Config → Answer InMv) (d : BQ769x0) (config : Config) → always InRange (init_by choose d config)
unfolding init_by soundly onward always
init_in choose d config =
    by (is_sound d) _
    (always_pure InRange (leaving d) _ (λ r. tt) (choose config) λ steps e.
    always_bind InRange (calibrate d) (onward (protect config steps)) λ left.
    onward_in config steps left.device left.answer)
  where
    by : (t : Bool) (p : Prog (Left Values)) → always InRange p
        → always InRange (when not t then ret (leaving d nine) else p)
    by true p h = h
    by false p h = tt

job_in : (bytes : List ℕ) → always InRange (job_init bytes)
unfolding job_init
job_in bytes =
    always_pure InRange (leaving no_device) _ (λ r. tt) _ λ job e.
    always_pure InRange (leaving no_device) _ (λ r. tt) _ λ device q.
    init_in steps_for device job.config

-- ---- and a cell reading after it
ListedIn : Listed → Type 0
ListedIn l = Ranged l.left.answer

storing_in : (n : ℕ) (mvs : List ℤ) (list : List ℕ) (values : Values) (d : BQ769x0) (y : Answer Done)
    → range_number values.range < 2 → ListedIn (storing n mvs list values d y)
unfolding ListedIn
storing_in n mvs list values d (value done) h = h
storing_in n mvs list values d (refused r) h = tt

ready_in : (list : List ℕ) (d : BQ769x0) (y : Answer Values) → Ranged y → always ListedIn (only_ready list d y)
unfolding read_cells always ListedIn
ready_in list d (value values) h =
    always_pure ListedIn (unlisted d list) _ (λ r. tt) _ λ room e.
    always_bind ListedIn (cell_voltages d (replicate 15 (pos 0))) _ λ read.
    storing_in _ read.list list values read.device read.answer h
ready_in list d (refused r) h = tt

cells_in : (bytes list : List ℕ) → always ListedIn (job_cells bytes list)
unfolding job_cells
cells_in bytes list =
    always_after ListedIn InRange (job_init bytes) _ (job_in bytes) λ left h.
    ready_in list left.device left.answer h

-- ---- the same by the wiring
BesideIn : Beside → Type 0
BesideIn b = ListedIn b.listed

wired_ready_in : (inputs list : List ℕ) (d : BQ769x0) (y : Answer Values) → Ranged y
    → always BesideIn (by-wiring.only_ready inputs list d y)
unfolding read_wired always BesideIn ListedIn
wired_ready_in inputs list d (value values) h =
    always_pure BesideIn (by-wiring.unlisted d inputs list) _ (λ r. tt) _ λ room e.
    always_bind BesideIn (wired d inputs (replicate 15 (pos 0))) _ λ read.
    storing_in _ read.list list values read.device read.answer h
wired_ready_in inputs list d (refused r) h = tt

wired_in : (bytes inputs list : List ℕ) → always BesideIn (job_wired bytes inputs list)
unfolding job_wired
wired_in bytes inputs list =
    always_after BesideIn InRange (job_init bytes) _ (job_in bytes) λ left h.
    wired_ready_in inputs list left.device left.answer h

-- ---- what C is given
laid_in : (y : Answer Values) (at : Cursor) → Ranged y → accepts y ≡ true → number_at (layout y at) 16 < 2
unfolding laid eight four
laid_in (value v) at h e = omega arith
laid_in (refused r) at h e = absurd (false≢true e)

pub init_range : (bytes : List ℕ) (b : Bus) → accepts (on_tape (job_init bytes) b).answer.answer ≡ true
    → number_at (as_c (on_tape (job_init bytes) b)).out 16 < 2
init_range bytes b =
    laid_in (on_tape (job_init bytes) b).answer.answer _
    (on_tape_lem InRange (job_init bytes) (job_in bytes) b)

pub cells_range : (bytes list : List ℕ) (b : Bus)
    → accepts (on_tape (job_cells bytes list) b).answer.left.answer ≡ true
    → number_at (as_list (on_tape (job_cells bytes list) b)).handed.out 16 < 2
unfolding ListedIn
cells_range bytes list b =
    laid_in (on_tape (job_cells bytes list) b).answer.left.answer _
    (on_tape_lem ListedIn (job_cells bytes list) (cells_in bytes list) b)

pub wired_range : (bytes inputs list lent : List ℕ) (b : Bus)
    → accepts (on_tape (job_wired bytes inputs list) b).answer.listed.left.answer ≡ true
    → number_at (as_both lent (on_tape (job_wired bytes inputs list) b)).handed.handed.out 16 < 2
unfolding BesideIn ListedIn
wired_range bytes inputs list lent b =
    laid_in (on_tape (job_wired bytes inputs list) b).answer.listed.left.answer _
    (on_tape_lem BesideIn (job_wired bytes inputs list) (wired_in bytes inputs list) b)
