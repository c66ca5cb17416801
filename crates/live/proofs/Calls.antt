-- The calls that C has, on a live bus: whatever they are given, and on every bus whose answers fit, the passes end as the call does on the bus
-- itself. A job set up takes at most eight passes and 52 bytes of log, with a reading of the cells nine and 59; a set balanced takes three and
-- 15, and one read back two and 7.
-- Assumes nothing.
use mathlib.Core.Path.{◌≡◌, refl, sym, ap, ap₂, subst, ◌∙◌}
use mathlib.Core.Bool.{not}
use mathlib.Core.List.{List, []}
use Prim.Native.Nat.{ℕ, ◌*◌, ◌≤◌, ◌<◌}
use native.Mathlib.Omega.{arith}
use lib.IntN.{ℤ, pos}
use lib.ListN.{replicate}
use Rattle.refusals.specs.Refusal.{Answer, value, refused}
use Rattle.plan.specs.Steps.{steps_for}
use Rattle.plan.specs.Plan.{Values}
use Rattle.plan.specs.InNumbers.{init_numbers}
use Rattle.plan.specs.declared.Config.{Config}
use Rattle.plan.specs.declared.answer.InitNumbers.{InitNumbers}
use Rattle.layout.specs.Layout.{laid}
use Rattle.cellbal.specs.Registers.{register_count, registers_for}
use Rattle.bus.specs.Transfers.{Bus, start, bus_of}
use Rattle.bus.specs.Programs.{Prog, Ran, on_tape}
use Rattle.bus.specs.Raw.{Done}
use Rattle.bq769x0.specs.Record.{Left, is_sound}
use Rattle.bq769x0.specs.Registers.{soundly}
use Rattle.bq769x0.specs.declared.BQ769x0.{BQ769x0}
use Rattle.procedure.specs.Inputs.{read_inputs}
use Rattle.procedure.specs.Cells as cells
use Rattle.procedure.specs.Cells.{Filled, cell_voltages}
use Rattle.procedure.specs.Wired as wiring
use Rattle.procedure.specs.Wired.{Shown, wired}
use Rattle.procedure.specs.Init.{init_by}
use Rattle.job.specs.Jobs.{job_of}
use Rattle.job_setup.specs.JobInit.{device_made, job_init}
use Rattle.firmware.specs.Handed.{Handed, as_c, one_number, no_number, as_number, as_done, tape_used, log_used}
use Rattle.firmware.specs.JobBalance.{record_of, job_balance_set, job_balance_get}
use Rattle.firmware.specs.JobCells as by-list
use Rattle.firmware.specs.JobCells.{Listed, storing, HandedList, job_cells, as_list}
use Rattle.firmware.specs.JobWired as by-wiring
use Rattle.firmware.specs.JobWired.{Beside, job_wired, spread_in, HandedBoth, as_both}
use Rattle.firmware.proofs.Positions.{tape_position, log_position}
use Rattle.chip.specs.Live.{Used, used_by}
use Rattle.chip.proofs.Live.{live}
use Rattle.chip.proofs.Makes.{Makes, no_more, makes_on, makes_write}
use Rattle.chip.proofs.Quits.{Over, over, Refuses, refuses_by}
use Rattle.runs.proofs.Fine.{fine_more}
use Rattle.commands.specs.Commands.{balance_set, balance_get}
use Rattle.model.proofs.Balanced.{Program, refuses, writes, program, set_fine}
use Rattle.recovery.proofs.Asked.{LeftOff, init_fine, enough_most}
use Rattle.recovery.proofs.Makes.{init_makes}
use Rattle.live.specs.Passes.{on_bus, OnEveryBus, used_of, InitLive, CellsLive, WiredLive, SetLive, GetLive}
use Rattle.live.proofs.Small.{Small, small_ret, small_if, small_bind, small_call, small_pure, small_read}

-- ---- a job set up
init_small : (config : Config) (d : BQ769x0) → Small LeftOff 7 52 (init_by steps_for d config)
init_small config d =
    record { fine = fine_more (enough_most d.link.check) (init_fine steps_for config d); makes = init_makes steps_for config d }

job_small : (job : List ℕ) → Small LeftOff 7 52 (job_init job)
unfolding job_init
job_small bytes =
    small_pure 7 52 _ _ (job_of bytes) λ job e.
    small_pure 7 52 _ _ (device_made job.device) λ device e.
    init_small job.config device

-- ---- a reading
-- where it leaves off it refuses, and by the wiring the inputs are as they were
abbrev FilledOff : Filled → Type 0
FilledOff f = Refuses f.answer

abbrev ShownOff : List ℕ → Shown → Type 0
ShownOff inputs s = Refuses s.answer × (s.inputs ≡ inputs)

module _ (d : BQ769x0) where
  inputs_small : Small Refuses 1 7 (read_inputs d.link d.adc)
  unfolding read_inputs
  inputs_small = small_call 1 7 0 0 _ _ (small_read d.link 0x0C (2 * d.link.x)) (λ bytes. small_ret Refuses 0 0 _) refuses_by

  cells_small : (list : List ℤ) → Small FilledOff 1 7 (cell_voltages d list)
  unfolding cell_voltages soundly cells.read_cells
  cells_small list =
      small_if 1 7 (not (is_sound d)) (small_ret FilledOff 1 7 _)
      (small_pure 1 7 _ _ _ λ x e. small_call 1 7 0 0 _ _ inputs_small (λ inputs. small_ret FilledOff 0 0 _) refuses_by)

  wired_small : (inputs : List ℕ) (list : List ℤ) → Small (ShownOff inputs) 1 7 (wired d inputs list)
  unfolding wired soundly wiring.read_wired
  wired_small inputs list =
      small_if 1 7 (not (is_sound d)) (small_ret (ShownOff inputs) 1 7 _)
      (small_pure 1 7 _ _ _ λ x e.
      small_call 1 7 0 0 _ _ inputs_small (λ readings. small_ret (ShownOff inputs) 0 0 _) (λ r. (refuses_by r, refl)))

-- ---- and both: where they leave off the lists are as they were
module _ (list : List ℕ) where
  abbrev ListedOff : Listed → Type 0
  ListedOff a = a.list ≡ list

  stored_off : (n : ℕ) (mvs : List ℤ) (values : Values) (d : BQ769x0) (y : Answer Done) → Refuses y
      → (storing n mvs list values d y).list ≡ list
  stored_off n mvs values d y (refuses_by r) = refl

  stored_refuses : (n : ℕ) (mvs : List ℤ) (values : Values) (d : BQ769x0) (y : Answer Done) → Refuses y
      → Refuses (storing n mvs list values d y).left.answer
  stored_refuses n mvs values d y (refuses_by r) = refuses_by r

  ready_small : (d : BQ769x0) (y : Answer Values) → Small ListedOff 1 7 (by-list.only_ready list d y)
  unfolding by-list.read_cells
  ready_small d (value values) =
      small_pure 1 7 _ _ _ λ x e.
      small_bind 1 7 0 0 _ (cells_small d (replicate 15 (pos 0))) (λ read. small_ret ListedOff 0 0 _)
      (λ read q. over (stored_off d.cell_count read.list values read.device read.answer q))
  ready_small d (refused r) = small_ret ListedOff 1 7 _

  unready : (d : BQ769x0) (y : Answer Values) → Refuses y → Over ListedOff (by-list.only_ready list d y)
  unready d y (refuses_by r) = over refl

  job_cells_small : (job : List ℕ) → Small ListedOff 8 59 (job_cells job list)
  unfolding job_cells
  job_cells_small job =
      small_bind 7 52 1 7 _ (job_small job) (λ left. ready_small left.device left.answer)
      (λ left q. unready left.device left.answer q)

  module _ (inputs : List ℕ) where
    abbrev BesideOff : Beside → Type 0
    BesideOff a = (a.inputs ≡ inputs) × (a.listed.list ≡ list) × Refuses a.listed.left.answer

    ready_wired_small : (d : BQ769x0) (y : Answer Values) → Small BesideOff 1 7 (by-wiring.only_ready inputs list d y)
    unfolding by-wiring.read_wired
    ready_wired_small d (value values) =
        small_pure 1 7 _ _ _ λ x e.
        small_bind 1 7 0 0 _ (wired_small d inputs (replicate 15 (pos 0))) (λ read. small_ret BesideOff 0 0 _)
        (λ read q. over (
          q.1,
          stored_off d.cell_count read.list values read.device read.answer q.0,
          stored_refuses d.cell_count read.list values read.device read.answer q.0,
        ))
    ready_wired_small d (refused r) = small_ret BesideOff 1 7 _

    unready_wired : (d : BQ769x0) (y : Answer Values) → Refuses y → Over BesideOff (by-wiring.only_ready inputs list d y)
    unready_wired d y (refuses_by r) = over (refl, refl, refuses_by r)

    job_wired_small : (job : List ℕ) → Small BesideOff 8 59 (job_wired job inputs list)
    unfolding job_wired
    job_wired_small job =
        small_bind 7 52 1 7 _ (job_small job) (λ left. ready_wired_small left.device left.answer)
        (λ left q. unready_wired left.device left.answer q)

-- ---- balancing
module _ (set limit : ℕ) where
  set_small : (d : BQ769x0) → Small Refuses 2 15 (balance_set d set limit)
  set_small d = record { fine = set_fine d set limit; makes = by (program d set limit) }
    where
      by : Program d set limit → Makes 2 (balance_set d set limit)
      by (refuses r least none e) = subst (Makes 2) (sym e) no_more
      by (writes ok fits new e) = subst (Makes 2) (sym e) (makes_write d.link 0x01 (registers_for d.link.x set))

  job_set_small : (device : List ℕ) → Small Refuses 2 15 (job_balance_set device set limit)
  unfolding job_balance_set
  job_set_small device = small_pure 2 15 _ _ (record_of device) λ d e. set_small d

get_small : (d : BQ769x0) → Small Refuses 1 7 (balance_get d)
unfolding balance_get soundly
get_small d =
    small_if 1 7 (not (is_sound d)) (small_ret Refuses 1 7 _)
    (small_call 1 7 0 0 _ _ (small_read d.link 0x01 (register_count d.link.x)) (λ bytes. small_ret Refuses 0 0 _) refuses_by)

job_get_small : (device : List ℕ) → Small Refuses 1 7 (job_balance_get device)
unfolding job_balance_get
job_get_small device = small_pure 1 7 _ _ (record_of device) λ d e. get_small d

-- ---- in passes
small_goes : {A O : Type 0} {Off : A → Type 0} {m n : ℕ} {p : Prog A} → Small Off m n p
    → (given : Ran A → O) (used : O → Used) → ((r : Ran A) → used (given r) ≡ used_by r)
    → (Kept : O → Type 0) → ((r : Ran A) → Off r.answer → Kept (given r))
    → (most room : ℕ) → m < most → n ≤ room → (tape log : List ℕ) (o : O) → o ≡ given (on_tape p (bus_of tape log start))
    → OnEveryBus p given used Kept most room tape log o
small_goes {A} {p = p} h given used faithful Kept kept most room few enough tape log o is answers fit first roomy n made so_far passes t =
    live (on_bus answers) fit h.fine.short h.fine.quits [] given used faithful first
    (omega (arith, h.fine.logs.most (on_bus answers) [], roomy, enough))
    Kept kept most (omega (arith, makes_on (on_bus answers) h.makes [], few)) passes o
    (is ∙ ap (λ (x : List ℕ). given (on_tape p (bus_of x log start))) t)

-- what C goes by is how far the run used tape and log
abbrev used_as : ℕ → ℕ → List ℕ → Used
used_as tape log bytes = record { tape = tape; log = log; bytes = bytes }

as_used : (numbers : InitNumbers) (b : Bus)
    → used_as (tape_used (laid b.at numbers)) (log_used (laid b.at numbers)) b.log ≡ used_as b.at.tape b.at.log b.log
as_used numbers b =
    ap₂ (λ (tape log : ℕ). used_as tape log b.log) (tape_position b.at numbers) (log_position b.at numbers)

init_used : (r : Ran (Left Values)) → used_of (as_c r) ≡ used_by r
init_used r = as_used (init_numbers r.answer.answer) r.bus

-- a refusal writes no spread
unwritten : (lent : List ℕ) (d : BQ769x0) (y : Answer Values) → Refuses y → spread_in lent d y ≡ lent
unwritten lent d y (refuses_by r) = refl

module _ (job tape log : List ℕ) where
  pub init_live : {o : Handed} → o ≡ as_c (on_tape (job_init job) (bus_of tape log start)) → InitLive job tape log o
  init_live is = small_goes (job_small job) as_c used_of init_used (λ h. Done) (λ r q. tt) 8 52 (omega arith) (omega arith) tape log _ is

  pub cells_live : (list : List ℕ) {o : HandedList} → o ≡ as_list (on_tape (job_cells job list) (bus_of tape log start))
      → CellsLive job list tape log o
  cells_live list is =
      small_goes (job_cells_small list job) as_list (λ o. used_of o.handed)
      (λ r. init_used (record { answer = r.answer.left; bus = r.bus })) (λ o. o.list ≡ list) (λ r q. q) 9 59 (omega arith) (omega arith)
      tape log _ is

  pub wired_live : (inputs list spread : List ℕ) {o : HandedBoth}
      → o ≡ as_both spread (on_tape (job_wired job inputs list) (bus_of tape log start))
      → WiredLive job inputs list spread tape log o
  wired_live inputs list spread is =
      small_goes (job_wired_small list inputs job) (as_both spread) (λ o. used_of o.handed.handed)
      (λ r. init_used (record { answer = r.answer.listed.left; bus = r.bus }))
      (λ o. (o.inputs ≡ inputs) × (o.handed.list ≡ list) × (o.spread ≡ spread))
      (λ r q. (q.0, q.1, unwritten spread r.answer.listed.left.device r.answer.listed.left.answer q.2))
      9 59 (omega arith) (omega arith) tape log _ is

module _ (device tape log : List ℕ) where
  pub set_live : (set limit : ℕ) {o : Handed} → o ≡ as_done (on_tape (job_balance_set device set limit) (bus_of tape log start))
      → SetLive device set limit tape log o
  set_live set limit is =
      small_goes (job_set_small set limit device) as_done used_of (λ r. as_used (one_number (no_number r.answer)) r.bus) (λ h. Done)
      (λ r q. tt) 3 15 (omega arith) (omega arith) tape log _ is

  pub get_live : {o : Handed} → o ≡ as_number (on_tape (job_balance_get device) (bus_of tape log start)) → GetLive device tape log o
  get_live is =
      small_goes (job_get_small device) as_number used_of (λ r. as_used (one_number r.answer) r.bus) (λ h. Done)
      (λ r q. tt) 2 7 (omega arith) (omega arith) tape log _ is
