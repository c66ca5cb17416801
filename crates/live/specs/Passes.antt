-- The calls that C has, on a live bus, as include/bq769x0_live.h makes them: in passes, by what C is given of each.
-- Assumes nothing.
use Rattle.std.specs.Prelude.{◌≡◌, List, [], ◌∷◌, ◌++◌, ℕ, ◌≤◌, length}
use Rattle.bus.specs.Transfers.{Transfer, Outcome, wanted}
use Rattle.bus.specs.Programs.{Prog, Ran}
use Rattle.bus.specs.Raw.{Done}
use Rattle.bus.specs.Decoders.{Fitting}
use Rattle.chip.specs.Devices.{Reached, reached}
use Rattle.chip.specs.Live.{Used, and_fault, Passes, Goes}
use Rattle.job_setup.specs.JobInit.{job_init}
use Rattle.firmware.specs.Handed.{Handed, as_c, as_number, as_done, tape_used, log_used}
use Rattle.firmware.specs.JobBalance.{job_balance_set, job_balance_get}
use Rattle.firmware.specs.JobCells.{HandedList, job_cells, as_list}
use Rattle.firmware.specs.JobWired.{HandedBoth, job_wired, as_both}

-- ---- a bus: what it answers to a transfer, by those that were made on it before
abbrev pub Answers : Type 0
Answers = List Transfer → Transfer → Outcome

-- it answers with the bytes that are wanted, or with some of them and a fault
abbrev pub Fit : Answers → Type 0
Fit answers = (before : List Transfer) (t : Transfer) → Fitting (wanted t) (answers before t)

-- as a device, whose state is the transfers made on it
abbrev pub on_bus : Answers → List Transfer → Transfer → Reached (List Transfer) Outcome
on_bus answers before t = reached (answers before t) (before ++ t ∷ [])

-- ---- a call: by its program, what C is given of a run of it, and what C goes by of that; and what a pass that comes to the fault keeps
module _ {A O : Type 0} (p : Prog A) (given : Ran A → O) (used : O → Used) (Kept : O → Type 0) (most room : ℕ) where
  -- A pass with this tape and log, of which o is given. Let the log have had so much room at first. Whatever passes came before it, and
  -- whatever bus it is, it goes as it should.
  abbrev pub OnEveryBus : List ℕ → List ℕ → O → Type 0
  OnEveryBus tape log o =
      (answers : Answers) → Fit answers → (first : List ℕ) → room ≤ length first
      → (n : ℕ) (made : List Transfer) (so_far : List ℕ) → Passes (on_bus answers) p given used [] first n made so_far log
      → tape ≡ and_fault so_far
      → Goes (on_bus answers) p given used Kept most [] first n made so_far o

-- C goes by the positions in out
abbrev pub used_of : Handed → Used
used_of h = record { tape = tape_used h.out; log = log_used h.out; bytes = h.log }

-- ---- the calls: in at most so many passes, with so many bytes of log; lists and spread stay as they were until the last pass
abbrev pub InitLive : List ℕ → List ℕ → List ℕ → Handed → Type 0
InitLive job = OnEveryBus (job_init job) as_c used_of (λ h. Done) 8 52

abbrev pub CellsLive : List ℕ → List ℕ → List ℕ → List ℕ → HandedList → Type 0
CellsLive job list = OnEveryBus (job_cells job list) as_list (λ o. used_of o.handed) (λ o. o.list ≡ list) 9 59

abbrev pub WiredLive : List ℕ → List ℕ → List ℕ → List ℕ → List ℕ → List ℕ → HandedBoth → Type 0
WiredLive job inputs list spread =
    OnEveryBus (job_wired job inputs list) (as_both spread) (λ o. used_of o.handed.handed)
    (λ o. (o.inputs ≡ inputs) × (o.handed.list ≡ list) × (o.spread ≡ spread)) 9 59

abbrev pub SetLive : List ℕ → ℕ → ℕ → List ℕ → List ℕ → Handed → Type 0
SetLive device set limit = OnEveryBus (job_balance_set device set limit) as_done used_of (λ h. Done) 3 15

abbrev pub GetLive : List ℕ → List ℕ → List ℕ → Handed → Type 0
GetLive device = OnEveryBus (job_balance_get device) as_number used_of (λ h. Done) 2 7
