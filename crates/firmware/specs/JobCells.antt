-- A job set up, and one cell reading after it, as a program. The caller's list is bytes: four a cell, in two's
-- complement, high byte first.
-- Assumes nothing.
use Rattle.std.specs.Prelude.{ℕ, not, List, ℤ, pos, length, replicate}
use Rattle.refusals.specs.Refusal.{Refusal, Answer, value, refused, refused_if}
use Rattle.plan.specs.Plan.{Values}
use Rattle.bus.specs.Programs.{Prog, ret, Ran, bind, ◌or_leave◌, ◌>>=◌}
use Rattle.bus.specs.Raw.{Done}
use Rattle.bq769x0.specs.Record.{Left, leaves}
use Rattle.bq769x0.specs.declared.BQ769x0.{BQ769x0}
use Rattle.procedure.specs.Cells.{Filled, cell_voltages}
use Rattle.job_setup.specs.JobInit.{job_init}
use Rattle.layout.specs.Cells.{stored, has_room}
use Rattle.firmware.specs.Handed.{Handed, as_c}

-- an answer and the record then, and the caller's list
pub record Listed : Type 0 where
  pub left : Left Values
  pub list : List ℕ

abbrev pub listed : Answer Values → BQ769x0 → List ℕ → Listed
listed a d list = record { left = leaves a d; list = list }

-- a refusal leaves the list as it was
abbrev pub unlisted : BQ769x0 → List ℕ → Refusal → Listed
unlisted d list r = listed (refused r) d list

-- 19
abbrev pub room_for : ℕ → List ℕ → Answer Done
room_for n list = refused_if (not (has_room n (length list))) 19 (value tt)

abbrev pub storing : ℕ → List ℤ → List ℕ → Values → BQ769x0 → Answer Done → Listed
storing n mvs list values d (value done) = listed (value values) d (stored n mvs list)
storing n mvs list values d (refused r) = unlisted d list r

-- the crate's cell reading of a device that was set up with these values
unfoldable pub read_cells : List ℕ → Values → BQ769x0 → Prog Listed
read_cells list values d = do
  _ ← ret (room_for d.cell_count list) or_leave unlisted d list
  bind (cell_voltages d (replicate 15 (pos 0))) λ (read : Filled).
      ret (storing d.cell_count read.list list values read.device read.answer)

abbrev pub only_ready : List ℕ → BQ769x0 → Answer Values → Prog Listed
only_ready list d (value values) = read_cells list values d
only_ready list d (refused r) = ret (unlisted d list r)

unfoldable pub job_cells : List ℕ → List ℕ → Prog Listed
job_cells bytes list = bind (job_init bytes) λ (left : Left Values). only_ready list left.device left.answer

-- ---- what C is given, and its list
pub record HandedList : Type 0 where
  pub handed : Handed
  pub list : List ℕ

abbrev pub as_list : Ran Listed → HandedList
as_list r = record { handed = as_c (record { answer = r.answer.left; bus = r.bus }); list = r.answer.list }
