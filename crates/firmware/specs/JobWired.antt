-- A job set up, and one cell reading by the wiring after it, as a program.
-- Beside the list, of four bytes a cell, the caller lends a byte a cell for the inputs.
-- Assumes nothing.
use Rattle.std.specs.Prelude.{ℕ, List, [], ◌∷◌, pos, replicate}
use Rattle.refusals.specs.Refusal.{Refusal, Answer, value, refused}
use Rattle.plan.specs.Plan.{Values}
use Rattle.bus.specs.Programs.{Prog, ret, Ran, bind, ◌or_leave◌, ◌>>=◌}
use Rattle.bq769x0.specs.Record.{Left}
use Rattle.bq769x0.specs.declared.BQ769x0.{BQ769x0}
use Rattle.procedure.specs.Wired.{Shown, wired}
use Rattle.job_setup.specs.JobInit.{job_init}
use Rattle.layout.specs.Cells.{cell_bytes}
use Rattle.firmware.specs.Handed.{Handed}
use Rattle.firmware.specs.JobCells.{Listed, listed, room_for, storing, HandedList, as_list}

-- an answer, the record and the list, and the inputs beside them
pub record Beside : Type 0 where
  pub listed : Listed
  pub inputs : List ℕ

abbrev pub beside : Answer Values → BQ769x0 → List ℕ → List ℕ → Beside
beside a d inputs list = record { listed = listed a d list; inputs = inputs }

-- a refusal leaves both lists as they were
abbrev pub unlisted : BQ769x0 → List ℕ → List ℕ → Refusal → Beside
unlisted d inputs list r = beside (refused r) d inputs list

-- 19 where the list has not four bytes a cell, and from the reading where inputs has not a byte a cell
unfoldable pub read_wired : List ℕ → List ℕ → Values → BQ769x0 → Prog Beside
read_wired inputs list values d = do
  _ ← ret (room_for d.cell_count list) or_leave unlisted d inputs list
  bind (wired d inputs (replicate 15 (pos 0))) λ (read : Shown). ret (record {
    listed = storing d.cell_count read.list list values read.device read.answer;
    inputs = read.inputs;
  })

abbrev pub only_ready : List ℕ → List ℕ → BQ769x0 → Answer Values → Prog Beside
only_ready inputs list d (value values) = read_wired inputs list values d
only_ready inputs list d (refused r) = ret (unlisted d inputs list r)

unfoldable pub job_wired : List ℕ → List ℕ → List ℕ → Prog Beside
job_wired bytes inputs list =
    bind (job_init bytes) λ (left : Left Values). only_ready inputs list left.device left.answer

-- ---- what C is given, its lists, and the twelve bytes of the spread
-- sum, lowest and highest, four bytes each; a refusal leaves what was lent
abbrev pub spread_in : List ℕ → BQ769x0 → Answer Values → List ℕ
spread_in lent d (value values) =
    let spread = d.readings.spread in
    cell_bytes (spread.sum.0 ∷ spread.lowest.0 ∷ spread.highest.0 ∷ [])
spread_in lent d (refused r) = lent

pub record HandedBoth : Type 0 where
  pub handed : HandedList
  pub inputs : List ℕ
  pub spread : List ℕ

abbrev pub handed_both : Handed → List ℕ → List ℕ → List ℕ → HandedBoth
handed_both h inputs list spread = record { handed = record { handed = h; list = list }; inputs = inputs; spread = spread }

-- by the twelve bytes as they were lent
abbrev pub as_both : List ℕ → Ran Beside → HandedBoth
as_both lent r =
    let listed = r.answer.listed in
    record {
      handed = as_list (record { answer = listed; bus = r.bus });
      inputs = r.answer.inputs;
      spread = spread_in lent listed.left.device listed.left.answer;
    }
