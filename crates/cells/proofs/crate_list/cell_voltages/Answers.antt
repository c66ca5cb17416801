-- `cells::crate_list::cell_voltages` meets its contract: it tells what the read gave.
-- Assumes nothing.
use Rattle.std.proofs.Common.{◌≡◌, ℕ, List, ◌++◌, length, take, drop, ℤ, T, sym, ap, subst, ◌∙◌, arith, rules}
use lib.Seq.{length-take-le}
use Rattle.laws.specs.Over.{◌over◌}
use Rattle.refusals.specs.Refusal.{Refusal, value, refused}
use Rattle.sizes.proofs.Sizes.{at_most_15}
use Rattle.bus.specs.Transfers.{Bus}
use Rattle.bus.specs.Programs.{ends, on_tape}
use Rattle.bus.specs.Lent.{held}
use Rattle.bq769x0.specs.Figures.{first_cells}
use Rattle.bq769x0.specs.declared.BQ769x0.{BQ769x0}
use Rattle.bq769x0.specs.declared.Readings.{Readings}
use Rattle.procedure.specs.Taking.{taking}
use Rattle.procedure.specs.Cells.{Filled, untouched, listed, read_cells, cell_voltages}
use Rattle.cells.specs.Inside.{reads}
use Rattle.cells.proofs.Taken.{first_volts}
use Rattle.cells.proofs.Told.{tells}
use Rattle.cells.proofs.crate_list.cell_voltages.Goals as goal

module _ (d : BQ769x0) (list : List ℤ) (b b' : Bus) where
  abbrev give : List ℤ → Filled
  give inputs = listed (taking d inputs) list

  unread : (r : Refusal) → ends (refused r) b' ≡ on_tape (reads d (length list)) b → ends (untouched d list r) b' ≡ on_tape (cell_voltages d list) b
  unfolding cell_voltages read_cells
  unread r = tells d (length list) (untouched d list) give b (refused r) b'

  given : (inputs : List ℤ) → ends (value inputs) b' ≡ on_tape (reads d (length list)) b
      → ends (listed (taking d inputs) list) b' ≡ on_tape (cell_voltages d list) b
  unfolding cell_voltages read_cells
  given inputs = tells d (length list) (untouched d list) give b (value inputs) b'

pub returns-in_err-read : goal.returns-in_err-read
returns-in_err-read c =
    let left = unread c.args.device.now c.args.list.now (held c.args.bus.now) _ _ c.in_err-read.ensures.read.0 in
    search (rules, left)

pub take-requires-clause-volts : goal.take-requires-clause-volts
take-requires-clause-volts c =
    let d = c.args.device.now in
    rw c.by_wiring.ensures (first_volts d.link.x d.cell_count (subst T (sym c.in_ok-read.ensures.ready.pack) tt) (take d.link.x c.read.new.inputs) _)

pub returns : goal.returns
returns c =
    let d = c.args.device.now in
    let list = c.args.list.now in
    let readings = take d.link.x c.read.new.inputs in
    let left = given d list (held c.args.bus.now) _ readings c.in_ok-read.ensures.read.0 in
    let n = d.cell_count in
    let copied = c.copy_from_slice.new.self in
    let few = at_most_15 d.link.x n (subst T (sym c.in_ok-read.ensures.ready.pack) tt) in
    let many : length copied ≡ n = ap length c.copy_from_slice.ensures.after ∙ length-take-le n c.take.new.inputs (omega (arith, few, c.take.array_long)) in
    let first : copied ≡ first_cells n (taking d readings).readings.cells =
    c.copy_from_slice.ensures.after ∙ c.take.ensures.moved ∙ ap (λ (r : Readings). first_cells n r.cells) c.take.ensures.stored in
    let filled : copied ++ drop n list ≡ first_cells n (taking d readings).readings.cells over list =
    ap (λ (k : ℕ). copied ++ drop k list) (sym many) ∙ ap (λ (l : List ℤ). l over list) first in
    (rw (c.take.ensures.stored, filled) left, c.read.ensures.read.1)
