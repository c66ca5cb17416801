-- `cells::taking::by_wiring` meets its contract: a turn goes on from i cells to i + 1.
-- Assumes nothing.
use Rattle.std.proofs.Common.{◌≡◌, map, length, T, sym, subst, ◌∙◌, arith, length-set, w32}
use lib.ListN.{length-map}
use lib.Seq.{take-length}
use Rattle.sizes.specs.Sizes.{is_count}
use Rattle.laws.proofs.Over.{map_next}
use Rattle.numbers.proofs.Signed.{read_back}
use Rattle.procedure.specs.Taking.{of_input}
use Rattle.cells.proofs.Taken.{many, on_device, volts_are}
use Rattle.cells.proofs.taking.by_wiring.Goals as goal
use Rattle.cells.proofs.taking.by_wiring.Goals.{Start}

pack : (s : Start) → T (is_count s.args.x s.args.cell_count)
pack s = subst T (sym s.requires.pack) tt

pub overflow_sub-list : goal.overflow_sub-list
overflow_sub-list c =
    let s = (goal.at.overflow_sub-list c).Start in
    (on_device s.args.x s.args.cell_count (pack s) c.fitted-fitted.ensures c.loop-i.i c.loop-i-test.true).0

pub bounds-inputs-input : goal.bounds-inputs-input
bounds-inputs-input c =
    let s = (goal.at.bounds-inputs-input c).Start in
    omega (arith, on_device s.args.x s.args.cell_count (pack s) c.fitted-fitted.ensures c.loop-i.i c.loop-i-test.true)

pub bounds-list-i : goal.bounds-list-i
bounds-list-i c =
    let s = (goal.at.bounds-list-i c).Start in
    omega (arith, many s.args.x s.args.cell_count (pack s) c.fitted-fitted.ensures, c.loop-i.invariant.1)

pub loop-i-preserved : goal.loop-i-preserved
loop-i-preserved c =
    let s = (goal.at.loop-i-preserved c).Start in
    let l = c.loop-i in
    let many = many s.args.x s.args.cell_count (pack s) c.fitted-fitted.ensures in (
      map_next (of_input s.args.inputs.now) c.fitted-fitted.result.now s.args.list.now l.i 0 l.invariant.0 (read_back w32 _ (omega arith))
          (omega arith)
          (omega (arith, many)),
      simp length-set l.invariant.1,
    )

pub returns : goal.returns
returns c =
    let s = (goal.at.returns c).Start in
    let of = of_input s.args.inputs.now in
    let row = c.fitted-fitted.result.now in
    let all : c.loop-i.i ≡ length (map of row) = omega (arith, length-map row of) in
    c.loop-i.invariant.0
    ∙ rw (all, take-length (map of row), volts_are s.args.x s.args.cell_count (pack s) c.fitted-fitted.ensures s.args.inputs.now)
