-- Where a byte is the same, what is left gives what the whole gives; where it differs it is named, and after the last all is done.
-- Assumes nothing.
use Rattle.std.proofs.Common.{arith, sym, ◌∙◌}
use Rattle.bus.proofs.Raws.{compared_same, compared_differs, compared_end}
use Rattle.raw.proofs.compare.Goals as goal

pub returns-then-data-i : goal.returns-then-data-i
returns-then-data-i c =
    sym (c.loop-i.invariant.1 ∙ compared_differs _ _ _ _ (omega arith) c.requires.back_len c.if-data-i.true)

pub loop-i-preserved : goal.loop-i-preserved
loop-i-preserved c = (omega arith, c.loop-i.invariant.1 ∙ compared_same _ _ _ _ (omega arith) c.requires.back_len c.if-data-i.false)

pub returns : goal.returns
returns c = sym (c.loop-i.invariant.1 ∙ compared_end _ c.args.«data».now _ c.loop-i.i (omega arith))
