-- The register is stored, and then the data, with check bytes or alone. Data of over eight bytes has no frame: the lemmas that the
-- function's attribute names say so.
-- Assumes nothing.
use Rattle.std.proofs.Common.{true, false, arith, rules}
use Rattle.frames.specs.Frames.{framed}
use Rattle.frames.proofs.Steps.{sent}
use Rattle.frames.proofs.write_frame.Goals as goal

pub returns-then-check : goal.returns-then-check
unfolding framed
returns-then-check c =
    let a = c.args in
    sent a.check true a.address a.reg a.«data».now a.out.now _ _ c.if-check.true
    (search rules) (search rules) (omega arith) c.put_checked.ensures

pub returns-else-check : goal.returns-else-check
unfolding framed
returns-else-check c =
    let a = c.args in
    sent a.check false a.address a.reg a.«data».now a.out.now _ _ c.if-check.false
    (search rules) (search rules) (omega arith) c.put_alone.ensures
