-- A field that is whole, and says that all was done.
-- Assumes nothing.
use Rattle.std.proofs.Common.{◌+◌, ◌≤◌, length, arith, sym, ◌∙◌}
use borrow.Author.Tests.{leb-true}
use Rattle.raw.proofs.Heard.{at_done}
use Rattle.raw.proofs.well.is_done.Goals as goal

pub returns : goal.returns
returns c e =
    let a = c.args in
    let there : a.from + (a.want + 3) ≤ length a.tape.now = leb-true _ _ (sym c.has_room.ensures ∙ c.if-not-has_room.false) in
    at_done a.want a.from a.tape.now _ c.be_u16.ensures (omega arith) e
