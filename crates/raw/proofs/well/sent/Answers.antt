-- Where the log has room and the tape says that all was done, the write is done.
-- Assumes nothing.
use Rattle.std.proofs.Common.{◌+◌, ◌≤◌, length, arith, sym, ◌∙◌}
use mathlib.Core.Bool.{and-eq-true_iff}
use borrow.Author.Tests.{leb-true}
use Rattle.bus.specs.Transfers.{write, wanted}
use Rattle.bus.specs.Lent.{held}
use Rattle.raw.proofs.Moves.{well, need}
use Rattle.raw.proofs.well.sent.Goals as goal

pub put-requires : goal.put-requires
unfolding wanted
put-requires c =
    let a = c.args in
    let both = (and-eq-true_iff _ _).0 c.if-can.true in
    let room : a.bus.now.at.log + (4 + length a.frame.now) ≤ length a.bus.now.log.now = leb-true _ _ (sym c.has_room.ensures ∙ both.0) in
    record {
      heard = well (write a.address a.frame.now) (held a.bus.now) (omega (arith, need a.address a.frame.now, room)) (c.is_done.ensures both.1);
    }
