-- Where log and tape go so far and the tape says that both were done, the write is done, and the read on what it left.
-- Assumes nothing.
use Rattle.std.proofs.Common.{◌+◌, ◌≤◌, length, arith, sym, ◌∙◌}
use mathlib.Core.Bool.{and-eq-true_iff}
use borrow.Author.Tests.{leb-true}
use Rattle.bus.specs.Transfers.{write, wanted}
use Rattle.bus.specs.Lent.{held}
use Rattle.raw.proofs.Moves.{well, need, read_next}
use Rattle.raw.proofs.well.echoed.Goals as goal

pub put-requires : goal.put-requires
unfolding wanted
put-requires c =
    let a = c.args in
    let rooms = (and-eq-true_iff _ _).0 c.if-not-room.false in
    let dones = (and-eq-true_iff _ _).0 c.if-can.true in
    let room : a.bus.now.at.log + (4 + length a.frame.now + 7) ≤ length a.bus.now.log.now = leb-true _ _ (sym c.has_room.ensures ∙ rooms.0) in
    record {
      heard = well (write a.address a.frame.now) (held a.bus.now) (omega (arith, need a.address a.frame.now, room)) (c.is_done.ensures dones.0);
    }

pub take-requires-clause-heard : goal.take-requires-clause-heard
unfolding wanted
take-requires-clause-heard c =
    let a = c.args in
    let rooms = (and-eq-true_iff _ _).0 c.if-not-room.false in
    let dones = (and-eq-true_iff _ _).0 c.if-can.true in
    read_next a.address a.frame.now (held a.bus.now) (held c.put.new.bus) c.put.ensures.0 a.reg (length a.back.now)
    (leb-true _ _ (sym c.has_room.ensures ∙ rooms.0)) (c.is_done-2.ensures dones.1)
