-- Where the log has room and the tape says that all was done, the read is done.
-- Assumes nothing.
use Rattle.std.proofs.Common.{length, sym, ◌∙◌}
use mathlib.Core.Bool.{and-eq-true_iff}
use borrow.Author.Tests.{leb-true}
use Rattle.fields.specs.Fields.{field}
use Rattle.bus.specs.Transfers.{read, log_field, wanted}
use Rattle.bus.specs.Lent.{held}
use Rattle.raw.proofs.Moves.{well}
use Rattle.raw.proofs.well.got.Goals as goal

pub take-requires-clause-heard : goal.take-requires-clause-heard
unfolding wanted log_field field
take-requires-clause-heard c =
    let a = c.args in
    let both = (and-eq-true_iff _ _).0 c.if-can.true in
    well (read a.address a.reg (length a.buf.now)) (held a.bus.now) (leb-true _ _ (sym c.has_room.ensures ∙ both.0)) (c.is_done.ensures both.1)
