-- Without room it is 17; with room it is as the tape says.
-- Assumes nothing.
use Rattle.std.proofs.Common.{sym, ◌∙◌}
use Rattle.bus.proofs.Order.{full, with_room}
use Rattle.raw.proofs.Heard.{stops}
use Rattle.raw.proofs.transfer.answer.Goals as goal

pub returns-then-not-has_room : goal.returns-then-not-has_room
returns-then-not-has_room c = stops _ _ _ _ (full _ _ _ _ _ (sym c.has_room.ensures ∙ c.if-not-has_room.true))

pub returns : goal.returns
returns c =
    let fits = sym c.has_room.ensures ∙ c.if-not-has_room.false in
    rw (with_room _ _ _ _ _ fits) c.hear.ensures
