-- Where the transfer is not made bus and buffer stay; where it is, its field stands in the log and the bytes delivered in the buffer.
-- Assumes nothing.
use Rattle.std.proofs.Common.{ℕ, ◌+◌, ◌≤◌, length, take, drop, arith, refl, ◌∙◌}
use Rattle.std.proofs.lemmas.Result.{err_from_is_err_and}
use native.Mathlib.Nat.{add-sub_cancel_left}
use Rattle.fields.specs.Fields.{field}
use Rattle.bus.specs.Transfers.{read, Bus, log_field, wanted, outcome, answered}
use Rattle.bus.specs.Lent.{held}
use Rattle.raw.specs.Inside.{Reply, Heard}
use Rattle.raw.proofs.Fields.{put_front}
use Rattle.raw.proofs.Moves.{Replied, room, read_stopped, read_by}
use Rattle.raw.proofs.transfer.transfer_read.Goals as goal

heard : (address reg count : ℕ) (b : Bus) {r : Reply} → Heard count (drop b.at.tape b.tape) (answered count 7 (length b.log) b.tape b.at) r
    → Replied (read address reg count) b r
unfolding outcome wanted log_field field
heard address reg count b h = h

pub returns-in_err-made : goal.returns-in_err-made
returns-in_err-made c =
    let a = c.args in
    let p = err_from_is_err_and c.from_residual.result c.from_residual.ensures.1 in
    rw (p.1, p.2) (read_stopped _ (held a.bus.now) _ (heard a.address a.reg (length a.buf.now) (held a.bus.now) c.in_err-made.ensures) _, refl)

pub log_read-requires : goal.log_read-requires
unfolding log_field field
log_read-requires c =
    let a = c.args in
    room (read a.address a.reg (length a.buf.now)) (held a.bus.now) _ _ (heard a.address a.reg _ (held a.bus.now) c.in_ok-made.ensures)

pub overflow_add-bus : goal.overflow_add-bus
unfolding log_field field
overflow_add-bus c =
    let a = c.args in
    let fits : a.bus.now.at.log + 7 ≤ length a.bus.now.log.now =
    room (read a.address a.reg (length a.buf.now)) (held a.bus.now) _ _ (heard a.address a.reg _ (held a.bus.now) c.in_ok-made.ensures) in
    omega (arith, fits)

pub returns : goal.returns
unfolding log_field field wanted
returns c =
    let a = c.args in
    let m = c.in_ok-made.made in
    let b = held a.bus.now in
    let h = heard a.address a.reg (length a.buf.now) b c.in_ok-made.ensures in
    let copied = rw (add-sub_cancel_left (a.bus.now.at.tape + 3) m.len) at c.copy_in.ensures in
    (read_by _ b m.fault m.len h _ _ 7 c.log_read.ensures refl refl _ _ refl (copied ∙ put_front a.buf.now _ _ _ refl refl), refl)
