-- The frame stands first in the buffer, which has room for it.
-- Assumes nothing.
use Rattle.std.proofs.Common.{Ok, Err, refl, sym}
use Rattle.std.proofs.lemmas.Result.{err_from_is_err_and}
use lib.Seq.{length-take-le}
use Rattle.raw.proofs.Asked.{write_sent, frame_room, frame_sent}
use Rattle.raw.proofs.send_frame.Goals as goal

pub slice_bounds-out-end : goal.slice_bounds-out-end
slice_bounds-out-end c =
    let k = c.args.link in
    let w = c.write_frame-n in
    frame_room k.check k.address c.args.reg c.args.«data».now c.requires _ w.new.out w.result refl w.ensures.0 w.ensures.1

pub slice_bounds-transfer_write-end : goal.slice_bounds-transfer_write-end
slice_bounds-transfer_write-end c =
    let k = c.args.link in
    let w = c.write_frame-n in
    sym (length-take-le _ _ (frame_room k.check k.address c.args.reg c.args.«data».now c.requires _ w.new.out w.result refl w.ensures.0 w.ensures.1))

pub returns-in_err-transfer_write : goal.returns-in_err-transfer_write
returns-in_err-transfer_write c =
    let k = c.args.link in
    let w = c.write_frame-n in
    let p = err_from_is_err_and c.from_residual.result c.from_residual.ensures.1 in
    let sent = frame_sent k.check k.address c.args.reg c.args.«data».now c.requires _ w.new.out w.result refl w.ensures.0 w.ensures.1 in
    let e = c.in_err-transfer_write.field-0.0 in
    rw (p.1, p.2) (write_sent k c.args.reg c.args.«data».now _ (Err e) refl sent c.in_err-transfer_write.ensures.0, c.in_err-transfer_write.ensures.1)

pub returns : goal.returns
returns c =
    let k = c.args.link in
    let w = c.write_frame-n in
    let sent = frame_sent k.check k.address c.args.reg c.args.«data».now c.requires _ w.new.out w.result refl w.ensures.0 w.ensures.1 in
    let m = c.in_ok-transfer_write.field-0 in
    (write_sent k c.args.reg c.args.«data».now _ (Ok m) c.done.ensures sent c.in_ok-transfer_write.ensures.0, c.in_ok-transfer_write.ensures.1)
