-- After the copy the bytes delivered stand in the buffer.
-- Assumes nothing.
use Rattle.std.proofs.Common.{◌≡◌, ◌+◌, ◌≤◌, length, take, drop, arith, refl, sym, ◌∙◌}
use native.Mathlib.Nat.{add-sub_cancel_left}
use Rattle.frames.proofs.Put.{put_all}
use Rattle.fields.specs.Fields.{field}
use Rattle.bus.specs.Transfers.{read, log_field, wanted}
use Rattle.bus.specs.Lent.{held}
use Rattle.raw.proofs.Moves.{room, length_bytes, read_by}
use Rattle.raw.proofs.well.take.Goals as goal

pub log_read-requires : goal.log_read-requires
unfolding log_field field wanted
log_read-requires c =
    let a = c.args in
    room (read a.address a.reg (length a.buf.now)) (held a.bus.now) _ _ c.requires.heard

pub overflow_add-bus : goal.overflow_add-bus
unfolding log_field field wanted
overflow_add-bus c =
    let a = c.args in
    let fits : a.bus.now.at.log + 7 ≤ length a.bus.now.log.now =
    room (read a.address a.reg (length a.buf.now)) (held a.bus.now) _ _ c.requires.heard in
    omega (arith, fits)

pub returns : goal.returns
unfolding log_field field wanted
returns c =
    let a = c.args in
    let n = length a.buf.now in
    let b = held a.bus.now in
    let t = read a.address a.reg n in
    let copied : c.deliver.new.dst ≡ take n (drop (a.bus.now.at.tape + 3) a.bus.now.tape.now) =
    rw (add-sub_cancel_left (a.bus.now.at.tape + 3) n) at c.deliver.ensures in (
      read_by t b _ _ c.requires.heard _ _ 7 c.log_read.ensures refl refl _ _ refl
          (copied ∙ sym (put_all a.buf.now _ (omega (arith, length_bytes t b _ _ c.requires.heard)))),
      refl,
    )
