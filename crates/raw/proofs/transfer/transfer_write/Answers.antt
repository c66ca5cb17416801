-- Where the transfer is not made the bus stays; where it is, its field stands in the log.
-- Assumes nothing.
use Rattle.std.proofs.Common.{ℕ, List, Bool, ◌≡◌, ◌+◌, ◌≤◌, length, drop, arith, refl}
use Rattle.std.proofs.lemmas.Result.{err_from_is_err_and}
use Rattle.fields.specs.Fields.{field}
use Rattle.bus.specs.Transfers.{write, Bus, log_field, wanted, outcome, answered}
use Rattle.bus.specs.Lent.{held}
use Rattle.raw.specs.Inside.{Reply, Heard, made}
use Rattle.raw.proofs.Moves.{Replied, room, written_stopped, written_by}
use Rattle.raw.proofs.transfer.transfer_write.Goals as goal

module _ (address : ℕ) (bytes : List ℕ) where
  -- what is needed is the length of the field
  need : 4 + length bytes ≡ length (log_field (write address bytes))
  unfolding log_field field
  need = omega arith

  heard : (b : Bus) {r : Reply} → Heard 0 (drop b.at.tape b.tape) (answered 0 (4 + length bytes) (length b.log) b.tape b.at) r
      → Replied (write address bytes) b r
  unfolding outcome wanted
  heard b h = rw need at h

  -- the log has room for it
  has_room : (b : Bus) (f : Bool) (n : ℕ) → Heard 0 (drop b.at.tape b.tape) (answered 0 (4 + length bytes) (length b.log) b.tape b.at) (made f n)
      → b.at.log + (4 + length bytes) ≤ length b.log
  has_room b f n h = omega (arith, need, room (write address bytes) b f n (heard b h))

pub returns-in_err-made : goal.returns-in_err-made
returns-in_err-made c =
    let a = c.args in
    let b = held a.bus.now in
    let p = err_from_is_err_and c.from_residual.result c.from_residual.ensures.1 in
    rw (p.1, p.2) (written_stopped _ b _ (heard a.address a.bytes.now b c.in_err-made.ensures), refl)

pub put_field-requires : goal.put_field-requires
put_field-requires c = omega (arith, has_room c.args.address c.args.bytes.now (held c.args.bus.now) _ _ c.in_ok-made.ensures)

pub overflow_add-bus-3 : goal.overflow_add-bus-3
overflow_add-bus-3 c = omega (arith, has_room c.args.address c.args.bytes.now (held c.args.bus.now) _ _ c.in_ok-made.ensures)

pub returns : goal.returns
unfolding log_field wanted
returns c =
    let a = c.args in
    let b = held a.bus.now in
    let m = c.in_ok-made.made in
    (written_by _ b m.fault m.len (heard a.address a.bytes.now b c.in_ok-made.ensures) _ _ _ c.put_field.ensures (need a.address a.bytes.now) refl refl, refl)
