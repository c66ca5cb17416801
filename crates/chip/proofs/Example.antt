-- The scope's example of a setting up, as transfers alone, on a fresh chip: its answers are the example's tape; and what is left where
-- the six bytes are cut after four of them, with check bytes and without.
-- Assumes nothing.
use mathlib.Core.Path.{◌≡◌, refl}
use mathlib.Core.Bool.{Bool, true, false, cond}
use mathlib.Core.List.{[], ◌∷◌}
use mathlib.Core.Option.{Option, none, some}
use Prim.Native.Nat.{ℕ, ◌≤◌, ◌<◌}
use native.Mathlib.Omega.{arith}
use lib.ListN.{get_or}
use lib.Dec.{eqb}
use Rattle.refusals.specs.Refusal.{Answer, refused}
use Rattle.check_byte.specs.CheckByte.{check_byte, divide, line, coefficient, divisor, number}
use Rattle.frames.specs.Frames.{read_byte, write_byte, checked, right, data_of, write_frame, read_frame, framed}
use Rattle.frames.specs.Put.{put}
use Rattle.fields.specs.Fields.{field}
use Rattle.bus.specs.Transfers.{tape_field}
use Rattle.bus.specs.Programs.{Prog, bind, proceed, ◌or_leave◌, ◌>>=◌}
use Rattle.bus.specs.Raw.{Done, refuses, plainly, received, where_right, checkedly, plain_read, ask_frame, checked_read, read_raw, read_bytes}
use Rattle.bus.specs.Raw.{wrote, ask_write, send, compared, verified, ask_back, write_raw}
use Rattle.bus.specs.declared.link.Link.{Link}
use Rattle.chip.specs.Devices.{Reached, on_device, tape_of}
use Rattle.chip.specs.Chip.{fresh, zeros, begun, complete, arrives, stores, agreed, accepted, stored_of, written, acknowledged}
use Rattle.chip.specs.Chip.{held, shows, answers, carried, respond_cut}
use Rattle.chip.specs.OnChip.{Wired, uncut, on_wire, on_chip}
use Rattle.chip.proofs.Asks.{Asks, asks_call}
use Rattle.chip.proofs.Quits.{Quits, Refuses, refuses_by, quits_call, quits_read, quits_write}
use Rattle.chip.proofs.Untouched.{Spares, read_spares, write_spares, untouched}

link : Bool → Link
link check = record { address = 8; check = check; x = 5 }

example : Bool → Prog (Answer Done)
example check = do
  _ ← read_bytes (link check) 0x50 2 or_leave refused
  _ ← read_bytes (link check) 0x59 1 or_leave refused
  _ ← write_raw (link check) 0x06 (0x13 ∷ 0x55 ∷ 0x50 ∷ 0xCF ∷ 0xDF ∷ 0x19 ∷ []) or_leave refused
  _ ← read_bytes (link check) 0x05 1 or_leave refused
  write_raw (link check) 0x05 (0x40 ∷ [])

plain_tape : tape_of on_wire (example false) (uncut (fresh 8 false))
    ≡ 0x01 ∷ 0 ∷ 2 ∷ 0x00 ∷ 0x00 ∷
    0x01 ∷ 0 ∷ 1 ∷ 0x00 ∷
    0x01 ∷ 0 ∷ 0 ∷
    0x01 ∷ 0 ∷ 6 ∷ 0x13 ∷ 0x55 ∷ 0x50 ∷ 0xCF ∷ 0xDF ∷ 0x19 ∷
    0x01 ∷ 0 ∷ 1 ∷ 0x00 ∷
    0x01 ∷ 0 ∷ 0 ∷
    0x01 ∷ 0 ∷ 1 ∷ 0x40 ∷
    []
unfolding example link tape_of tape_field field on_wire respond_cut answers carried
    acknowledged written stored_of accepted complete begun stores arrives shows held zeros
    read_frame write_frame framed bind ◌>>=◌ proceed read_bytes read_raw plain_read plainly put
    wrote ask_write send compared verified ask_back write_raw
plain_tape = refl

-- the third transfer is cut
cuts : ℕ → ℕ → Option ℕ
cuts j n = cond (eqb n 2) (some j) none

on : Bool → ℕ → Reached Wired (Answer Done)
on check j = on_chip (example check) (record { chip = fresh 8 check; cuts = cuts j })

-- the register and three data bytes have come: three are stored
plain_cut : ((on false 4).answer ≡ refuses 2)
    × (held 0x06 6 (on false 4).device.chip.regs ≡ 0x13 ∷ 0x55 ∷ 0x50 ∷ 0 ∷ 0 ∷ 0 ∷ [])
unfolding on cuts example link on_device on_wire respond_cut answers carried
    acknowledged written stored_of accepted complete begun stores arrives shows held zeros
    read_frame write_frame framed bind ◌>>=◌ proceed read_bytes read_raw plain_read plainly put
    wrote ask_write send compared verified ask_back write_raw
plain_cut = (refl, refl)

-- the register, a data byte, its check byte and a second data byte: one is stored
checked_cut : ((on true 4).answer ≡ refuses 2)
    × (held 0x06 6 (on true 4).device.chip.regs ≡ 0x13 ∷ 0 ∷ 0 ∷ 0 ∷ 0 ∷ 0 ∷ [])
unfolding on cuts example link on_device on_wire respond_cut answers carried
    acknowledged written stored_of accepted agreed complete begun stores arrives shows held zeros
    read_frame write_frame framed checked right data_of read_byte write_byte
    check_byte divide line coefficient divisor number
    bind ◌>>=◌ proceed read_bytes read_raw checked_read ask_frame checkedly received where_right put
    wrote ask_write send write_raw
checked_cut = (refl, refl)

-- wherever the wire is cut: a fault ends it, and no register but 05 to 0B is changed
example_quits : (check : Bool) → Quits Refuses (example check)
unfolding example
example_quits check =
    quits_call refused _ (quits_read (link check) 0x50 2)
    (λ a. quits_call refused _ (quits_read (link check) 0x59 1)
    (λ b. quits_call refused _ (quits_write (link check) 0x06 _)
    (λ d. quits_call refused _ (quits_read (link check) 0x05 1) (λ e. quits_write (link check) 0x05 _) refuses_by)
    refuses_by)
    refuses_by)
    refuses_by

example_spares : (check : Bool) (i : ℕ) → (5 ≤ i → i < 12 → ⊥) → Asks (Spares check i) (example check)
unfolding example link
example_spares check i h =
    asks_call refused _ (read_spares (link check) i 0x50 2)
    (λ a. asks_call refused _ (read_spares (link check) i 0x59 1)
    (λ b. asks_call refused _ (write_spares (link check) i 0x06 _ (λ p q. h (omega arith) (omega arith)))
    (λ d. asks_call refused _ (read_spares (link check) i 0x05 1)
    (λ e. write_spares (link check) i 0x05 _ (λ p q. h (omega arith) (omega arith))))))

example_untouched : (check : Bool) (cuts : ℕ → Option ℕ) (i : ℕ) → (5 ≤ i → i < 12 → ⊥)
    → get_or (on_chip (example check) (record { chip = fresh 8 check; cuts = cuts })).device.chip.regs i 0 ≡ get_or zeros i 0
example_untouched check cuts i h =
    untouched (example check) i (record { chip = fresh 8 check; cuts = cuts }) refl (example_spares check i h)
