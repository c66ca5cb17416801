-- A chip whose registers are bytes delivers bytes, and a write of bytes leaves it so.
-- Assumes nothing.
use mathlib.Core.Bool.{Bool, true, false}
use mathlib.Core.List.{List, [], ◌∷◌, ◌++◌}
use mathlib.Core.Option.{Option, none, some}
use Prim.Native.Nat.{ℕ, zero, suc, ◌^◌, ◌<◌}
use native.Mathlib.Omega.{arith}
use lib.ListN.{take, get_or, set}
use lib.Dec.{eqb}
use Rattle.check_byte.specs.CheckByte.{check_byte, Bytes}
use Rattle.frames.specs.Frames.{write_byte}
use Rattle.frames.proofs.Frames.{bytes_read_frame}
use Rattle.laws.specs.Choice.{when◌then◌else◌}
use Rattle.fields.specs.Fields.{field}
use Rattle.bus.specs.Transfers.{Transfer, write, read, Outcome, done, fault, stopped, tape_field}
use Rattle.bus.proofs.OfBytes.{take_bytes}
use Rattle.chip.specs.Devices.{Reached, reached}
use Rattle.chip.specs.Chip.{begun, arrives, stores, agreed, accepted, stored_of, written, acknowledged, held, shows}
use Rattle.chip.specs.Chip.{answers, carried, respond_cut, delivered}
use Rattle.chip.specs.declared.Chip.{Chip}

-- a transfer that sends bytes
abbrev pub Sends : Transfer → Type 0
Sends (write a bytes) = Bytes bytes
Sends (read a r n) = Unit {0}

-- ---- bytes of bytes
pub append_bytes : (a b : List ℕ) → Bytes a → Bytes b → Bytes (a ++ b)
append_bytes [] b h k = k
append_bytes (x ∷ a) b h k = (h.0, append_bytes a b h.1 k)

pub get_d_byte : (l : List ℕ) (i : ℕ) → Bytes l → get_or l i 0 < 2 ^ 8
get_d_byte [] i h = omega arith
get_d_byte (x ∷ l) zero h = h.0
get_d_byte (x ∷ l) (suc i) h = get_d_byte l i h.1

set_bytes : (l : List ℕ) (i x : ℕ) → Bytes l → x < 2 ^ 8 → Bytes (set l i x)
set_bytes [] i x h k = tt
set_bytes (y ∷ l) zero x h k = (k, h.1)
set_bytes (y ∷ l) (suc i) x h k = (h.0, set_bytes l i x h.1 k)

-- ---- the registers
arrives_bytes : (r x : ℕ) (regs : List ℕ) → x < 2 ^ 8 → Bytes regs → Bytes (arrives r x regs)
unfolding arrives
arrives_bytes zero x regs k h = set_bytes regs 0 _ h (omega (arith, get_d_byte regs 0 h))
arrives_bytes (suc r) x regs k h = set_bytes regs (suc r) x h k

stores_bytes : (r : ℕ) (bytes regs : List ℕ) → Bytes bytes → Bytes regs → Bytes (stores r bytes regs)
unfolding stores
stores_bytes r [] regs k h = h
stores_bytes r (x ∷ bytes) regs k h =
    stores_bytes (suc r) bytes (arrives r x regs) k.1 (arrives_bytes r x regs k.0 h)

if_bytes : (yes : Bool) (l : List ℕ) → Bytes l → Bytes (when yes then l else [])
if_bytes true l h = h
if_bytes false l h = tt

agreed_bytes : (before bytes : List ℕ) → Bytes bytes → Bytes (agreed before bytes)
unfolding agreed
agreed_bytes before [] h = tt
agreed_bytes before (x ∷ []) h = tt
agreed_bytes before (x ∷ c ∷ rest) h =
    if_bytes (eqb c (check_byte (before ++ x ∷ []))) (x ∷ agreed [] rest) (h.0, agreed_bytes [] rest h.1.1)

accepted_bytes : (check : Bool) (before bytes : List ℕ) → Bytes bytes → Bytes (accepted check before bytes)
unfolding accepted
accepted_bytes true before bytes h = agreed_bytes before bytes h
accepted_bytes false before bytes h = h

held_bytes : (r n : ℕ) (regs : List ℕ) → Bytes regs → Bytes (held r n regs)
unfolding held
held_bytes r zero regs h = tt
held_bytes r (suc n) regs h = (get_d_byte regs r h, held_bytes (suc r) n regs h)

-- ---- one transfer: what it delivers, and the registers after it
pub record Both (r : Reached Chip Outcome) : Type 0 where
  pub answer : Bytes (delivered r.answer)
  pub device : Bytes r.device.regs

module _ (c : Chip) (h : Bytes c.regs) where
  written_bytes : (bytes : List ℕ) → Bytes bytes → Bytes (written c bytes).regs
  unfolding written stored_of
  written_bytes [] k = h
  written_bytes (r ∷ bytes) k =
      stores_bytes r _ c.regs (accepted_bytes c.check (write_byte c.address ∷ r ∷ []) bytes k.1) h

  shows_bytes : (r n : ℕ) → Bytes (shows c r n)
  unfolding shows
  shows_bytes r n =
      take_bytes n _ (bytes_read_frame c.check c.address _ (held_bytes r (begun c.check n) c.regs h))

  acknowledged_bytes : (yes : Bool) → Bytes (delivered (when yes then done [] else fault []))
  acknowledged_bytes true = tt
  acknowledged_bytes false = tt

  carried_bytes : (cut : Option ℕ) (t : Transfer) → Sends t → Both (carried cut c t)
  unfolding carried
  carried_bytes none (write a bytes) k =
      record { answer = acknowledged_bytes (acknowledged c bytes); device = written_bytes bytes k }
  carried_bytes (some j) (write a bytes) k =
      record { answer = tt; device = written_bytes (take j bytes) (take_bytes j bytes k) }
  carried_bytes none (read a r n) k = record { answer = shows_bytes r n; device = h }
  carried_bytes (some j) (read a r n) k = record { answer = take_bytes j (shows c r n) (shows_bytes r n); device = h }

  if_both : (cut : Option ℕ) (t : Transfer) (yes : Bool) → Sends t
      → Both (when yes then carried cut c t else reached (fault []) c)
  if_both cut t true k = carried_bytes cut t k
  if_both cut t false k = record { answer = tt; device = h }

pub respond_bytes : (cut : Option ℕ) (c : Chip) (t : Transfer) → Bytes c.regs → Sends t → Both (respond_cut cut c t)
unfolding respond_cut
respond_bytes cut c t h k = if_both c h cut t (answers c t) k

pub tape_field_bytes : (o : Outcome) → Bytes (delivered o) → Bytes (tape_field o)
unfolding tape_field field
tape_field_bytes (done bytes) h = (omega arith, (omega arith, (omega arith, h)))
tape_field_bytes (fault bytes) h = (omega arith, (omega arith, (omega arith, h)))
tape_field_bytes (stopped r) h = tt
