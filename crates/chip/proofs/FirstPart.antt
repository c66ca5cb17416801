-- A write of a right frame, cut after any number of its bytes: a first part of the data is in the registers, and all else is as it was.
-- One law over register, data and build.
-- Assumes nothing.
use mathlib.Core.Path.{◌≡◌, sym, ap, ◌∙◌}
use mathlib.Core.Bool.{Bool, true, false}
use mathlib.Core.List.{List, [], ◌∷◌}
use mathlib.Core.Option.{Option, none, some}
use Prim.Native.Nat.{ℕ, zero, suc, ◌+◌, ◌-◌, ◌≤◌, ◌<◌}
use native.Mathlib.Nat.{zero-min}
use native.Mathlib.Omega.{arith}
use lib.ListN.{length, take, get_or, length-take}
use lib.Seq.{take-length, get_or-take, get_or-drop}
use borrow.Author.Tests.{eq-eqb}
use Rattle.frames.specs.Frames.{write_byte, framed, write_frame}
use Rattle.frames.specs.Put.{put}
use Rattle.frames.proofs.Checked.{length_checked}
use Rattle.frames.proofs.Put.{take_before, drop_put}
use Rattle.bus.specs.Transfers.{write, Outcome, done, fault}
use Rattle.chip.specs.Devices.{reached}
use Rattle.chip.specs.Chip.{with_regs, complete, stores, stored_of, written, acknowledged, new_bytes, answers, carried, respond_cut}
use Rattle.chip.specs.declared.Chip.{Chip}
use Rattle.chip.proofs.Answers.{answers_write, responds}
use Rattle.chip.proofs.Stored.{accepted_all, complete_frame, begun_frame, none_complete, stored_bytes, stores_put}

-- how it ends
abbrev pub ended : Option ℕ → Outcome
ended none = done []
ended (some j) = fault []

module _ (c : Chip) (r : ℕ) (bytes : List ℕ) where
  written_cut : (j : ℕ) → written c (take j (write_frame c.check c.address r bytes))
      ≡ with_regs c (stores r (take (new_bytes c.check (some j) bytes) bytes) c.regs)
  unfolding written stored_of write_frame stores
  written_cut zero = rw (none_complete, zero-min)
  written_cut (suc j) =
      let one : suc j - 1 ≡ j = omega arith in
      rw one (ap (λ (v : List ℕ). with_regs c (stores r v c.regs)) (stored_bytes c.check _ bytes j))

  written_all : written c (write_frame c.check c.address r bytes)
      ≡ with_regs c (stores r (take (length bytes) bytes) c.regs)
  unfolding written stored_of write_frame
  written_all =
      ap (λ (v : List ℕ). with_regs c (stores r v c.regs))
      (accepted_all c.check _ bytes ∙ sym (take-length bytes))

  whole_acknowledged : acknowledged c (write_frame c.check c.address r bytes) ≡ true
  unfolding write_frame acknowledged stored_of
  whole_acknowledged = eq-eqb _ _ (ap length (accepted_all c.check _ bytes) ∙ sym (complete_frame c.check _ bytes))

  by_cut : (cut : Option ℕ) → carried cut c (write c.address (write_frame c.check c.address r bytes))
      ≡ reached (ended cut) (with_regs c (stores r (take (new_bytes c.check cut bytes) bytes) c.regs))
  unfolding carried
  by_cut none = rw whole_acknowledged (ap (reached (done [])) written_all)
  by_cut (some j) = ap (reached (fault [])) (written_cut j)

  module _ (room : r + length bytes ≤ 256) where
    whole_answered : answers c (write c.address (write_frame c.check c.address r bytes)) ≡ true
    unfolding write_frame
    whole_answered = answers_write c r (framed c.check _ bytes) (rw begun_frame room)

    -- from any register, status too: a first part of the bytes is stored
    pub part_stored : (cut : Option ℕ) → respond_cut cut c (write c.address (write_frame c.check c.address r bytes))
        ≡ reached (ended cut) (with_regs c (stores r (take (new_bytes c.check cut bytes) bytes) c.regs))
    part_stored cut = responds cut c _ whole_answered ∙ by_cut cut

    -- from any other register they then stand in the registers' places
    pub first_part : 0 < r → length c.regs ≡ 256 → (cut : Option ℕ)
        → respond_cut cut c (write c.address (write_frame c.check c.address r bytes))
        ≡ reached (ended cut) (with_regs c (put c.regs r (take (new_bytes c.check cut bytes) bytes)))
    first_part other size cut =
        let k = new_bytes c.check cut bytes in
        part_stored cut
        ∙ ap (λ (l : List ℕ). reached (ended cut) (with_regs c l))
        (stores_put r (take k bytes) c.regs other (omega (arith, length-take k bytes)))

-- ---- register by register
module _ (regs : List ℕ) (r : ℕ) (v : List ℕ) (room : r + length v ≤ length regs) where
  pub old_below : (i : ℕ) → i < r → get_or (put regs r v) i 0 ≡ get_or regs i 0
  old_below i h =
      sym (get_or-take r (put regs r v) i 0 h)
      ∙ ap (λ (l : List ℕ). get_or l i 0) (take_before regs r v room)
      ∙ get_or-take r regs i 0 h

  pub old_above : (i : ℕ) → r + length v ≤ i → get_or (put regs r v) i 0 ≡ get_or regs i 0
  old_above i h =
      let n = i - (r + length v) in
      let at : i ≡ r + length v + n + 0 = omega arith in
      rw at
      (sym (get_or-drop (r + length v + n) (put regs r v) 0 0)
      ∙ ap (λ (l : List ℕ). get_or l 0 0) (drop_put regs r v room n)
      ∙ get_or-drop (r + length v + n) regs 0 0)

-- ---- how many are new: never more than were written, and all of them where all the bytes arrived
pub new_few : (check : Bool) (cut : Option ℕ) (bytes : List ℕ) → new_bytes check cut bytes ≤ length bytes
new_few check none bytes = omega arith
new_few check (some j) bytes = omega arith

pub new_all : (check : Bool) (address r : ℕ) (bytes : List ℕ) (j : ℕ) → length (write_frame check address r bytes) ≤ j
    → new_bytes check (some j) bytes ≡ length bytes
unfolding write_frame framed complete
new_all true address r bytes j h = omega (arith, length_checked (write_byte address ∷ r ∷ []) bytes)
new_all false address r bytes j h = omega arith
