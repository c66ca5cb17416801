-- The bus's calls for registers, on a chip with the link's address and check setting: on a wire that is whole they read and write the
-- registers; and wherever it is cut, a read leaves the chip as it was and a write leaves a first part of its bytes new.
-- Assumes nothing.
use mathlib.Core.Path.{◌≡◌, refl, sym, ap, ◌∙◌}
use mathlib.Core.Bool.{Bool, true, false, cond}
use mathlib.Core.List.{List, [], ◌∷◌}
use mathlib.Core.Option.{Option, none, some}
use Prim.Native.Nat.{ℕ, suc, ◌+◌, ◌*◌, ◌≤◌, ◌<◌}
use native.Mathlib.Omega.{arith}
use lib.ListN.{length, take, replicate, length-replicate}
use lib.Seq.{take-length}
use borrow.Author.Tests.{le-ltb, eq-eqb, ne_eqb}
use Rattle.refusals.specs.Refusal.{Answer, value, refused}
use Rattle.frames.specs.Frames.{read_byte, checked, framed, read_frame, write_frame}
use Rattle.frames.specs.Put.{put}
use Rattle.frames.proofs.Checked.{right_checked, data_checked, length_checked}
use Rattle.frames.proofs.Put.{put_all}
use Rattle.bus.specs.Transfers.{Transfer, read, write, Outcome, done}
use Rattle.bus.specs.Programs.{Prog, ret, ask}
use Rattle.bus.specs.Raw.{sound, Done, Read, gives, refuses, plainly, received, where_right, checkedly, plain_read, ask_frame, checked_read}
use Rattle.bus.specs.Raw.{read_raw, wrote, ask_write, send, compared, verified, ask_back, write_raw}
use Rattle.bus.specs.declared.link.Link.{Link}
use Rattle.chip.specs.Devices.{Reached, reached, on_device}
use Rattle.chip.specs.Chip.{with_regs, stores, new_bytes, held, respond_cut}
use Rattle.chip.specs.OnChip.{Matches, Wired, next, on_wire, on_chip}
use Rattle.chip.specs.declared.Chip.{Chip}
use Rattle.chip.proofs.Devices.{went_on, went_off}
use Rattle.chip.proofs.Shows.{held_put, delivers, read_part, plain_part}
use Rattle.chip.proofs.FirstPart.{ended, part_stored, first_part}

-- ---- the calls as programs, where nothing refuses them beforehand

-- what a read gives, by its outcome
abbrev pub judged : Bool → ℕ → List ℕ → Outcome → Read
judged true address buf o = checkedly address buf o
judged false address buf o = plainly buf o

module _ (link : Link) (ok : sound link ≡ true) where
  pub one_read : (check : Bool) → link.check ≡ check
      → (reg : ℕ) (buf : List ℕ) → reg + length buf ≤ 256 → 1 ≤ length buf → length buf ≤ 2 * link.x
      → read_raw link reg buf
      ≡ ask (read link.address reg (cond check 2 1 * length buf)) (λ o. ret (judged check link.address buf o))
  unfolding read_raw plain_read checked_read ask_frame
  one_read true e reg buf room few most =
      rw (ok, e, le-ltb _ _ most, ne_eqb (length buf) 0 (λ z. omega arith), le-ltb _ _ room)
  one_read false e reg buf room few most =
      let one : 1 * length buf ≡ length buf = omega arith in
      rw (ok, e, le-ltb _ _ room, one)

  pub one_write : (reg : ℕ) (bytes : List ℕ) → reg + length bytes ≤ 256 → 1 ≤ length bytes → length bytes ≤ 8
      → send link reg bytes
      ≡ ask (write link.address (write_frame link.check link.address reg bytes)) (λ o. ret (wrote o))
  unfolding send ask_write
  one_write reg bytes room few most =
      rw (ok, le-ltb _ _ most, ne_eqb (length bytes) 0 (λ z. omega arith), le-ltb _ _ room)

-- a right frame gives what it carries
pub judged_right : (check : Bool) (address : ℕ) (buf bytes : List ℕ) → length bytes ≡ length buf
    → judged check address buf (done (read_frame check address bytes)) ≡ gives (value tt) bytes
unfolding plainly checkedly received where_right read_frame framed
judged_right true address buf bytes same =
    let before = read_byte address ∷ [] in
    let all : put (replicate (2 * length buf) 0) 0 (checked before bytes) ≡ checked before bytes =
    put_all _ _ (omega (arith, length-replicate {A = ℕ} (2 * length buf) 0, length_checked before bytes)) in
    rw (all, right_checked before bytes, data_checked before bytes, put_all buf bytes (omega arith))
judged_right false address buf bytes same = rw (put_all buf bytes (omega arith))

-- what is compared with itself agrees
compared_self : (reg : ℕ) (bytes : List ℕ) → compared reg bytes bytes ≡ value tt
unfolding compared
compared_self reg [] = refl
compared_self reg (x ∷ bytes) = rw (eq-eqb x x refl) (compared_self (suc reg) bytes)

pub verified_self : (reg : ℕ) (bytes : List ℕ) → verified reg bytes (done bytes) ≡ value tt
unfolding verified
verified_self reg bytes = compared_self reg bytes

-- ---- on the chip, whether the wire is cut or not
asked : {A : Type 0} (w : Wired) (t : Transfer) (f : Outcome → A) {r : Reached Chip Outcome}
    → respond_cut (w.cuts 0) w.chip t ≡ r
    → on_chip (ask t (λ o. ret (f o))) w ≡ reached (f r.answer) (next w r.device)
unfolding on_device on_wire
asked w t f e = ap (λ (r : Reached Chip Outcome). reached (f r.answer) (next w r.device)) e

module _ (link : Link) (ok : sound link ≡ true) (w : Wired) (m : Matches link w.chip) (reg : ℕ) where
  -- a read gives what its frame, or the first part of it that was delivered, is judged to be
  pub reads : (buf : List ℕ) → reg + length buf ≤ 256 → 1 ≤ length buf → length buf ≤ 2 * link.x
      → on_chip (read_raw link reg buf) w
      ≡ reached
      (judged link.check link.address buf
      (delivers (w.cuts 0) (read_frame link.check link.address (held reg (length buf) w.chip.regs))))
      (next w w.chip)
  reads buf room few most =
      ap (λ (p : Prog Read). on_chip p w) (one_read link ok link.check refl reg buf room few most)
      ∙ asked w _ (judged link.check link.address buf)
      (rw (m.address, m.check) (read_part w.chip reg (length buf) room (w.cuts 0)))

  module _ (bytes : List ℕ) (room : reg + length bytes ≤ 256) (few : 1 ≤ length bytes) (most : length bytes ≤ 8) where
    sends : {r : Reached Chip Outcome}
        → respond_cut (w.cuts 0) w.chip (write link.address (write_frame link.check link.address reg bytes)) ≡ r
        → on_chip (send link reg bytes) w ≡ reached (wrote r.answer) (next w r.device)
    sends e = ap (λ (p : Prog (Answer Done)). on_chip p w) (one_write link ok reg bytes room few most) ∙ asked w _ wrote e

    -- a write that is not read back, to any register
    pub send_leaves : on_chip (send link reg bytes) w
        ≡ reached (wrote (ended (w.cuts 0)))
        (next w (with_regs w.chip (stores reg (take (new_bytes link.check (w.cuts 0) bytes) bytes) w.chip.regs)))
    send_leaves = sends (rw (m.address, m.check) (part_stored w.chip reg bytes room (w.cuts 0)))

  module _ (bytes : List ℕ) (other : 0 < reg) (room : reg + length bytes ≤ 256)
      (few : 1 ≤ length bytes) (most : length bytes ≤ 8) where
    -- the chip with a first part of the bytes
    abbrev pub after : Chip
    after = with_regs w.chip (put w.chip.regs reg (take (new_bytes link.check (w.cuts 0) bytes) bytes))

    sent_part : on_chip (send link reg bytes) w ≡ reached (wrote (ended (w.cuts 0))) (next w after)
    sent_part =
        sends bytes room few most
        (rw (m.address, m.check) (first_part w.chip reg bytes room other m.size (w.cuts 0)))

    -- cut in the write: 2, and no read back
    pub write_cut : (j : ℕ) → w.cuts 0 ≡ some j → on_chip (write_raw link reg bytes) w ≡ reached (refuses 2) (next w after)
    unfolding write_raw wrote
    write_cut j e =
        went_off on_wire (send link reg bytes) refused _ w (next w after) _
        (sent_part ∙ ap (λ (cut : Option ℕ). reached (wrote (ended cut)) (next w after)) e)

    -- not cut there: all the bytes are new
    module _ (whole : w.cuts 0 ≡ none) where
      abbrev pub new : Chip
      new = with_regs w.chip (put w.chip.regs reg bytes)

      pub sent : on_chip (send link reg bytes) w ≡ reached (value tt) (next w new)
      unfolding wrote
      sent = sent_part ∙ rw (whole, take-length bytes)

      pub write_checked : link.check ≡ true → on_chip (write_raw link reg bytes) w ≡ reached (value tt) (next w new)
      unfolding write_raw on_device
      write_checked c = went_on on_wire (send link reg bytes) refused _ w (next w new) tt sent ∙ rw c

      -- without checks they are read back, and agree
      module _ (plain : link.check ≡ false) where
        back : on_chip (ask_back link.address reg bytes) (next w new)
            ≡ reached (verified reg bytes (delivers (w.cuts 1) bytes)) (next (next w new) new)
        unfolding ask_back
        back =
            let there : reg + length bytes ≤ length w.chip.regs = omega (arith, m.size) in
            let same : held reg (length bytes) (put w.chip.regs reg bytes) ≡ bytes =
            held_put reg bytes w.chip.regs there in
            asked (next w new) (read link.address reg (length bytes)) (verified reg bytes)
            (rw m.address (plain_part new reg (length bytes) (sym m.check ∙ plain) room (w.cuts 1) ∙ rw same))

        pub write_plain : on_chip (write_raw link reg bytes) w
            ≡ reached (verified reg bytes (delivers (w.cuts 1) bytes)) (next (next w new) new)
        unfolding write_raw
        write_plain =
            went_on on_wire (send link reg bytes) refused _ w (next w new) tt sent
            ∙ rw (plain, ne_eqb (length bytes) 0 (λ z. omega arith)) back

    abbrev chip_of : Reached Wired (Answer Done) → Chip
    chip_of r = r.device.chip

    -- so wherever the wire is cut, the chip has a first part of the bytes
    pub write_leaves : (on_chip (write_raw link reg bytes) w).device.chip ≡ after
    write_leaves = by_cut (w.cuts 0) refl link.check refl
      where
        by_cut : (cut : Option ℕ) → w.cuts 0 ≡ cut → (check : Bool) → link.check ≡ check
            → (on_chip (write_raw link reg bytes) w).device.chip ≡ after
        by_cut (some j) e check c = ap chip_of (write_cut j e)
        by_cut none e true c = ap chip_of (write_checked e c) ∙ rw (e, take-length bytes)
        by_cut none e false c = ap chip_of (write_plain e c) ∙ rw (e, take-length bytes)
