-- On a wire that is whole: a read answers exactly the registers, and a write from any register but status is done and leaves its bytes
-- in them. With check bytes and without.
-- Assumes nothing.
use mathlib.Core.Path.{◌≡◌, refl, ap, ◌∙◌}
use mathlib.Core.Bool.{Bool, true, false}
use mathlib.Core.List.{List}
use Prim.Native.Nat.{ℕ, ◌+◌, ◌*◌, ◌≤◌, ◌<◌}
use lib.ListN.{length, replicate, length-replicate}
use Rattle.refusals.specs.Refusal.{Answer, value, answering}
use Rattle.frames.specs.Put.{put}
use Rattle.bus.specs.Raw.{sound, Done, Read, gives, read_raw, read_bytes, write_raw}
use Rattle.bus.specs.declared.link.Link.{Link}
use Rattle.chip.specs.Devices.{Reached, reached, on_device}
use Rattle.chip.specs.Chip.{with_regs, held}
use Rattle.chip.specs.OnChip.{Matches, Wired, uncut, on_wire, on_chip}
use Rattle.chip.specs.declared.Chip.{Chip}
use Rattle.chip.proofs.Devices.{device_bind}
use Rattle.chip.proofs.Shows.{length_held}
use Rattle.chip.proofs.Raws.{judged_right, verified_self, reads, write_checked, write_plain}

module _ (link : Link) (ok : sound link ≡ true) (c : Chip) (m : Matches link c) (reg : ℕ) where
  -- 1 to 2X registers, none past FF
  pub read_raw_uncut : (buf : List ℕ) → reg + length buf ≤ 256 → 1 ≤ length buf → length buf ≤ 2 * link.x
      → on_chip (read_raw link reg buf) (uncut c) ≡ reached (gives (value tt) (held reg (length buf) c.regs)) (uncut c)
  read_raw_uncut buf room few most =
      reads link ok (uncut c) m reg buf room few most
      ∙ ap (λ (r : Read). reached r (uncut c))
      (judged_right link.check link.address buf _ (length_held reg (length buf) c.regs))

  pub read_uncut : (n : ℕ) → reg + n ≤ 256 → 1 ≤ n → n ≤ 2 * link.x
      → on_chip (read_bytes link reg n) (uncut c) ≡ reached (value (held reg n c.regs)) (uncut c)
  unfolding read_bytes on_device
  read_uncut n room few most =
      let size : length {A = ℕ} (replicate n 0) ≡ n = length-replicate n 0 in
      let bytes : List ℕ = replicate n 0 in
      device_bind on_wire (read_raw link reg bytes) _ (uncut c)
      ∙ ap (λ (r : Reached Wired Read). reached (answering r.answer.answer r.answer.bytes) r.device)
      (read_raw_uncut bytes (rw size room) (rw size few) (rw size most))
      ∙ ap (λ (k : ℕ). reached (value (held reg k c.regs)) (uncut c)) size

  -- 1 to 8 registers
  pub write_uncut : (bytes : List ℕ) → 0 < reg → reg + length bytes ≤ 256 → 1 ≤ length bytes → length bytes ≤ 8
      → on_chip (write_raw link reg bytes) (uncut c) ≡ reached (value tt) (uncut (with_regs c (put c.regs reg bytes)))
  write_uncut bytes other room few most = by_check link.check refl
    where
      by_check : (check : Bool) → link.check ≡ check
          → on_chip (write_raw link reg bytes) (uncut c) ≡ reached (value tt) (uncut (with_regs c (put c.regs reg bytes)))
      by_check true e = write_checked link ok (uncut c) m reg bytes other room few most refl e
      by_check false e =
          write_plain link ok (uncut c) m reg bytes other room few most refl e
          ∙ ap (λ (a : Answer Done). reached a (uncut (with_regs c (put c.regs reg bytes)))) (verified_self reg bytes)
