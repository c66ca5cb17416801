-- The registers that a read is answered with, and the bytes that it shows.
-- Assumes nothing.
use mathlib.Core.Path.{◌≡◌, refl, sym, ap, ◌∙◌}
use mathlib.Core.Bool.{Bool, true, false, cond}
use mathlib.Core.List.{List, ◌∷◌, ◌++◌, append_assoc}
use mathlib.Core.Option.{Option, none, some}
use Prim.Native.Nat.{ℕ, zero, suc, ◌+◌, ◌*◌, ◌≤◌, ◌<◌}
use native.Mathlib.Omega.{arith}
use lib.ListN.{length, take, drop, get_or}
use lib.Seq.{length-take-le, take_all, drop-cons, take_at, drop_at}
use Rattle.frames.specs.Frames.{framed, read_frame}
use Rattle.frames.specs.Put.{put}
use Rattle.frames.proofs.Frames.{length_read_frame}
use Rattle.frames.proofs.Put.{length_put}
use Rattle.bus.specs.Transfers.{read, Outcome, done, fault}
use Rattle.chip.specs.Devices.{reached}
use Rattle.chip.specs.Chip.{begun, held, shows, carried, respond_cut}
use Rattle.chip.specs.declared.Chip.{Chip}
use Rattle.chip.proofs.Answers.{answers_read, responds}

pub length_held : (r n : ℕ) (regs : List ℕ) → length (held r n regs) ≡ n
unfolding held
length_held r zero regs = refl
length_held r (suc n) regs = ap suc (length_held (suc r) n regs)

-- the frame of as many registers as n bytes begin is no shorter than n
enough : (check : Bool) (n k : ℕ) → k ≡ begun check n → n ≤ cond check 2 1 * k
unfolding begun
enough true n k e = omega arith
enough false n k e = omega arith

pub length_shows : (c : Chip) (r n : ℕ) → length (shows c r n) ≡ n
unfolding shows
length_shows c r n =
    let regs = held r (begun c.check n) c.regs in
    length-take-le n (read_frame c.check c.address regs)
    (rw (length_read_frame c.check c.address regs)
    (enough c.check n (length regs) (length_held r (begun c.check n) c.regs)))

-- ---- the frame of n registers, which is shown whole
begun_whole : (check : Bool) (n : ℕ) → begun check (cond check 2 1 * n) ≡ n
unfolding begun
begun_whole true n = omega arith
begun_whole false n = omega arith

shows_whole : (c : Chip) (r n : ℕ)
    → shows c r (cond c.check 2 1 * n) ≡ read_frame c.check c.address (held r n c.regs)
unfolding shows
shows_whole c r n =
    let regs = held r n c.regs in
    let fits : length (read_frame c.check c.address regs) ≤ cond c.check 2 1 * n =
    rw (length_read_frame c.check c.address regs, length_held r n c.regs) (omega arith) in
    rw (begun_whole c.check n) (take_all _ _ fits)

-- a read of them, cut or not, delivers the frame or a first part of it, and leaves the chip as it was
abbrev pub delivers : Option ℕ → List ℕ → Outcome
delivers none frame = done frame
delivers (some j) frame = fault (take j frame)

module _ (c : Chip) (r n : ℕ) where
  by_cut : (cut : Option ℕ) → carried cut c (read c.address r (cond c.check 2 1 * n))
      ≡ reached (delivers cut (read_frame c.check c.address (held r n c.regs))) c
  unfolding carried
  by_cut none = ap (λ (f : List ℕ). reached (done f) c) (shows_whole c r n)
  by_cut (some j) = ap (λ (f : List ℕ). reached (fault (take j f)) c) (shows_whole c r n)

  pub read_part : r + n ≤ 256 → (cut : Option ℕ) → respond_cut cut c (read c.address r (cond c.check 2 1 * n))
      ≡ reached (delivers cut (read_frame c.check c.address (held r n c.regs))) c
  read_part room cut =
      responds cut c _ (answers_read c r (cond c.check 2 1 * n) (rw (begun_whole c.check n) room)) ∙ by_cut cut

  pub plain_part : c.check ≡ false → r + n ≤ 256 → (cut : Option ℕ)
      → respond_cut cut c (read c.address r n) ≡ reached (delivers cut (held r n c.regs)) c
  unfolding read_frame framed
  plain_part e room cut =
      let alone : cond c.check 2 1 * n ≡ n = rw e (omega arith) in
      let bare : read_frame c.check c.address (held r n c.regs) ≡ held r n c.regs = rw e in
      ap (λ (k : ℕ). respond_cut cut c (read c.address r k)) (sym alone)
      ∙ read_part room cut
      ∙ ap (λ (f : List ℕ). reached (delivers cut f) c) bare

-- ---- registers by their place
pub held_is : (r n : ℕ) (regs : List ℕ) → r + n ≤ length regs → held r n regs ≡ take n (drop r regs)
unfolding held
held_is r zero regs h = refl
held_is r (suc n) regs h =
    let here : r < length regs = omega arith in
    rw (drop-cons regs r 0) (ap (◌∷◌ (get_or regs r 0)) (held_is (suc r) n regs (omega arith)))

behind : (r : ℕ) (v regs : List ℕ) → r + length v ≤ length regs
    → drop r (put regs r v) ≡ v ++ drop (r + length v) regs
unfolding put
behind r v regs h =
    let start : length (take r regs) ≡ r = length-take-le r regs (omega arith) in
    rw append_assoc (drop_at (take r regs) (v ++ drop (r + length v) regs) r start)

-- what was put there
pub held_put : (r : ℕ) (v regs : List ℕ) → r + length v ≤ length regs → held r (length v) (put regs r v) ≡ v
held_put r v regs h =
    held_is r (length v) (put regs r v) (rw (length_put regs r v h) h)
    ∙ ap (take (length v)) (behind r v regs h)
    ∙ take_at v _ (length v) refl
