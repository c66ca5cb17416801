-- From a transfer that was done by the short way: what the raw calls' programs that ask for it do.
-- Assumes nothing.
use mathlib.Core.Path.{◌≡◌, refl, sym, ap, subst, ◌∙◌}
use mathlib.Core.Bool.{Bool, true, false, ◌||◌}
use mathlib.Core.Logic.{◌⊎◌, inl, inr, ⊎_elim}
use Prim.Native.Nat.{ℕ, ◌+◌, ◌*◌, ◌≤◌}
use mathlib.Core.List.{List, ◌++◌}
use native.Mathlib.Omega.{arith}
use lib.ListN.{length, take, drop, replicate, length-replicate}
use lib.Seq.{take_at}
use lib.Dec.{T, eqb, leb, eqb→eq}
use mir.Facts.{or_yes}
use Rattle.laws.proofs.Tests.{both_right}
use borrow.Author.Tests.{ne_eqb}
use Rattle.refusals.specs.Refusal.{Answer, value}
use Rattle.frames.specs.Frames.{write_frame}
use Rattle.frames.specs.Put.{put}
use Rattle.bus.specs.Transfers.{read, write, Bus, outcome, after}
use Rattle.bus.specs.Programs.{ends, on_tape}
use Rattle.bus.specs.Raw.{Done, sound, Read, gives, compared, read_raw, send, write_raw}
use Rattle.bus.specs.declared.link.Link.{Link}
use Rattle.bus.proofs.Raws.{zeros, checked_goes, read_checked, read_plain, send_goes, write_done, write_back}
use Rattle.raw.specs.Inside.{Reply, whole, taken, ReadBy, SentBy, EchoedBy}
use Rattle.raw.proofs.Asked.{plain_read_is, frame_read, back_on, write_sent}

-- a device has at least five inputs
pub five : (s : Link) → sound s ≡ true → 5 ≤ s.x
five s e =
    let small = eqb s.x 5 || eqb s.x 10 in
    by_size
    (or_yes small (eqb s.x 15) (both_right (leb s.address 127) (small || eqb s.x 15) (subst T (sym e) tt)))
  where
    by_size : T (eqb s.x 5 || eqb s.x 10) ⊎ T (eqb s.x 15) → 5 ≤ s.x
    by_size (inr t) = omega (arith, eqb→eq s.x 15 t)
    by_size (inl t) =
        ⊎_elim
        (λ (u : T (eqb s.x 5)). omega (arith, eqb→eq s.x 5 u))
        (λ (u : T (eqb s.x 10)). omega (arith, eqb→eq s.x 10 u))
        (or_yes (eqb s.x 5) (eqb s.x 10) t)

-- ---- a frame in the first of an array's zeros
module _ (zeros frame : List ℕ) (k : ℕ) (size : length frame ≡ k) where
  pub in_front_is : take k (frame ++ drop k zeros) ≡ frame
  in_front_is = take_at frame (drop k zeros) k size

  pub among_zeros : frame ++ drop k zeros ≡ put zeros 0 (take k (frame ++ drop k zeros))
  unfolding put
  among_zeros =
      let none : 0 + k ≡ k = omega arith in
      rw (in_front_is, size, none)

-- so for what a frame gives that was read into an array's zeros
pub taken_front : (address : ℕ) (buf zeros frame : List ℕ) (k : ℕ) (f : Bool) {x : Read}
    → length frame ≡ k → x ≡ taken address buf (take k (frame ++ drop k zeros)) f
    → x ≡ taken address buf frame f
taken_front address buf zeros frame k f size e =
    e ∙ ap (λ (l : List ℕ). taken address buf l f) (in_front_is zeros frame k size)

-- a read into zeros, two for each of n bytes
pub into_zeros : {address reg : ℕ} {b b' : Bus} {frame : List ℕ} {r : Reply} (zero : List ℕ) (n : ℕ) → zero ≡ replicate (2 * n) 0
    → ReadBy (read address reg (length zero)) zero r frame b b'
    → ReadBy (read address reg (2 * n)) (replicate (2 * n) 0) r frame b b'
into_zeros zero n e r = rw (e, length-replicate {A = ℕ} (2 * n) 0) at r

-- ---- reading
module _ (s : Link) (reg : ℕ) (buf : List ℕ) {b b' : Bus} (ok : sound s ≡ true) (within : reg + length buf ≤ 256) where
  pub read_well : {buf' : List ℕ} → s.check ≡ false
      → ReadBy (read s.address reg (length buf)) buf (whole (length buf)) buf' b b'
      → ends (gives (value tt) buf') b' ≡ on_tape (read_raw s reg buf) b
  read_well c g = plain_read_is s reg buf b within _ refl g ∙ read_plain s reg buf b ok c

  -- into a frame that is zero before
  pub frame_well : {zeros frame : List ℕ} {n : ℕ} {x : Read} → s.check ≡ true → length buf ≤ 2 * s.x → (length buf ≡ 0 → ⊥)
      → zeros ≡ replicate (2 * length buf) 0
      → ReadBy (read s.address reg (length zeros)) zeros (whole n) frame b b'
      → x ≡ taken s.address buf frame false
      → ends x b' ≡ on_tape (read_raw s reg buf) b
  frame_well {zeros} {frame} {n} c few some z g e =
      frame_read s.address reg buf false n e (into_zeros zeros (length buf) z g)
      ∙ checked_goes s reg buf b few some within
      ∙ read_checked s reg buf b ok c

  -- so where it is the first part of k zeros
  pub front_well : (k : ℕ) → 2 * length buf ≤ k → {frame : List ℕ} {n : ℕ} {x : Read}
      → s.check ≡ true → length buf ≤ 2 * s.x → (length buf ≡ 0 → ⊥)
      → (let front : List ℕ = take (2 * length buf) (replicate k 0) in ReadBy (read s.address reg (length front)) front (whole n) frame b b')
      → length frame ≡ 2 * length buf
      → x ≡ taken s.address buf (take (2 * length buf) (frame ++ drop (2 * length buf) (replicate k 0))) false
      → ends x b' ≡ on_tape (read_raw s reg buf) b
  front_well k most {frame} c few some g size e =
      frame_well c few some (zeros (2 * length buf) k most) g (taken_front s.address buf (replicate k 0) frame (2 * length buf) false size e)

-- ---- writing
module _ (s : Link) (reg : ℕ) (bytes frame : List ℕ) {b b' : Bus} (ok : sound s ≡ true)
    (few : length bytes ≤ 8) (some : length bytes ≡ 0 → ⊥) (within : reg + length bytes ≤ 256)
    (is : frame ≡ write_frame s.check s.address reg bytes) where
  went : SentBy (write s.address frame) true b b' → ends (value tt) b' ≡ on_tape (send s reg bytes) b
  went sent = write_sent s reg bytes frame (whole 0) refl is sent ∙ send_goes s reg bytes b ok few some within

  pub sent_well : s.check ≡ true → SentBy (write s.address frame) true b b' → ends (value tt) b' ≡ on_tape (write_raw s reg bytes) b
  sent_well c sent = write_done s reg bytes b b' (value tt) (went sent) refl (rw c)

-- without checks what was written is read back and compared
module _ (s : Link) (reg : ℕ) (bytes frame : List ℕ) {b b' : Bus} (ok : sound s ≡ true)
    (few : length bytes ≤ 8) (some : length bytes ≡ 0 → ⊥) (within : reg + length bytes ≤ 256)
    (is : frame ≡ write_frame s.check s.address reg bytes) where
  pub echoed_well : (back : List ℕ) {back' : List ℕ} {x : Answer Done} → s.check ≡ false
      → EchoedBy (write s.address frame) (read s.address reg (length back)) back true back' b b'
      → length back ≡ length bytes → length back' ≡ length back → x ≡ compared reg bytes back'
      → ends x b' ≡ on_tape (write_raw s reg bytes) b
  echoed_well back c (sent, back_read) size kept e =
      let between = after (write s.address frame) (outcome (write s.address frame) b) b in
      back_on s.address reg bytes back size _ kept back_read refl e
      ∙ write_back s reg bytes b between (value tt) (went s reg bytes frame ok few some within is sent) refl (rw (c, ne_eqb _ _ some))
