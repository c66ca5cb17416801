-- The raw calls' programs, test by test: each test of the code picks the same branch of the program.
-- Assumes nothing.
use mathlib.Core.Path.{◌≡◌, refl, sym, ap, subst, ◌∙◌}
use mathlib.Core.Bool.{Bool, true, false, not, ◌||◌}
use mathlib.Core.Logic.{◌⊎◌, inl, inr, ⊎_elim}
use Prim.Native.Nat.{ℕ, zero, suc, ◌+◌, ◌*◌, ◌≤◌, ◌<◌}
use mathlib.Core.List.{List, [], ◌∷◌}
use native.Mathlib.Omega.{arith}
use native.Mathlib.Nat.{add-suc}
use native.Mathlib.Numerals.{add-one}
use lib.ListN.{length, take, drop, get_or, replicate, drop_of_length-le}
use lib.Seq.{drop-cons}
use lib.IntN.{pos}
use lib.Dec.{T, eqb, leb, ltb, eqb→eq}
use mir.Facts.{or_yes}
use Rattle.laws.proofs.Tests.{both_right}
use borrow.Author.Tests.{lt-ltb, le-ltb, eq-eqb, ne_eqb, eqb-true, eqb-false, ltb-false}
use Rattle.refusals.specs.Refusal.{Refusal, Answer, value, refused, no}
use Rattle.laws.specs.Choice.{when◌then◌else◌}
use Rattle.bus.specs.Transfers.{Bus, done}
use Rattle.bus.specs.Programs.{ret, Ran, on_tape}
use Rattle.bus.specs.Raw.{Done, sound, refuses, gives}
use Rattle.bus.specs.Raw.{plain_read, ask_frame, checked_read, read_raw}
use Rattle.bus.specs.Raw.{ask_write, send, compared, verified, ask_back, write_raw}
use Rattle.bus.proofs.Programs.{went_on, went_off}
use Rattle.bus.specs.declared.link.Link.{Link}

-- the first of many zeros
pub zeros : (k n : ℕ) → k ≤ n → take {A = ℕ} k (replicate n 0) ≡ replicate k 0
zeros zero n h = refl
zeros (suc k) zero h = absurd (omega arith)
zeros (suc k) (suc n) h = ap (λ (l : List ℕ). 0 ∷ l) (zeros k n (omega arith))

-- ---- without checks
module _ (s : Link) (reg : ℕ) (buf : List ℕ) (b : Bus) where
  pub plain_out : 256 < reg + length buf
      → record { answer = gives (refuses 14) buf; bus = b } ≡ on_tape (plain_read s reg buf) b
  unfolding plain_read on_tape
  plain_out h = rw (lt-ltb _ _ h)

-- ---- with checks
module _ (s : Link) (reg : ℕ) (buf : List ℕ) (b : Bus) where
  pub checked_large : 2 * s.x < length buf
      → record { answer = gives (refuses 3) buf; bus = b } ≡ on_tape (checked_read s reg buf) b
  unfolding checked_read on_tape
  checked_large h = rw (lt-ltb _ _ h)

  pub checked_empty : length buf ≡ 0
      → record { answer = gives (value tt) buf; bus = b } ≡ on_tape (checked_read s reg buf) b
  unfolding checked_read on_tape
  checked_empty h = let few : length buf ≤ 2 * s.x = omega arith in rw (le-ltb _ _ few, eq-eqb _ _ h)

  pub checked_out : length buf ≤ 2 * s.x → (length buf ≡ 0 → ⊥) → 256 < reg + length buf
      → record { answer = gives (refuses 14) buf; bus = b } ≡ on_tape (checked_read s reg buf) b
  unfolding checked_read on_tape
  checked_out h k o = rw (le-ltb _ _ h, ne_eqb _ _ k, lt-ltb _ _ o)

  pub checked_goes : length buf ≤ 2 * s.x → (length buf ≡ 0 → ⊥) → reg + length buf ≤ 256
      → on_tape (ask_frame s.address reg buf) b ≡ on_tape (checked_read s reg buf) b
  unfolding checked_read
  checked_goes h k o = rw (le-ltb _ _ h, ne_eqb _ _ k, le-ltb _ _ o)

-- ---- read back
module _ (reg : ℕ) (bytes back : List ℕ) (i : ℕ) (more : i < length bytes) (same : length back ≡ length bytes) where
  compared_step : compared (reg + i) (drop i bytes) (drop i back)
      ≡ compared (reg + i) (get_or bytes i 0 ∷ drop (suc i) bytes) (get_or back i 0 ∷ drop (suc i) back)
  compared_step =
      let there : i < length back = omega arith in
      rw (drop-cons bytes i 0 more, drop-cons back i 0 there)

  pub compared_same : get_or bytes i 0 ≡ get_or back i 0
      → compared (reg + i) (drop i bytes) (drop i back)
      ≡ compared (reg + (i + 1)) (drop (i + 1) bytes) (drop (i + 1) back)
  unfolding compared
  compared_same e = compared_step ∙ rw (eq-eqb _ _ e, add-one, add-suc)

  pub compared_differs : (get_or bytes i 0 ≡ get_or back i 0 → ⊥)
      → compared (reg + i) (drop i bytes) (drop i back) ≡ refused (no 5 (pos (reg + i) ∷ []))
  unfolding compared
  compared_differs e = compared_step ∙ rw (ne_eqb _ _ e)

-- what was read back is compared from the first byte written on
pub verified_done : (reg : ℕ) (bytes back : List ℕ) → verified reg bytes (done back) ≡ compared reg bytes back
unfolding verified
verified_done reg bytes back = refl

pub compared_end : (reg : ℕ) (bytes back : List ℕ) (i : ℕ) → length bytes ≤ i
    → compared reg (drop i bytes) back ≡ value tt
unfolding compared
compared_end reg bytes back i h = rw (drop_of_length-le bytes h)

-- ---- the calls, test by test
module _ (s : Link) (reg : ℕ) (buf : List ℕ) (b : Bus) where
  pub read_unsound : sound s ≡ false → record { answer = gives (refuses 9) buf; bus = b } ≡ on_tape (read_raw s reg buf) b
  unfolding read_raw on_tape
  read_unsound h = rw h

  pub read_checked : sound s ≡ true → s.check ≡ true → on_tape (checked_read s reg buf) b ≡ on_tape (read_raw s reg buf) b
  unfolding read_raw
  read_checked h c = rw (h, c)

  pub read_plain : sound s ≡ true → s.check ≡ false → on_tape (plain_read s reg buf) b ≡ on_tape (read_raw s reg buf) b
  unfolding read_raw
  read_plain h c = rw (h, c)

module _ (s : Link) (reg : ℕ) (bytes : List ℕ) (b : Bus) where
  pub send_unsound : sound s ≡ false → record { answer = refuses 9; bus = b } ≡ on_tape (send s reg bytes) b
  unfolding send on_tape
  send_unsound h = rw h

  module _ (ok : sound s ≡ true) where
    pub send_large : 8 < length bytes → record { answer = refuses 3; bus = b } ≡ on_tape (send s reg bytes) b
    unfolding send on_tape
    send_large h = rw (ok, lt-ltb _ _ h)

    pub send_empty : length bytes ≡ 0 → record { answer = value tt; bus = b } ≡ on_tape (send s reg bytes) b
    unfolding send on_tape
    send_empty h = let some : length bytes ≤ 8 = omega arith in rw (ok, le-ltb _ _ some, eq-eqb _ _ h)

    pub send_out : length bytes ≤ 8 → (length bytes ≡ 0 → ⊥) → 256 < reg + length bytes
        → record { answer = refuses 14; bus = b } ≡ on_tape (send s reg bytes) b
    unfolding send on_tape
    send_out h k o = rw (ok, le-ltb _ _ h, ne_eqb _ _ k, lt-ltb _ _ o)

    pub send_goes : length bytes ≤ 8 → (length bytes ≡ 0 → ⊥) → reg + length bytes ≤ 256
        → on_tape (ask_write s reg bytes) b ≡ on_tape (send s reg bytes) b
    unfolding send
    send_goes h k o = rw (ok, le-ltb _ _ h, ne_eqb _ _ k, le-ltb _ _ o)

-- 5, 10 and 15 are at most 15
pub sound_x : (s : Link) → sound s ≡ true → s.x ≤ 15
sound_x s e =
    let small = eqb s.x 5 || eqb s.x 10 in
    by_size
    (or_yes small (eqb s.x 15) (both_right (leb s.address 127) (small || eqb s.x 15) (subst T (sym e) tt)))
  where
    by_size : T (eqb s.x 5 || eqb s.x 10) ⊎ T (eqb s.x 15) → s.x ≤ 15
    by_size (inr t) = omega (arith, eqb→eq s.x 15 t)
    by_size (inl t) =
        ⊎_elim
        (λ (u : T (eqb s.x 5)). omega (arith, eqb→eq s.x 5 u))
        (λ (u : T (eqb s.x 10)). omega (arith, eqb→eq s.x 10 u))
        (or_yes (eqb s.x 5) (eqb s.x 10) t)

-- ---- write_raw: on from a write that was sent, or off
module _ (s : Link) (reg : ℕ) (bytes : List ℕ) (b b' : Bus) (y : Answer Done)
    (e : record { answer = y; bus = b' } ≡ on_tape (send s reg bytes) b) where
  pub write_off : (x : Refusal) → y ≡ refused x → record { answer = y; bus = b' } ≡ on_tape (write_raw s reg bytes) b
  unfolding write_raw
  write_off x q =
      ap (λ (z : Answer Done). record { answer = z; bus = b' }) q
      ∙ sym (went_off (send s reg bytes) refused _ b b' y (sym e) x q)

  module _ (q : y ≡ value tt) where
    pub write_done : s.check || eqb (length bytes) 0 ≡ true
        → record { answer = y; bus = b' } ≡ on_tape (write_raw s reg bytes) b
    unfolding write_raw on_tape
    write_done c =
        ap (λ (z : Answer Done). record { answer = z; bus = b' }) q
        ∙ sym (went_on (send s reg bytes) refused _ b b' y (sym e) tt q ∙ rw c)

    pub write_back : s.check || eqb (length bytes) 0 ≡ false
        → on_tape (ask_back s.address reg bytes) b' ≡ on_tape (write_raw s reg bytes) b
    unfolding write_raw
    write_back c = sym (went_on (send s reg bytes) refused _ b b' y (sym e) tt q ∙ rw c)

-- a write that was sent, and had something to send, was short enough and stayed below register FF
not_refused : {X : Type 0} (n : ℕ) → value tt ≡ refuses n → X
not_refused n e = let z : ◌≡◌ {A = ℕ} 0 1 = cc in absurd (omega arith)

pub sent_within : (s : Link) (reg : ℕ) (bytes : List ℕ) (b b' : Bus)
    → record { answer = value tt; bus = b' } ≡ on_tape (send s reg bytes) b
    → (length bytes ≡ 0 → ⊥) → (length bytes ≤ 8) × (reg + length bytes ≤ 256)
unfolding send on_tape
sent_within s reg bytes b b' e some =
    by_tests (not (sound s)) (ltb 8 n) (eqb n 0) (ltb 256 (reg + n)) refl refl refl
    (ap (λ (r : Ran (Answer Done)). r.answer) e)
  where
    n : ℕ
    n = length bytes

    by_tests : (u l z o : Bool) → ltb 8 n ≡ l → eqb n 0 ≡ z → ltb 256 (reg + n) ≡ o
        → value tt ≡ (on_tape (
        when u then ret (refuses 9)
        else when l then ret (refuses 3)
        else when z then ret (value tt)
        else when o then ret (refuses 14)
        else ask_write s reg bytes
        ) b).answer
        → (n ≤ 8) × (reg + n ≤ 256)
    by_tests true l z o p q r h = not_refused 9 h
    by_tests false true z o p q r h = not_refused 3 h
    by_tests false false true o p q r h = absurd (some (eqb-true n 0 q))
    by_tests false false false true p q r h = not_refused 14 h
    by_tests false false false false p q r h = (ltb-false 8 n p, ltb-false 256 (reg + n) r)

pub not_empty : (check : Bool) (n : ℕ) → check || eqb n 0 ≡ false → n ≡ 0 → ⊥
not_empty true n e z = subst T e tt
not_empty false n e z = eqb-false n 0 e z

-- so of one that is to be read back
pub back_within : (s : Link) (reg : ℕ) (bytes : List ℕ) (b b' : Bus) {y : Answer Done}
    → record { answer = y; bus = b' } ≡ on_tape (send s reg bytes) b → y ≡ value tt
    → s.check || eqb (length bytes) 0 ≡ false → (length bytes ≤ 8) × (reg + length bytes ≤ 256)
back_within s reg bytes b b' e q c =
    sent_within s reg bytes b b' (rw q at e) (not_empty s.check (length bytes) c)
