-- What the code's steps do: a step takes from the front of what is left, and leaves what the contract says of the rest.
-- Assumes nothing.
use mathlib.Core.Path.{◌≡◌, refl, sym, ap, ◌∙◌}
use mathlib.Core.Bool.{Bool, cond}
use mathlib.Core.List.{List, [], ◌∷◌, ◌++◌}
use Prim.Native.Nat.{ℕ, zero, suc, ◌+◌, ◌*◌, ◌/◌, ◌%◌, ◌^◌, ◌≤◌, ◌<◌}
use native.Mathlib.Numerals.{add-one}
use native.Mathlib.Omega.{arith}
use lib.Bits.{bit_or, or_shifted}
use lib.Dec.{lit<}
use lib.ListN.{length, get_or, drop, set, length-set, drop_of_length-le}
use lib.Seq.{drop-cons}
use Rattle.check_byte.specs.CheckByte.{check_byte}
use Rattle.frames.specs.Frames.{write_byte, read_byte, checked, framed, write_frame, written_frame}
use Rattle.frames.specs.Put.{put}
use Rattle.frames.proofs.Frames.{length_write_frame, written_frame_lem}
use Rattle.frames.proofs.Put.{put_none, put_more}

-- the element at i, and what is left after it
pub next : (l : List ℕ) (i : ℕ) → i < length l → drop i l ≡ get_or l i 0 ∷ drop (i + 1) l
next l i h = rw add-one (drop-cons l i 0 h)

-- the address byte, as the code has it
pub shifted : (address : ℕ) → address * 2 % 256 ≡ write_byte address
unfolding write_byte
shifted address = omega arith

pub shifted_one : (address : ℕ) → bit_or (address * 2 % 256) 1 ≡ read_byte address
unfolding read_byte
shifted_one address =
    let half : address * 2 % 256 ≡ address % 128 * 2 ^ 1 = omega arith in
    let same : (2 * address + 1) / 256 ≡ address / 128 = omega arith in
    rw half (or_shifted (address % 128) 1 1 (lit< tt) ∙ omega arith)

-- the register is stored, and then the data, with check bytes or alone
pub sent : (check is : Bool) (address reg : ℕ) (bytes out out₁ : List ℕ) (r : ℕ)
    → check ≡ is
    → length bytes ≤ 8
    → length (set out 0 reg) ≡ 17
    → r ≡ cond is 2 1 * length bytes + 1
    → out₁ ≡ put (set out 0 reg) 1 (framed is (write_byte address ∷ reg ∷ []) bytes)
    → (r ≡ length (written_frame check address reg bytes)) × (out₁ ≡ put out 0 (written_frame check address reg bytes))
unfolding write_frame
sent check is address reg bytes out out₁ r e few room n done =
    let whole : written_frame check address reg bytes ≡ write_frame is address reg bytes =
    written_frame_lem check address reg bytes few ∙ ap (λ (b : Bool). write_frame b address reg bytes) e in (
      n ∙ sym (ap length whole ∙ length_write_frame is address reg bytes),
      done
          ∙ sym (put_more out 0 reg (framed is (write_byte address ∷ reg ∷ []) bytes) (omega (arith, simp length-set at room)))
          ∙ ap (put out 0) (sym whole),
    )

-- what the check byte of data byte i covers ahead of it: the head of the frame for the first, nothing for a later one
abbrev pub before_at : List ℕ → ℕ → List ℕ
before_at head zero = head
before_at head (suc i) = []

pub at_later : (head : List ℕ) (i : ℕ) → (i ≡ 0 → ⊥) → before_at head i ≡ []
at_later head zero ne = absurd (ne refl)
at_later head (suc i) ne = refl

-- a check byte of the code, by the place of its data byte
module _ (address reg x i c : ℕ) where
  abbrev pub covers : Type 0
  covers = c ≡ check_byte (before_at (write_byte address ∷ reg ∷ []) i ++ x ∷ [])

  pub covers_head : i ≡ 0 → c ≡ check_byte (address * 2 % 256 ∷ reg ∷ x ∷ []) → covers
  covers_head first e = rw (first, ← shifted address) e

  pub covers_byte : (i ≡ 0 → ⊥) → c ≡ check_byte (x ∷ []) → covers
  covers_byte later e = rw (at_later (write_byte address ∷ reg ∷ []) i later) e

-- a byte and its check byte are stored, and the rest follows
pub stored : (head l out : List ℕ) (i c : ℕ) → i < length l → 2 * i + 2 < length out → c ≡ check_byte (before_at head i ++ get_or l i 0 ∷ [])
    → put (set (set out (2 * i + 1) (get_or l i 0)) (2 * i + 2) c) (2 * (i + 1) + 1) (checked (before_at head (i + 1)) (drop (i + 1) l))
    ≡ put out (2 * i + 1) (checked (before_at head i) (drop i l))
unfolding checked
stored head l out i c h room e =
    let x = get_or l i 0 in
    let rest = checked [] (drop (i + 1) l) in
    let room₁ : 2 * i + 1 < length out = omega arith in
    let room₂ : 2 * i + 2 < length (set out (2 * i + 1) x) = simp length-set room in
    let second : 2 * i + 2 ≡ 2 * i + 1 + 1 = omega arith in
    let after : 2 * (i + 1) + 1 ≡ 2 * i + 2 + 1 = omega arith in
    let later : before_at head (i + 1) ≡ [] = at_later head (i + 1) (λ n. omega arith) in
    rw (after, later, ← put_more (set out (2 * i + 1) x) (2 * i + 2) c rest, second, ← put_more out (2 * i + 1) x (c ∷ rest), e, next l i)

-- nothing is left to store
pub stored_all : (before l out : List ℕ) (i at : ℕ) → length l ≤ i → put out at (checked before (drop i l)) ≡ out
unfolding checked
stored_all before l out i at h = rw (drop_of_length-le l h, put_none)
