-- What the code's steps do: a step takes from the front of what is left, and leaves what the contract says of the rest.
-- Assumes nothing.
use mathlib.Core.Path.{◌≡◌, refl, sym, ap, ◌∙◌}
use mathlib.Core.Bool.{Bool, true, false}
use mathlib.Core.List.{List, [], ◌∷◌, ◌++◌}
use Prim.Native.Nat.{ℕ, zero, suc, ◌+◌, ◌-◌, ◌*◌, ◌/◌, ◌%◌, ◌≤◌, ◌<◌}
use native.Mathlib.Numerals.{add-one, add-two}
use native.Mathlib.Omega.{arith}
use lib.ListN.{length, drop, get_or, set, drop_of_length-le, length-drop}
use lib.Seq.{drop-cons, get_or-take}
use lib.Bits.{bit_and}
use lib.Dec.{eqb, leb}
use borrow.Author.Tests.{eq-eqb, ne_eqb, leb-true, leb-false}
use Rattle.check_byte.specs.CheckByte.{check_byte}
use Rattle.frames.specs.Frames.{read_byte, checked, framed, read_frame}
use Rattle.frames.proofs.Steps.{next, before_at, at_later}
use Rattle.laws.specs.Choice.{when◌then◌else◌}
use Rattle.chip.specs.Chip.{begun, arrives, stores, agreed, held, shows}
use Rattle.chip.specs.declared.Chip.{Chip}
use Rattle.chip.proofs.Shows.{length_held}

-- ---- a byte stored
pub arrives_status : (r x : ℕ) (regs : List ℕ) → r ≡ 0
    → set regs 0 (get_or regs 0 0 - bit_and (get_or regs 0 0) x) ≡ arrives r x regs
unfolding arrives
arrives_status zero x regs e = refl
arrives_status (suc r) x regs e = absurd (omega arith)

-- ---- whether a transfer passes FF
leb_same : (a b c d : ℕ) (p q : Bool) → leb a b ≡ p → leb c d ≡ q → (a ≤ b → c ≤ d) → (c ≤ d → a ≤ b) → p ≡ q
leb_same a b c d true true e f there back = refl
leb_same a b c d false false e f there back = refl
leb_same a b c d true false e f there back =
    let h = there (leb-true a b e) in
    absurd (omega (arith, leb-false c d f))
leb_same a b c d false true e f there back =
    let h = back (leb-true c d f) in
    absurd (omega (arith, leb-false a b e))

module _ (r n : ℕ) (reg : r < 256) where
  pub within_checked : leb (n - n / 2) (256 - r) ≡ leb (r + begun true n) 256
  unfolding begun
  within_checked =
      leb_same (n - n / 2) (256 - r) (r + (n + 1) / 2) 256 _ _ refl refl (λ h. omega arith) (λ h. omega arith)

  pub within_alone : leb n (256 - r) ≡ leb (r + begun false n) 256
  unfolding begun
  within_alone = leb_same n (256 - r) (r + n) 256 _ _ refl refl (λ h. omega arith) (λ h. omega arith)

-- of n bytes that begin no register past FF, the first ones do not either
pub begun_fewer : (check : Bool) (r k n : ℕ) → k ≤ n → r + begun check n ≤ 256 → r + begun check k ≤ 256
unfolding begun
begun_fewer true r k n h room = omega arith
begun_fewer false r k n h room = omega arith

-- ---- without checks: a byte is stored, and then the rest
module _ (r i : ℕ) (bytes regs : List ℕ) where
  pub stores_one : i < length bytes
      → stores (r + (i + 1)) (drop (i + 1) bytes) (arrives (r + i) (get_or bytes i 0) regs) ≡ stores (r + i) (drop i bytes) regs
  unfolding stores
  stores_one h =
      let after : r + (i + 1) ≡ suc (r + i) = omega arith in
      rw (next bytes i h, after)

  pub stores_end : length bytes ≤ i → stores r (drop i bytes) regs ≡ regs
  unfolding stores
  stores_end h = rw (drop_of_length-le bytes h)

-- ---- with checks: a byte and its check byte
module _ (before l : List ℕ) (i : ℕ) where
  next_agreed : i + 1 < length l
      → agreed before (drop i l)
      ≡ (when eqb (get_or l (i + 1) 0) (check_byte (before ++ get_or l i 0 ∷ [])) then get_or l i 0 ∷ agreed [] (drop (i + 2) l) else [])
  unfolding agreed
  next_agreed h =
      let here : i < length l = omega arith in
      let there : suc i < length l = omega arith in
      rw (add-one, add-two, drop-cons l i 0, drop-cons l (suc i) 0)

  agreed_end : length l ≤ i + 1 → agreed before (drop i l) ≡ []
  unfolding agreed
  agreed_end h = by (drop i l) (simp length-drop (omega arith))
    where
      by : (m : List ℕ) → length m ≤ 1 → agreed before m ≡ []
      by [] k = refl
      by (x ∷ []) k = refl
      by (x ∷ y ∷ m) k = absurd (omega arith)

-- so many agree as have been passed and as agree of the rest
module _ (head l : List ℕ) (i : ℕ) where
  abbrev pub so_many : ℕ
  so_many = i + length (agreed (before_at head i) (drop (2 * i) l))

  pub agreeing_end : length l ≤ 2 * i + 1 → so_many ≡ i
  agreeing_end h = omega (arith, ap length (agreed_end (before_at head i) l (2 * i) h))

  module _ (c : ℕ) (h : 2 * i + 1 < length l) (e : c ≡ check_byte (before_at head i ++ get_or l (2 * i) 0 ∷ [])) where
    pub agreeing_wrong : (c ≡ get_or l (2 * i + 1) 0 → ⊥) → so_many ≡ i
    agreeing_wrong n =
        let none : agreed (before_at head i) (drop (2 * i) l) ≡ [] =
        next_agreed (before_at head i) l (2 * i) h ∙ rw (ne_eqb _ _ (λ m. n (e ∙ sym m))) in
        omega (arith, ap length none)

    pub agreeing_right : c ≡ get_or l (2 * i + 1) 0 → so_many ≡ i + 1 + length (agreed (before_at head (i + 1)) (drop (2 * (i + 1)) l))
    agreeing_right m =
        let later : before_at head (i + 1) ≡ [] = at_later head (i + 1) (λ n. omega arith) in
        let after : 2 * (i + 1) ≡ 2 * i + 2 = omega arith in
        let some : agreed (before_at head i) (drop (2 * i) l) ≡ get_or l (2 * i) 0 ∷ agreed [] (drop (2 * i + 2) l) =
        next_agreed (before_at head i) l (2 * i) h ∙ rw (eq-eqb _ _ (sym m ∙ e)) in
        rw (later, after) (omega (arith, ap length some))

-- those that agree are every other byte, and there are no more than pairs
pub agreed_at : (before l : List ℕ) (i : ℕ) → i < length (agreed before l) → get_or (agreed before l) i 0 ≡ get_or l (2 * i) 0
unfolding agreed
agreed_at before [] i h = absurd (omega arith)
agreed_at before (x ∷ []) i h = absurd (omega arith)
agreed_at before (x ∷ c ∷ l) i h = by (agreed_at [] l) (eqb c (check_byte (before ++ x ∷ []))) i h
  where
    by : ((j : ℕ) → j < length (agreed [] l) → get_or (agreed [] l) j 0 ≡ get_or l (2 * j) 0) → (t : Bool) (i : ℕ)
        → i < length (when t then x ∷ agreed [] l else [])
        → get_or (when t then x ∷ agreed [] l else []) i 0 ≡ get_or (x ∷ c ∷ l) (2 * i) 0
    by rest false i h = absurd (omega arith)
    by rest true zero h = refl
    by rest true (suc i) h =
        let two : 2 * suc i ≡ suc (suc (2 * i)) = omega arith in
        rw two (rest i (omega arith))

pub agreed_few : (before l : List ℕ) → 2 * length (agreed before l) ≤ length l
unfolding agreed
agreed_few before [] = omega arith
agreed_few before (x ∷ []) = omega arith
agreed_few before (x ∷ c ∷ l) = by (agreed_few [] l) (eqb c (check_byte (before ++ x ∷ [])))
  where
    by : 2 * length (agreed [] l) ≤ length l → (t : Bool) → 2 * length (when t then x ∷ agreed [] l else []) ≤ length (x ∷ c ∷ l)
    by rest true = omega arith
    by rest false = omega arith

-- ---- the bytes of a read, one by one
get_d_held : (r n k : ℕ) (regs : List ℕ) → k < n → get_or (held r n regs) k 0 ≡ get_or regs (r + k) 0
unfolding held
get_d_held r zero k regs h = absurd (omega arith)
get_d_held r (suc n) zero regs h = let here : r ≡ r + 0 = omega arith in ap (λ (m : ℕ). get_or regs m 0) here
get_d_held r (suc n) (suc k) regs h =
    let there : suc r + k ≡ r + suc k = omega arith in
    get_d_held (suc r) n k regs (omega arith) ∙ ap (λ (m : ℕ). get_or regs m 0) there

get_d_data : (before bytes : List ℕ) (k : ℕ) → get_or (checked before bytes) (2 * k) 0 ≡ get_or bytes k 0
unfolding checked
get_d_data before [] k = refl
get_d_data before (x ∷ bytes) zero = refl
get_d_data before (x ∷ bytes) (suc k) =
    let two : 2 * suc k ≡ suc (suc (2 * k)) = omega arith in
    rw two (get_d_data [] bytes k)

before_none : (k : ℕ) → before_at [] k ≡ []
before_none zero = refl
before_none (suc k) = refl

get_d_check : (before bytes : List ℕ) (k : ℕ) → k < length bytes
    → get_or (checked before bytes) (2 * k + 1) 0 ≡ check_byte (before_at before k ++ get_or bytes k 0 ∷ [])
unfolding checked
get_d_check before [] k h = absurd (omega arith)
get_d_check before (x ∷ bytes) zero h = refl
get_d_check before (x ∷ bytes) (suc k) h =
    let two : 2 * suc k + 1 ≡ suc (suc (2 * k + 1)) = omega arith in
    rw two (get_d_check [] bytes k (omega arith) ∙ rw (before_none k))

module _ (c : Chip) (r n i : ℕ) (within : i < n) where
  shown_frame : (check : Bool) → c.check ≡ check
      → get_or (shows c r n) i 0 ≡ get_or (read_frame check c.address (held r (begun check n) c.regs)) i 0
  unfolding shows
  shown_frame check e = get_or-take n _ i 0 within ∙ rw e

  pub shown_alone : c.check ≡ false → get_or c.regs (r + i) 0 ≡ get_or (shows c r n) i 0
  unfolding read_frame framed begun
  shown_alone e = sym (shown_frame false e ∙ get_d_held r n i c.regs within)

  module _ (e : c.check ≡ true) where
    pub shown_data : i % 2 ≡ 0 → get_or c.regs (r + i / 2) 0 ≡ get_or (shows c r n) i 0
    unfolding read_frame framed begun
    shown_data even =
        let half : i ≡ 2 * (i / 2) = omega arith in
        sym (shown_frame true e
        ∙ ap (λ (k : ℕ). get_or (checked (read_byte c.address ∷ []) (held r ((n + 1) / 2) c.regs)) k 0) half
        ∙ get_d_data _ _ (i / 2)
        ∙ get_d_held r ((n + 1) / 2) (i / 2) c.regs (omega arith))

    shown_covered : (k : ℕ) → i ≡ 2 * k + 1
        → check_byte (before_at (read_byte c.address ∷ []) k ++ get_or c.regs (r + k) 0 ∷ []) ≡ get_or (shows c r n) i 0
    unfolding read_frame framed begun
    shown_covered k odd =
        let regs = held r ((n + 1) / 2) c.regs in
        let there : k < (n + 1) / 2 = omega arith in
        sym (shown_frame true e
        ∙ ap (λ (m : ℕ). get_or (checked (read_byte c.address ∷ []) regs) m 0) odd
        ∙ get_d_check _ regs k (rw length_held there)
        ∙ rw (get_d_held r ((n + 1) / 2) k c.regs there))

    pub shown_first : i ≡ 1
        → check_byte (read_byte c.address ∷ get_or c.regs (r + i / 2) 0 ∷ []) ≡ get_or (shows c r n) i 0
    shown_first one =
        let none : r + i / 2 ≡ r + 0 = omega arith in
        rw none (shown_covered 0 one)

    pub shown_later : (i % 2 ≡ 0 → ⊥) → (i ≡ 1 → ⊥)
        → check_byte (get_or c.regs (r + i / 2) 0 ∷ []) ≡ get_or (shows c r n) i 0
    shown_later odd more =
        let k = i / 2 - 1 in
        let half : i / 2 ≡ suc k = omega arith in
        rw half (shown_covered (suc k) (omega arith))
