-- The order of whole numbers: two steps of it are one, a sum goes up with a natural number in it, and of two numbers in order the greater is the other
-- and a natural number.
-- Assumes nothing.
use Rattle.std.proofs.Common.{◌≡◌, ℕ, suc, ◌+◌, ◌-◌, ◌<◌, ◌≤◌, Bool, true, false, T, ltb, ℤ, pos, negsuc, ◌+ℤ◌, ◌-ℤ◌, ◌≤ℤ◌, ◌<ℤ◌, sym, refl, ap, ◌∙◌, subst, le_trans, lt_of_le_of_lt, arith, le→leb, ltb→lt, leb→le, ltb-false, ltb-true}
use lib.IntN.{sub_ℕ, +ℤ_assoc, +ℤ_comm, +ℤ-neg_ℤ_cancel}
use lib.Signed.{mag, le_z, lt_z, le_z_yes}
use Rattle.numbers.proofs.Signed.{below, above}

-- ---- two steps of it
le_le : (a b c : ℤ) → T (le_z a b) → T (le_z b c) → T (le_z a c)
le_le (pos a) (pos b) (pos c) h k = le→leb a c (le_trans (leb→le a b h) (leb→le b c k))
le_le (pos a) (pos b) (negsuc c) h k = k
le_le (pos a) (negsuc b) c h k = absurd h
le_le (negsuc a) (pos b) (pos c) h k = tt
le_le (negsuc a) (pos b) (negsuc c) h k = absurd k
le_le (negsuc a) (negsuc b) (pos c) h k = tt
le_le (negsuc a) (negsuc b) (negsuc c) h k = le→leb c a (le_trans (leb→le c b k) (leb→le b a h))

pub through : {a b c : ℤ} → a ≤ℤ b → b ≤ℤ c → a ≤ℤ c
through {a} {b} {c} h k = le_z_yes (le_le a b c h.le k.le)

lt_le : (a b : ℤ) → T (lt_z a b) → T (le_z a b)
lt_le (pos a) (pos b) h = le→leb a b (omega (arith, ltb→lt a b h))
lt_le (pos a) (negsuc b) h = absurd h
lt_le (negsuc a) (pos b) h = tt
lt_le (negsuc a) (negsuc b) h = le→leb b a (omega (arith, ltb→lt b a h))

pub not_over : {a b : ℤ} → a <ℤ b → a ≤ℤ b
not_over {a} {b} h = le_z_yes (lt_le a b h.lt)

-- ---- a number and a natural one
pub up : (z : ℤ) (n : ℕ) → z ≤ℤ (z +ℤ pos n)
up (pos a) n = le_z_yes (le→leb a (a + n) (omega arith))
up (negsuc a) n = by_test (ltb n (suc a)) refl
  where
    by_test : (t : Bool) → ltb n (suc a) ≡ t → negsuc a ≤ℤ sub_ℕ n (suc a)
    by_test true e = rw (below n (suc a) (ltb-true n (suc a) e)) (le_z_yes (le→leb (suc a - suc n) a (omega arith)))
    by_test false e = rw (above n (suc a) (ltb-false n (suc a) e)) (le_z_yes tt)

pub up_more : (z : ℤ) {m n : ℕ} → m ≤ n → (z +ℤ pos m) ≤ℤ (z +ℤ pos n)
up_more z {m} {n} h =
    let e : m + (n - m) ≡ n = omega arith in
    subst (λ (k : ℤ). (z +ℤ pos m) ≤ℤ k) (+ℤ_assoc z (pos m) (pos (n - m)) ∙ ap (λ (k : ℕ). z +ℤ pos k) e) (up (z +ℤ pos m) (n - m))

-- of two in order: by how much the one is over the other
pub record Over (low high : ℤ) : Type 0 where
  pub by : ℕ
  pub is : high ≡ low +ℤ pos by

over : (a b : ℤ) → T (le_z a b) → Over a b
over (pos a) (pos b) h = let k = leb→le a b h in record { by = b - a; is = ap pos (omega arith) }
over (pos a) (negsuc b) h = absurd h
over (negsuc a) (pos b) h = record { by = b + suc a; is = sym (above (b + suc a) (suc a) (omega arith) ∙ ap pos (omega arith)) }
over (negsuc a) (negsuc b) h =
    let k = leb→le b a h in
    record { by = a - b; is = sym (below (a - b) (suc a) (omega arith) ∙ ap negsuc (omega arith)) }

pub over_by : {a b : ℤ} → a ≤ℤ b → Over a b
over_by {a} {b} h = over a b h.le

pub difference : (a : ℤ) (n : ℕ) → (a +ℤ pos n) -ℤ a ≡ pos n
difference a n = ap (λ (z : ℤ). z -ℤ a) (+ℤ_comm a (pos n)) ∙ +ℤ-neg_ℤ_cancel (pos n) a

-- ---- a number between two that a width holds is held too
held : (a z b : ℤ) {H : ℕ} → T (le_z a z) → T (le_z z b) → mag a < H → mag b < H → mag z < H
held a (pos z) (pos b) h k low high = lt_of_le_of_lt (leb→le z b k) high
held a (pos z) (negsuc b) h k low high = absurd k
held (pos a) (negsuc z) b h k low high = absurd h
held (negsuc a) (negsuc z) b h k low high = lt_of_le_of_lt (leb→le z a h) low

pub held_between : {a z b : ℤ} {H : ℕ} → a ≤ℤ z → z ≤ℤ b → mag a < H → mag b < H → mag z < H
held_between {a} {z} {b} h k = held a z b h.le k.le
