-- A rule of all numbers below a bound, or of all bytes, proved by one test that antt computes at each of them.
-- Assumes nothing.
use mathlib.Core.Path.{◌≡◌, refl, subst, sym}
use mathlib.Core.Bool.{Bool, true, false, not, ◌&&◌}
use Prim.Native.Nat.{ℕ, zero, suc, ◌<◌}
use native.Mathlib.Omega.{arith}
use lib.Dec.{T, eqb, eqb→eq}
use borrow.Author.Tests.{eqb-false}

pub is_true : (t : Bool) → T t → t ≡ true
is_true true t = refl
is_true false t = absurd t

pub both_left : (a b : Bool) → T (a && b) → T a
both_left true b t = tt
both_left false b t = t

pub both_right : (a b : Bool) → T (a && b) → T b
both_right true b t = t
both_right false b t = absurd t

-- f passes at every number below n
abbrev pub all_below : ℕ → (ℕ → Bool) → Bool
all_below zero f = true
all_below (suc n) f = f n && all_below n f

last_or_below : (k n : ℕ) (t : Bool) → eqb k n ≡ t → k < suc n → (f : ℕ → Bool) → T (f n) → (k < n → T (f k)) → T (f k)
last_or_below k n true e h f here below = subst (λ (m : ℕ). T (f m)) (sym (eqb→eq k n (subst T (sym e) tt))) here
last_or_below k n false e h f here below = below (omega (arith, eqb-false k n e))

pub below : (n : ℕ) (f : ℕ → Bool) → T (all_below n f) → (k : ℕ) → k < n → T (f k)
below zero f t k h = absurd (none k h)
  where
    none : (k : ℕ) → k < 0 → ⊥
    none k h = omega arith
below (suc n) f t k h =
    last_or_below k n (eqb k n) refl h f (both_left (f n) (all_below n f) t)
    (λ (l : k < n). below n f (both_right (f n) (all_below n f) t) k l)

-- two functions whose numbers are equal at every number below n
pub same_below : (n : ℕ) (f g : ℕ → ℕ) → T (all_below n (λ k. eqb (f k) (g k))) → (k : ℕ) → k < n → f k ≡ g k
same_below n f g t k h = eqb→eq (f k) (g k) (below n (λ k. eqb (f k) (g k)) t k h)

-- two tests that agree at every number below n are one test there
abbrev pub agree : Bool → Bool → Bool
agree true b = b
agree false b = not b

pub agreeing : (a b : Bool) → T (agree a b) → a ≡ b
agreeing true true t = refl
agreeing true false t = absurd t
agreeing false true t = absurd t
agreeing false false t = refl
