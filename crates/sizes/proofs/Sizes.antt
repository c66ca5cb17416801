-- There are three counts of inputs. A count of cells that is allowed is one of a device's, and neither inputs nor cells are more than 15.
-- Assumes nothing.
use mathlib.Core.Path.{◌≡◌, refl, sym, subst}
use mathlib.Core.Bool.{Bool, true, false, false≢true, ◌&&◌, ◌||◌}
use mathlib.Core.Logic.{⊎_elim}
use Prim.Native.Nat.{ℕ, ◌≤◌}
use native.Mathlib.Omega.{arith}
use lib.Dec.{T, eqb, leb, eqb→eq, leb→le}
use mir.Facts.{or_yes}
use borrow.Author.Tests.{eqb-true}
use Rattle.laws.proofs.Tests.{both_left, both_right}
use Rattle.sizes.specs.Sizes.{is_size, within, is_count}

-- what holds of each device's count of inputs holds of every one's
pub by_size : (P : ℕ → Type 0) → P 5 → P 10 → P 15 → (x : ℕ) → is_size x ≡ true → P x
by_size P five ten fifteen x e = by (eqb x 5) (eqb x 10) (eqb x 15) refl refl refl e
  where
    at : (n : ℕ) → P n → eqb x n ≡ true → P x
    at n holds t = subst P (sym (eqb-true x n t)) holds

    by : (a b c : Bool) → eqb x 5 ≡ a → eqb x 10 ≡ b → eqb x 15 ≡ c → a || b || c ≡ true → P x
    by true b c t u v e = at 5 five t
    by false true c t u v e = at 10 ten u
    by false false true t u v e = at 15 fifteen v
    by false false false t u v e = absurd (false≢true e)

-- what holds of each device's packs holds of every pack
module _ (P : ℕ → ℕ → Type 0)
    (five : (n : ℕ) → 3 ≤ n → n ≤ 5 → P 5 n)
    (ten : (n : ℕ) → 6 ≤ n → n ≤ 10 → P 10 n)
    (fifteen : (n : ℕ) → 9 ≤ n → n ≤ 15 → P 15 n) where
  of_device : (size low high : ℕ) → ((n : ℕ) → low ≤ n → n ≤ high → P size n) → (x n : ℕ) → T (eqb x size && within low high n) → P x n
  of_device size low high holds x n t =
      let counts = both_right (eqb x size) (within low high n) t in
      subst (λ (y : ℕ). P y n) (sym (eqb→eq x size (both_left (eqb x size) (within low high n) t)))
      (holds n (leb→le low n (both_left (leb low n) (leb n high) counts)) (leb→le n high (both_right (leb low n) (leb n high) counts)))

  pub by_device : (x n : ℕ) → T (is_count x n) → P x n
  by_device x n t =
      let first = eqb x 5 && within 3 5 n in
      let second = eqb x 10 && within 6 10 n in
      ⊎_elim
      (λ (u : T (first || second)). ⊎_elim (of_device 5 3 5 five x n) (of_device 10 6 10 ten x n) (or_yes first second u))
      (of_device 15 9 15 fifteen x n)
      (or_yes (first || second) (eqb x 15 && within 9 15 n) t)

pub at_most_15 : (x n : ℕ) → T (is_count x n) → (x ≤ 15) × (n ≤ 15)
at_most_15 =
    by_device (λ x n. (x ≤ 15) × (n ≤ 15))
    (λ n low high. omega arith) (λ n low high. omega arith) (λ n low high. omega arith)

pub of_a_device : (x n : ℕ) → T (is_count x n) → T (is_size x)
of_a_device = by_device (λ x n. T (is_size x)) (λ n low high. tt) (λ n low high. tt) (λ n low high. tt)
