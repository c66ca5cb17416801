-- A test that is computed for each device and each count it allows holds of every pack.
-- Assumes nothing.
use mathlib.Core.Path.{◌≡◌, refl}
use mathlib.Core.Bool.{Bool, true, false, not, ◌||◌}
use Prim.Native.Nat.{ℕ}
use native.Mathlib.Omega.{arith}
use lib.Dec.{T}
use Rattle.laws.proofs.Tests.{all_below, below}
use Rattle.refusals.specs.Refusal.{Answer, value, refused_if}
use Rattle.sizes.specs.Sizes.{is_size, is_count}
use Rattle.sizes.proofs.Sizes.{at_most_15}
use Rattle.wiring.specs.Packs.{of_pack}

abbrev pub every_pack : (ℕ → ℕ → Bool) → Bool
every_pack test = all_below 16 λ x. all_below 16 λ n. not (is_count x n) || test x n

allowed : (count holds : Bool) → T count → T (not count || holds) → T holds
allowed true holds t u = u
allowed false holds t u = absurd t

pub of_pack_lem : (test : ℕ → ℕ → Bool) → T (every_pack test) → (x n : ℕ) → T (is_count x n) → T (test x n)
of_pack_lem test passed x n t =
    let most = at_most_15 x n t in
    let rows = below 16 (λ y. all_below 16 λ m. not (is_count y m) || test y m) passed x (omega arith) in
    allowed (is_count x n) (test x n) t (below 16 (λ m. not (is_count x m) || test x m) rows n (omega arith))

abbrev done : Unit {0}
done = tt

-- what is asked of a pack is answered where it is allowed
pub asked : {A : Type 0} (x n : ℕ) (answer : Answer A) → of_pack x n (value done) ≡ value done → of_pack x n answer ≡ answer
asked x n answer e = by (is_size x) (is_count x n) e
  where
    by : (size count : Bool) → refused_if (not size) 9 (refused_if (not count) 10 (value done)) ≡ value done
        → refused_if (not size) 9 (refused_if (not count) 10 answer) ≡ answer
    by true true e = refl
    by true false e = absurd (let z : ◌≡◌ {A = ℕ} 0 1 = cc in omega arith)
    by false count e = absurd (let z : ◌≡◌ {A = ℕ} 0 1 = cc in omega arith)
