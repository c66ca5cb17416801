-- A list that rises: each number above the one before, the first above a lower bound, and none above an upper one.
-- Assumes nothing.
use mathlib.Core.Bool.{Bool, ◌&&◌}
use mathlib.Core.List.{List, [], ◌∷◌}
use Prim.Native.Nat.{ℕ, zero, suc, ◌≤◌, ◌<◌}
use native.Mathlib.Omega.{arith}
use lib.Dec.{T, leb, ltb, leb→le, ltb→lt}
use lib.ListN.{length, get_or}
use Rattle.laws.proofs.Tests.{both_left, both_right}

abbrev pub rising : ℕ → ℕ → List ℕ → Bool
rising low high [] = leb low high
rising low high (a ∷ l) = ltb low a && rising a high l

module _ (low high a : ℕ) (l : List ℕ) (t : T (rising low high (a ∷ l))) where
  pub rising_head : low < a
  rising_head = ltb→lt low a (both_left (ltb low a) (rising a high l) t)

  pub rising_tail : T (rising a high l)
  rising_tail = both_right (ltb low a) (rising a high l) t

rising_ends : (low high : ℕ) (l : List ℕ) → T (rising low high l) → low ≤ high
rising_ends low high [] t = leb→le low high t
rising_ends low high (a ∷ l) t = omega (arith, rising_head low high a l t, rising_ends a high l (rising_tail low high a l t))

pub rising_within : (low high : ℕ) (l : List ℕ) → T (rising low high l) → (k : ℕ) → k < length l → (low < get_or l k 0) × (get_or l k 0 ≤ high)
rising_within low high [] t k h = absurd (omega arith)
rising_within low high (a ∷ l) t zero h = (rising_head low high a l t, rising_ends a high l (rising_tail low high a l t))
rising_within low high (a ∷ l) t (suc k) h =
    let rest = rising_within a high l (rising_tail low high a l t) k (omega arith) in
    (omega (arith, rising_head low high a l t), rest.1)

pub rising_order : (low high : ℕ) (l : List ℕ) → T (rising low high l) → (j k : ℕ) → j < k → k < length l → get_or l j 0 < get_or l k 0
rising_order low high [] t j k before h = absurd (omega arith)
rising_order low high (a ∷ l) t j zero before h = absurd (omega arith)
rising_order low high (a ∷ l) t zero (suc k) before h = (rising_within a high l (rising_tail low high a l t) k (omega arith)).0
rising_order low high (a ∷ l) t (suc j) (suc k) before h = rising_order a high l (rising_tail low high a l t) j k (omega arith) (omega arith)
