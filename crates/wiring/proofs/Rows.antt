-- The rows of the tables, each tested by computing: as many inputs as the pack has cells, rising, from 1 up to the device's last.
-- Assumes nothing.
use mathlib.Core.Path.{◌≡◌, sym, ap, ◌∙◌}
use mathlib.Core.Bool.{Bool, true, false, cond, ◌&&◌}
use mathlib.Core.List.{List, [], ◌∷◌, ◌++◌}
use Prim.Native.Nat.{ℕ, ◌+◌, ◌-◌, ◌≤◌, ◌<◌}
use native.Mathlib.Omega.{arith}
use lib.Dec.{T, eqb, leb, eqb→eq, leb→le}
use lib.ListN.{length, take, drop, get_or, replicate, get_or-append}
use lib.Seq.{get_or-take, take-append-add}
use Rattle.std.proofs.lemmas.List.{take-replicate, drop-replicate, length-take-le}
use Rattle.sizes.specs.Sizes.{is_count}
use Rattle.wiring.specs.Tables.{Row, connections, row_of, fitted}
use Rattle.wiring.specs.Questions.{fifteen}
use Rattle.laws.proofs.Tests.{both_left, both_right}
use Rattle.wiring.proofs.Packs.{of_pack_lem}
use Rattle.wiring.proofs.Rising.{rising, rising_within, rising_order}
use Rattle.sizes.proofs.Sizes.{at_most_15}

-- no row is longer than the longest, whatever is asked for
abbrev short : List Row → Bool
short [] = true
short (r ∷ rows) = leb (length r.numbers) 15 && short rows

row_short : (rows : List Row) → T (short rows) → (x n : ℕ) → length (row_of rows x n) ≤ 15
row_short [] t x n = omega arith
row_short (r ∷ rows) t x n =
    by_test (eqb x r.x && eqb n r.cells) (row_short rows (both_right (leb (length r.numbers) 15) (short rows) t) x n)
  where
    by_test : (b : Bool) → length (row_of rows x n) ≤ 15 → length (cond b r.numbers (row_of rows x n)) ≤ 15
    by_test true later = leb→le (length r.numbers) 15 (both_left (leb (length r.numbers) 15) (short rows) t)
    by_test false later = later

pub few : (x n : ℕ) → length (fitted x n) ≤ 15
unfolding fitted
few = row_short connections tt

-- and with zeros behind it is the fifteen that are listed
pub zeros_behind : (l : List ℕ) → length l ≤ 15 → l ++ drop (length l) (replicate 15 0) ≡ fifteen l
zeros_behind l h =
    let all : length l + (15 - length l) ≡ 15 = omega arith in
    let behind : drop (length l) (replicate 15 0) ≡ take (15 - length l) (replicate 15 0) =
    drop-replicate (length l) 15 0 ∙ sym (take-replicate (15 - length l) 15 0 (omega arith)) in
    ap (λ (rest : List ℕ). l ++ rest) behind
    ∙ sym (take-append-add l (replicate 15 0) (15 - length l))
    ∙ ap (λ (k : ℕ). take k (l ++ replicate 15 0)) all

-- and fifteen places have room for it
pub places : (l : List ℕ) → length l ≤ 15 → length (take {A = ℕ} (length l) (replicate 15 0)) ≡ length l
places l h = length-take-le (length l) (replicate 15 0) h

module _ (x n : ℕ) (pack : T (is_count x n)) where
  pub as_many : length (fitted x n) ≡ n
  unfolding fitted
  as_many = eqb→eq (length (fitted x n)) n (of_pack_lem (λ y m. eqb (length (fitted y m)) m) tt x n pack)

  pub row_rises : T (rising 0 x (fitted x n))
  unfolding fitted
  row_rises = of_pack_lem (λ y m. rising 0 y (fitted y m)) tt x n pack

  pub row_within : (k : ℕ) → k < n → (0 < get_or (fitted x n) k 0) × (get_or (fitted x n) k 0 ≤ x)
  row_within k h = rising_within 0 x (fitted x n) row_rises k (rw as_many h)

  pub row_order : (j k : ℕ) → j < k → k < n → get_or (fitted x n) j 0 < get_or (fitted x n) k 0
  row_order j k before h = rising_order 0 x (fitted x n) row_rises j k before (rw as_many h)

  -- as the code lists them, with zeros behind
  pub row_at : (k : ℕ) → k < n → get_or (fifteen (fitted x n)) k 0 ≡ get_or (fitted x n) k 0
  row_at k h =
      let most = at_most_15 x n pack in
      get_or-take 15 (fitted x n ++ replicate 15 0) k 0 (omega arith)
      ∙ get_or-append (fitted x n) (replicate 15 0) 0 k (rw as_many h)
