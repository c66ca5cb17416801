-- The fitted inputs of a pack are the device's.
-- Assumes nothing.
use mathlib.Core.Path.{◌≡◌}
use mathlib.Core.List.{map}
use Prim.Native.Nat.{ℕ, ◌≤◌}
use lib.Dec.{T}
use lib.ListN.{get_or}
use Rattle.wiring.specs.Tables.{fitted}
use Rattle.wiring.proofs.Rows.{as_many, row_within}
use Rattle.laws.proofs.Lists.{map_same}
use Rattle.sizes.specs.Sizes.{is_count}

module _ (x n : ℕ) (pack : T (is_count x n)) where
  -- two functions that agree on the device's inputs
  pub of_fitted : {A : Type 0} (f g : ℕ → A)
      → ((input : ℕ) → 1 ≤ input → input ≤ x → f input ≡ g input)
      → map f (fitted x n) ≡ map g (fitted x n)
  of_fitted f g same =
      map_same f g (fitted x n) λ k h.
      let within = row_within x n pack k (rw (as_many x n pack) at h) in
      same (get_or (fitted x n) k 0) within.0 within.1
