-- What two figures of a list are: the lowest stands in it and no number of it is below, the highest stands in it and none is above.
-- Assumes nothing.
use mathlib.Core.Path.{◌≡◌, refl, sym, ◌∙◌}
use mathlib.Core.Bool.{Bool, true, false}
use mathlib.Core.List.{List, [], ◌∷◌, foldl}
use mathlib.Core.Logic.{◌⊎◌, inl, inr}
use Prim.Native.Nat.{ℕ, zero, suc, ◌≤◌, ◌<◌}
use native.Mathlib.Nat.{le_trans}
use native.Mathlib.Omega.{arith}
use lib.Dec.{T, leb→le, le→leb, ltb→lt}
use lib.IntN.{ℤ, pos, negsuc}
use lib.ListN.{length, get_or}
use lib.Signed.{le_z, lt_z, ◌≤ℤ◌, ≤ℤ_refl, le_z_yes, lt_z_no}
use Rattle.laws.specs.Choice.{when◌then◌else◌}
use Rattle.bq769x0.specs.Figures.{lower, higher, all_by}

-- ---- the order
le_le : (a b c : ℤ) → T (le_z a b) → T (le_z b c) → T (le_z a c)
le_le (pos a) (pos b) (pos c) h k = le→leb a c (le_trans (leb→le a b h) (leb→le b c k))
le_le (pos a) (pos b) (negsuc c) h k = k
le_le (pos a) (negsuc b) c h k = absurd h
le_le (negsuc a) (pos b) (pos c) h k = tt
le_le (negsuc a) (pos b) (negsuc c) h k = absurd k
le_le (negsuc a) (negsuc b) (pos c) h k = tt
le_le (negsuc a) (negsuc b) (negsuc c) h k = le→leb c a (le_trans (leb→le c b k) (leb→le b a h))

lt_le : (a b : ℤ) → T (lt_z a b) → T (le_z a b)
lt_le (pos a) (pos b) h = le→leb a b (omega (arith, ltb→lt a b h))
lt_le (pos a) (negsuc b) h = absurd h
lt_le (negsuc a) (pos b) h = tt
lt_le (negsuc a) (negsuc b) h = le→leb b a (omega (arith, ltb→lt b a h))

-- ---- a rule that gives one of two numbers, in the same order to both
pub record Extreme (two : ℤ → ℤ → ℤ) (Below : ℤ → ℤ → Type 0) : Type 0 where
  pub same : (a : ℤ) → Below a a
  pub through : {a b c : ℤ} → Below a b → Below b c → Below a c
  pub first : (a b : ℤ) → Below (two a b) a
  pub second : (a b : ℤ) → Below (two a b) b
  pub one : (a b : ℤ) → (two a b ≡ a) ⊎ (two a b ≡ b)

-- a number that stands in a list
abbrev pub Stands : ℤ → List ℤ → Type 0
Stands z l = (k : ℕ) × (k < length l) × (get_or l k (pos 0) ≡ z)

module _ {two : ℤ → ℤ → ℤ} {Below : ℤ → ℤ → Type 0} (x : Extreme two Below) where
  -- of a number and a list after it
  to_first : (a : ℤ) (l : List ℤ) → Below (foldl two a l) a
  to_first a [] = x.same a
  to_first a (b ∷ l) = x.through (to_first (two a b) l) (x.first a b)

  to_rest : (a : ℤ) (l : List ℤ) (k : ℕ) → k < length l → Below (foldl two a l) (get_or l k (pos 0))
  to_rest a [] k h = absurd (omega arith)
  to_rest a (b ∷ l) zero h = x.through (to_first (two a b) l) (x.second a b)
  to_rest a (b ∷ l) (suc k) h = to_rest (two a b) l k (omega arith)

  pub to_all : (l : List ℤ) (k : ℕ) → k < length l → Below (all_by two l) (get_or l k (pos 0))
  to_all [] k h = absurd (omega arith)
  to_all (a ∷ l) zero h = to_first a l
  to_all (a ∷ l) (suc k) h = to_rest a l k (omega arith)

  -- where it stands
  from_two : (a b z : ℤ) (l : List ℤ) → (two a b ≡ a) ⊎ (two a b ≡ b) → Stands z (two a b ∷ l) → Stands z (a ∷ b ∷ l)
  from_two a b z l (inl e) (zero, h, f) = (0, omega arith, sym e ∙ f)
  from_two a b z l (inr e) (zero, h, f) = (1, omega arith, sym e ∙ f)
  from_two a b z l t (suc k, h, f) = (suc (suc k), omega arith, f)

  among : (a : ℤ) (l : List ℤ) → Stands (foldl two a l) (a ∷ l)
  among a [] = (0, omega arith, refl)
  among a (b ∷ l) = from_two a b _ l (x.one a b) (among (two a b) l)

  pub is_one : (l : List ℤ) → 1 ≤ length l → Stands (all_by two l) l
  is_one [] some = absurd (omega arith)
  is_one (a ∷ l) some = among a l

-- ---- the lower, and the higher
abbrev Above : ℤ → ℤ → Type 0
Above a b = b ≤ℤ a

module _ (a b : ℤ) where
  lower_by : (t : Bool) → lt_z b a ≡ t
      → ((when t then b else a) ≤ℤ a) × ((when t then b else a) ≤ℤ b) × (((when t then b else a) ≡ a) ⊎ ((when t then b else a) ≡ b))
  lower_by true e = (le_z_yes (lt_le b a (rw e tt)), ≤ℤ_refl b, inr refl)
  lower_by false e = (≤ℤ_refl a, lt_z_no (rw e tt), inl refl)

  higher_by : (t : Bool) → lt_z a b ≡ t
      → Above (when t then b else a) a × Above (when t then b else a) b × (((when t then b else a) ≡ a) ⊎ ((when t then b else a) ≡ b))
  higher_by true e = (le_z_yes (lt_le a b (rw e tt)), ≤ℤ_refl b, inr refl)
  higher_by false e = (≤ℤ_refl a, lt_z_no (rw e tt), inl refl)

pub lowest : Extreme lower ◌≤ℤ◌
lowest = record {
  same = ≤ℤ_refl;
  through = λ {a} {b} {c} h k. le_z_yes (le_le a b c h.le k.le);
  first = λ a b. (lower_by a b (lt_z b a) refl).0;
  second = λ a b. (lower_by a b (lt_z b a) refl).1;
  one = λ a b. (lower_by a b (lt_z b a) refl).2;
}

pub highest : Extreme higher Above
highest = record {
  same = ≤ℤ_refl;
  through = λ {a} {b} {c} h k. le_z_yes (le_le c b a k.le h.le);
  first = λ a b. (higher_by a b (lt_z a b) refl).0;
  second = λ a b. (higher_by a b (lt_z a b) refl).1;
  one = λ a b. (higher_by a b (lt_z a b) refl).2;
}
