-- `cells::figures::spread_of` meets its contract: a turn goes on from i cells after the first to i + 1. The numbers that it goes by are in bits,
-- and are read back as they are, since each fits.
-- Assumes nothing.
use Rattle.std.proofs.Common.{◌≡◌, ℕ, ◌+◌, ◌-◌, ◌*◌, ◌<◌, ◌≤◌, Bool, true, false, not, T, cond, List, [], ◌∷◌, length, take, drop, get_or, ℤ, pos, ◌+ℤ◌, nat_abs, refl, sym, ap, subst, ◌∙◌, add-one, arith, SFits, to_z, of_z, to_z-of_z, w32}
use mathlib.Core.List.{foldl, foldl-append}
use lib.ListN.{length-drop}
use lib.Seq.{take-suc, get_or-take, length-take-le}
use lib.Signed.{mag}
use Rattle.std.specs.Int.{int_min, int_max}
use Rattle.std.specs.Int.Signed.{lt_z, lt_z_yes, lt_z_no}
use Rattle.std.proofs.lemmas.Int.{ints}
use Rattle.std.proofs.lemmas.Grind.{get_or_after_one}
use Rattle.laws.specs.Choice.{when◌then◌else◌}
use Rattle.numbers.proofs.Signed.{sized, size_add, read_back}
use Rattle.bq769x0.specs.Figures.{lower, higher}
use Rattle.cells.specs.Inside.{Small}
use Rattle.cells.proofs.figures.spread_of.Goals as goal

-- ---- the library's lower and higher are the definition's
module _ {A : Type 0} (a b : A) where
  by_test : (t : Bool) → cond t b a ≡ (when t then b else a)
  by_test true = refl
  by_test false = refl

  by_tests : (t u : Bool) → (T t → T u → a ≡ b) → (T (not t) → T (not u) → a ≡ b) → cond t a b ≡ (when u then b else a)
  by_tests true true both none = both tt tt
  by_tests true false both none = refl
  by_tests false true both none = refl
  by_tests false false both none = sym (none tt tt)

min_lower : (a b : ℤ) → int_min a b ≡ lower a b
min_lower a b = by_test a b (lt_z b a)

max_higher : (a b : ℤ) → int_max a b ≡ higher a b
max_higher a b =
    by_tests a b (lt_z b a) (lt_z a b)
    (λ t u. omega (arith, ints, lt_z_yes {a = b} {b = a} t, lt_z_yes {a = a} {b = b} u))
    (λ t u. omega (arith, ints, lt_z_no {a = b} {b = a} t, lt_z_no {a = a} {b = b} u))

-- ---- the next cell, which is small, is read back as it is
module _ (mvs : List ℤ) (i : ℕ) (few : length mvs ≤ 15) (small : Small (length mvs) mvs) (more : i < length mvs - 1) where
  abbrev rest : List ℤ
  rest = take (length mvs - 1) (drop 1 mvs)

  abbrev next : ℤ
  next = get_or rest i (pos 0)

  there : get_or mvs (1 + i) (pos 0) ≡ next
  there = sym (get_or-take (length mvs - 1) (drop 1 mvs) i (pos 0) more ∙ get_or_after_one mvs i (pos 0))

  next≤ : nat_abs next ≤ 27000
  next≤ = subst (λ (z : ℤ). nat_abs z ≤ 27000) there (small (1 + i) (omega arith))

  next_read : to_z w32 (of_z w32 next) ≡ next
  next_read = to_z-of_z {w = w32} (sized (omega (arith, next≤)))

  -- ---- and the sum with it
  module _ (sum : ℤ) (h : nat_abs sum ≤ 27001 * (i + 1)) where
    sum≤ : nat_abs (sum +ℤ next) ≤ 27001 * (i + 1 + 1)
    sum≤ = omega (arith, size_add sum next, next≤)

    fits : SFits w32 (sum +ℤ to_z w32 (of_z w32 next))
    fits = rw next_read (sized (omega (arith, sum≤)))

    added : to_z w32 (of_z w32 (sum +ℤ to_z w32 (of_z w32 next))) ≡ sum +ℤ next
    added = to_z-of_z fits ∙ ap (λ (z : ℤ). sum +ℤ z) next_read

  -- what was made of the first i cells and the next is made of the first i + 1
  grown : (two : ℤ → ℤ → ℤ) (first : ℤ) {z : ℤ} → z ≡ foldl two first (take i rest) → two z next ≡ foldl two first (take (i + 1) rest)
  grown two first e =
      let room : i < length rest = omega (arith, length-take-le (length mvs - 1) (drop 1 mvs) (omega (arith, length-drop 1 mvs))) in
      rw (e, add-one, take-suc rest i (pos 0) room) (sym (foldl-append two first (take i rest) (next ∷ [])))

  -- the same by a call, whose result is in bits then
  chosen : (two : ℤ → ℤ → ℤ) (first z : ℤ) {r : ℤ} → mag r < 2147483648 → r ≡ two z (to_z w32 (of_z w32 next))
      → z ≡ foldl two first (take i rest)
      → to_z w32 (of_z w32 r) ≡ foldl two first (take (i + 1) rest)
  chosen two first z {r} ok made e = read_back w32 r ok ∙ made ∙ ap (two z) next_read ∙ grown two first e

pub overflow_add-sum : goal.overflow_add-sum
overflow_add-sum c = fits c.args.millivolts.now c.loop-mv.mv-index c.requires.1 c.requires.2 (omega arith) _ c.loop-mv.invariant.0

pub loop-mv-preserved : goal.loop-mv-preserved
loop-mv-preserved c =
    let inv = c.loop-mv.invariant in
    let mvs = c.args.millivolts.now in
    let i = c.loop-mv.mv-index in
    let few = c.requires.1 in
    let small = c.requires.2 in
    let more : i < length mvs - 1 = omega arith in
    let next = to_z w32 (of_z w32 (next mvs i few small more)) in (
      rw (added mvs i few small more _ inv.0) (sum≤ mvs i few small more _ inv.0),
      added mvs i few small more _ inv.0 ∙ grown mvs i few small more ◌+ℤ◌ _ inv.1,
      chosen mvs i few small more lower _ _ c.min-lowest.type_inv (c.min-lowest.ensures.value ∙ min_lower (to_z w32 c.loop-mv.lowest-bits) next) inv.2,
      chosen mvs i few small more higher _ _ c.max-highest.type_inv (c.max-highest.ensures.value ∙ max_higher (to_z w32 c.loop-mv.highest-bits) next) inv.3,
    )
