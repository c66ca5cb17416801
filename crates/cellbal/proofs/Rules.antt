-- The rules' tests, beside what it is that a rule is broken: each holds exactly where there is such an input, or there are two such.
-- Assumes nothing.
use mathlib.Core.Path.{◌≡◌, refl, sym, ap, ◌∙◌}
use mathlib.Core.Logic.{◌⊎◌, inl, inr, ⊎_elim}
use mathlib.Core.Bool.{Bool, true, false, false≢true, ◌&&◌, ◌||◌, and-eq-true_iff}
use mathlib.Core.List.{List, [], ◌∷◌}
use Prim.Native.Nat.{ℕ, zero, suc, ◌+◌, ◌-◌, ◌/◌, ◌^◌, ◌≤◌, ◌<◌}
use native.Mathlib.Numerals.{add-one}
use native.Mathlib.Omega.{arith}
use lib.Dec.{eqb, leb, ltb}
use borrow.Author.Tests.{lt-ltb, ltb-true, leb-true, leb-false, eqb-true, eqb-false}
use Rattle.cellbal.specs.Sets.{is_on}
use Rattle.cellbal.specs.Rules.{one_of, not_on_device, together, neighbours}
use Rattle.cellbal.specs.Broken.{OffDevice, Beside}
use Rattle.cellbal.proofs.Digits.{below_length}

-- ---- one of two tests
either : (a : Bool) {b : Bool} → a || b ≡ true → (a ≡ true) ⊎ (b ≡ true)
either true e = inl refl
either false e = inr e

or_true : (a : Bool) {b : Bool} → b ≡ true → a || b ≡ true
or_true true e = refl
or_true false e = e

-- ---- numbers from one on, so many: one of them passes a test
abbrev run : ℕ → ℕ → List ℕ
run from zero = []
run from (suc n) = from ∷ run (suc from) n

record Among (from n : ℕ) (test : ℕ → Bool) : Type 0 where
  number : ℕ
  least : from ≤ number
  most : number < from + n
  passes : test number ≡ true

among : (from n : ℕ) (test : ℕ → Bool) → one_of (run from n) test ≡ true → Among from n test
among from zero test e = absurd (false≢true e)
among from (suc n) test e =
    ⊎_elim (λ (here : test from ≡ true). record { number = from; least = omega arith; most = omega arith; passes = here })
    (λ (later : one_of (run (suc from) n) test ≡ true). let a = among (suc from) n test later in
    record { number = a.number; least = omega arith; most = omega arith; passes = a.passes })
    (either (test from) e)

first_or_later : (from k : ℕ) (test : ℕ → Bool) {later : Bool} → test k ≡ true → (t : Bool) → eqb k from ≡ t
    → (eqb k from ≡ false → later ≡ true) → test from || later ≡ true
first_or_later from k test h true e on = rw (sym (ap test (eqb-true k from e)) ∙ h)
first_or_later from k test h false e on = or_true (test from) (on e)

one_among : (from n : ℕ) (test : ℕ → Bool) (k : ℕ) → from ≤ k → k < from + n → test k ≡ true → one_of (run from n) test ≡ true
one_among from zero test k least most h = absurd (omega arith)
one_among from (suc n) test k least most h =
    first_or_later from k test h (eqb k from) refl
    (λ other. one_among (suc from) n test k (omega (arith, eqb-false k from other)) (omega arith) h)

module _ (set : ℕ) where
  -- ---- 22
  abbrev over : ℕ → ℕ → Bool
  over x input = ltb x input && is_on set input

  pub off_device : (x : ℕ) → not_on_device x set ≡ true → OffDevice x set
  unfolding not_on_device
  off_device x e =
      let a = among 1 16 (over x) e in
      let h = (and-eq-true_iff (ltb x a.number) _).0 a.passes in
      record { input = a.number; over = ltb-true x a.number h.0; on = h.1 }

  -- ---- 23: a block's test is one of its first four inputs, each with the next
  abbrev pair : ℕ → Bool
  pair input = is_on set input && is_on set (suc input)

  by_pairs : (from n : ℕ) → together set (run from (suc n)) ≡ one_of (run from n) pair
  by_pairs from zero = refl
  by_pairs from (suc n) = ap (λ (t : Bool). pair from || t) (by_pairs (suc from) n)

  pair_beside : (from : ℕ) → ((i : ℕ) → from ≤ i → i < from + 4 → (1 ≤ i) × ((i - 1) / 5 ≡ i / 5))
      → together set (run from 5) ≡ true → Beside set
  pair_beside from inside e =
      let a = among from 4 pair (sym (by_pairs from 4) ∙ e) in
      let h = (and-eq-true_iff (is_on set a.number) _).0 a.passes in
      let there = inside a.number a.least a.most in
      record {
        input = a.number;
        least = there.0;
        one_block = there.1;
        on = h.0;
        next_on = rw add-one h.1;
      }

  pub beside : neighbours set ≡ true → Beside set
  unfolding neighbours
  beside e =
      ⊎_elim (pair_beside 1 (λ i l m. (omega arith, omega arith))) (λ more.
      ⊎_elim (pair_beside 6 (λ i l m. (omega arith, omega arith))) (λ more.
      ⊎_elim (pair_beside 11 (λ i l m. (omega arith, omega arith))) (λ none. absurd (false≢true none))
      (either (together set (run 11 5)) more))
      (either (together set (run 6 5)) more))
      (either (together set (run 1 5)) e)

  pair_in : (from i : ℕ) → from ≤ i → i < from + 4 → is_on set i ≡ true → is_on set (i + 1) ≡ true → together set (run from 5) ≡ true
  pair_in from i l m on next =
      by_pairs from 4 ∙ one_among from 4 pair i l m (rw on (rw add-one at next))

  by_block : (b : Beside set) → b.input ≤ 15 → (low middle : Bool) → leb b.input 5 ≡ low → leb b.input 10 ≡ middle
      → neighbours set ≡ true
  unfolding neighbours
  by_block b most true middle e f =
      rw (pair_in 1 b.input b.least (omega (arith, leb-true b.input 5 e)) b.on b.next_on)
  by_block b most false true e f =
      or_true (together set (run 1 5)) (rw (pair_in 6 b.input
      (omega (arith, leb-false b.input 5 e)) (omega (arith, leb-true b.input 10 f)) b.on b.next_on))
  by_block b most false false e f =
      or_true (together set (run 1 5)) (or_true (together set (run 6 5)) (rw (pair_in 11 b.input
      (omega (arith, leb-false b.input 10 f)) (omega arith) b.on b.next_on)))

  pub in_a_block : (b : Beside set) → b.input ≤ 15 → neighbours set ≡ true
  in_a_block b most = by_block b most (leb b.input 5) (leb b.input 10) refl refl

  -- ---- and so wherever there are such, of a set of two bytes
  module _ (two : set < 2 ^ 16) where
    pub not_on_device_is : (x : ℕ) → OffDevice x set → not_on_device x set ≡ true
    unfolding not_on_device
    not_on_device_is x off =
        let few = below_length 16 (off.input - 1) set two off.on in
        one_among 1 16 (over x) off.input (omega arith) (omega (arith, few, off.over)) (rw (lt-ltb x off.input off.over) off.on)

    pub are_neighbours : Beside set → neighbours set ≡ true
    are_neighbours b = in_a_block b (omega (arith, below_length 16 (b.input + 1 - 1) set two b.next_on))
