-- Looking for an input in a list: by its place; what is found stands there; in a list that rises each number is found at its own place.
-- Assumes nothing.
use mathlib.Core.Path.{◌≡◌, refl, sym, ap, ◌∙◌}
use mathlib.Core.Bool.{Bool, true, false, cond}
use mathlib.Core.List.{List, [], ◌∷◌}
use Prim.Native.Nat.{ℕ, zero, suc, ◌+◌, ◌-◌, ◌≤◌, ◌<◌}
use native.Mathlib.Omega.{arith}
use lib.Dec.{T, eqb}
use lib.ListN.{length, get_or}
use Rattle.std.specs.Prelude.{Option, Some, None, position}
use Rattle.std.specs.List.{position_from}
use Rattle.std.proofs.lemmas.Iterator.Adapters.{position_from-zero}
use borrow.Author.Tests.{eq-eqb, ne_eqb, eqb-true}
use Rattle.refusals.specs.Refusal.{Answer, value, refused, no}
use Rattle.wiring.specs.Questions.{cell_from}
use Rattle.wiring.proofs.Rising.{rising, rising_tail, rising_order}

-- ---- as the code looks for it: by its place, from 0
abbrev pub cell_at : Option ℕ → Answer ℕ
cell_at (Some k) = value (k + 1)
cell_at None = refused (no 21 [])

placed : (l : List ℕ) (k s input : ℕ) → s ≡ k + 1 → cell_from s l input ≡ cell_at (position_from (λ i. eqb input i) k l)
placed [] k s input e = refl
placed (i ∷ l) k s input e = by_test (eqb input i) (placed l (k + 1) (suc s) input (omega arith))
  where
    by_test : (t : Bool) → cell_from (suc s) l input ≡ cell_at (position_from (λ i. eqb input i) (k + 1) l)
        → cond t (value s) (cell_from (suc s) l input) ≡ cell_at (cond t (Some k) (position_from (λ i. eqb input i) (k + 1) l))
    by_test true later = ap value e
    by_test false later = later

pub by_position : (l : List ℕ) (input : ℕ) → cell_from 1 l input ≡ cell_at (position (λ i. eqb input i) l)
by_position l input = placed l 0 1 input refl ∙ ap cell_at (sym (position_from-zero (λ i. eqb input i) l))

-- ---- in a list that rises
pub finds : (low high : ℕ) (l : List ℕ) → T (rising low high l) → (s k : ℕ) → k < length l → cell_from s l (get_or l k 0) ≡ value (s + k)
finds low high [] t s k h = absurd (omega arith)
finds low high (a ∷ l) t s zero h =
    let place : s ≡ s + 0 = omega arith in
    rw (eq-eqb a a refl) (ap value place)
finds low high (a ∷ l) t s (suc k) h =
    let above = rising_order low high (a ∷ l) t 0 (suc k) (omega arith) h in
    let place : suc s + k ≡ s + suc k = omega arith in
    rw (ne_eqb (get_or l k 0) a (λ e. omega arith)) (finds a high l (rising_tail low high a l t) (suc s) k (omega arith) ∙ ap value place)

-- ---- in any list
abbrev Stands : List ℕ → ℕ → ℕ → ℕ → Type 0
Stands l s input cell = (s ≤ cell) × (cell < s + length l) × (get_or l (cell - s) 0 ≡ input)

pub found : (l : List ℕ) (s input cell : ℕ) → cell_from s l input ≡ value cell → Stands l s input cell
found [] s input cell e = absurd (let z : ◌≡◌ {A = ℕ} 0 1 = cc in omega arith)
found (a ∷ l) s input cell e = by_test (found l (suc s) input cell) (eqb input a) refl e
  where
    by_test : (cell_from (suc s) l input ≡ value cell → Stands l (suc s) input cell)
        → (t : Bool) → eqb input a ≡ t → cond t (value s) (cell_from (suc s) l input) ≡ value cell → Stands (a ∷ l) s input cell
    by_test later true here q =
        let same : s ≡ cell = cc in
        let first : cell - s ≡ 0 = omega arith in
        (omega arith, omega arith, rw first (sym (eqb-true input a here)))
    by_test later false here q =
        let rest = later q in
        let next : cell - s ≡ suc (cell - suc s) = omega arith in
        (omega arith, omega arith, rw next rest.2)

-- a cell, or 21
pub either : (P : Answer ℕ → Type 0) → ((cell : ℕ) → P (value cell)) → P (refused (no 21 [])) → (l : List ℕ) (s input : ℕ) → P (cell_from s l input)
either P given none [] s input = none
either P given none (a ∷ l) s input = by_test (either P given none l (suc s) input) (eqb input a)
  where
    by_test : P (cell_from (suc s) l input) → (t : Bool) → P (cond t (value s) (cell_from (suc s) l input))
    by_test later true = given s
    by_test later false = later
