-- Which input's reading each cell of the crate's list is, by the moves; on which packs these are the fitted inputs; and
-- that the moves' order can't be seen.
-- Assumes nothing.
use mathlib.Core.Path.{◌≡◌, refl, sym, ap, ◌∙◌}
use mathlib.Core.Bool.{Bool, true, false, not, ◌&&◌}
use mathlib.Core.List.{List, [], ◌∷◌, map}
use mathlib.Core.Logic.{◌≢◌}
use Prim.Native.Nat.{ℕ, zero, suc, ◌-◌, ◌≤◌, ◌<◌}
use native.Mathlib.Omega.{arith}
use lib.Dec.{eqb}
use lib.ListN.{length, take, get_or, set, get_or-map}
use lib.Seq.{set_comm, get_or-set_other, ext_get_or}
use Rattle.laws.proofs.Tests.{same_below}
use Rattle.moves.specs.Moves.{Move, moves, moved_if, in_turn, names, inputs_of}
use Rattle.laws.proofs.Lists.{map_set, map_take}

-- inputs, cells, and which inputs the answer lists, for every device and count
abbrev Pack : Type 0
Pack = ℕ × ℕ × List ℕ

abbrev packs : List Pack
packs =
    (5, 3, 1 ∷ 2 ∷ 5 ∷ []) ∷
    (5, 4, 1 ∷ 2 ∷ 3 ∷ 5 ∷ []) ∷
    (5, 5, 1 ∷ 2 ∷ 3 ∷ 4 ∷ 5 ∷ []) ∷
    (10, 6, 1 ∷ 2 ∷ 5 ∷ 4 ∷ 5 ∷ 6 ∷ []) ∷
    (10, 7, 1 ∷ 2 ∷ 3 ∷ 5 ∷ 5 ∷ 6 ∷ 7 ∷ []) ∷
    (10, 8, 1 ∷ 2 ∷ 3 ∷ 5 ∷ 5 ∷ 6 ∷ 7 ∷ 8 ∷ []) ∷
    (10, 9, 1 ∷ 2 ∷ 5 ∷ 4 ∷ 5 ∷ 6 ∷ 7 ∷ 10 ∷ 10 ∷ []) ∷
    (10, 10, 1 ∷ 2 ∷ 3 ∷ 5 ∷ 5 ∷ 6 ∷ 7 ∷ 10 ∷ 9 ∷ 10 ∷ []) ∷
    (15, 9, 1 ∷ 2 ∷ 5 ∷ 4 ∷ 5 ∷ 6 ∷ 7 ∷ 10 ∷ 10 ∷ []) ∷
    (15, 10, 1 ∷ 2 ∷ 3 ∷ 5 ∷ 5 ∷ 6 ∷ 7 ∷ 10 ∷ 9 ∷ 10 ∷ []) ∷
    (15, 11, 1 ∷ 2 ∷ 3 ∷ 5 ∷ 5 ∷ 6 ∷ 7 ∷ 8 ∷ 10 ∷ 10 ∷ 11 ∷ []) ∷
    (15, 12, 1 ∷ 2 ∷ 3 ∷ 5 ∷ 5 ∷ 6 ∷ 7 ∷ 8 ∷ 10 ∷ 10 ∷ 11 ∷ 12 ∷ []) ∷
    (15, 13, 1 ∷ 2 ∷ 3 ∷ 4 ∷ 5 ∷ 6 ∷ 7 ∷ 8 ∷ 10 ∷ 10 ∷ 11 ∷ 12 ∷ 13 ∷ []) ∷
    (15, 14, 1 ∷ 2 ∷ 3 ∷ 4 ∷ 5 ∷ 6 ∷ 7 ∷ 8 ∷ 9 ∷ 10 ∷ 11 ∷ 12 ∷ 13 ∷ 15 ∷ []) ∷
    (15, 15, 1 ∷ 2 ∷ 3 ∷ 4 ∷ 5 ∷ 6 ∷ 7 ∷ 8 ∷ 9 ∷ 10 ∷ 11 ∷ 12 ∷ 13 ∷ 14 ∷ 15 ∷ []) ∷
    []

pub shown_inputs : map (λ (p : Pack). inputs_of p.0 p.1) packs ≡ map (λ (p : Pack). p.2) packs
shown_inputs = refl

-- ---- the crate's list is the readings of these inputs, whatever is read
module _ {A B : Type 0} (f : A → B) (none : A) where
  moved_map : (t : Bool) (to from : ℕ) (l : List A)
      → moved_if (f none) t to from (map f l) ≡ map f (moved_if none t to from l)
  moved_map false to from l = refl
  moved_map true to from l =
      ap (set (map f l) to) (get_or-map f l from none) ∙ sym (map_set f l to (get_or l from none))

  -- what is moved can't be seen by the moves
  pub turned_map : (ms : List Move) (l : List A) → in_turn (f none) ms (map f l) ≡ map f (in_turn none ms l)
  turned_map [] l = refl
  turned_map (m ∷ ms) l =
      ap (in_turn (f none) ms) (moved_map m.when m.to m.from l)
      ∙ turned_map ms (moved_if none m.when m.to m.from l)

module _ {A : Type 0} (none : A) (cells : List A) where
  -- the cell that a name names; 0 is none's
  abbrev pub at : ℕ → A
  at name = get_or (none ∷ cells) name none

  pub at_input : (input : ℕ) → 1 ≤ input → at input ≡ get_or cells (input - 1) none
  at_input zero h = absurd (omega arith)
  at_input (suc i) h = ap (λ (k : ℕ). get_or cells k none) (omega arith)

  named_at : (k : ℕ) → k < 15 → get_or cells k none ≡ get_or (map at names) k none
  named_at k h =
      let name = same_below 15 (λ i. get_or names i 0) suc tt k h in
      sym (get_or-map at names k 0 ∙ ap at name)

  pub shows : length cells ≡ 15 → (x n : ℕ) → take n (in_turn none (moves x n) cells) ≡ map at (inputs_of x n)
  shows size x n =
      let all : cells ≡ map at names = ext_get_or none cells _ size λ k h. named_at k (omega arith) in
      ap (λ (l : List A). take n (in_turn none (moves x n) l)) all
      ∙ ap (take n) (turned_map at 0 (moves x n) names)
      ∙ sym (map_take at n (in_turn 0 (moves x n) names))

-- ---- no place that a move reads is one that a move writes
abbrev apart : ℕ → List ℕ → Bool
apart n [] = true
apart n (k ∷ ks) = not (eqb n k) && apart n ks

abbrev all_apart : List ℕ → List ℕ → Bool
all_apart [] ks = true
all_apart (n ∷ ns) ks = apart n ks && all_apart ns ks

pub sources_stay : (x n : ℕ)
    → all_apart (map (λ (m : Move). m.from) (moves x n)) (map (λ (m : Move). m.to) (moves x n)) ≡ true
sources_stay x n = refl

-- so two moves with different targets can change places
pub either_first : {A : Type 0} (none : A) (a b : Bool) (to from to' from' : ℕ) (cells : List A)
    → to ≢ to' → from ≢ to' → from' ≢ to
    → moved_if none b to' from' (moved_if none a to from cells) ≡ moved_if none a to from (moved_if none b to' from' cells)
either_first none true true to from to' from' cells h k l =
    let read = get_or-set_other cells to from' (get_or cells from none) none l in
    let read' = get_or-set_other cells to' from (get_or cells from' none) none k in
    rw (read, read')
    (set_comm cells to to' (get_or cells from none) (get_or cells from' none) h)
either_first none true false to from to' from' cells h k l = refl
either_first none false true to from to' from' cells h k l = refl
either_first none false false to from to' from' cells h k l = refl
