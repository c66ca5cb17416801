-- Moves among a list's first cells are made there alone: what stands behind those stays, and is not seen.
-- Assumes nothing.
use mathlib.Core.Path.{◌≡◌, refl, ap, ◌∙◌}
use mathlib.Core.Bool.{Bool, true, false, not, ◌&&◌, ◌||◌}
use mathlib.Core.List.{List, [], ◌∷◌, ◌++◌}
use Prim.Native.Nat.{ℕ}
use lib.Dec.{T, ltb, ltb→lt}
use lib.ListN.{length, get_or, set, length-set, get_or-append}
use lib.Seq.{set-append_left}
use Rattle.laws.proofs.Tests.{both_left, both_right}
use Rattle.moves.specs.Moves.{Move, moved_if, in_turn}

-- each move that is made is among the first x
abbrev pub in_front : ℕ → List Move → Bool
in_front x [] = true
in_front x (m ∷ ms) = (not m.when || ltb m.to x && ltb m.from x) && in_front x ms

module _ {A : Type 0} (none : A) where
  length_moved : (t : Bool) (to from : ℕ) (l : List A) → length (moved_if none t to from l) ≡ length l
  length_moved true to from l = length-set l to (get_or l from none)
  length_moved false to from l = refl

  pub length_turned : (ms : List Move) (l : List A) → length (in_turn none ms l) ≡ length l
  length_turned [] l = refl
  length_turned (m ∷ ms) l =
      length_turned ms (moved_if none m.when m.to m.from l) ∙ length_moved m.when m.to m.from l

  moved_front : (t : Bool) (to from x : ℕ) (l rest : List A) → length l ≡ x
      → T (not t || ltb to x && ltb from x)
      → moved_if none t to from (l ++ rest) ≡ moved_if none t to from l ++ rest
  moved_front false to from x l rest size h = refl
  moved_front true to from x l rest size h =
      let near = ltb→lt to x (both_left (ltb to x) (ltb from x) h) in
      let far = ltb→lt from x (both_right (ltb to x) (ltb from x) h) in
      ap (set (l ++ rest) to) (get_or-append l rest none from (rw size far))
      ∙ set-append_left l rest to (get_or l from none) (rw size near)

  pub turned_front : (ms : List Move) (x : ℕ) (l rest : List A) → length l ≡ x → T (in_front x ms)
      → in_turn none ms (l ++ rest) ≡ in_turn none ms l ++ rest
  turned_front [] x l rest size h = refl
  turned_front (m ∷ ms) x l rest size h =
      let one = not m.when || ltb m.to x && ltb m.from x in
      ap (in_turn none ms) (moved_front m.when m.to m.from x l rest size (both_left one (in_front x ms) h))
      ∙ turned_front ms x (moved_if none m.when m.to m.from l) rest
      (length_moved m.when m.to m.from l ∙ size) (both_right one (in_front x ms) h)
