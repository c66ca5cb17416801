-- A field's bytes, store by store, and a slice of others copied over.
-- Assumes nothing.
use mathlib.Core.Path.{◌≡◌, sym, ap, ◌∙◌}
use mathlib.Core.List.{List, [], ◌∷◌, ◌++◌}
use Prim.Native.Nat.{ℕ, ◌+◌, ◌≤◌}
use native.Mathlib.Numerals.{add-one, add-two, add-three}
use native.Mathlib.Omega.{arith}
use Rattle.std.proofs.lemmas.List.{append_assoc}
use lib.ListN.{length, set, take, drop}
use lib.Seq.{drop-drop}
use borrow.Rule.Slice.PartMut.{put_mid}
use Rattle.frames.specs.Put.{put}
use Rattle.frames.proofs.Put.{put_put, sets_put}

-- what a slice of a list holds then, put there
pub put_slice : (l v w : List ℕ) (at k : ℕ) → v ≡ w → k ≡ length w → put_mid at k l v ≡ put l at w
unfolding put
put_slice l v w at k e size = rw (e, size, drop-drop (length w) at l) (sym (append_assoc (take at l) w _))

-- and in front
pub put_front : (l v w : List ℕ) (k : ℕ) → v ≡ w → k ≡ length w → v ++ drop k l ≡ put l 0 w
unfolding put
put_front l v w k e size =
    let none : 0 + length w ≡ length w = omega arith in
    rw (e, size, none)

-- a field's head, and then what follows it
pub put_head : (l : List ℕ) (at a b c d : ℕ) (rest : List ℕ) → at + (4 + length rest) ≤ length l
    → put (set (set (set (set l at a) (at + 1) b) (at + 2) c) (at + 3) d) (at + 4) rest
    ≡ put l at (a ∷ b ∷ c ∷ d ∷ rest)
put_head l at a b c d rest room =
    let v : List ℕ = a ∷ b ∷ c ∷ d ∷ [] in
    let r : at + length v ≤ length l = omega arith in
    rw (add-one, add-two, add-three)
    (ap (λ (m : List ℕ). put m (at + 4) rest) (sets_put l at v r) ∙ put_put l at v r rest)
