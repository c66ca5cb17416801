-- Lists in the place of a list's first elements, one element at a time.
-- Assumes nothing.
use mathlib.Core.Path.{◌≡◌, sym, ◌∙◌}
use mathlib.Core.List.{List, map, append_assoc}
use Prim.Native.Nat.{ℕ, suc, ◌+◌, ◌<◌}
use native.Mathlib.Omega.{arith}
use native.Mathlib.Numerals.{add-one}
use lib.ListN.{length, take, drop, get_or, set, length-map, get_or-map}
use lib.Seq.{drop-cons, take-suc, set_at, length-take-le}
use Rattle.laws.specs.Over.{◌over◌}

-- one more
pub over_step : {A : Type 0} (v l : List A) (i : ℕ) (d : A) → i < length v → i < length l
    → set (take i v over l) i (get_or v i d) ≡ take (i + 1) v over l
over_step v l i d more room =
    let now : length (take i v) ≡ i = length-take-le i v (omega arith) in
    let then : length (take (suc i) v) ≡ suc i = length-take-le (suc i) v (omega arith) in
    let there = set_at (take i v) (get_or l i d) (drop (suc i) l) (get_or v i d) i now in
    rw (add-one, now, then, drop-cons l i d room, there, take-suc v i d more, append_assoc)

-- so a loop goes on from i elements to i + 1, by what it makes of the next one
pub over_next : {A : Type 0} (v l : List A) (i : ℕ) (d : A) {l' : List A} {a : A}
    → l' ≡ take i v over l → a ≡ get_or v i d → i < length v → i < length l
    → set l' i a ≡ take (i + 1) v over l
over_next v l i d so_far made more room = rw (so_far, made) (over_step v l i d more room)

pub map_next : {A B : Type 0} (f : A → B) (v : List A) (l : List B) (i : ℕ) (d : A) {l' : List B} {b : B}
    → l' ≡ take i (map f v) over l → b ≡ f (get_or v i d) → i < length v → i < length l
    → set l' i b ≡ take (i + 1) (map f v) over l
map_next f v l i d so_far made more room =
    over_next (map f v) l i (f d) so_far (made ∙ sym (get_or-map f v i d)) (rw (length-map v f) more) room
