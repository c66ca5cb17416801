-- The laws of `put`.
-- Assumes nothing.
use mathlib.Core.Path.{◌≡◌, refl, sym, ap, ap₂, ◌∙◌}
use mathlib.Core.Bool.{Bool, true, false}
use mathlib.Core.List.{List, [], ◌∷◌, ◌++◌, append_assoc, append-nil}
use Prim.Native.Nat.{ℕ, suc, ◌+◌, ◌-◌, ◌≤◌, ◌<◌, max}
use native.Mathlib.Nat.{add-zero, add_assoc}
use native.Mathlib.Numerals.{add-one}
use native.Mathlib.Omega.{arith}
use lib.Dec.{leb}
use lib.ListN.{length, get_or, take, drop, set, get_or-append, length-append, length-drop, take-append-drop, drop_of_length-le}
use lib.Seq.{take_at, drop_at, get_or-append-add, sets, sets-eq, drop-drop, length-take-le, take-add, take-suc-set, drop-set-lt, append_snoc}
use borrow.Author.Tests.{leb-true, leb-false}
use Rattle.frames.specs.Put.{put}

-- nothing takes no place
pub put_none : (l : List ℕ) (at : ℕ) → put l at [] ≡ l
unfolding put
put_none l at = rw (add-zero, append-nil) (take-append-drop at l)

-- as much as there is takes every place
pub put_all : (l v : List ℕ) → length l ≤ length v → put l 0 v ≡ v
unfolding put
put_all l v h =
    let past : length l ≤ 0 + length v = omega arith in
    rw (drop_of_length-le l past, append-nil v)

-- one store, and then the rest
pub put_more : (l : List ℕ) (at x : ℕ) (v : List ℕ) → at < length l → put l at (x ∷ v) ≡ put (set l at x) (at + 1) v
unfolding put
put_more l at x v h =
    let past : suc at + length v ≡ at + suc (length v) = omega arith in
    let after : at < suc at + length v = omega arith in
    rw (add-one, take-suc-set l at x, drop-set-lt (suc at + length v) l at x, append_snoc (take at l) x v, past)

module _ (l : List ℕ) (at : ℕ) (v : List ℕ) (room : at + length v ≤ length l) where
  length_start : length (take at l) ≡ at
  length_start = length-take-le at l (omega arith)

  length_front : length (take at l ++ v) ≡ at + length v
  length_front = simp (length-append, length_start)

  pub length_put : length (put l at v) ≡ length l
  unfolding put
  length_put = simp (length-append, length_start, length-drop) (omega arith)

  -- what stands before it, up to its end, in it and after it
  pub take_before : take at (put l at v) ≡ take at l
  unfolding put
  take_before = rw append_assoc (take_at (take at l) (v ++ drop (at + length v) l) at length_start)

  pub take_put : take (at + length v) (put l at v) ≡ take at l ++ v
  unfolding put
  take_put = take_at (take at l ++ v) (drop (at + length v) l) (at + length v) length_front

  pub get_d_put : (i d : ℕ) → i < length v → get_or (put l at v) (at + i) d ≡ get_or v i d
  unfolding put
  get_d_put i d h =
      get_or-append (take at l ++ v) (drop (at + length v) l) d (at + i) (simp length_front (omega arith))
      ∙ ap (λ (k : ℕ). get_or (take at l ++ v) (k + i) d) (sym length_start)
      ∙ get_or-append-add (take at l) v i d

  pub drop_put : (n : ℕ) → drop (at + length v + n) (put l at v) ≡ drop (at + length v + n) l
  unfolding put
  drop_put n =
      sym (drop-drop n (at + length v) (put l at v))
      ∙ ap (drop n) (drop_at (take at l ++ v) (drop (at + length v) l) (at + length v) length_front)
      ∙ drop-drop n (at + length v) l

  -- one after the other is both at once
  pub put_put : (w : List ℕ) → put (put l at v) (at + length v) w ≡ put l at (v ++ w)
  unfolding put
  put_put w =
      ap₂ (λ (front back : List ℕ). front ++ w ++ back) take_put (drop_put (length w))
      ∙ rw (length-append v w, append_assoc (take at l) v w, add_assoc)

  -- over the same place the later one stays, if it is no shorter
  pub put_over : (w : List ℕ) → length v ≤ length w → put (put l at v) at w ≡ put l at w
  unfolding put
  put_over w h =
      let n = length w - length v in
      let end : at + length w ≡ at + length v + n = omega arith in
      ap₂ (λ (front back : List ℕ). front ++ w ++ back) take_before (rw end (drop_put n))

  -- a run of stores
  pub sets_put : sets l at v ≡ put l at v
  unfolding put
  sets_put = sets-eq v l at room

-- what was put at the front is taken back
pub take_front : (l v : List ℕ) → length v ≤ length l → take (length v) (put l 0 v) ≡ v
take_front l v room =
    let size : length v ≡ 0 + length v = omega arith in
    ap (λ (k : ℕ). take k (put l 0 v)) size ∙ take_put l 0 v (omega arith)

-- ---- one first part over another

-- what stands there already changes nothing
put_held : (l v : List ℕ) (at : ℕ) → take (at + length v) l ≡ take at l ++ v → put l at v ≡ l
unfolding put
put_held l v at e =
    ap (λ (front : List ℕ). front ++ drop (at + length v) l) (sym e)
    ∙ take-append-drop (at + length v) l

put_again : (l v w : List ℕ) (at : ℕ) → at + length (v ++ w) ≤ length l
    → put (put l at (v ++ w)) at v ≡ put l at (v ++ w)
put_again l v w at room =
    let all : at + (length v + length w) ≤ length l = rw length-append at room in
    let first : at + length v ≤ length l = omega arith in
    put_held (put l at (v ++ w)) v at
    (ap (take (at + length v)) (sym (put_put l at v first w))
    ∙ take_before (put l at v) (at + length v) w (rw (length_put l at v first) (omega arith))
    ∙ take_put l at v first
    ∙ ap (λ (front : List ℕ). front ++ v) (sym (take_before l at (v ++ w) room)))

-- the longer one is left
pub put_parts : (l v : List ℕ) (at m n : ℕ) → m ≤ length v → n ≤ length v → at + length v ≤ length l
    → put (put l at (take m v)) at (take n v) ≡ put l at (take (max m n) v)
put_parts l v at m n hm hn room = by (leb m n) refl
  where
    by : (t : Bool) → leb m n ≡ t → put (put l at (take m v)) at (take n v) ≡ put l at (take (max m n) v)
    by true e =
        let less = leb-true m n e in
        let most : max m n ≡ n = omega arith in
        let lm = length-take-le m v hm in
        let ln = length-take-le n v hn in
        put_over l at (take m v) (omega arith) (take n v) (omega arith) ∙ ap (λ (k : ℕ). put l at (take k v)) (sym most)
    by false e =
        let less = leb-false m n e in
        let most : max m n ≡ m = omega arith in
        let sum : m ≡ n + (m - n) = omega arith in
        let split : take m v ≡ take n v ++ take (m - n) (drop n v) =
        ap (λ (k : ℕ). take k v) sum ∙ take-add n (m - n) v in
        let lm = length-take-le m v hm in
        let size : length (take n v ++ take (m - n) (drop n v)) ≡ m = ap length (sym split) ∙ lm in
        ap (λ (u : List ℕ). put (put l at u) at (take n v)) split
        ∙ put_again l (take n v) (take (m - n) (drop n v)) at (omega arith)
        ∙ ap (put l at) (sym split)
        ∙ ap (λ (k : ℕ). put l at (take k v)) (sym most)
