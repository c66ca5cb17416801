-- Lists mapped, cut and stored to, element by element.
-- Assumes nothing.
use mathlib.Core.Path.{◌≡◌, refl, ap, ap₂}
use mathlib.Core.List.{List, [], ◌∷◌, map}
use Prim.Native.Nat.{ℕ, zero, suc, ◌<◌}
use native.Mathlib.Omega.{arith}
use lib.ListN.{length, take, get_or, set}

pub map_take : {A B : Type 0} (f : A → B) (n : ℕ) (l : List A) → map f (take n l) ≡ take n (map f l)
map_take f zero l = refl
map_take f (suc n) [] = refl
map_take {B = B} f (suc n) (x ∷ xs) = ap (λ (r : List B). f x ∷ r) (map_take f n xs)

-- two functions that agree on what a list holds
pub map_same : {A : Type 0} (f g : ℕ → A) (l : List ℕ)
    → ((k : ℕ) → k < length l → f (get_or l k 0) ≡ g (get_or l k 0))
    → map f l ≡ map g l
map_same f g [] same = refl
map_same f g (a ∷ l) same = ap₂ ◌∷◌ (same 0 (omega arith)) (map_same f g l (λ k h. same (suc k) (omega arith)))

-- what stands in a list does not depend on what would stand behind it
pub get_d_any : {A : Type 0} (l : List A) (k : ℕ) (d e : A) → k < length l → get_or l k d ≡ get_or l k e
get_d_any [] k d e h = absurd (omega arith)
get_d_any (a ∷ l) zero d e h = refl
get_d_any (a ∷ l) (suc k) d e h = get_d_any l k d e (omega arith)

pub map_set : {A B : Type 0} (f : A → B) (l : List A) (k : ℕ) (a : A) → map f (set l k a) ≡ set (map f l) k (f a)
map_set f [] k a = refl
map_set f (x ∷ l) zero a = refl
map_set {B = B} f (x ∷ l) (suc k) a = ap (λ (r : List B). f x ∷ r) (map_set f l k a)
