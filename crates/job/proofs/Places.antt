-- Bytes by their places.
-- Assumes nothing.
use mathlib.Core.Path.{◌≡◌, ap, ◌∙◌}
use mathlib.Core.List.{List, [], ◌∷◌, ◌++◌}
use Prim.Native.Nat.{ℕ, zero, suc, ◌+◌, ◌≤◌, ◌<◌}
use native.Mathlib.Numerals.{unary_clauses}
use native.Mathlib.Omega.{arith}
use lib.ListN.{length, take, drop}
use lib.Seq.{drop-cons, get_or-take, get_or-drop}
use Rattle.job.specs.Jobs.{byte_at}

-- n bytes from byte i on
abbrev pub from : List ℕ → ℕ → ℕ → List ℕ
from l i zero = []
from l i (suc n) = byte_at l i ∷ from l (suc i) n

pub from_drop : (l : List ℕ) (i n : ℕ) → i + n ≤ length l → drop i l ≡ from l i n ++ drop (i + n) l
from_drop l i zero h = simp unary_clauses
from_drop l i (suc n) h =
    let here : i < length l = omega arith in
    let rest : suc i + n ≤ length l = omega arith in
    let end : suc i + n ≡ i + suc n = omega arith in
    drop-cons l i 0 here
    ∙ ap (λ (r : List ℕ). byte_at l i ∷ r) (from_drop l (suc i) n rest ∙ ap (λ (k : ℕ). from l (suc i) n ++ drop k l) end)

-- a byte of n that stand from byte k on
pub byte_of : (n k : ℕ) (l : List ℕ) (i : ℕ) → i < n → byte_at (take n (drop k l)) i ≡ byte_at l (k + i)
byte_of n k l i h = get_or-take n (drop k l) i 0 h ∙ get_or-drop k l i 0
