-- An arm of a `match` with `|` or `_` on a declared enum: what is known there is that the variant's place is one of the arm's. Where a function
-- of the enum computes to b at each of these places, `by_keys` has it b at the value.
-- Assumes nothing.
use mathlib.Core.Path.{◌≡◌, ◌∙◌}
use mathlib.Core.List.{List, [], ◌∷◌, map}
use mathlib.Core.Logic.{⊎_elim}
use Prim.Native.Nat.{ℕ}
use denote.Enum.Declared.{Record, declared, tag_of}
use types.Run.{OneOf}
use Rattle.laws.proofs.Variants.{variants, by_variants}

at_key : {B : Type 0} (at : ℕ → B) (b : B) (keys : List ℕ) → map (λ _. b) keys ≡ map at keys → (k : ℕ) → OneOf keys k → b ≡ at k
at_key at b [] same k one = absurd one
at_key at b (x ∷ []) same k e = cc
at_key at b (x ∷ y ∷ keys) same k one =
    ⊎_elim (λ (e : k ≡ x). cc) (λ (later : OneOf (y ∷ keys) k). at_key at b (y ∷ keys) (cc) k later) one

pub by_keys :
    {B : Type 0}
    (enum : Record)
    (f : enum.D → B)
    (at : ℕ → B)
    → variants enum (λ d. at (tag_of (declared enum) d)) ≡ variants enum f
    → (b : B) (keys : List ℕ)
    → map (λ _. b) keys ≡ map at keys
    → (d : enum.D)
    → OneOf keys (tag_of (declared enum) d)
    → b ≡ f d
by_keys enum f at table b keys same d one =
    at_key at b keys same (tag_of (declared enum) d) one ∙ by_variants enum (λ d. at (tag_of (declared enum) d)) f table d
