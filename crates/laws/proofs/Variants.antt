-- Two functions of a declared enum that are equal at each variant, whatever its fields hold, are equal at every value. Where both compute,
-- `refl` proves the tables equal, so that a law over an enum is one line, however many variants the enum has. And a test that each variant of an
-- enum without fields passes, every value passes.
-- Assumes nothing.
use mathlib.Core.Path.{◌≡◌, ap, sym, subst, ◌∙◌}
use mathlib.Core.Bool.{Bool, true, false, ◌&&◌}
use mathlib.Core.Logic.{inl, inr}
use mathlib.Core.List.{List, [], ◌∷◌}
use denote.Struct.Field.{Field}
use denote.Struct.Values.{Values}
use denote.Enum.Declared.{Choice, Record}
use lib.Dec.{T}
use Rattle.laws.proofs.Tests.{both_left, both_right}

-- a function's values, one entry a variant
abbrev pub Table : List (List Field) → Type 0 → Type 0
Table [] B = Unit {0}
Table (fields ∷ parts) B = (Values fields → B) × Table parts B

abbrev pub table : {B : Type 0} (parts : List (List Field)) → (Choice parts → B) → Table parts B
table [] f = tt
table (fields ∷ parts) f = (λ xs. f (inl xs), table parts (λ c. f (inr c)))

by_choice : {B : Type 0} (parts : List (List Field)) (f g : Choice parts → B) → table parts f ≡ table parts g → (c : Choice parts) → f c ≡ g c
by_choice [] f g same c = absurd c
by_choice {B} (fields ∷ parts) f g same (inl xs) = ap (λ (t : Table (fields ∷ parts) B). t.0 xs) same
by_choice {B} (fields ∷ parts) f g same (inr c) =
    by_choice parts (λ d. f (inr d)) (λ d. g (inr d)) (ap (λ (t : Table (fields ∷ parts) B). t.1) same) c

-- the table of a function of the enum's values
abbrev pub variants : {B : Type 0} (enum : Record) → (enum.D → B) → Table enum.parts B
variants enum f = table enum.parts (λ c. f (enum.make c))

pub by_variants :
    {B : Type 0} (enum : Record) (f g : enum.D → B) → variants enum f ≡ variants enum g → (d : enum.D) → f d ≡ g d
by_variants enum f g same d =
    sym (ap f (enum.eta d))
    ∙ by_choice enum.parts (λ c. f (enum.make c)) (λ c. g (enum.make c)) same (enum.as_values d)
    ∙ ap g (enum.eta d)

-- ---- the test: however long, it is computed, where two tables would be compared
abbrev passes : (parts : List (List Field)) → (Choice parts → Bool) → Bool
passes [] f = true
passes ([] ∷ parts) f = f (inl tt) && passes parts (λ c. f (inr c))
passes ((field ∷ fields) ∷ parts) f = false

each_choice : (parts : List (List Field)) (f : Choice parts → Bool) → T (passes parts f) → (c : Choice parts) → T (f c)
each_choice [] f t c = absurd c
each_choice ([] ∷ parts) f t (inl xs) = both_left (f (inl tt)) (passes parts (λ c. f (inr c))) t
each_choice ([] ∷ parts) f t (inr c) = each_choice parts (λ c. f (inr c)) (both_right (f (inl tt)) (passes parts (λ c. f (inr c))) t) c
each_choice ((field ∷ fields) ∷ parts) f t c = absurd t

abbrev pub Each : (enum : Record) → (enum.D → Bool) → Type 0
Each enum f = T (passes enum.parts (λ c. f (enum.make c)))

pub each : (enum : Record) (f : enum.D → Bool) → Each enum f → (d : enum.D) → T (f d)
each enum f t d = subst (λ (e : enum.D). T (f e)) (enum.eta d) (each_choice enum.parts (λ c. f (enum.make c)) t (enum.as_values d))
