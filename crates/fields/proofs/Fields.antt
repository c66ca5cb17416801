-- Writing a field and reading one undo each other; and what is read, by the bytes' places, as code reads it.
-- A length is two bytes, so a value has fewer than 65536.
-- Assumes nothing.
use mathlib.Core.Path.{◌≡◌, refl, sym, ◌∙◌, subst}
use mathlib.Core.Bool.{Bool, true, false}
use mathlib.Core.List.{List, [], ◌∷◌, ◌++◌}
use mathlib.Core.Option.{none, some, some-injective, none-ne-some}
use Prim.Native.Nat.{ℕ, ◌+◌, ◌/◌, ◌%◌, ◌≤◌, ◌<◌}
use native.Mathlib.Omega.{arith}
use lib.ListN.{length, take, drop, get_or, length-append, length-drop, take-append-drop}
use lib.Seq.{take_at, drop_at, drop-drop, length-take-le}
use lib.Dec.{leb}
use borrow.Author.Tests.{le-leb, lt-leb, leb-true, leb-false}
use Rattle.numbers.specs.Numbers.{word}
use Rattle.laws.specs.Choice.{when◌then◌else◌}
use Rattle.fields.specs.Fields.{field, Field, unfield}

-- a number's two bytes, high first
pub two_bytes : (n : ℕ) → n < 65536 → word (n / 256 % 256) (n % 256) ≡ n
two_bytes n h = omega arith

abbrev pub field_of : ℕ → List ℕ → List ℕ → Field
field_of tag value rest = record { tag = tag; value = value; rest = rest }

-- written, then read
pub unfield_field : (tag : ℕ) (value rest : List ℕ) → length value < 65536
    → unfield (field tag value ++ rest) ≡ some (field_of tag value rest)
unfolding field unfield
unfield_field tag value rest h =
    let k : length value ≤ length (value ++ rest) = simp length-append (omega arith) in
    rw (two_bytes (length value) h, le-leb _ _ k, take_at value rest _ refl, drop_at value rest _ refl)

-- these bytes are this field and its rest
pub record Whole (bytes : List ℕ) (f : Field) : Type 0 where
  pub is : bytes ≡ field f.tag f.value ++ f.rest
  pub short : length f.value < 65536

module _ (tag high low : ℕ) (bytes : List ℕ) (h : high < 256) (l : low < 256) where
  whole : word high low ≤ length bytes
      → Whole (tag ∷ high ∷ low ∷ bytes) (field_of tag (take (word high low) bytes) (drop (word high low) bytes))
  unfolding field
  whole k =
      let size = length-take-le (word high low) bytes k in
      let up : word high low / 256 % 256 ≡ high = omega arith in
      let down : word high low % 256 ≡ low = omega arith in
      record { is = rw (size, up, down, take-append-drop); short = omega (arith, size) }

  whole_if : (f : Field) (c : Bool) → leb (word high low) (length bytes) ≡ c
      → (when c then some (field_of tag (take (word high low) bytes) (drop (word high low) bytes)) else none) ≡ some f
      → Whole (tag ∷ high ∷ low ∷ bytes) f
  whole_if f true e q = subst (Whole (tag ∷ high ∷ low ∷ bytes)) (some-injective _ _ q) (whole (leb-true _ _ e))
  whole_if f false e q = absurd (none-ne-some _ q)

-- read, then written, where the two bytes of the length are bytes
pub field_unfield : (bytes : List ℕ) (f : Field) → unfield bytes ≡ some f → get_or bytes 1 0 < 256 → get_or bytes 2 0 < 256
    → Whole bytes f
unfolding unfield
field_unfield [] f e h l = absurd (none-ne-some _ e)
field_unfield (tag ∷ []) f e h l = absurd (none-ne-some _ e)
field_unfield (tag ∷ high ∷ []) f e h l = absurd (none-ne-some _ e)
field_unfield (tag ∷ high ∷ low ∷ bytes) f e h l = whole_if tag high low bytes h l f _ refl e

-- ---- by places
-- the length that bytes 1 and 2 say
abbrev pub said : List ℕ → ℕ
said bytes = word (get_or bytes 1 0) (get_or bytes 2 0)

-- the field at the head, where it is whole
abbrev pub at_head : List ℕ → Field
at_head bytes = field_of (get_or bytes 0 0) (take (said bytes) (drop 3 bytes)) (drop (3 + said bytes) bytes)

pub cut_short : (bytes : List ℕ) → length bytes < 3 + said bytes → unfield bytes ≡ none
unfolding unfield
cut_short [] h = refl
cut_short (tag ∷ []) h = refl
cut_short (tag ∷ high ∷ []) h = refl
cut_short (tag ∷ high ∷ low ∷ bytes) h =
    let k : length bytes < word high low = omega arith in
    rw (lt-leb _ _ k)

pub all_there : (bytes : List ℕ) → 3 + said bytes ≤ length bytes → unfield bytes ≡ some (at_head bytes)
unfolding unfield
all_there [] h = absurd (omega arith)
all_there (tag ∷ []) h = absurd (omega arith)
all_there (tag ∷ high ∷ []) h = absurd (omega arith)
all_there (tag ∷ high ∷ low ∷ bytes) h =
    let k : word high low ≤ length bytes = omega arith in
    rw (le-leb _ _ k, sym (drop-drop (word high low) 3 (tag ∷ high ∷ low ∷ bytes)))

-- a field that was read, by the places of its value and of what follows
pub record Lies (bytes : List ℕ) (f : Field) : Type 0 where
  pub there : 3 + said bytes ≤ length bytes
  pub is : at_head bytes ≡ f
  pub long : length f.value ≡ said bytes

pub lies : (bytes : List ℕ) (f : Field) → unfield bytes ≡ some f → Lies bytes f
lies bytes f e = by (leb (3 + said bytes) (length bytes)) refl
  where
    by : (t : Bool) → leb (3 + said bytes) (length bytes) ≡ t → Lies bytes f
    by true h =
        let there : 3 + said bytes ≤ length bytes = leb-true _ _ h in
        let is : at_head bytes ≡ f = some-injective _ _ (sym (all_there bytes there) ∙ e) in
        let long = length-take-le (said bytes) (drop 3 bytes) (omega (arith, length-drop 3 bytes)) in
        record { there = there; is = is; long = subst (λ (g : Field). length g.value ≡ said bytes) is long }
    by false h = absurd (none-ne-some _ (sym (cut_short bytes (leb-false _ _ h)) ∙ e))
