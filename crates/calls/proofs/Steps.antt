-- What stands at a place of the input, how the walk past the calls goes on from there, and that the field past them ends them or none does.
-- Assumes nothing.
use mathlib.Core.Path.{◌≡◌, refl, sym, ap, subst, ◌∙◌}
use mathlib.Core.Bool.{Bool, true, false, cond, ◌&&◌, and-eq-true_iff}
use mathlib.Core.List.{List, []}
use mathlib.Core.Option.{Option, none, some}
use Prim.Native.Nat.{ℕ, zero, suc, ◌+◌, ◌-◌, ◌≤◌, ◌<◌}
use native.Mathlib.Omega.{arith}
use lib.ListN.{length, take, drop, length-drop}
use lib.Seq.{drop-drop, length-take-le}
use lib.Dec.{eqb}
use borrow.Author.Tests.{eqb-true}
use Rattle.std.specs.Prelude.{slice_range}
use Rattle.std.proofs.lemmas.List.{take_all}
use Rattle.fields.specs.Fields.{unfield}
use Rattle.fields.specs.Fields as read
use Rattle.fields.proofs.Fields.{said, cut_short, all_there, Lies, lies}
use Rattle.refusals.specs.Refusal.{Refusal, Answer, value, refused, no}
use Rattle.refusals.proofs.Values.{refused_not, same_value}
use Rattle.job.specs.Jobs.{byte_at, device_for}
use Rattle.job.specs.declared.Device.{Device}
use Rattle.calls.specs.Shapes.{shape_of, lawful}
use Rattle.calls.specs.Heads.{placed, found_at, field_at, past_from, is_end, end_from, heading_of}
use Rattle.calls.specs.declared.Field.{Field}

-- ---- the field that bytes from a place on begin with
module _ (at : ℕ) (bytes : List ℕ) where
  pub cut : length bytes < 3 + said bytes → field_at at bytes ≡ refused (no 15 [])
  unfolding field_at
  cut h = ap (found_at at) (cut_short bytes h)

  pub whole : 3 + said bytes ≤ length bytes
      → field_at at bytes ≡ value (record { tag = byte_at bytes 0; start = at + 3; len = said bytes })
  unfolding field_at
  whole h =
      let size = length-take-le (said bytes) (drop 3 bytes) (omega (arith, length-drop 3 bytes)) in
      ap (found_at at) (all_there bytes h) ∙ rw size

-- of the input's bytes from a place on, as the code takes them
pub from_there : (at : ℕ) (input bytes : List ℕ) → bytes ≡ slice_range input at (length input) → bytes ≡ drop at input
from_there at input bytes e = e ∙ take_all (length input - at) (drop at input) (omega (arith, length-drop at input))

pub cut_there : (at : ℕ) (input : List ℕ) → length input < at + 3 → field_at at (drop at input) ≡ refused (no 15 [])
cut_there at input h = cut at (drop at input) (omega (arith, length-drop at input))

-- ---- what an answer tells
module _ (at : ℕ) (bytes : List ℕ) where
  pub found : (f : Field) → field_at at bytes ≡ value f → (g : read.Field) × ((unfield bytes ≡ some g) × (placed at g ≡ f))
  unfolding field_at
  found f e = by (unfield bytes) refl e
    where
      by : (o : Option read.Field) → unfield bytes ≡ o → found_at at o ≡ value f
          → (g : read.Field) × ((unfield bytes ≡ some g) × (placed at g ≡ f))
      by (some g) r q = (g, (r, same_value q))
      by none r q = refused_not q

  pub unfound : (r : Refusal) → field_at at bytes ≡ refused r → unfield bytes ≡ none
  unfolding field_at
  unfound r e = by (unfield bytes) refl e
    where
      by : (o : Option read.Field) → unfield bytes ≡ o → found_at at o ≡ refused r → unfield bytes ≡ none
      by (some g) h q = refused_not (sym q)
      by none h q = h

  none_read : unfield bytes ≡ none → field_at at bytes ≡ refused (no 15 [])
  unfolding field_at
  none_read e = ap (found_at at) e

  -- ---- the search
  pub none_past : (fields : ℕ) → unfield bytes ≡ none → past_from fields at bytes ≡ at
  unfolding past_from
  none_past zero e = refl
  none_past (suc n) e = rw e

  none_there : (fields : ℕ) → unfield bytes ≡ none → end_from fields at bytes ≡ refused (no 15 [])
  unfolding end_from
  none_there zero e = refl
  none_there (suc n) e = rw e

  module _ (g : read.Field) (is : unfield bytes ≡ some g) where
    call_past : (fields : ℕ) → 0 < fields → lawful g.tag g.value ≡ true
        → past_from fields at bytes ≡ past_from (fields - 1) (at + (3 + length g.value)) g.rest
    unfolding past_from
    call_past zero h c = absurd (omega arith)
    call_past (suc n) h c =
        let less : suc n - 1 ≡ n = omega arith in
        rw (less, is, c)

    other_past : (fields : ℕ) → lawful g.tag g.value ≡ false → past_from fields at bytes ≡ at
    unfolding past_from
    other_past zero c = refl
    other_past (suc n) c = rw (is, c)

    pub ends : (fields : ℕ) → 0 < fields → is_end g ≡ true → end_from fields at bytes ≡ value (placed at g)
    unfolding end_from
    ends zero h e = absurd (omega arith)
    ends (suc n) h e = rw (is, e)

    pub calls : (fields : ℕ) → 0 < fields → is_end g ≡ false → lawful g.tag g.value ≡ true
        → end_from fields at bytes ≡ end_from (fields - 1) (at + (3 + length g.value)) g.rest
    unfolding end_from
    calls zero h e c = absurd (omega arith)
    calls (suc n) h e c =
        let less : suc n - 1 ≡ n = omega arith in
        rw (less, is, e, c)

    neither : (fields : ℕ) → 0 < fields → is_end g ≡ false → lawful g.tag g.value ≡ false
        → end_from fields at bytes ≡ refused (no 15 [])
    unfolding end_from
    neither zero h e c = absurd (omega arith)
    neither (suc n) h e c = rw (is, e, c)

-- ---- the head
pub both_read : (bytes : List ℕ) (d : Device) (f : Field)
    → device_for bytes ≡ value d
    → end_from (length bytes) 7 (drop 7 bytes) ≡ value f
    → heading_of bytes ≡ value (record { device = d; tape_at = f.start })
unfolding heading_of
both_read bytes d f e q = rw (e, q)

-- ---- the same by a field that was found
module _ (input : List ℕ) (at : ℕ) (g : read.Field) (is : unfield (drop at input) ≡ some g) where
  its : Lies (drop at input) g
  its = lies (drop at input) g is

  abbrev end : ℕ
  end = at + 3 + length g.value

  -- the field's value, as the code lends it
  abbrev lent : List ℕ
  lent = take (end - (at + 3)) (drop (at + 3) input)

  value_is : lent ≡ g.value
  value_is =
      let count : end - (at + 3) ≡ said (drop at input) = omega (arith, its.long) in
      rw (count, sym (drop-drop 3 at input)) (ap (λ (h : read.Field). h.value) its.is)

  rest_is : drop end input ≡ g.rest
  rest_is =
      let past : end ≡ at + (3 + said (drop at input)) = omega (arith, its.long) in
      rw (past, sym (drop-drop (3 + said (drop at input)) at input)) (ap (λ (h : read.Field). h.rest) its.is)

  next_is : at + (3 + length g.value) ≡ end
  next_is = omega arith

  -- the walk, by the value that the code lends
  past_on : (fields : ℕ) → 0 < fields → lawful g.tag lent ≡ true
      → past_from fields at (drop at input) ≡ past_from (fields - 1) end (drop end input)
  past_on fields h l = call_past at (drop at input) g is fields h (rw value_is at l) ∙ rw (next_is, rest_is)

  past_off : (fields : ℕ) → lawful g.tag lent ≡ false → past_from fields at (drop at input) ≡ at
  past_off fields l = other_past at (drop at input) g is fields (rw value_is at l)

  there_is : field_at at (drop at input) ≡ value (placed at g)
  unfolding field_at
  there_is = ap (found_at at) is

module _ (input : List ℕ) (at : ℕ) (f : Field) (given : field_at at (drop at input) ≡ value f) where
  -- what holds of a field as it was read holds of the one found
  by_read : (P : Field → Type 0) → ((g : read.Field) → unfield (drop at input) ≡ some g → P (placed at g)) → P f
  by_read P holds =
      let r = found at (drop at input) f given in
      subst P r.1.1 (holds r.0 r.1.0)

  starts : f.start ≡ at + 3
  starts = by_read (λ f. f.start ≡ at + 3) (λ g is. refl)

  inside : f.start + f.len ≤ length input
  inside =
      by_read (λ f. f.start + f.len ≤ length input)
      (λ g is. omega (arith, (its input at g is).there, (its input at g is).long, length-drop at input))

  -- so that a field can still stand there
  more : (fields : ℕ) → length input ≤ at + fields → 0 < fields
  more fields h = omega (arith, h, starts, inside)

  -- its value, as the code lends it
  abbrev lent_by : Field → List ℕ
  lent_by f = take (f.start + f.len - f.start) (drop f.start input)

  pub found_call : (fields : ℕ) → length input ≤ at + fields → lawful f.tag (lent_by f) ≡ true
      → past_from fields at (drop at input) ≡ past_from (fields - 1) (f.start + f.len) (drop (f.start + f.len) input)
  found_call fields h =
      by_read (λ f. lawful f.tag (lent_by f) ≡ true
      → past_from fields at (drop at input) ≡ past_from (fields - 1) (f.start + f.len) (drop (f.start + f.len) input))
      (λ g is. past_on input at g is fields (more fields h))

  pub found_other : (fields : ℕ) → lawful f.tag (lent_by f) ≡ false → past_from fields at (drop at input) ≡ at
  found_other fields =
      by_read (λ f. lawful f.tag (lent_by f) ≡ false → past_from fields at (drop at input) ≡ at)
      (λ g is. past_off input at g is fields)

-- ---- the end of the calls is the field past them
no_call : (tag : ℕ) (v : List ℕ) → tag ≡ 0x3F → lawful tag v ≡ false
unfolding lawful shape_of
no_call tag v e = rw e

abbrev ended : Answer Field → Answer Field
ended (value f) = cond (eqb f.tag 0x3F && eqb f.len 0) (value f) (refused (no 15 []))
ended (refused r) = refused r

module _ (input : List ℕ) where
  -- the end, where the walk stops at a place
  abbrev at_end : ℕ → Answer Field
  at_end p = ended (field_at p (drop p input))

  -- so it is of a place
  abbrev Ends : ℕ → ℕ → Type 0
  Ends fields at = end_from fields at (drop at input) ≡ at_end (past_from fields at (drop at input))

  module _ (n at : ℕ) where
    by_call : (g : read.Field) → unfield (drop at input) ≡ some g → is_end g ≡ false → Ends n (at + 3 + length g.value)
        → (b : Bool) → lawful g.tag g.value ≡ b → Ends (suc n) at
    by_call g is e next true c =
        let less : suc n - 1 ≡ n = omega arith in
        let on = calls at (drop at input) g is (suc n) (omega arith) e c in
        let past = call_past at (drop at input) g is (suc n) (omega arith) c in
        let there = next_is input at g is in
        let rest = sym (rest_is input at g is) in
        rw (on, past, less, there, rest) next
    by_call g is e next false c =
        let past = other_past at (drop at input) g is (suc n) c in
        neither at (drop at input) g is (suc n) (omega arith) e c
        ∙ sym (ap at_end past ∙ ap ended (there_is input at g is) ∙ rw e)

    by_end : (g : read.Field) → unfield (drop at input) ≡ some g → Ends n (at + 3 + length g.value)
        → (b : Bool) → is_end g ≡ b → Ends (suc n) at
    by_end g is next true e =
        let past = other_past at (drop at input) g is (suc n) (no_call g.tag g.value (eqb-true _ _ ((and-eq-true_iff _ _).0 e).0)) in
        ends at (drop at input) g is (suc n) (omega arith) e
        ∙ sym (ap at_end past ∙ ap ended (there_is input at g is) ∙ rw e)
    by_end g is next false e = by_call g is e next (lawful g.tag g.value) refl

    by_field : length input ≤ at + suc n → ((k : ℕ) → length input ≤ k + n → Ends n k)
        → (o : Option read.Field) → unfield (drop at input) ≡ o → Ends (suc n) at
    by_field h next (some g) is = by_end g is (next (at + 3 + length g.value) (omega (arith, h))) (is_end g) refl
    by_field h next none is =
        none_there at (drop at input) (suc n) is
        ∙ sym (ap at_end (none_past at (drop at input) (suc n) is) ∙ ap ended (none_read at (drop at input) is))

  past_ends : (fields at : ℕ) → length input ≤ at + fields → Ends fields at
  unfolding end_from past_from
  past_ends zero at h = sym (ap ended (cut_there at input (omega arith)))
  past_ends (suc n) at h = by_field n at h (past_ends n) (unfield (drop at input)) refl

  -- the whole search, by what is found past the calls
  pub search_ends : (p : ℕ) (a : Answer Field) → p ≡ past_from (length input) 7 (drop 7 input) → a ≡ field_at p (drop p input)
      → end_from (length input) 7 (drop 7 input) ≡ ended a
  search_ends p a past there = rw (there, past) (past_ends (length input) 7 (omega arith))
