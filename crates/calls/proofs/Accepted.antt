-- What is accepted is just what begins with a head written out: a device, any lawful calls, 3F 0000. A head written out is
-- read back, whatever tape follows, and the tape is what comes after it; and bytes, each below 256, that are accepted are
-- their device and some lawful calls written out, and then the tape.
-- Assumes nothing.
use mathlib.Core.Path.{◌≡◌, refl, sym, ap, subst, ◌∙◌}
use mathlib.Core.Bool.{Bool, true, false, cond, and-eq-true_iff}
use mathlib.Core.List.{List, [], ◌∷◌, ◌++◌, append_assoc}
use mathlib.Core.Option.{Option, none, some}
use Prim.Native.Nat.{ℕ, zero, suc, ◌+◌, ◌-◌, ◌<◌}
use native.Mathlib.Omega.{arith}
use lib.ListN.{length, drop, length-append}
use lib.Seq.{drop_at, get_or-drop}
use lib.Dec.{T}
use borrow.Author.Tests.{eqb-true, ne_eqb}
use Rattle.fields.specs.Fields.{field, unfield}
use Rattle.fields.specs.Fields as read
use Rattle.fields.proofs.Fields.{field_of, unfield_field, field_unfield}
use Rattle.refusals.specs.Refusal.{Answer, value, refused, no}
use Rattle.refusals.proofs.Values.{refused_not, same_value}
use Rattle.job.specs.Jobs.{byte_at, device_for}
use Rattle.job.specs.Encoding.{device_value}
use Rattle.job.specs.declared.Device.{Device}
use Rattle.job.proofs.Accepted.{device_alone, device_alone_written, rest_small}
use Rattle.calls.specs.Shapes.{shape_of, lawful}
use Rattle.calls.specs.Heads.{placed, is_end, end_by, end_from, headed, heading_of}
use Rattle.calls.specs.Encoding.{Call, call_fields, head_bytes, Lawful}
use Rattle.calls.specs.declared.Field.{Field}
use Rattle.calls.specs.declared.Heading.{Heading}
use Rattle.calls.proofs.Short.{short}
use Rattle.calls.proofs.Steps.{ends, calls, both_read}

-- ---- written out, then read
field_length : (tag : ℕ) (v : List ℕ) → length (field tag v) ≡ 3 + length v
unfolding field
field_length tag v = omega arith

lawful_end : (v : List ℕ) → lawful 0x3F v ≡ false
unfolding lawful shape_of
lawful_end v = refl

-- no call is the field that ends them
no_end : (tag : ℕ) (v rest : List ℕ) → lawful tag v ≡ true → is_end (field_of tag v rest) ≡ false
no_end tag v rest e = rw (ne_eqb tag 0x3F (λ q. subst T (sym (rw (q, lawful_end v) at e)) tt))

pub calls_read : (cs : List Call) (tape : List ℕ) (fields at : ℕ) → length (call_fields cs) < fields → Lawful cs
    → end_from fields at (call_fields cs ++ (field 0x3F [] ++ tape))
    ≡ value (record { tag = 0x3F; start = at + length (call_fields cs) + 3; len = 0 })
unfolding call_fields
calls_read [] tape fields at h l =
    let start : at + 3 ≡ at + 0 + 3 = omega arith in
    ends at (field 0x3F [] ++ tape) _ (unfield_field 0x3F [] tape (omega arith)) fields h refl ∙ rw start
calls_read (c ∷ cs) tape fields at h l =
    let rest = call_fields cs ++ (field 0x3F [] ++ tape) in
    let v = c.bytes in
    let long = field_length c.tag v in
    let parts = length-append (field c.tag v) (call_fields cs) in
    let start : at + (3 + length v) + length (call_fields cs) + 3 ≡ at + length (field c.tag v ++ call_fields cs) + 3 =
    omega (arith, parts, long) in
    ap (end_from fields at) (append_assoc (field c.tag v) (call_fields cs) (field 0x3F [] ++ tape))
    ∙ calls at (field c.tag v ++ rest) _ (unfield_field c.tag v rest (short c.tag v l.0))
    fields (omega arith) (no_end c.tag v rest l.0) l.0
    ∙ calls_read cs tape (fields - 1) (at + (3 + length v)) (omega (arith, parts, long)) l.1
    ∙ ap (λ (n : ℕ). value (record { tag = 0x3F; start = n; len = 0 })) start

module _ (d : Device) (cs : List Call) (tape : List ℕ) where
  abbrev after : List ℕ
  after = call_fields cs ++ (field 0x3F [] ++ tape)

  all_is : head_bytes d cs ++ tape ≡ field 0x20 (device_value d) ++ after
  unfolding head_bytes field
  all_is = rw (append_assoc (call_fields cs) (field 0x3F []) tape)

  head_length : length (head_bytes d cs) ≡ 7 + length (call_fields cs) + 3
  unfolding head_bytes field
  head_length = omega (arith, length-append (call_fields cs) (field 0x3F []))

  after_length : length (field 0x20 (device_value d) ++ after) ≡ 7 + (length (call_fields cs) + (3 + length tape))
  unfolding field
  after_length = omega (arith, length-append (call_fields cs) (field 0x3F [] ++ tape))

  past_device : drop 7 (field 0x20 (device_value d) ++ after) ≡ after
  unfolding field
  past_device = refl

  pub head_read : Lawful cs
      → heading_of (head_bytes d cs ++ tape) ≡ value (record { device = d; tape_at = length (head_bytes d cs) })
  head_read l =
      let bytes = field 0x20 (device_value d) ++ after in
      rw (all_is, head_length)
      (both_read bytes d _ (device_alone d after)
      (ap (end_from (length bytes) 7) past_device ∙ calls_read cs tape _ 7 (omega (arith, after_length)) l))

-- ---- read, then written out
-- the calls that bytes begin with, and what follows 3F 0000
pub record Calls (at : ℕ) (bytes : List ℕ) (end : Field) : Type 0 where
  pub cs : List Call
  pub each : Lawful cs
  pub tape : List ℕ
  pub written : bytes ≡ call_fields cs ++ (field 0x3F [] ++ tape)
  pub start : end.start ≡ at + length (call_fields cs) + 3

nothing : (v : List ℕ) → length v ≡ 0 → v ≡ []
nothing [] e = refl
nothing (x ∷ v) e = absurd (omega arith)

module _ (at : ℕ) (bytes : List ℕ) (small : (i : ℕ) → byte_at bytes i < 256) (end : Field)
    (g : read.Field) (is : unfield bytes ≡ some g) where
  whole : bytes ≡ field g.tag g.value ++ g.rest
  whole = (field_unfield bytes g is (small 1) (small 2)).is

  ended : is_end g ≡ true → placed at g ≡ end → Calls at bytes end
  unfolding call_fields
  ended e f =
      let t = (and-eq-true_iff _ _).0 e in
      let is-3f : g.tag ≡ 0x3F = eqb-true _ _ t.0 in
      let none = nothing g.value (eqb-true _ _ t.1) in
      record {
        cs = [];
        each = tt;
        tape = g.rest;
        written =
            whole
            ∙ ap (λ (tag : ℕ). field tag g.value ++ g.rest) is-3f
            ∙ ap (λ (v : List ℕ). field 0x3F v ++ g.rest) none;
        start = sym (ap (λ (h : Field). h.start) f) ∙ omega arith;
      }

  called : lawful g.tag g.value ≡ true → Calls (at + (3 + length g.value)) g.rest end → Calls at bytes end
  unfolding call_fields
  called e later =
      let first = field g.tag g.value in
      record {
        cs = record { tag = g.tag; bytes = g.value } ∷ later.cs;
        each = (e, later.each);
        tape = later.tape;
        written =
            whole
            ∙ ap (λ (l : List ℕ). first ++ l) later.written
            ∙ sym (append_assoc first (call_fields later.cs) (field 0x3F [] ++ later.tape));
        start = omega (arith, later.start, field_length g.tag g.value, length-append first (call_fields later.cs));
      }

  by_tests : (next : Answer Field) → (next ≡ value end → Calls (at + (3 + length g.value)) g.rest end)
      → (e : Bool) → is_end g ≡ e → (c : Bool) → lawful g.tag g.value ≡ c
      → cond e (value (placed at g)) (cond c next (refused (no 15 []))) ≡ value end
      → Calls at bytes end
  by_tests next later true he c hc q = ended he (same_value q)
  by_tests next later false he true hc q = called hc (later q)
  by_tests next later false he false hc q = refused_not q

-- by what is read at the head, and by what holds of the rest
calls_by : (at : ℕ) (bytes : List ℕ) → ((i : ℕ) → byte_at bytes i < 256) → (end : Field) (next : ℕ → List ℕ → Answer Field)
    → ((n : ℕ) (rest : List ℕ) → ((i : ℕ) → byte_at rest i < 256) → next n rest ≡ value end → Calls n rest end)
    → (o : Option read.Field) → unfield bytes ≡ o → end_by next at o ≡ value end → Calls at bytes end
calls_by at bytes small end next later none is q = refused_not q
calls_by at bytes small end next later (some g) is q =
    by_tests at bytes small end g is _ (later _ _ (rest_small bytes small g is)) (is_end g) refl (lawful g.tag g.value) refl q

pub calls_written : (fields at : ℕ) (bytes : List ℕ) → ((i : ℕ) → byte_at bytes i < 256) → (end : Field)
    → end_from fields at bytes ≡ value end
    → Calls at bytes end
unfolding end_from
calls_written zero at bytes small end q = refused_not q
calls_written (suc n) at bytes small end q =
    calls_by at bytes small end (end_from n) (λ m rest k. calls_written n m rest k end) (unfield bytes) refl q

pub record Written (bytes : List ℕ) (h : Heading) : Type 0 where
  pub cs : List Call
  pub each : Lawful cs
  pub written : bytes ≡ head_bytes h.device cs ++ drop h.tape_at bytes

module _ (bytes : List ℕ) (small : (i : ℕ) → byte_at bytes i < 256) where
  head_by : (h : Heading) (d : Answer Device) (f : Answer Field)
      → device_for bytes ≡ d
      → end_from (length bytes) 7 (drop 7 bytes) ≡ f
      → headed d f ≡ value h
      → Written bytes h
  head_by h (value d) (value f) hd hf q =
      let later = calls_written (length bytes) 7 (drop 7 bytes) (λ i. rw (get_or-drop 7 bytes i 0) (small (7 + i))) f hf in
      let all : bytes ≡ head_bytes d later.cs ++ later.tape =
      device_alone_written bytes small d hd
      ∙ ap (λ (l : List ℕ). field 0x20 (device_value d) ++ l) later.written
      ∙ sym (all_is d later.cs later.tape) in
      let past : drop f.start bytes ≡ later.tape =
      ap (drop f.start) all
      ∙ drop_at (head_bytes d later.cs) later.tape f.start (head_length d later.cs later.tape ∙ sym later.start) in
      subst (Written bytes) (same_value q) (record { cs = later.cs; each = later.each; written = rw past all })
  head_by h (value d) (refused r) hd hf q = refused_not q
  head_by h (refused r) f hd hf q = refused_not q

  pub head_written : (h : Heading) → heading_of bytes ≡ value h → Written bytes h
  unfolding heading_of
  head_written h q = head_by h (device_for bytes) (end_from (length bytes) 7 (drop 7 bytes)) refl refl q
