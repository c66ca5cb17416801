-- The fields of a job, by the tests that the code makes of bytes at their places.
-- Assumes nothing.
use mathlib.Core.Path.{◌≡◌, refl, sym, ap, subst, ◌∙◌}
use mathlib.Core.Bool.{Bool, true, false, cond, ◌&&◌, and-eq-true_iff}
use mathlib.Core.List.{List, []}
use Prim.Native.Nat.{ℕ, ◌+◌, ◌≤◌, ◌<◌}
use native.Mathlib.Omega.{arith}
use lib.ListN.{length, get_or, take, drop, length-drop}
use lib.Seq.{length-take-le}
use lib.Dec.{eqb, leb, ltb}
use borrow.Author.Tests.{le-leb, lt-leb, leb-true, leb-false, ltb-true, ltb-false, eq-eqb, eqb-true}
use Rattle.fields.specs.Fields.{Field, unfield}
use Rattle.fields.proofs.Fields.{field_of, said, cut_short, all_there}
use Rattle.refusals.specs.Refusal.{Answer, value, refused, no}
use Rattle.protection.specs.Delays.{scd_delays, ocd_delays, uv_delays, ov_delays, delay_for}
use Rattle.protection.specs.declared.delays.SCDDelay.TheVariants as S
use Rattle.protection.specs.declared.delays.OCDDelay.TheVariants as O
use Rattle.protection.specs.declared.delays.UVDelay.TheVariants as U
use Rattle.protection.specs.declared.delays.OVDelay.TheVariants as W
use Rattle.plan.specs.Order.{◌and_then◌}
use Rattle.job.specs.Jobs.{byte_at, device_at, is_device, config_at, codes_at, is_config, passing, field_for, device_for, job_of, device_of, config_of}
use Rattle.job.specs.Inside.{says_field, says_device, says_job, listed_config}
use Rattle.job.specs.declared.Job.{Job}
use Rattle.job.proofs.Places.{from_drop, byte_of}

-- ---- one of two, by tests
and_false : (a : Bool) → a && false ≡ false
and_false true = refl
and_false false = refl

-- 15, or what is there
abbrev only : {A : Type 0} → Bool → A → Answer A
only t a = cond t (value a) (refused (no 15 []))

then_only : {A B : Type 0} (t : Bool) (a : A) (next : A → Answer B)
    → only t a and_then next ≡ cond t (next a) (refused (no 15 []))
unfolding ◌and_then◌
then_only true a next = refl
then_only false a next = refl

never : {A : Type 0} (a b m : Bool) (x : A) → a && b ≡ false → only (a && (b && m)) x ≡ refused (no 15 [])
never true true m x e = absurd (subst (λ (t : Bool). cond t (Unit {0}) ⊥) e tt)
never true false m x e = refl
never false b m x e = refl

-- ---- the delays' codes are in their lists
in_list : {D : Type 0} (first : D) (delays : List D) (code : ℕ)
    → delay_for first delays code ≡ only (ltb code (length delays)) (get_or delays code first)
in_list first delays code = by (ltb code (length delays)) refl
  where
    by : (t : Bool) → ltb code (length delays) ≡ t → delay_for first delays code ≡ only t (get_or delays code first)
    by true e = rw (lt-leb _ _ (ltb-true _ _ e))
    by false e = rw (le-leb _ _ (ltb-false _ _ e))

all_four : {A B C D E : Type 0} (a b c d : Bool) (x : A) (y : B) (z : C) (w : D) (made : A → B → C → D → E)
    → (only a x and_then λ x. only b y and_then λ y. only c z and_then λ z. only d w and_then λ w. value (made x y z w))
    ≡ only (a && b && c && d) (made x y z w)
unfolding ◌and_then◌
all_four true true true true x y z w made = refl
all_four true true true false x y z w made = refl
all_four true true false d x y z w made = refl
all_four true false c d x y z w made = refl
all_four false b c d x y z w made = refl

pub listed_by_tests : (bytes : List ℕ) (i : ℕ) → listed_config bytes i ≡ only (codes_at bytes i) (config_at bytes i)
unfolding listed_config codes_at
listed_by_tests bytes i =
    rw (
      in_list S._70uS scd_delays (byte_at bytes (i + 20)),
      in_list O._8ms ocd_delays (byte_at bytes (i + 21)),
      in_list U._1s uv_delays (byte_at bytes (i + 22)),
      in_list W._1s ov_delays (byte_at bytes (i + 23)),
    )
    (all_four _ _ _ _ _ _ _ _ _)

-- both ways alike
abbrev fifteen : Answer Job
fifteen = refused (no 15 [])

either : (d : Bool) → cond d fifteen fifteen ≡ fifteen
either true = refl
either false = refl

nested : {A : Type 0} (d s c : Bool) (x : A) → cond d (only (s && c) x) (refused (no 15 [])) ≡ only (d && s && c) x
nested true true c x = refl
nested true false c x = refl
nested false s c x = refl

-- ---- a field of this tag and length at the head, and a test of its value
module _ (more : List ℕ → Bool) (bytes : List ℕ) where
  abbrev value_of : ℕ → List ℕ
  value_of len = take len (drop 3 bytes)

  abbrev test : ℕ → List ℕ → Bool
  test len v = eqb (length v) len && more v

  abbrev tests : ℕ → ℕ → Bool
  tests tag len = leb (3 + len) (length bytes) && says_field bytes 0 tag len && more (value_of len)

  abbrev Holds : ℕ → ℕ → Type 0
  Holds tag len =
      passing tag (test len) (unfield bytes) ≡ only (tests tag len) (field_of tag (value_of len) (drop (3 + len) bytes))

  size : 3 + said bytes ≤ length bytes → length (value_of (said bytes)) ≡ said bytes
  size h = length-take-le (said bytes) (drop 3 bytes) (omega (arith, length-drop 3 bytes))

  same : (t : Bool) → leb (3 + said bytes) (length bytes) ≡ t → Holds (byte_at bytes 0) (said bytes)
  same true e =
      let h = leb-true _ _ e in
      rw (all_there bytes h, size h, eq-eqb (byte_at bytes 0) _ refl, eq-eqb (said bytes) _ refl, e)
  same false e = rw (cut_short bytes (leb-false _ _ e), e)

  other : (tag len : ℕ) → says_field bytes 0 tag len ≡ false → (t : Bool) → leb (3 + said bytes) (length bytes) ≡ t
      → passing tag (test len) (unfield bytes) ≡ refused (no 15 [])
  other tag len n true e =
      let h = leb-true _ _ e in
      rw (all_there bytes h, size h) (never (eqb (byte_at bytes 0) tag) (eqb (said bytes) len) (more (value_of (said bytes))) _ n)
  other tag len n false e = rw (cut_short bytes (leb-false _ _ e))

  by_tests : (tag len : ℕ) (t : Bool) → says_field bytes 0 tag len ≡ t → Holds tag len
  by_tests tag len true e =
      let q = (and-eq-true_iff _ _).0 e in
      subst (λ (k : ℕ). Holds k len) (eqb-true _ _ q.0)
      (subst (λ (n : ℕ). Holds (byte_at bytes 0) n) (eqb-true _ _ q.1) (same _ refl))
  by_tests tag len false e = other tag len e _ refl ∙ rw (e, and_false (leb (3 + len) (length bytes)))

-- ---- field 20
abbrev device_field : List ℕ → Field
device_field bytes = field_of 0x20 (take 4 (drop 3 bytes)) (drop 7 bytes)

device_field_lem : (bytes : List ℕ) → field_for 0x20 is_device bytes ≡ only (says_device bytes) (device_field bytes)
unfolding field_for is_device says_device
device_field_lem bytes =
    by_tests (λ v. ltb (byte_at v 3) 2) bytes 0x20 4 _ refl ∙ rw (byte_of 4 3 bytes 3 (omega arith))

same_device : (bytes : List ℕ) → device_at (take 4 (drop 3 bytes)) 0 ≡ device_of bytes
same_device bytes =
    rw (
      byte_of 4 3 bytes 0 (omega arith),
      byte_of 4 3 bytes 1 (omega arith),
      byte_of 4 3 bytes 2 (omega arith),
      byte_of 4 3 bytes 3 (omega arith),
    )

pub device_by_tests : (bytes : List ℕ) → device_for bytes ≡ only (says_device bytes) (device_of bytes)
unfolding device_for
device_by_tests bytes =
    ap (λ (a : Answer Field). a and_then λ device. value (device_at device.value 0)) (device_field_lem bytes)
    ∙ then_only (says_device bytes) (device_field bytes) (λ device. value (device_at device.value 0))
    ∙ rw (same_device bytes)

-- ---- field 21, behind it
module _ (bytes : List ℕ) where
  abbrev config_value : List ℕ → List ℕ
  config_value b = take 24 (drop 3 (drop 7 b))

  abbrev says_config : Bool
  says_config = leb 27 (length (drop 7 bytes)) && says_field (drop 7 bytes) 0 0x21 24 && codes_at (config_value bytes) 0

  config_field : field_for 0x21 is_config (drop 7 bytes)
      ≡ only says_config (field_of 0x21 (config_value bytes) (drop 27 (drop 7 bytes)))
  unfolding field_for is_config
  config_field = by_tests (λ v. codes_at v 0) (drop 7 bytes) 0x21 24 _ refl

  -- where there are 34 bytes, each stands in its place
  abbrev Same : List ℕ → Type 0
  Same b =
      (config_at (config_value b) 0 ≡ config_at b 10)
      × (codes_at (config_value b) 0 ≡ codes_at b 10)
      × (says_field (drop 7 b) 0 0x21 24 ≡ says_field b 7 0x21 24)

  in_place : 34 ≤ length bytes → Same bytes
  unfolding codes_at
  in_place h = subst Same (sym (from_drop bytes 0 34 h)) (refl, refl, refl)

  abbrev job : Job
  job = record { device = device_at (take 4 (drop 3 bytes)) 0; config = config_at (config_value bytes) 0 }

  by_length : (t : Bool) → leb 34 (length bytes) ≡ t
      → cond (says_device bytes) (only says_config job) (refused (no 15 []))
      ≡ only (says_job bytes) (record { device = device_of bytes; config = config_of bytes })
  unfolding says_job
  by_length true e =
      let h : 34 ≤ length bytes = leb-true _ _ e in
      let k : 27 ≤ length (drop 7 bytes) = omega (arith, length-drop 7 bytes) in
      let s = in_place h in
      rw (le-leb _ _ k, e, same_device bytes, s.0, s.1, s.2)
      (nested (says_device bytes) (says_field bytes 7 0x21 24) (codes_at bytes 10) _)
  by_length false e =
      let h : length bytes < 34 = leb-false _ _ e in
      let k : length (drop 7 bytes) < 27 = omega (arith, length-drop 7 bytes) in
      rw (lt-leb _ _ k, e) (either (says_device bytes))

  -- what the definition goes on with
  abbrev both : Field → Field → Answer Job
  both d c = value (record { device = device_at d.value 0; config = config_at c.value 0 })

  abbrev rest : Field → Answer Job
  rest d = field_for 0x21 is_config d.rest and_then both d

  pub job_by_tests : job_of bytes ≡ only (says_job bytes) (record { device = device_of bytes; config = config_of bytes })
  unfolding job_of
  job_by_tests =
      let second = field_of 0x21 (config_value bytes) (drop 27 (drop 7 bytes)) in
      ap (λ (a : Answer Field). a and_then rest) (device_field_lem bytes)
      ∙ then_only (says_device bytes) (device_field bytes) rest
      ∙ ap (λ (a : Answer Job). cond (says_device bytes) a (refused (no 15 [])))
      (ap (λ (a : Answer Field). a and_then both (device_field bytes)) config_field
      ∙ then_only says_config second (both (device_field bytes)))
      ∙ by_length _ refl
