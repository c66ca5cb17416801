-- What is accepted is just what begins with a job written out. A job written out is read back, whatever tape follows; and bytes, each below
-- 256, that are accepted are their job written out, and then, from byte 34 on, the tape. So it is of the device alone, up to byte 7.
-- Assumes nothing.
use mathlib.Core.Path.{◌≡◌, refl, sym, ap, subst, ◌∙◌}
use mathlib.Core.Bool.{Bool, true, false, cond, ◌&&◌, and-eq-true_iff}
use mathlib.Core.List.{List, [], ◌∷◌, ◌++◌, append_assoc}
use mathlib.Core.Option.{Option, none, some}
use Prim.Native.Nat.{ℕ, ◌+◌, ◌^◌, ◌<◌, ◌≤◌}
use native.Mathlib.Omega.{arith}
use lib.ListN.{length, drop, drop_of_length-le}
use lib.Seq.{get_or-drop}
use lib.Dec.{eqb, ltb}
use lib.Signed.{mag}
use borrow.Author.Tests.{eqb-true, ltb-true}
use Rattle.laws.proofs.Tests.{same_below}
use Rattle.numbers.specs.Numbers.{four, as_u32}
use Rattle.numbers.proofs.Bytes.{word4_four, four_word4}
use Rattle.numbers.proofs.Casts.{i32_of_u32, u32_of_i32}
use Rattle.fields.specs.Fields.{Field, field, unfield}
use Rattle.fields.proofs.Fields.{field_of, unfield_field, field_unfield, said, lies}
use Rattle.refusals.specs.Refusal.{value, refused, no}
use Rattle.refusals.proofs.Values.{refused_not, same_value}
use Rattle.plan.specs.Order.{◌and_then◌}
use Rattle.plan.specs.declared.Config.{Config}
use Rattle.plan.proofs.Accepted.{first}
use Rattle.job.specs.Jobs.{byte_at, number_at, signed_at, device_at, is_device, config_at, codes_at, is_config, passing, field_for, device_for, job_of}
use Rattle.job.specs.Encoding.{zero_or_one, device_value, config_value, job_bytes}
use Rattle.job.specs.declared.Device.{Device}
use Rattle.job.specs.declared.Job.{Job}
use Rattle.job.proofs.Codes.{scd_coded, ocd_coded, uv_coded, ov_coded}
use Rattle.job.proofs.Places.{from, from_drop, byte_of}
use Rattle.job.proofs.Tested.{listed}

-- ---- written out, then read
check_read : (b : Bool) → eqb (zero_or_one b) 1 ≡ b
check_read false = refl
check_read true = refl

check_small : (b : Bool) → ltb (zero_or_one b) 2 ≡ true
check_small false = refl
check_small true = refl

module _ (d : Device) (rest : List ℕ) where
  device_first : field_for 0x20 is_device (field 0x20 (device_value d) ++ rest) ≡ value (field_of 0x20 (device_value d) rest)
  unfolding field_for is_device
  device_first = rw (unfield_field 0x20 (device_value d) rest (omega arith), check_small d.check)

  device_read : device_at (device_value d) 0 ≡ d
  device_read = rw (check_read d.check)

  pub device_alone : device_for (field 0x20 (device_value d) ++ rest) ≡ value d
  unfolding device_for ◌and_then◌
  device_alone = rw (device_first, device_read)

-- the voltages are an `i32` each, as every configuration's in the code
abbrev pub Held : Config → Type 0
Held c = (mag c.uv_threshold.0 < 2 ^ 31) × (mag c.ov_threshold.0 < 2 ^ 31)

module _ (c : Config) (rest : List ℕ) where
  config_first : field_for 0x21 is_config (field 0x21 (config_value c) ++ rest) ≡ value (field_of 0x21 (config_value c) rest)
  unfolding field_for is_config codes_at four
  config_first =
      rw (
        unfield_field 0x21 (config_value c) rest (omega arith),
        scd_coded.listed c.scd_delay,
        ocd_coded.listed c.ocd_delay,
        uv_coded.listed c.uv_delay,
        ov_coded.listed c.ov_delay,
      )

  config_read : Held c → config_at (config_value c) 0 ≡ c
  unfolding four
  config_read held =
      rw (
        word4_four c.shunt.0,
        word4_four c.scd_threshold.0,
        word4_four c.ocd_threshold.0,
        word4_four (as_u32 c.uv_threshold.0),
        word4_four (as_u32 c.ov_threshold.0),
        i32_of_u32 c.uv_threshold.0 held.0,
        i32_of_u32 c.ov_threshold.0 held.1,
        scd_coded.found c.scd_delay,
        ocd_coded.found c.ocd_delay,
        uv_coded.found c.uv_delay,
        ov_coded.found c.ov_delay,
      )

module _ (j : Job) (tape : List ℕ) where
  abbrev after : List ℕ
  after = field 0x21 (config_value j.config) ++ tape

  pub tape_follows : drop 34 (job_bytes j ++ tape) ≡ tape
  unfolding job_bytes field four
  tape_follows = refl

  parts : job_bytes j ++ tape ≡ field 0x20 (device_value j.device) ++ after
  unfolding job_bytes
  parts = append_assoc (field 0x20 (device_value j.device)) (field 0x21 (config_value j.config)) tape

  pub job_read : Held j.config → job_of (job_bytes j ++ tape) ≡ value j
  unfolding job_of ◌and_then◌
  job_read held =
      rw (
        parts,
        device_first j.device after,
        config_first j.config tape,
        device_read j.device after,
        config_read j.config tape held,
      )

device_ends : (d : Device) (rest : List ℕ) → drop 7 (field 0x20 (device_value d) ++ rest) ≡ rest
unfolding field
device_ends d rest = refl

-- ---- read, then written out
empty : (l : List ℕ) (n : ℕ) → length l ≡ n → drop n l ≡ []
empty l n e = let h : length l ≤ n = omega arith in drop_of_length-le l h

-- a list of n bytes is its n bytes
all_of : (l : List ℕ) (n : ℕ) → length l ≡ n → l ≡ from l 0 n ++ []
all_of l n e =
    let end : length l ≡ 0 + n = omega arith in
    from_drop l 0 n (omega arith) ∙ ap (λ (r : List ℕ). from l 0 n ++ r) (empty l (0 + n) end)

check_written : (n : ℕ) → n < 2 → zero_or_one (eqb n 1) ≡ n
check_written = same_below 2 (λ n. zero_or_one (eqb n 1)) (λ n. n) tt

device_written : (v : List ℕ) → is_device v ≡ true → v ≡ device_value (device_at v 0)
unfolding is_device
device_written v e =
    let t = (and-eq-true_iff _ _).0 e in
    all_of v 4 (eqb-true _ _ t.0) ∙ rw (check_written (byte_at v 3) (ltb-true _ _ t.1))

module _ (v : List ℕ) (small : (i : ℕ) → i < 24 → byte_at v i < 256) where
  four_at : (i : ℕ) → i + 3 < 24
      → four (number_at v i) ≡ byte_at v i ∷ byte_at v (i + 1) ∷ byte_at v (i + 2) ∷ byte_at v (i + 3) ∷ []
  four_at i h = four_word4 _ _ _ _ (small (i + 1) (omega arith)) (small (i + 2) (omega arith)) (small (i + 3) h)

  signed_at_is : (i : ℕ) → i + 3 < 24 → as_u32 (signed_at v i) ≡ number_at v i
  signed_at_is i h =
      u32_of_i32 (number_at v i)
      (omega (arith, small i (omega arith), small (i + 1) (omega arith), small (i + 2) (omega arith), small (i + 3) h))

  config_written : is_config v ≡ true → v ≡ config_value (config_at v 0)
  unfolding is_config
  config_written e =
      let t = (and-eq-true_iff _ _).0 e in
      let codes = listed v 0 t.1 in
      all_of v 24 (eqb-true _ _ t.0)
      ∙ rw (
        four_at 0 (omega arith),
        four_at 4 (omega arith),
        four_at 8 (omega arith),
        signed_at_is 12 (omega arith),
        signed_at_is 16 (omega arith),
        four_at 12 (omega arith),
        four_at 16 (omega arith),
        scd_coded.has (byte_at v 20) codes.0,
        ocd_coded.has (byte_at v 21) codes.1,
        uv_coded.has (byte_at v 22) codes.2,
        ov_coded.has (byte_at v 23) codes.3,
      )

-- a field that was accepted
pub record Passed (tag : ℕ) (test : List ℕ → Bool) (bytes : List ℕ) (f : Field) : Type 0 where
  pub read : unfield bytes ≡ some f
  pub tagged : f.tag ≡ tag
  pub passes : test f.value ≡ true

passed : (tag : ℕ) (test : List ℕ → Bool) (bytes : List ℕ) (f : Field) → field_for tag test bytes ≡ value f → Passed tag test bytes f
unfolding field_for
passed tag test bytes f e = by (unfield bytes) refl e
  where
    by : (o : Option Field) → unfield bytes ≡ o → passing tag test o ≡ value f → Passed tag test bytes f
    by none r q = refused_not q
    by (some g) r q = tested (eqb g.tag tag && test g.value) refl q
      where
        tested : (t : Bool) → eqb g.tag tag && test g.value ≡ t → cond t (value g) (refused (no 15 [])) ≡ value f
            → Passed tag test bytes f
        tested true h p =
            let both = (and-eq-true_iff _ _).0 h in
            subst (Passed tag test bytes) (same_value p)
            (record { read = r; tagged = eqb-true _ _ both.0; passes = both.1 })
        tested false h p = refused_not p

module _ (bytes : List ℕ) (small : (i : ℕ) → byte_at bytes i < 256) where
  -- by the value and the rest that were read
  whole : (tag : ℕ) (test : List ℕ → Bool) (f : Field) → Passed tag test bytes f → bytes ≡ field tag f.value ++ f.rest
  whole tag test f p =
      subst (λ (t : ℕ). bytes ≡ field t f.value ++ f.rest) p.tagged
      (field_unfield bytes f p.read (small 1) (small 2)).is

  pub value_small : (f : Field) → unfield bytes ≡ some f → (i : ℕ) → i < length f.value → byte_at f.value i < 256
  value_small f e i h =
      let l = lies bytes f e in
      subst (λ (g : Field). byte_at g.value i < 256) l.is
      (rw (byte_of (said bytes) 3 bytes i (omega (arith, l.long))) (small (3 + i)))

  pub rest_small : (f : Field) → unfield bytes ≡ some f → (i : ℕ) → byte_at f.rest i < 256
  rest_small f e i =
      subst (λ (g : Field). byte_at g.rest i < 256) (lies bytes f e).is (rw (get_or-drop _ bytes i 0) (small _))

  device_part : (f : Field) → Passed 0x20 is_device bytes f → bytes ≡ field 0x20 (device_value (device_at f.value 0)) ++ f.rest
  device_part f p =
      whole 0x20 is_device f p ∙ ap (λ (v : List ℕ). field 0x20 v ++ f.rest) (device_written f.value p.passes)

  config_part : (f : Field) → Passed 0x21 is_config bytes f → bytes ≡ field 0x21 (config_value (config_at f.value 0)) ++ f.rest
  unfolding is_config
  config_part f p =
      let long : length f.value ≡ 24 = eqb-true _ _ ((and-eq-true_iff _ _).0 p.passes).0 in
      whole 0x21 is_config f p
      ∙ ap (λ (v : List ℕ). field 0x21 v ++ f.rest)
      (config_written f.value (λ i h. value_small f p.read i (omega arith)) p.passes)

  pub device_alone_written : (d : Device) → device_for bytes ≡ value d → bytes ≡ field 0x20 (device_value d) ++ drop 7 bytes
  unfolding device_for
  device_alone_written d q =
      let one = first (field_for 0x20 is_device bytes) _ q in
      let f = one.0 in
      let all = subst (λ (k : Device). bytes ≡ field 0x20 (device_value k) ++ f.rest) (same_value one.1.1)
      (device_part f (passed 0x20 is_device bytes f one.1.0)) in
      rw (ap (drop 7) all ∙ device_ends d f.rest) all

pub job_written : (bytes : List ℕ) → ((i : ℕ) → byte_at bytes i < 256) → (j : Job) → job_of bytes ≡ value j
    → bytes ≡ job_bytes j ++ drop 34 bytes
unfolding job_of
job_written bytes small j q =
    let one = first (field_for 0x20 is_device bytes) _ q in
    let f = one.0 in
    let device = passed 0x20 is_device bytes f one.1.0 in
    let two = first (field_for 0x21 is_config f.rest) _ one.1.1 in
    let g = two.0 in
    let config = passed 0x21 is_config f.rest g two.1.0 in
    let rest = config_part f.rest (rest_small bytes small f device.read) g config in
    let made : Job = record { device = device_at f.value 0; config = config_at g.value 0 } in
    let whole : bytes ≡ job_bytes made ++ g.rest =
    device_part bytes small f device
    ∙ ap (λ (r : List ℕ). field 0x20 (device_value (device_at f.value 0)) ++ r) rest
    ∙ sym (parts made g.rest) in
    let all = subst (λ (k : Job). bytes ≡ job_bytes k ++ g.rest) (same_value two.1.1) whole in
    rw (ap (drop 34) all ∙ tape_follows j g.rest) all
