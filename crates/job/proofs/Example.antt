-- The job of the printing program's example, and four like it that are refused.
-- Assumes nothing.
use mathlib.Core.Path.{◌≡◌, refl}
use mathlib.Core.Bool.{false}
use mathlib.Core.List.{List, [], ◌∷◌, ◌++◌, map}
use Prim.Native.Nat.{ℕ}
use lib.IntN.{pos}
use lib.ListN.{set, take}
use Rattle.protection.specs.declared.delays.SCDDelay.TheVariants as S
use Rattle.protection.specs.declared.delays.OCDDelay.TheVariants as O
use Rattle.protection.specs.declared.delays.UVDelay.TheVariants as U
use Rattle.protection.specs.declared.delays.OVDelay.TheVariants as W
use Rattle.refusals.specs.Refusal.{value, refused, no}
use Rattle.fields.specs.Fields.{field, unfield}
use Rattle.plan.specs.Order.{◌and_then◌}
use Rattle.job.specs.Jobs.{is_device, codes_at, is_config, field_for, job_of}
use Rattle.numbers.specs.Numbers.{four}
use Rattle.job.specs.Encoding.{job_bytes}
use Rattle.job.specs.declared.Job.{Job}

abbrev bytes : List ℕ
bytes =
    (0x20 ∷ 0x00 ∷ 0x04 ∷ 0x05 ∷ 0x05 ∷ 0x08 ∷ 0x00 ∷ [])
    ++ (0x21 ∷ 0x00 ∷ 0x18 ∷ [])
    ++ (0x00 ∷ 0x00 ∷ 0x03 ∷ 0xE8 ∷ [])
    ++ (0x00 ∷ 0x00 ∷ 0x00 ∷ 0x32 ∷ [])
    ++ (0x00 ∷ 0x00 ∷ 0x00 ∷ 0x14 ∷ [])
    ++ (0x00 ∷ 0x00 ∷ 0x0A ∷ 0xF0 ∷ [])
    ++ (0x00 ∷ 0x00 ∷ 0x10 ∷ 0x68 ∷ [])
    ++ (0x02 ∷ 0x05 ∷ 0x01 ∷ 0x01 ∷ [])

abbrev job : Job
job = record {
  device = record { x = 5; cells = 5; address = 8; check = false };
  config = record {
    shunt = record { 0 = 1000 };
    scd_threshold = record { 0 = 50 };
    ocd_threshold = record { 0 = 20 };
    uv_threshold = record { 0 = pos 2800 };
    ov_threshold = record { 0 = pos 4200 };
    scd_delay = S._200uS;
    ocd_delay = O._320ms;
    uv_delay = U._4s;
    ov_delay = W._2s;
  };
}

pub example_read : job_of bytes ≡ value job
unfolding job_of field_for unfield is_device is_config codes_at ◌and_then◌
example_read = refl

pub example_written : job_bytes job ≡ bytes
unfolding job_bytes field four
example_written = refl

-- a byte short, check 2, a field 21 of 23 bytes, SCD code 4
abbrev wrong : List (List ℕ)
wrong = take 33 bytes ∷ set bytes 6 2 ∷ set bytes 9 23 ∷ set bytes 30 4 ∷ []

pub wrong_refused : map job_of wrong ≡ map (λ (_ : List ℕ). refused (no 15 [])) wrong
unfolding job_of field_for unfield is_device is_config codes_at ◌and_then◌
wrong_refused = refl
