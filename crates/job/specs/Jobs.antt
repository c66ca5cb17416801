-- The job that bytes begin with: field 20, the device, field 21, the configuration, and then, from byte 34 on, the tape. Anything else is 15.
-- Assumes nothing.
use Rattle.std.specs.Prelude.{ℕ, ◌+◌, Bool, cond, ◌&&◌, List, [], ℤ, length, get_or, eqb, ltb, Result}
use Rattle.std.proofs.Math.Option.{Option, none, some}
use Rattle.numbers.specs.Numbers.{word4, as_i32}
use Rattle.fields.specs.Fields.{Field, unfield}
use Rattle.refusals.specs.Refusal.{Answer, value, refused, no, as_answer}
use Rattle.refusals.specs.declared.Error.{Error}
use Rattle.plan.specs.Order.{◌and_then◌}
use Rattle.plan.specs.declared.Config.{Config}
use Rattle.protection.specs.Delays.{scd_delays, ocd_delays, uv_delays, ov_delays}
use Rattle.job.specs.Delays.{scd_at, ocd_at, uv_at, ov_at}
use Rattle.job.specs.declared.Device.{Device}
use Rattle.job.specs.declared.Job.{Job}

abbrev pub byte_at : List ℕ → ℕ → ℕ
byte_at bytes i = get_or bytes i 0

-- four bytes, high first
abbrev pub number_at : List ℕ → ℕ → ℕ
number_at bytes i = word4 (byte_at bytes i) (byte_at bytes (i + 1)) (byte_at bytes (i + 2)) (byte_at bytes (i + 3))

-- and in two's complement
abbrev pub signed_at : List ℕ → ℕ → ℤ
signed_at bytes i = as_i32 (number_at bytes i)

-- ---- field 20: X, cells, address, check; its value from byte i on
abbrev pub device_at : List ℕ → ℕ → Device
device_at bytes i = record {
  x = byte_at bytes i;
  cells = byte_at bytes (i + 1);
  address = byte_at bytes (i + 2);
  check = eqb (byte_at bytes (i + 3)) 1;
}

-- check is 0 or 1
unfoldable pub is_device : List ℕ → Bool
is_device bytes = eqb (length bytes) 4 && ltb (byte_at bytes 3) 2

-- ---- field 21: five numbers of four bytes each, the voltages with their sign, and the codes of four delays
abbrev pub config_at : List ℕ → ℕ → Config
config_at bytes i = record {
  shunt = record { 0 = number_at bytes i };
  scd_threshold = record { 0 = number_at bytes (i + 4) };
  ocd_threshold = record { 0 = number_at bytes (i + 8) };
  uv_threshold = record { 0 = signed_at bytes (i + 12) };
  ov_threshold = record { 0 = signed_at bytes (i + 16) };
  scd_delay = scd_at (byte_at bytes (i + 20));
  ocd_delay = ocd_at (byte_at bytes (i + 21));
  uv_delay = uv_at (byte_at bytes (i + 22));
  ov_delay = ov_at (byte_at bytes (i + 23));
}

-- the codes of the configuration whose first byte is at i are in their lists
unfoldable pub codes_at : List ℕ → ℕ → Bool
codes_at bytes i =
    ltb (byte_at bytes (i + 20)) (length scd_delays)
    && ltb (byte_at bytes (i + 21)) (length ocd_delays)
    && ltb (byte_at bytes (i + 22)) (length uv_delays)
    && ltb (byte_at bytes (i + 23)) (length ov_delays)

unfoldable pub is_config : List ℕ → Bool
is_config bytes = eqb (length bytes) 24 && codes_at bytes 0

-- ---- a field of this tag at the head of bytes, whose value passes the test; else 15
abbrev pub passing : ℕ → (List ℕ → Bool) → Option Field → Answer Field
passing tag test (some f) = cond (eqb f.tag tag && test f.value) (value f) (refused (no 15 []))
passing tag test none = refused (no 15 [])

unfoldable pub field_for : ℕ → (List ℕ → Bool) → List ℕ → Answer Field
field_for tag test bytes = passing tag test (unfield bytes)

unfoldable pub device_for : List ℕ → Answer Device
device_for bytes = field_for 0x20 is_device bytes and_then λ device. value (device_at device.value 0)

-- of a field's value alone
unfoldable pub config_for : List ℕ → Answer Config
config_for bytes = cond (is_config bytes) (value (config_at bytes 0)) (refused (no 15 []))

unfoldable pub job_of : List ℕ → Answer Job
job_of bytes =
    field_for 0x20 is_device bytes and_then λ device.
    field_for 0x21 is_config device.rest and_then λ config.
    value (record { device = device_at device.value 0; config = config_at config.value 0 })

-- the device and the configuration where they stand in a job
abbrev pub device_of : List ℕ → Device
device_of job = device_at job 3

abbrev pub config_of : List ℕ → Config
config_of job = config_at job 10

-- ---- as the code answers
abbrev pub as_device : Result Device Error → Answer Device
as_device = as_answer (λ device. device)

abbrev pub as_config : Result Config Error → Answer Config
as_config = as_answer (λ config. config)

abbrev pub as_job : Result Job Error → Answer Job
as_job = as_answer (λ job. job)
