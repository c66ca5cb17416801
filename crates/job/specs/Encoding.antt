-- A job written out: field 20 and field 21.
-- Assumes nothing.
use Rattle.std.specs.Prelude.{ℕ, Bool, true, false, List, [], ◌∷◌, ◌++◌}
use Rattle.numbers.specs.Numbers.{four, as_u32}
use Rattle.fields.specs.Fields.{field}
use Rattle.protection.specs.Delays.{scd_code, ocd_code, uv_code, ov_code}
use Rattle.plan.specs.declared.Config.{Config}
use Rattle.job.specs.declared.Device.{Device}
use Rattle.job.specs.declared.Job.{Job}

abbrev pub zero_or_one : Bool → ℕ
zero_or_one false = 0
zero_or_one true = 1

-- X, cells, address, check
abbrev pub device_value : Device → List ℕ
device_value d = d.x ∷ d.cells ∷ d.address ∷ zero_or_one d.check ∷ []

-- shunt, SCD A, OCD A, UV mV and OV mV in two's complement, and the codes of the delays
abbrev pub config_value : Config → List ℕ
config_value c =
    four c.shunt.0
    ++ four c.scd_threshold.0
    ++ four c.ocd_threshold.0
    ++ four (as_u32 c.uv_threshold.0)
    ++ four (as_u32 c.ov_threshold.0)
    ++ scd_code c.scd_delay ∷ ocd_code c.ocd_delay ∷ uv_code c.uv_delay ∷ ov_code c.ov_delay ∷ []

unfoldable pub job_bytes : Job → List ℕ
job_bytes j = field 0x20 (device_value j.device) ++ field 0x21 (config_value j.config)
