-- A head written out: field 20, the call fields, 3F 0000.
-- Assumes nothing.
use Rattle.std.specs.Prelude.{◌≡◌, true, ℕ, List, [], ◌∷◌, ◌++◌}
use Rattle.fields.specs.Fields.{field}
use Rattle.job.specs.declared.Device.{Device}
use Rattle.job.specs.Encoding.{device_value}
use Rattle.calls.specs.Shapes.{lawful}

pub record Call : Type 0 where
  pub tag : ℕ
  pub bytes : List ℕ

unfoldable pub call_fields : List Call → List ℕ
call_fields [] = []
call_fields (c ∷ calls) = field c.tag c.bytes ++ call_fields calls

unfoldable pub head_bytes : Device → List Call → List ℕ
head_bytes device calls = field 0x20 (device_value device) ++ (call_fields calls ++ field 0x3F [])

abbrev pub Lawful : List Call → Type 0
Lawful [] = Unit {0}
Lawful (c ∷ calls) = (lawful c.tag c.bytes ≡ true) × Lawful calls
