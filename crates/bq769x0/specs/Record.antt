-- The driver's record: what `new` gives, when a record is sound, and the ways in which calls change it.
-- Assumes nothing.
use Rattle.std.specs.Prelude.{ℕ, Bool, true, false, not, ◌&&◌, ◌||◌, ◌≡◌, eqb, leb, ltb, ℤ, pos, negsuc, replicate, Result, Ok, Err}
use Rattle.refusals.specs.Refusal.{Refusal, Answer, value, refused, refused_if, as_answer}
use Rattle.refusals.specs.declared.Error.{Error}
use Rattle.refusals.specs.declared.Error.TheVariants as E
use Rattle.sizes.specs.Sizes.{within}
use Rattle.wiring.specs.Packs.{of_pack}
use Rattle.laws.specs.Choice.{when◌then◌else◌}
use Rattle.bus.specs.Raw.{Done}
use Rattle.bus.specs.declared.link.Link.{Link}
use Rattle.adc.specs.declared.transfer.AdcTransferFunction.{AdcTransferFunction}
use Rattle.units.specs.declared.MicroOhms.{MicroOhms}
use Rattle.units.specs.declared.MilliVolts.{MilliVolts}
use Rattle.bq769x0.specs.declared.BQ769x0.{BQ769x0}
use Rattle.bq769x0.specs.declared.Head.{Head}
use Rattle.bq769x0.specs.declared.Readings.{Readings}
use Rattle.bq769x0.specs.declared.record.New.{New}

-- 9, 10, 11
unfoldable pub device_allowed : ℕ → ℕ → ℕ → Answer Done
device_allowed x address n = of_pack x n (refused_if (ltb 127 address) 11 (value tt))

-- nothing read yet
abbrev pub nothing : MilliVolts
nothing = record { 0 = pos 0 }

abbrev pub unread : Readings
unread = record {
  cells = replicate 15 nothing;
  wired = replicate 15 nothing;
  spread = record { sum = nothing; lowest = nothing; highest = nothing };
}

abbrev pub of_parts : Link → ℕ → AdcTransferFunction → MicroOhms → Bool → BQ769x0
of_parts link n adc shunt mark = record {
  link = link;
  cell_count = n;
  adc = adc;
  shunt = shunt;
  init_complete = mark;
  readings = unread;
}

-- a record's part without its readings, and the record of a head and readings
abbrev pub head_of : BQ769x0 → Head
head_of d = record {
  link = d.link;
  cell_count = d.cell_count;
  adc = d.adc;
  shunt = d.shunt;
  init_complete = d.init_complete;
}

abbrev pub with_head : Head → Readings → BQ769x0
with_head head readings = record {
  link = head.link;
  cell_count = head.cell_count;
  adc = head.adc;
  shunt = head.shunt;
  init_complete = head.init_complete;
  readings = readings;
}

-- nothing read and nothing set up
abbrev pub fresh : ℕ → ℕ → ℕ → Bool → BQ769x0
fresh x address n check =
    let link : Link = record { address = address; check = check; x = x } in
    let adc : AdcTransferFunction = record { gain = 0; offset = pos 0 } in
    of_parts link n adc (record { 0 = 0 }) false

-- an answer, and the record then
pub record Left (A : Type 0) : Type 0 where
  pub answer : Answer A
  pub device : BQ769x0

abbrev pub leaves : {A : Type 0} → Answer A → BQ769x0 → Left A
leaves a d = record { answer = a; device = d }

-- a refusal, and the record that it leaves
abbrev pub leaving : {A : Type 0} → BQ769x0 → Refusal → Left A
leaving d r = leaves (refused r) d

abbrev pub as_made : Result Done Error → Answer Done
as_made = as_answer (λ _. tt)

abbrev pub as_new : New → Left Done
as_new r = leaves (as_made r.answer) r.device

-- a refused device has size 0
abbrev pub made_by : Answer Done → BQ769x0 → Left Done
made_by (value done) d = leaves (value tt) d
made_by (refused r) d = leaves (refused r) (fresh 0 0 0 false)

unfoldable pub new_for : ℕ → ℕ → ℕ → Bool → Left Done
new_for x address n check = made_by (device_allowed x address n) (fresh x address n check)

-- ---- soundness
abbrev pub is_zero : ℤ → Bool
is_zero (pos n) = eqb n 0
is_zero (negsuc n) = false

abbrev pub accepts : {A : Type 0} → Answer A → Bool
accepts (value a) = true
accepts (refused r) = false

-- a gain that registers give, or nothing read yet
abbrev pub calibrated_right : BQ769x0 → Bool
calibrated_right d = within 365 396 d.adc.gain || eqb d.adc.gain 0 && is_zero d.adc.offset

-- initialised just when the shunt is not 0, and the gain then not 0 either
abbrev pub marked_right : BQ769x0 → Bool
marked_right d =
    when d.init_complete then not (eqb d.shunt.0 0) && not (eqb d.adc.gain 0)
    else eqb d.shunt.0 0

pub record Sound (d : BQ769x0) : Type 0 where
  pub device : device_allowed d.link.x d.link.address d.cell_count ≡ value tt
  pub calibrated : calibrated_right d ≡ true
  pub shunted : leb d.shunt.0 2147483647 ≡ true
  pub marked : marked_right d ≡ true

unfoldable pub is_sound : BQ769x0 → Bool
is_sound d =
    accepts (device_allowed d.link.x d.link.address d.cell_count)
    && (calibrated_right d && leb d.shunt.0 2147483647 && marked_right d)

-- what the code answers of it
abbrev pub soundness : BQ769x0 → Result Done Error
soundness d = when is_sound d then Ok tt else Err E.BadDevice

-- ---- the ways in which calls change a record
-- a calibration that was read
abbrev pub with_calibration : BQ769x0 → AdcTransferFunction → BQ769x0
with_calibration d adc = record {
  link = d.link;
  cell_count = d.cell_count;
  adc = adc;
  shunt = d.shunt;
  init_complete = d.init_complete;
  readings = d.readings;
}

-- the shunt and the initialised mark together
abbrev pub with_shunt : BQ769x0 → MicroOhms → BQ769x0
with_shunt d shunt = record {
  link = d.link;
  cell_count = d.cell_count;
  adc = d.adc;
  shunt = shunt;
  init_complete = true;
  readings = d.readings;
}

-- an accepted reading
abbrev pub with_readings : BQ769x0 → Readings → BQ769x0
with_readings d readings = record {
  link = d.link;
  cell_count = d.cell_count;
  adc = d.adc;
  shunt = d.shunt;
  init_complete = d.init_complete;
  readings = readings;
}
