-- What the bench's C is given of a call: a number, three numbers in out, the log,
-- and the bytes or numbers that it lent.
-- Assumes nothing.
use Rattle.std.specs.Prelude.{ℕ, ◌+◌, Bool, not, List, [], ◌∷◌, eqb}
use Rattle.numbers.specs.Numbers.{as_u32, as_i8}
use Rattle.refusals.specs.Refusal.{Answer, value, refused, number_of}
use Rattle.adc.specs.declared.transfer.AdcTransferFunction.{AdcTransferFunction}
use Rattle.bus.specs.Transfers.{Bus}
use Rattle.bus.specs.Programs.{Ran}
use Rattle.bus.specs.Raw.{Done, Read}
use Rattle.bus.specs.declared.Cursor.{Cursor}
use Rattle.bus.specs.declared.link.Link.{Link}
use Rattle.bq769x0.specs.Record.{of_parts}
use Rattle.bq769x0.specs.declared.BQ769x0.{BQ769x0}
use Rattle.units.specs.declared.flags.Stat.{Stat}
use Rattle.laws.specs.Choice.{when◌then◌else◌}
use Rattle.commands.specs.declared.control.TemperatureSource.{TemperatureSource}
use Rattle.commands.specs.declared.control.TemperatureSource.TheVariants as S
use Rattle.measuring.specs.declared.degrees.Temperature.{Temperature}
use Rattle.measuring.specs.declared.degrees.Temperature.TheVariants as T

abbrev pub link_by : ℕ → ℕ → Bool → Link
link_by x address check = record { address = address; check = check; x = x }

-- with the offset that register 51 gives, initialised where the shunt is not 0, the cells zero
abbrev pub record_by : ℕ → ℕ → ℕ → Bool → ℕ → ℕ → ℕ → BQ769x0
record_by x n address check gain b51 shunt =
    let adc : AdcTransferFunction = record { gain = gain; offset = as_i8 b51 } in
    of_parts (link_by x address check) n adc (record { 0 = shunt }) (not (eqb shunt 0))

-- ---- an answer's value as a number
-- a call that has nothing to hand back
abbrev pub nothing : Done → ℕ
nothing done = 0

abbrev pub itself : ℕ → ℕ
itself n = n

-- the degrees, and 2^32 more where a thermistor has them
abbrev pub sensed : Temperature → ℕ
sensed (T.InternalDie t) = as_u32 t.0
sensed (T.ExternalThermistor t) = 4_294_967_296 + as_u32 t.0

abbrev pub bits_of : Stat → ℕ
bits_of stat = stat.bits

abbrev pub bit_of : Bool → ℕ
bit_of b = when b then 1 else 0

abbrev pub code_of : TemperatureSource → ℕ
code_of S.InternalDie = 0
code_of S.ExternalThermistor = 1

-- ---- what C is told of an answer: its number, 0 where accepted, and in out the positions and its value, or 0
abbrev pub out_of : Cursor → ℕ → List ℕ
out_of at n = at.tape ∷ at.log ∷ n ∷ []

pub record Told : Type 0 where
  pub number : ℕ
  pub out : List ℕ

abbrev pub told_by : ℕ → List ℕ → Told
told_by number out = record { number = number; out = out }

abbrev pub value_of : {A : Type 0} → (A → ℕ) → Answer A → ℕ
value_of inNumber (value a) = inNumber a
value_of inNumber (refused r) = 0

abbrev pub told : {A : Type 0} → (A → ℕ) → Cursor → Answer A → Told
told inNumber at answer = told_by (number_of answer) (out_of at (value_of inNumber answer))

-- ---- and what it is given with that: the log, and what it lent
pub record Given (E : Type 0) : Type 0 where
  pub told : Told
  pub log : List ℕ
  pub lent : List E

abbrev pub given : {E : Type 0} → ℕ → List ℕ → List ℕ → List E → Given E
given number out log lent = record { told = told_by number out; log = log; lent = lent }

abbrev pub given_of : {A E : Type 0} → (A → ℕ) → Answer A → Bus → List E → Given E
given_of inNumber answer b lent = record { told = told inNumber b.at answer; log = b.log; lent = lent }

-- an answer that is no more than its value, where nothing was lent but tape and log
abbrev pub as_told : {A : Type 0} → (A → ℕ) → Ran (Answer A) → Given ℕ
as_told inNumber r = given_of inNumber r.answer r.bus []

-- with the bytes that a read filled
abbrev pub as_read : Ran Read → Given ℕ
as_read r = given_of nothing r.answer.answer r.bus r.answer.bytes
