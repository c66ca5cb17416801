-- Readings to millivolts and milliamperes. Each is a whole number with a sign, the exact quotient with its fraction dropped.
-- Assumes nothing.
use Rattle.std.specs.Prelude.{ℕ, ◌*◌, ◌||◌, eqb, ltb, ℤ, pos, ◌+ℤ◌, ◌*ℤ◌, Result}
use Rattle.numbers.specs.Numbers.{◌÷◌}
use Rattle.refusals.specs.Refusal.{Answer, value, refused_if, as_answer}
use Rattle.refusals.specs.declared.Error.{Error}
use Rattle.units.specs.declared.MilliAmperes.{MilliAmperes}

-- a cell input: gain (µV a step) times the reading, and the offset (mV)
abbrev pub millivolts : ℕ → ℤ → ℕ → ℤ
millivolts gain offset reading = (pos (reading * gain) +ℤ offset *ℤ pos 1000) ÷ 1000

-- the pack: four times gain and reading, and the offset once per fitted cell
abbrev pub pack_millivolts : ℕ → ℕ → ℤ → ℕ → ℤ
pack_millivolts cells gain offset reading = (pos (4 * gain * reading) +ℤ offset *ℤ pos (cells * 1000)) ÷ 1000

-- the coulomb counter: 8440 nV a count, over the shunt in µΩ, which is refused at 0 and over 2,147,483,647
abbrev pub milliamperes : ℤ → ℕ → Answer ℤ
milliamperes count shunt =
    refused_if (eqb shunt 0 || ltb 2147483647 shunt) 12 (value ((count *ℤ pos 8440) ÷ shunt))

abbrev pub as_current : Result MilliAmperes Error → Answer ℤ
as_current = as_answer (λ current. current.0)
