-- What `init` answers, in five figures, each a u32: of a voltage below zero 2^32 less its size.
-- Assumes nothing.
use Rattle.std.specs.Prelude.{ℕ, pos, length, get_or}
use Rattle.numbers.specs.Numbers.{as_u32}
use Rattle.refusals.specs.Refusal.{Answer, value, refused}
use Rattle.protection.specs.declared.range.OCDSCDRange.{OCDSCDRange}
use Rattle.protection.specs.declared.range.OCDSCDRange.TheVariants as R
use Rattle.plan.specs.Plan.{Values}
use Rattle.plan.specs.declared.answer.InitNumbers.{InitNumbers}

abbrev pub range_number : OCDSCDRange → ℕ
range_number R.Lower = 0
range_number R.Upper = 1
range_number R.Unknown = 2

-- accepted: the range, SCD A, OCD A, UV mV, OV mV; refused: the count of the figures, and the first and the second, zero for one that is not there
abbrev pub init_numbers : Answer Values → InitNumbers
init_numbers (value v) = record { 0 = range_number v.range; 1 = v.scd; 2 = v.ocd; 3 = as_u32 v.uv; 4 = as_u32 v.ov }
init_numbers (refused r) = record {
  0 = length r.figures;
  1 = as_u32 (get_or r.figures 0 (pos 0));
  2 = as_u32 (get_or r.figures 1 (pos 0));
  3 = 0;
  4 = 0;
}
