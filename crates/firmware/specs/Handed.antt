-- What C is given of a call: a number, the 36 bytes, and the log.
-- Assumes nothing.
use Rattle.std.specs.Prelude.{ℕ, List}
use Rattle.refusals.specs.Refusal.{Answer, value, refused, answering, number_of}
use Rattle.plan.specs.Plan.{Values}
use Rattle.plan.specs.InNumbers.{init_numbers}
use Rattle.plan.specs.declared.answer.InitNumbers.{InitNumbers}
use Rattle.layout.specs.Layout.{laid}
use Rattle.numbers.specs.Numbers.{word8}
use Rattle.job.specs.Jobs.{number_at}
use Rattle.bus.specs.Programs.{Ran}
use Rattle.bus.specs.Raw.{Done}
use Rattle.bus.specs.declared.Cursor.{Cursor}
use Rattle.bq769x0.specs.Record.{Left}

abbrev pub layout : Answer Values → Cursor → List ℕ
layout answer at = laid at (init_numbers answer)

-- the number, the 36 bytes, and the log
pub record Handed : Type 0 where
  pub number : ℕ
  pub out : List ℕ
  pub log : List ℕ

abbrev pub handed : ℕ → List ℕ → List ℕ → Handed
handed number out log = record { number = number; out = out; log = log }

abbrev pub as_c : Ran (Left Values) → Handed
as_c r = handed (number_of r.answer.answer) (layout r.answer.answer r.bus.at) r.bus.log

-- of a call that answers one number, it stands first of the five; of a refusal they are as an init's
abbrev pub one_number : Answer ℕ → InitNumbers
one_number (value n) = record { 0 = n; 1 = 0; 2 = 0; 3 = 0; 4 = 0 }
one_number (refused r) = init_numbers (refused r)

abbrev pub as_number : Ran (Answer ℕ) → Handed
as_number r = handed (number_of r.answer) (laid r.bus.at (one_number r.answer)) r.bus.log

-- and of one that answers nothing, 0
abbrev pub no_number : Answer Done → Answer ℕ
no_number answer = answering answer 0

abbrev pub as_done : Ran (Answer Done) → Handed
as_done r = as_number (record { answer = no_number r.answer; bus = r.bus })

-- how far the tape is used, by bytes 0 to 7 of out, and how far the log is, by bytes 8 to 15
abbrev pub tape_used : List ℕ → ℕ
tape_used out = word8 (number_at out 0) (number_at out 4)

abbrev pub log_used : List ℕ → ℕ
log_used out = word8 (number_at out 8) (number_at out 12)

-- the five numbers, by bytes 16 to 35
abbrev pub numbers_in : List ℕ → InitNumbers
numbers_in out = record {
  0 = number_at out 16;
  1 = number_at out 20;
  2 = number_at out 24;
  3 = number_at out 28;
  4 = number_at out 32;
}
