-- A call of a function for C, by what C has of it, as a call of its program on a chip.
-- Assumes nothing.
use Rattle.std.specs.Prelude.{List, ℕ}
use Rattle.plan.specs.declared.answer.InitNumbers.{InitNumbers}
use Rattle.job.specs.Jobs.{device_of}
use Rattle.bus.specs.Transfers.{start}
use Rattle.bus.specs.Programs.{Prog, ret, bind}
use Rattle.bus.specs.Lent.{Lent, LentMut}
use Rattle.bus.specs.declared.link.Link.{Link}
use Rattle.runs.specs.Calls.{Call, call_on}
use Rattle.firmware.specs.Handed.{tape_used, log_used, numbers_in}

-- what C is told of an answer: the number, and the five numbers in out
pub record Told : Type 0 where
  pub number : ℕ
  pub numbers : InitNumbers

-- a program whose answer is told so
abbrev pub telling : {A : Type 0} → (A → Told) → Prog A → Prog Told
telling told p = bind p λ a. ret (told a)

-- a call with this tape and log; the number that it returned, and out and the log then
abbrev pub call_for_c : Lent → LentMut → ℕ → List ℕ → Call Told
call_for_c tape log number out =
    call_on tape log start (record { number = number; numbers = numbers_in out })
    (record { tape = tape_used out; log = log_used out })

-- address, check setting and size of field 20
abbrev pub link_of : List ℕ → Link
link_of job = let d = device_of job in record { address = d.address; check = d.check; x = d.x }
