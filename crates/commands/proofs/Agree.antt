-- Two outcomes that meet one promise agree: in the answer, in tape and log, and in how far both are used.
-- Of commands that answer nothing the bus's `write_agree` speaks, and of `read_raw` its `read_agree`, whatever the program.
-- Assumes nothing.
use mathlib.Core.Path.{◌≡◌, refl, sym, ap, ◌∙◌}
use Rattle.std.specs.Prelude.{Result}
use Rattle.refusals.specs.Refusal.{Answer, as_answer}
use Rattle.refusals.specs.declared.Error.{Error}
use Rattle.refusals.proofs.OneToOne.{answer_agree}
use Rattle.bus.specs.Transfers.{Bus}
use Rattle.bus.specs.Programs.{Prog, Ran, ends, on_tape}
use Rattle.commands.specs.Answers.{as_byte, as_set, as_stat, as_flag, as_source}

-- the same answer, positions and log, whatever the program
abbrev pub Agree : {A B : Type 0} → (Result A Error → Answer B) → Type 0
Agree {A} {B} tells =
    (p : Prog (Answer B)) (b after after' : Bus) (a a' : Result A Error)
    → ends (tells a) after ≡ on_tape p b
    → ends (tells a') after' ≡ on_tape p b
    → (a ≡ a') × (after ≡ after')

agreeing : {A B : Type 0} (tells : Result A Error → Answer B)
    → ((a a' : Result A Error) → tells a ≡ tells a' → a ≡ a') → Agree tells
agreeing {A} {B} tells one p b after after' a a' e e' =
    let same = e ∙ sym e' in
    (one a a' (ap (λ (x : Ran (Answer B)). x.answer) same), ap (λ (x : Ran (Answer B)). x.bus) same)

-- of an answer that is its value itself
by_itself : {A : Type 0} → Agree {A = A} (as_answer (λ a. a))
by_itself = agreeing _ (answer_agree (λ a. a) (λ a. a) (λ _. refl))

pub byte_agree : Agree as_byte
byte_agree = by_itself

pub set_agree : Agree as_set
set_agree = by_itself

pub stat_agree : Agree as_stat
stat_agree = by_itself

pub flag_agree : Agree as_flag
flag_agree = by_itself

pub source_agree : Agree as_source
source_agree = by_itself
