-- A call on the record that `record_by` made is the call on the record that the contract names,
-- whatever C is given of it.
-- Assumes nothing.
use mathlib.Core.Path.{◌≡◌, ap, ◌∙◌}
use Rattle.bus.specs.Transfers.{Bus}
use Rattle.bus.specs.Programs.{Prog, Ran, on_tape}
use Rattle.bq769x0.specs.declared.BQ769x0.{BQ769x0}

pub on_record : {A G : Type 0} (given : Ran A → G) (call : BQ769x0 → Prog A) (b : Bus) {made named : BQ769x0}
    → made ≡ named → {came : Ran A} → came ≡ on_tape (call made) b → given came ≡ given (on_tape (call named) b)
on_record given call b is came-is = ap given (came-is ∙ ap (λ (d : BQ769x0). on_tape (call d) b) is)

-- the same of a call with an argument, which is made of the number that C gives
pub on_record_by : {A G X : Type 0} (given : Ran A → G) (call : BQ769x0 → X → Prog A) (b : Bus) (x : X) {y : X} → x ≡ y
    → {made named : BQ769x0} → made ≡ named → {came : Ran A} → came ≡ on_tape (call made x) b
    → given came ≡ given (on_tape (call named y) b)
on_record_by given call b x {y = y} x-is {made = made} is came-is =
    on_record given (λ (d : BQ769x0). call d y) b is (came-is ∙ ap (λ z. on_tape (call made z) b) x-is)
