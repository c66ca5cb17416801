-- Two outcomes that meet one promise agree. `init` has the promise of the driver's `init`, of which `init_agree` there
-- speaks, whatever the program; with a cell reading the lent lists agree too; and for C the number, the 36 bytes, the
-- log's bytes and the lists'.
-- Assumes nothing.
use mathlib.Core.Path.{◌≡◌, sym, ap, ◌∙◌}
use Prim.Native.Nat.{ℕ}
use mathlib.Core.List.{List}
use Rattle.std.specs.Prelude.{Result}
use Rattle.refusals.specs.declared.Error.{Error}
use Rattle.bus.specs.Transfers.{Bus}
use Rattle.bus.specs.Programs.{Prog, Ran, ends, on_tape}
use Rattle.plan.specs.Plan.{as_init}
use Rattle.plan.specs.declared.CalculatedValues.{CalculatedValues}
use Rattle.plan.proofs.Agree.{answer_agree}
use Rattle.bq769x0.specs.declared.BQ769x0.{BQ769x0}
use Rattle.firmware.specs.Handed.{Handed, handed}
use Rattle.firmware.specs.JobCells.{Listed, listed, HandedList}
use Rattle.firmware.specs.JobWired.{Beside, beside, HandedBoth, handed_both}
use Rattle.firmware.specs.Found.{Found, found}

-- `init_cells`
pub cells_agree : (p : Prog Listed) (b after after' : Bus) (a a' : Result CalculatedValues Error) (d d' : BQ769x0) (list list' : List ℕ)
    → ends (listed (as_init a) d list) after ≡ on_tape p b
    → ends (listed (as_init a') d' list') after' ≡ on_tape p b
    → (a ≡ a') × (d ≡ d') × (list ≡ list') × (after ≡ after')
cells_agree p b after after' a a' d d' list list' e e' =
    let same = e ∙ sym e' in (
      answer_agree a a' (ap (λ (x : Ran Listed). x.answer.left.answer) same),
      ap (λ (x : Ran Listed). x.answer.left.device) same,
      ap (λ (x : Ran Listed). x.answer.list) same,
      ap (λ (x : Ran Listed). x.bus) same,
    )

-- `init_wired`
pub wired_agree : (p : Prog Beside) (b after after' : Bus) (a a' : Result CalculatedValues Error) (d d' : BQ769x0)
    (inputs inputs' list list' : List ℕ)
    → ends (beside (as_init a) d inputs list) after ≡ on_tape p b
    → ends (beside (as_init a') d' inputs' list') after' ≡ on_tape p b
    → (a ≡ a') × (d ≡ d') × (inputs ≡ inputs') × (list ≡ list') × (after ≡ after')
wired_agree p b after after' a a' d d' inputs inputs' list list' e e' =
    let same = e ∙ sym e' in (
      answer_agree a a' (ap (λ (x : Ran Beside). x.answer.listed.left.answer) same),
      ap (λ (x : Ran Beside). x.answer.listed.left.device) same,
      ap (λ (x : Ran Beside). x.answer.inputs) same,
      ap (λ (x : Ran Beside). x.answer.listed.list) same,
      ap (λ (x : Ran Beside). x.bus) same,
    )

-- `bq769x0_init`
pub handed_agree : (x : Handed) (n n' : ℕ) (out out' log log' : List ℕ)
    → handed n out log ≡ x → handed n' out' log' ≡ x → (n ≡ n') × (out ≡ out') × (log ≡ log')
handed_agree x n n' out out' log log' e e' =
    let same = e ∙ sym e' in (
      ap (λ (h : Handed). h.number) same,
      ap (λ (h : Handed). h.out) same,
      ap (λ (h : Handed). h.log) same,
    )

-- `bq769x0_init_cells`
pub list_agree : (x : HandedList) (h h' : Handed) (list list' : List ℕ)
    → record { handed = h; list = list } ≡ x → record { handed = h'; list = list' } ≡ x → (h ≡ h') × (list ≡ list')
list_agree x h h' list list' e e' =
    let same = e ∙ sym e' in (
      ap (λ (y : HandedList). y.handed) same,
      ap (λ (y : HandedList). y.list) same,
    )

-- `bq769x0_init_wired`
pub both_agree : (x : HandedBoth) (h h' : Handed) (inputs inputs' list list' spread spread' : List ℕ)
    → handed_both h inputs list spread ≡ x → handed_both h' inputs' list' spread' ≡ x
    → (h ≡ h') × (inputs ≡ inputs') × (list ≡ list') × (spread ≡ spread')
both_agree x h h' inputs inputs' list list' spread spread' e e' =
    let same = e ∙ sym e' in (
      ap (λ (y : HandedBoth). y.handed.handed) same,
      ap (λ (y : HandedBoth). y.inputs) same,
      ap (λ (y : HandedBoth). y.handed.list) same,
      ap (λ (y : HandedBoth). y.spread) same,
    )

-- `bq769x0_cell_on`, `bq769x0_uv_seconds`, `bq769x0_ov_seconds`
pub found_agree : (x : Found) (n n' : ℕ) (byte byte' : List ℕ)
    → found n byte ≡ x → found n' byte' ≡ x → (n ≡ n') × (byte ≡ byte')
found_agree x n n' byte byte' e e' =
    let same = e ∙ sym e' in (
      ap (λ (y : Found). y.number) same,
      ap (λ (y : Found). y.byte) same,
    )
