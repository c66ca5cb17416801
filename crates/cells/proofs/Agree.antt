-- Two outcomes that meet one promise agree: in the answer, the record, the tape's and the log's position, the log's
-- bytes and the caller's lists.
-- Assumes nothing.
use mathlib.Core.Path.{◌≡◌, sym, ap, ◌∙◌}
use Prim.Native.Nat.{ℕ}
use mathlib.Core.List.{List}
use lib.IntN.{ℤ}
use Rattle.std.specs.Prelude.{Result}
use Rattle.refusals.specs.declared.Error.{Error}
use Rattle.bus.specs.Transfers.{Bus}
use Rattle.bus.specs.Programs.{Prog, Ran, ends, on_tape}
use Rattle.bus.specs.Raw.{Done, as_raw}
use Rattle.bus.proofs.Agree.{raw_agree}
use Rattle.bq769x0.specs.declared.BQ769x0.{BQ769x0}
use Rattle.procedure.specs.Cells.{Filled, filled}
use Rattle.procedure.specs.Wired.{Shown, shown}

-- `cell_voltages`
pub cells_agree : (p : Prog Filled) (b : Bus) (r r' : Result Done Error) (left left' : BQ769x0) (list list' : List ℤ) (after after' : Bus)
    → ends (filled (as_raw r) left list) after ≡ on_tape p b
    → ends (filled (as_raw r') left' list') after' ≡ on_tape p b
    → (r ≡ r') × (left ≡ left') × (list ≡ list') × (after ≡ after')
cells_agree p b r r' left left' list list' after after' e e' =
    let same = e ∙ sym e' in (
      raw_agree r r' (ap (λ (x : Ran Filled). x.answer.answer) same),
      ap (λ (x : Ran Filled). x.answer.device) same,
      ap (λ (x : Ran Filled). x.answer.list) same,
      ap (λ (x : Ran Filled). x.bus) same,
    )

-- `wired`
pub wired_agree : (p : Prog Shown) (b : Bus) (r r' : Result Done Error) (left left' : BQ769x0) (inputs inputs' : List ℕ) (list list' : List ℤ)
    (after after' : Bus)
    → ends (shown (as_raw r) left inputs list) after ≡ on_tape p b
    → ends (shown (as_raw r') left' inputs' list') after' ≡ on_tape p b
    → (r ≡ r') × (left ≡ left') × (inputs ≡ inputs') × (list ≡ list') × (after ≡ after')
wired_agree p b r r' left left' inputs inputs' list list' after after' e e' =
    let same = e ∙ sym e' in (
      raw_agree r r' (ap (λ (x : Ran Shown). x.answer.answer) same),
      ap (λ (x : Ran Shown). x.answer.device) same,
      ap (λ (x : Ran Shown). x.answer.inputs) same,
      ap (λ (x : Ran Shown). x.answer.list) same,
      ap (λ (x : Ran Shown). x.bus) same,
    )

-- `cells_of`: the part that it hands back is determined in its numbers, and so in its length, and in its place
pub part_agree : {P : Type 0} (start : P) (part held held' : List ℤ) (ptr ptr' : P)
    → (held ≡ part) × (ptr ≡ start)
    → (held' ≡ part) × (ptr' ≡ start)
    → (held ≡ held') × (ptr ≡ ptr')
part_agree start part held held' ptr ptr' e e' = (e.0 ∙ sym e'.0, e.1 ∙ sym e'.1)
