-- Two outcomes that meet the promise of `Chip::answer` agree: in the tape's bytes, in how far it is filled, and in the chip.
-- Assumes nothing.
use mathlib.Core.Path.{◌≡◌, sym, ap, ◌∙◌}
use mathlib.Core.List.{List}
use mathlib.Core.Option.{Option}
use Prim.Native.Nat.{ℕ}
use Rattle.chip.specs.Answering.{Answered, answer_on}
use Rattle.chip.specs.declared.Chip.{Chip}

-- `Chip::answer`
pub answer_agree : (cut : Option ℕ) (c : Chip) (field tape : List ℕ) (end : ℕ) (r r' : Answered) (out out' : List ℕ)
    → (out, r) ≡ answer_on cut c field tape end
    → (out', r') ≡ answer_on cut c field tape end
    → (r ≡ r') × (out ≡ out')
answer_agree cut c field tape end r r' out out' e e' =
    let same = e ∙ sym e' in
    (ap (λ (x : List ℕ × Answered). x.1) same, ap (λ (x : List ℕ × Answered). x.0) same)
