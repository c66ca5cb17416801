-- Two outcomes that meet one promise agree, in all that C is told and given: a promise names the whole of it.
-- Assumes nothing.
use mathlib.Core.Path.{◌≡◌, sym, ap, ◌∙◌}
use Prim.Native.Nat.{ℕ}
use mathlib.Core.List.{List}
use Rattle.bench.specs.Calls.{Told, told_by, Given, given}

pub told_agree : (x : Told) (n n' : ℕ) (out out' : List ℕ) → told_by n out ≡ x → told_by n' out' ≡ x → (n ≡ n') × (out ≡ out')
told_agree x n n' out out' e e' =
    let same = e ∙ sym e' in
    (ap (λ (t : Told). t.number) same, ap (λ (t : Told). t.out) same)

pub given_agree : {E : Type 0} (x : Given E) (n n' : ℕ) (out out' log log' : List ℕ) (lent lent' : List E)
    → given n out log lent ≡ x → given n' out' log' lent' ≡ x
    → (n ≡ n') × (out ≡ out') × (log ≡ log') × (lent ≡ lent')
given_agree {E} x n n' out out' log log' lent lent' e e' =
    let same = e ∙ sym e' in (
      ap (λ (g : Given E). g.told.number) same,
      ap (λ (g : Given E). g.told.out) same,
      ap (λ (g : Given E). g.log) same,
      ap (λ (g : Given E). g.lent) same,
    )
