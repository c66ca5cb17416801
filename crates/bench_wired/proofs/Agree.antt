-- Two outcomes that meet the promise agree, in all that C is given: the promise names the whole of it.
-- Assumes nothing.
use mathlib.Core.Path.{◌≡◌, sym, ap, ◌∙◌}
use Prim.Native.Nat.{ℕ}
use mathlib.Core.List.{List}
use lib.IntN.{ℤ}
use Rattle.bench.proofs.Agree.{given_agree}
use Rattle.bench_wired.specs.Both.{GivenBoth, shown_by}

pub shown_agree : (x : GivenBoth) (n n' : ℕ) (out out' log log' inputs inputs' : List ℕ) (list list' : List ℤ)
    → shown_by n out log inputs list ≡ x
    → shown_by n' out' log' inputs' list' ≡ x
    → ((n ≡ n') × (out ≡ out') × (log ≡ log') × (list ≡ list')) × (inputs ≡ inputs')
shown_agree x n n' out out' log log' inputs inputs' list list' e e' = (
  given_agree x.given n n' out out' log log' list list'
      (ap (λ (g : GivenBoth). g.given) e)
      (ap (λ (g : GivenBoth). g.given) e'),
  ap (λ (g : GivenBoth). g.inputs) (e ∙ sym e'),
)
