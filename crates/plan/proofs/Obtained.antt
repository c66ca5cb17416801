-- What the test of an asked voltage says.
-- Assumes nothing.
use mathlib.Core.Path.{◌≡◌, sym, ap, ◌∙◌}
use mathlib.Core.Bool.{Bool, true, false, cond}
use Prim.Native.Nat.{ℕ}
use lib.IntN.{ℤ}
use Rattle.refusals.specs.Refusal.{value, refused, no}
use Rattle.adc.specs.declared.transfer.Limits.{Limits}
use Rattle.plan.specs.Trips.{figures, obtainable, obtainable_or}

module _ (n : ℕ) (asked : ℤ) {found limits : Limits} (same : found ≡ limits) where
  tested : {t : Bool} → obtainable asked found ≡ t → obtainable_or n asked limits ≡ cond t (value tt) (refused (no n (figures found)))
  unfolding obtainable_or
  tested e = ap (obtainable_or n asked) (sym same) ∙ ap (λ (t : Bool). cond t (value tt) (refused (no n (figures found)))) e

  pub obtained : obtainable asked found ≡ true → obtainable_or n asked limits ≡ value tt
  obtained e = tested e

  pub unobtained : obtainable asked found ≡ false → obtainable_or n asked limits ≡ refused (no n (figures found))
  unobtained e = tested e
