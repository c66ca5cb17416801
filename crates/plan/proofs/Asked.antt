-- The reading of a voltage within a trip register's limits. The limits are whole millivolts with the fraction dropped, and a
-- millivolt is under three of the converter's steps: so the reading of a voltage at the lower limit can be up to three below the
-- reading of code 00. None is above that of code FF.
-- Assumes nothing.
use mathlib.Core.Path.{◌≡◌, refl, sym, ap, ap₂, ◌∙◌}
use mathlib.Core.Bool.{true, false≢true, ◌&&◌, and-eq-true_iff}
use Prim.Native.Nat.{ℕ, suc, ◌+◌, ◌-◌, ◌*◌, ◌/◌, ◌≤◌, ◌<◌}
use native.Mathlib.Nat.{add-mul, mul_comm, le-div_iff_mul-le, div-le_of_le-mul}
use native.Mathlib.Omega.{arith}
use lib.IntN.{ℤ, pos, negsuc, ◌-ℤ◌, ◌*ℤ◌}
use lib.Signed.{mag, le_z}
use borrow.Author.Tests.{leb-true}
use Rattle.numbers.specs.Numbers.{◌÷◌, ◌÷↓◌}
use Rattle.numbers.proofs.Signed.{minus, above, product≤}
use Rattle.adc.specs.Conversion.{millivolts}
use Rattle.adc.specs.Trips.{limits}
use Rattle.adc.specs.declared.transfer.Limits.{Limits}
use Rattle.plan.specs.AsAsked.{AskedIn}
use Rattle.plan.specs.Trips.{obtainable}

-- within two limits that are naturals an asked voltage is one
abbrev Found : ℤ → ℕ → ℕ → Type 0
Found asked low high = (mv : ℕ) × (asked ≡ pos mv) × (low ≤ mv) × (mv ≤ high)

found : (asked : ℤ) {low high : ℕ} → le_z (pos low) asked && le_z asked (pos high) ≡ true → Found asked low high
found (pos mv) e =
    let both = (and-eq-true_iff _ _).0 e in
    (mv, refl, leb-true _ _ both.0, leb-true _ _ both.1)
found (negsuc n) e = absurd (false≢true e)

within : (asked : ℤ) (l : Limits) {low high : ℕ} → l.low.0 ≡ pos low → l.high.0 ≡ pos high
    → obtainable asked l ≡ true → Found asked low high
within asked l e f o = found asked (ap₂ (λ (a b : ℤ). le_z a asked && le_z asked b) (sym e) (sym f) ∙ o)

module _ (gain : ℕ) (device : 365 ≤ gain) where
  -- by the asked voltage less the offset, which is v
  spanned :
      (offset asked : ℤ) (v low high : ℕ)
      → asked -ℤ offset ≡ pos v
      → (low + 3) * gain / 1000 ≤ v
      → v ≤ high * gain / 1000
      → AskedIn gain offset asked low high
  spanned offset asked v low high e from to = record {
    reading = v * 1000 / gain;
    is = ap (λ (z : ℤ). (z *ℤ pos 1000) ÷↓ gain) e;
    least = (le-div_iff_mul-le {k = gain} {x = low} {y = v * 1000} (omega arith)).1 (omega (arith, add-mul low 3 gain));
    most = div-le_of_le-mul gain (omega (arith, mul_comm gain high));
  }

  -- an offset of -(k + 1) takes no reading from 1000 hex on below zero
  over_zero : (k reading : ℕ) → k < 128 → 0x1000 ≤ reading → suc k * 1000 ≤ reading * gain
  over_zero k reading byte h = omega (arith, product≤ reading gain h device)

  limit : (k reading : ℕ) → k < 128 → 0x1000 ≤ reading
      → millivolts gain (negsuc k) reading ≡ pos ((reading * gain - suc k * 1000) / 1000)
  limit k reading byte h =
      ap (λ (z : ℤ). z ÷ 1000)
      (minus (reading * gain) (suc k * 1000) ∙ above (reading * gain) (suc k * 1000) (over_zero k reading byte h))

  pub asked_in :
      (offset asked : ℤ) (low high : ℕ)
      → mag offset < 128
      → 0x1000 ≤ low + 3
      → 0x1000 ≤ high
      → obtainable asked (limits gain offset (low + 3) high) ≡ true
      → AskedIn gain offset asked low high
  asked_in (pos k) asked low high byte from to e =
      let at = within asked (limits gain (pos k) (low + 3) high) refl refl e in
      let mv = at.0 in
      let less = ap (λ (z : ℤ). z -ℤ pos k) at.1 ∙ minus mv k ∙ above mv k (omega (arith, at.2)) in
      spanned (pos k) asked (mv - k) low high less (omega (arith, at.2)) (omega (arith, at.3))
  asked_in (negsuc k) asked low high byte from to e =
      let least = limit k (low + 3) byte from in
      let at = within asked (limits gain (negsuc k) (low + 3) high) least (limit k high byte to) e in
      let mv = at.0 in
      spanned (negsuc k) asked (mv + suc k) low high (ap (λ (z : ℤ). z -ℤ negsuc k) at.1)
      (omega (arith, at.2))
      (omega (arith, at.3, over_zero k high byte to))
