-- The readings that bytes hold, and their conversion, one by one.
-- Assumes nothing.
use mathlib.Core.Path.{◌≡◌, refl, sym, ap, ◌∙◌}
use mathlib.Core.List.{List, [], ◌∷◌, map}
use Prim.Native.Nat.{ℕ, zero, suc, ◌+◌, ◌*◌, ◌/◌, ◌<◌}
use native.Mathlib.Omega.{arith}
use lib.ListN.{length, take, get_or, length-map, get_or-map}
use lib.Seq.{take-nil}
use Rattle.laws.proofs.Lists.{map_take}
use Rattle.numbers.specs.Numbers.{word}
use Rattle.adc.specs.Conversion.{millivolts}
use Rattle.adc.specs.declared.transfer.AdcTransferFunction.{AdcTransferFunction}
use Rattle.procedure.specs.Inputs.{readings, converted}

pub length_readings : (bytes : List ℕ) → length (readings bytes) ≡ length bytes / 2
length_readings [] = refl
length_readings (high ∷ []) = refl
length_readings (high ∷ low ∷ bytes) = omega (arith, length_readings bytes)

reading_at : (bytes : List ℕ) (i : ℕ) → i * 2 + 1 < length bytes
    → get_or (readings bytes) i 0 ≡ word (get_or bytes (i * 2) 0) (get_or bytes (i * 2 + 1) 0)
reading_at [] i h = absurd (omega arith)
reading_at (high ∷ []) i h = absurd (omega arith)
reading_at (high ∷ low ∷ bytes) zero h = refl
reading_at (high ∷ low ∷ bytes) (suc i) h =
    let even : suc i * 2 ≡ suc (suc (i * 2)) = omega arith in
    let odd : suc i * 2 + 1 ≡ suc (suc (i * 2 + 1)) = omega arith in
    rw (odd, even) (reading_at bytes i (omega arith))

first_readings : (n : ℕ) (bytes : List ℕ) → readings (take (2 * n) bytes) ≡ take n (readings bytes)
first_readings zero bytes = refl
first_readings (suc n) [] = rw (take-nil (2 * suc n))
first_readings (suc n) (high ∷ []) =
    let two : 2 * suc n ≡ suc (suc (2 * n)) = omega arith in
    rw two
first_readings (suc n) (high ∷ low ∷ bytes) =
    let two : 2 * suc n ≡ suc (suc (2 * n)) = omega arith in
    rw two (ap (λ (r : List ℕ). word high low ∷ r) (first_readings n bytes))

module _ (adc : AdcTransferFunction) (bytes : List ℕ) where
  pub length_converted : length (converted adc bytes) ≡ length bytes / 2
  length_converted = length-map (readings bytes) (millivolts adc.gain adc.offset) ∙ length_readings bytes

  pub converted_at : (i : ℕ) → i * 2 + 1 < length bytes
      → get_or (converted adc bytes) i (millivolts adc.gain adc.offset 0)
      ≡ millivolts adc.gain adc.offset (word (get_or bytes (i * 2) 0) (get_or bytes (i * 2 + 1) 0))
  converted_at i h =
      get_or-map (millivolts adc.gain adc.offset) (readings bytes) i 0
      ∙ ap (millivolts adc.gain adc.offset) (reading_at bytes i h)

  -- the first n inputs are those of the first bytes, two each
  pub first_converted : (n : ℕ) → take n (converted adc bytes) ≡ converted adc (take (2 * n) bytes)
  first_converted n =
      sym (map_take (millivolts adc.gain adc.offset) n (readings bytes))
      ∙ ap (map (millivolts adc.gain adc.offset)) (sym (first_readings n bytes))
