-- `cells::inputs::convert_eight` meets its contract: a turn goes on from k + i inputs to k + i + 1.
-- Assumes nothing.
use Rattle.std.proofs.Common.{◌≡◌, ℕ, suc, ◌+◌, ◌*◌, ◌<◌, ◌≤◌, Bool, true, false, List, [], ◌∷◌, ◌++◌, length, get_or, set, ℤ, pos, nat_abs, ltb, refl, sym, ◌∙◌, arith, length-set, get_or-set_same, get_or-set_other, ltb-true, ltb-false, of_z, to_z, w32}
use mathlib.Core.Path.{ap₂}
use lib.Seq.{take-suc, take-suc-set}
use Rattle.numbers.specs.Numbers.{word}
use Rattle.numbers.proofs.Signed.{read_back}
use Rattle.adc.specs.Conversion.{millivolts}
use Rattle.adc.specs.declared.transfer.AdcTransferFunction.{AdcTransferFunction}
use Rattle.procedure.specs.Inputs.{converted}
use Rattle.procedure.proofs.Converted.{length_converted, converted_at}
use Rattle.cells.specs.Inside.{Small, Held}
use Rattle.cells.proofs.inputs.convert_eight.Goals as goal

-- ---- one input more
module _ {adc : AdcTransferFunction} {bytes : List ℕ} {j : ℕ} {cells : List ℤ} (held : Held adc bytes j cells) (more : j < 16) where
  abbrev none : ℤ
  none = millivolts adc.gain adc.offset 0

  there : j < length (converted adc bytes)
  there = omega (arith, length_converted adc bytes, held.from)

  next_is : millivolts adc.gain adc.offset (word (get_or bytes (2 * j) 0) (get_or bytes (2 * j + 1) 0))
      ≡ get_or (converted adc bytes) j none
  next_is =
      let high : 2 * j ≡ j * 2 = omega arith in
      let low : 2 * j + 1 ≡ j * 2 + 1 = omega arith in
      ap₂ (λ (h l : ℕ). millivolts adc.gain adc.offset (word (get_or bytes h 0) (get_or bytes l 0))) high low
      ∙ sym (converted_at adc bytes j (omega (arith, held.from)))

  small_then : (mv : ℤ) → nat_abs mv ≤ 27000 → Small (suc j) (set cells j mv)
  small_then mv few k h = by_test (ltb k j) refl
    where
      by_test : (t : Bool) → ltb k j ≡ t → nat_abs (get_or (set cells j mv) k (pos 0)) ≤ 27000
      by_test true e =
          let less : k < j = ltb-true k j e in
          rw (get_or-set_other cells j k mv (pos 0) (λ q. absurd (omega arith))) (held.small k less)
      by_test false e =
          let last : k ≡ j = omega (arith, ltb-false k j e) in
          rw (last, get_or-set_same cells j mv (pos 0) (omega (arith, held.room))) few

  one_more : {mv : ℤ} → mv ≡ get_or (converted adc bytes) j none → nat_abs mv ≤ 27000 → Held adc bytes (suc j) (set cells j mv)
  one_more {mv} made few = record {
    from = held.from;
    room = length-set cells j mv ∙ held.room;
    first =
        take-suc-set cells j mv (omega (arith, held.room))
        ∙ ap₂ (λ (l : List ℤ) (n : ℤ). l ++ (n ∷ [])) held.first made
        ∙ sym (take-suc (converted adc bytes) j none there);
    small = small_then mv few;
  }

pub loop-i-preserved : goal.loop-i-preserved
loop-i-preserved c =
    let held = c.loop-i.invariant in
    let mv = c.millivolts.result in
    let more : c.args.k + c.loop-i.i < 16 = omega arith in
    let read : to_z w32 (of_z w32 mv) ≡ mv = read_back w32 mv c.millivolts.type_inv in
    let e : suc (c.args.k + c.loop-i.i) ≡ c.args.k + (c.loop-i.i + 1) = omega arith in
    let next = one_more held more (read ∙ c.millivolts.ensures.0 ∙ next_is held more) (rw read c.millivolts.ensures.1) in
    rw e at next
