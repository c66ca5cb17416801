-- An accepted reading by the wiring: the figures that the record then holds are those of the cells in the caller's list. The lowest is one of these and
-- none of them is below it, the highest is one and none is above it, and the sum is from -1920 to 391170.
-- Assumes nothing.
use mathlib.Core.Path.{◌≡◌, sym, ap, subst⁻¹, ◌∙◌}
use mathlib.Core.List.{List, [], ◌∷◌, foldl, map}
use Prim.Native.Nat.{ℕ, suc, ◌+◌, ◌*◌, ◌≤◌, ◌<◌, min}
use native.Mathlib.Omega.{arith}
use lib.IntN.{ℤ, pos, neg_ℤ, ◌+ℤ◌}
use lib.ListN.{length, take, drop, get_or, length-map}
use lib.Seq.{take_at, get_or-take}
use lib.Signed.{mag, ◌≤ℤ◌}
use Rattle.std.specs.Prelude.{Result, Ok}
use Rattle.numbers.proofs.Between.{Between, of_add, wider, in_order}
use Rattle.refusals.specs.Refusal.{value}
use Rattle.refusals.specs.declared.Error.{Error}
use Rattle.wiring.specs.Tables.{fitted}
use Rattle.wiring.proofs.Rows.{as_many}
use Rattle.bus.specs.Transfers.{Bus}
use Rattle.bus.specs.Programs.{Ran, ends, on_tape}
use Rattle.bus.specs.Raw.{Done, as_raw}
use Rattle.bq769x0.specs.Figures.{all_by, spread_of}
use Rattle.bq769x0.specs.declared.BQ769x0.{BQ769x0}
use Rattle.bq769x0.specs.declared.Spread.{Spread}
use Rattle.bq769x0.proofs.Sizes.{sound_pack, sound_sizes}
use Rattle.procedure.specs.Inputs.{converted}
use Rattle.procedure.specs.Taking.{of_input, voltages}
use Rattle.procedure.specs.Wired.{of_registers, Shown, shown, unshown, showing, read_wired, wired}
use Rattle.procedure.proofs.Reading.{by_call}
use Rattle.cells.proofs.ByRegisters.{ByRegisters, by_registers, kth_between}
use Rattle.cells.proofs.Extremes.{Stands, to_all, is_one, lowest, highest}
use Rattle.cells.proofs.Taken.{some_cells}

-- ---- of numbers that an input can have, the sum
Ranged : List ℤ → Type 0
Ranged l = (k : ℕ) → k < length l → Between 128 26078 (get_or l k (pos 0))

behind : (n : ℕ) (a : ℤ) (l : List ℤ) → Between (128 * n) (26078 * n) a → Ranged l
    → Between (128 * (n + length l)) (26078 * (n + length l)) (foldl ◌+ℤ◌ a l)
unfolding Ranged
behind n a [] h all = wider (128 * (n + 0)) (26078 * (n + 0)) a (omega arith) (omega arith) h
behind n a (b ∷ l) h all =
    let sum = of_add (128 * n) 128 (26078 * n) 26078 a b h (all 0 (omega arith)) in
    let more = behind (suc n) (a +ℤ b) l (wider (128 * suc n) (26078 * suc n) (a +ℤ b) (omega arith) (omega arith) sum)
    (λ k j. all (suc k) (omega arith)) in
    wider (128 * (n + suc (length l))) (26078 * (n + suc (length l))) (foldl ◌+ℤ◌ (a +ℤ b) l) (omega arith) (omega arith) more

sum_between : (l : List ℤ) → Ranged l → Between (128 * length l) (26078 * length l) (all_by ◌+ℤ◌ l)
unfolding Ranged
sum_between [] all = omega arith
sum_between (a ∷ l) all =
    wider (128 * suc (length l)) (26078 * suc (length l)) (foldl ◌+ℤ◌ a l) (omega arith) (omega arith)
    (behind 1 a l (all 0 (omega arith)) (λ k h. all (suc k) (omega arith)))

-- ---- an accepted reading
module _ (d : BQ769x0) (b : Bus) (inputs : List ℕ) (list : List ℤ) where
  abbrev n : ℕ
  n = d.cell_count

  abbrev Figured : Ran Shown → Type 0
  Figured x = x.answer.answer ≡ value tt → x.answer.device.readings.spread ≡ spread_of (take n x.answer.list)

  figured : Figured (on_tape (wired d inputs list) b)
  unfolding wired read_wired
  figured =
      by_call d (min (length inputs) (length list)) (unshown d inputs list) (showing d inputs list) b Figured
      (λ r b' e. absurd (let z : ◌≡◌ {A = ℕ} 0 1 = cc in omega arith))
      λ sound bytes b' read e.
      let row = fitted d.link.x n in
      let volts = voltages d.link.x n (converted d.adc bytes) in
      let size = length-map row (of_input (converted d.adc bytes)) ∙ as_many d.link.x n (sound_pack d sound) in
      ap spread_of (sym (take_at volts (drop (length volts) list) n size))

  -- of every run of the code that is accepted, by its promise
  module _ (r : Result Done Error) (left : BQ769x0) (inputs' : List ℕ) (list' : List ℤ) (after : Bus)
      (promise : ends (shown (as_raw r) left inputs' list') after ≡ on_tape (wired d inputs list) b)
      (done : r ≡ Ok tt) where
    abbrev spread : Spread
    spread = left.readings.spread

    abbrev cells : List ℤ
    cells = take n list'

    pub of_the_list : spread ≡ spread_of cells
    of_the_list = subst⁻¹ Figured promise figured (ap as_raw done)

    pub read : ByRegisters d b inputs list inputs' list'
    read = by_registers d b inputs list r left inputs' list' after promise done

    as_many_cells : length cells ≡ n
    as_many_cells =
        let x = d.link.x in
        let volts = map (of_registers d.adc read.bytes) (fitted x n) in
        let size = length-map (fitted x n) (of_registers d.adc read.bytes) ∙ as_many x n (sound_pack d read.sound) in
        ap (λ (l : List ℤ). length (take n l)) read.volts
        ∙ ap length (take_at volts (drop (length volts) list) n size)
        ∙ size

    pub none_below : (k : ℕ) → k < length cells → spread.lowest.0 ≤ℤ get_or cells k (pos 0)
    none_below k h = rw of_the_list (to_all lowest cells k h)

    pub none_above : (k : ℕ) → k < length cells → get_or cells k (pos 0) ≤ℤ spread.highest.0
    none_above k h = rw of_the_list (to_all highest cells k h)

    some : 1 ≤ length cells
    some = rw as_many_cells (some_cells d.link.x n (sound_pack d read.sound))

    pub lowest_there : Stands spread.lowest.0 cells
    lowest_there = rw of_the_list (is_one lowest cells some)

    pub highest_there : Stands spread.highest.0 cells
    highest_there = rw of_the_list (is_one highest cells some)

    pub sum_range : ((i : ℕ) → get_or read.bytes i 0 < 256) → mag d.adc.offset < 128
        → (neg_ℤ (pos 1920) ≤ℤ spread.sum.0) × (spread.sum.0 ≤ℤ pos 391170)
    unfolding Ranged
    sum_range small byte =
        let each : Ranged cells = λ k h.
        let within : k < n = rw as_many_cells at h in
        rw (get_or-take n list' k (pos 0) within) (kth_between read k within small byte) in
        let most = sound_sizes d read.sound in
        let sum = wider 1920 391170 (all_by ◌+ℤ◌ cells) (omega (arith, as_many_cells, most)) (omega (arith, as_many_cells, most))
        (sum_between cells each) in
        rw of_the_list (in_order 1920 391170 (all_by ◌+ℤ◌ cells) sum)
