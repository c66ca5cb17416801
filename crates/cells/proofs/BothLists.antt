-- The crate's list, by the inputs that it shows: these are the fitted ones of every BQ76920, and of a BQ76940 with 14
-- or 15 cells. On those packs both calls leave the same list, whatever is read; on no other pack do they.
-- Assumes nothing.
use mathlib.Core.Path.{◌≡◌, refl, sym, ap, subst⁻¹, ◌∙◌}
use mathlib.Core.Bool.{Bool, true, false, ◌&&◌, ◌||◌}
use mathlib.Core.List.{List, [], ◌∷◌, ◌++◌, map, map-map}
use Prim.Native.Nat.{ℕ, zero, suc, ◌-◌, ◌*◌, ◌≤◌, ◌<◌}
use native.Mathlib.Omega.{arith}
use lib.Dec.{T, eqb, leb, eqb→eq, leb→le}
use lib.IntN.{ℤ, pos, neg_ℤ, nat_abs}
use lib.Signed.{mag, ◌≤ℤ◌}
use lib.Seq.{length-take-le}
use lib.ListN.{length, take, drop, get_or, length-map, length-append, length-drop, get_or-append, get_or-map}
use borrow.Author.Tests.{eq-eqb}
use Rattle.std.specs.Prelude.{Result, Ok}
use Rattle.laws.proofs.Tests.{both_left, both_right, agree, agreeing}
use Rattle.refusals.specs.Refusal.{value}
use Rattle.refusals.specs.declared.Error.{Error}
use Rattle.refusals.proofs.Values.{same_value}
use Rattle.adc.specs.Crate.{CrateGives}
use Rattle.sizes.specs.Sizes.{is_count}
use Rattle.wiring.specs.Tables.{fitted}
use Rattle.wiring.proofs.Packs.{of_pack_lem}
use Rattle.sizes.proofs.Sizes.{at_most_15}
use Rattle.bus.specs.Transfers.{Bus}
use Rattle.bus.specs.Programs.{Ran, ends, on_tape}
use Rattle.bus.specs.Raw.{Done, as_raw, read_bytes}
use Rattle.bus.proofs.Sized.{bytes_size}
use Rattle.bq769x0.specs.Record.{is_sound}
use Rattle.bq769x0.specs.Figures.{volts, first_cells}
use Rattle.bq769x0.specs.declared.BQ769x0.{BQ769x0}
use Rattle.laws.specs.Over.{◌over◌}
use Rattle.moves.specs.Moves.{moves, in_turn, names, inputs_of}
use Rattle.procedure.specs.Inputs.{converted, as_cell, as_cells}
use Rattle.procedure.specs.Taking.{of_input, voltages, taking}
use Rattle.procedure.specs.Cells.{Filled, filled, untouched, listed}
use Rattle.procedure.specs.Cells.{read_cells, cell_voltages}
use Rattle.procedure.specs.Wired.{of_registers}
use Rattle.cells.proofs.ByRegisters.{of_input_lem, crate_uv_of, registers_crate, registers_range, kth_listed, ByRegisters}
use Rattle.moves.proofs.CrateList.{at, at_input, shows}
use Rattle.laws.proofs.Lists.{map_same, map_take}
use Rattle.procedure.proofs.Converted.{length_converted}
use Rattle.procedure.proofs.Reading.{by_call}
use Rattle.bq769x0.proofs.Sizes.{sound_pack, sound_gain}

abbrev pub alike : ℕ → ℕ → Bool
alike x n = eqb x 5 || eqb x 15 && leb 14 n

-- ---- tests of lists
abbrev same : List ℕ → List ℕ → Bool
same [] [] = true
same [] (b ∷ m) = false
same (a ∷ l) [] = false
same (a ∷ l) (b ∷ m) = eqb a b && same l m

same_is : (l m : List ℕ) → T (same l m) → l ≡ m
same_is [] [] t = refl
same_is [] (b ∷ m) t = absurd t
same_is (a ∷ l) [] t = absurd t
same_is (a ∷ l) (b ∷ m) t =
    let first = eqb→eq a b (both_left (eqb a b) (same l m) t) in
    let rest = same_is l m (both_right (eqb a b) (same l m) t) in
    cc

same_self : (l : List ℕ) → same l l ≡ true
same_self [] = refl
same_self (a ∷ l) = rw (eq-eqb a a refl, same_self l)

abbrev every : (ℕ → Bool) → List ℕ → Bool
every test [] = true
every test (a ∷ l) = test a && every test l

every_at : (test : ℕ → Bool) (l : List ℕ) → T (every test l) → (k : ℕ) → k < length l → T (test (get_or l k 0))
every_at test [] t k h = absurd (omega arith)
every_at test (a ∷ l) t zero h = both_left (test a) (every test l) t
every_at test (a ∷ l) t (suc k) h = every_at test l (both_right (test a) (every test l) t) k (omega arith)

-- ---- which inputs the crate's list shows
module _ (x n : ℕ) (pack : T (is_count x n)) where
  tested : same (inputs_of x n) (fitted x n) ≡ alike x n
  unfolding fitted
  tested =
      agreeing (same (inputs_of x n) (fitted x n)) (alike x n)
      (of_pack_lem (λ y m. agree (same (inputs_of y m) (fitted y m)) (alike y m)) tt x n pack)

  pub same_inputs : alike x n ≡ true → inputs_of x n ≡ fitted x n
  same_inputs e = same_is (inputs_of x n) (fitted x n) (rw (tested ∙ e) tt)

  pub only_those : inputs_of x n ≡ fitted x n → alike x n ≡ true
  only_those e = sym tested ∙ ap (same (inputs_of x n)) (sym e) ∙ same_self (inputs_of x n)

  shown_within : (k : ℕ) → k < length (inputs_of x n)
      → (1 ≤ get_or (inputs_of x n) k 0) × (get_or (inputs_of x n) k 0 ≤ x)
  shown_within k h =
      let input = get_or (inputs_of x n) k 0 in
      let all = of_pack_lem (λ y m. every (λ i. leb 1 i && leb i y) (inputs_of y m)) tt x n pack in
      let t = every_at (λ i. leb 1 i && leb i x) (inputs_of x n) all k h in (
        leb→le 1 input (both_left (leb 1 input) (leb input x) t),
        leb→le input x (both_right (leb 1 input) (leb input x) t),
      )

-- ---- the crate's list is the readings of these inputs
module _ (d : BQ769x0) (held : length d.readings.cells ≡ 15)
    (pack : T (is_count d.link.x d.cell_count)) where
  abbrev x : ℕ
  x = d.link.x

  abbrev n : ℕ
  n = d.cell_count

  pub crate_list : (readings : List ℤ) → length readings ≡ x
      → first_cells n (taking d readings).readings.cells ≡ map (of_input readings) (inputs_of x n)
  crate_list readings size =
      let none = as_cell (pos 0) in
      let behind = drop (length (as_cells readings)) d.readings.cells in
      let cells = as_cells readings ++ behind in
      let converted = length-map readings as_cell in
      let all : length cells ≡ 15 =
      length-append (as_cells readings) behind
      ∙ omega (arith, converted, length-drop (length (as_cells readings)) d.readings.cells, at_most_15 x n pack) in
      sym (map_take volts n (in_turn none (moves x n) cells))
      ∙ ap (map volts) (shows none cells all x n)
      ∙ map-map volts (at none cells) (inputs_of x n)
      ∙ map_same _ (of_input readings) (inputs_of x n) λ k h.
      let input = get_or (inputs_of x n) k 0 in
      let within = shown_within x n pack k h in
      let there : input - 1 < length (as_cells readings) = omega (arith, converted, within) in
      ap volts
      (at_input none cells input within.0
      ∙ get_or-append (as_cells readings) behind none (input - 1) there
      ∙ get_or-map as_cell readings (input - 1) (pos 0))

  -- where the lists are the same whatever is read, the pack is one of those: so by a reading that numbers the inputs
  counted : List ℤ
  counted = take x (map pos names)

  -- the number that a device of y inputs then gives for one of them
  numbered : ℕ → ℕ → ℕ
  numbered y input = nat_abs (of_input (take y (map pos names)) input)

  counted_off : (map nat_abs (map (of_input counted) (inputs_of x n)) ≡ inputs_of x n)
      × (map nat_abs (voltages x n counted) ≡ fitted x n)
  unfolding counted numbered fitted
  counted_off = (
    map-map nat_abs (of_input counted) (inputs_of x n)
        ∙ same_is _ _ (of_pack_lem (λ y m. same (map (numbered y) (inputs_of y m)) (inputs_of y m)) tt x n pack),
    map-map nat_abs (of_input counted) (fitted x n)
        ∙ same_is _ _ (of_pack_lem (λ y m. same (map (numbered y) (fitted y m)) (fitted y m)) tt x n pack),
  )

  pub only_alike : ((readings : List ℤ) → length readings ≡ x
      → first_cells n (taking d readings).readings.cells ≡ voltages x n readings)
      → alike x n ≡ true
  unfolding counted
  only_alike lists =
      let size : length counted ≡ x = length-take-le x (map pos names) (at_most_15 x n pack).0 in
      let alike = sym (crate_list counted size) ∙ lists counted size in
      only_those x n pack (sym counted_off.0 ∙ ap (map nat_abs) alike ∙ counted_off.1)

-- ---- an accepted run of the crate's call, by registers
pub record ByCrate (d : BQ769x0) (b : Bus) (list list' : List ℤ) : Type 0 where
  pub sound : is_sound d ≡ true
  pub bytes : List ℕ
  pub read : (on_tape (read_bytes d.link 0x0C (2 * d.link.x)) b).answer ≡ value bytes
  pub volts : list' ≡ map (of_registers d.adc bytes) (inputs_of d.link.x d.cell_count) over list

module _ (d : BQ769x0) (held : length d.readings.cells ≡ 15) (b : Bus) (list : List ℤ) where
  abbrev Accepted : Ran Filled → Type 0
  Accepted r = r.answer.answer ≡ value tt → ByCrate d b list r.answer.list

  accepted : Accepted (on_tape (cell_voltages d list) b)
  unfolding cell_voltages read_cells
  accepted =
      by_call d (length list) (untouched d list) (λ inputs. listed (taking d inputs) list) b Accepted
      (λ r b' e. absurd (let z : ◌≡◌ {A = ℕ} 0 1 = cc in omega arith))
      λ sound bytes b' read e.
      let pack = sound_pack d sound in
      let size = bytes_size d.link 0x0C (2 * d.link.x) b bytes read in
      let listing =
      crate_list d held pack (converted d.adc bytes) (omega (arith, length_converted d.adc bytes))
      ∙ map_same _ (of_registers d.adc bytes) (inputs_of d.link.x d.cell_count) λ k h.
      let within = shown_within d.link.x d.cell_count pack k h in
      of_input_lem d.adc bytes d.link.x _ size within.0 within.1 in
      record { sound = sound; bytes = bytes; read = read; volts = ap (λ (l : List ℤ). l over list) listing }

  pub crate_by_registers : (r : Result Done Error) (left : BQ769x0) (list' : List ℤ) (after : Bus)
      → ends (filled (as_raw r) left list') after ≡ on_tape (cell_voltages d list) b
      → r ≡ Ok tt → ByCrate d b list list'
  crate_by_registers r left list' after promise done = subst⁻¹ Accepted promise accepted (ap as_raw done)

-- ---- the cell at a place, from 0
module _ {d : BQ769x0} {b : Bus} {list list' : List ℤ} (read : ByCrate d b list list')
    (k : ℕ) (h : k < length (inputs_of d.link.x d.cell_count)) where
  abbrev input : ℕ
  input = get_or (inputs_of d.link.x d.cell_count) k 0

  pub kth_cell : get_or list' k (pos 0) ≡ of_registers d.adc read.bytes input
  kth_cell =
      ap (λ (l : List ℤ). get_or l k (pos 0)) read.volts
      ∙ kth_listed (of_registers d.adc read.bytes) (inputs_of d.link.x d.cell_count) list k h

  module _ (small : (i : ℕ) → get_or read.bytes i 0 < 256) (byte : mag d.adc.offset < 128) where
    pub kth_cell_crate : CrateGives (crate_uv_of d.adc read.bytes input) (get_or list' k (pos 0))
    kth_cell_crate =
        rw kth_cell (registers_crate d.adc read.bytes input small byte (sound_gain d read.sound))

    pub kth_cell_range : (neg_ℤ (pos 128) ≤ℤ get_or list' k (pos 0)) × (get_or list' k (pos 0) ≤ℤ pos 26078)
    kth_cell_range =
        rw kth_cell (registers_range d.adc read.bytes input small byte (sound_gain d read.sound))

-- ---- on those packs the two calls leave the same list
pub both_alike : {d : BQ769x0} {b : Bus} {list : List ℤ} {inputs inputs'' : List ℕ} {list' list'' : List ℤ}
    → alike d.link.x d.cell_count ≡ true
    → ByCrate d b list list'
    → ByRegisters d b inputs list inputs'' list''
    → list' ≡ list''
both_alike {d} {b} {list} e crate wiring =
    let bytes : crate.bytes ≡ wiring.bytes = same_value (sym crate.read ∙ wiring.read) in
    let fits = same_inputs d.link.x d.cell_count (sound_pack d wiring.sound) e in
    crate.volts
    ∙ ap (λ (l : List ℕ). map (of_registers d.adc l) (inputs_of d.link.x d.cell_count) over list) bytes
    ∙ ap (λ (l : List ℕ). map (of_registers d.adc wiring.bytes) l over list) fits
    ∙ sym wiring.volts
