-- What an accepted reading by the wiring shows: at each place a fitted input, and the voltage that its two registers
-- give. So what stands in the registers of a shorted input can't be seen.
-- Assumes nothing.
use mathlib.Core.Path.{◌≡◌, refl, sym, ap, ap₂, subst⁻¹, ◌∙◌}
use mathlib.Core.Bool.{true, false}
use mathlib.Core.List.{List, map}
use Prim.Native.Nat.{ℕ, ◌+◌, ◌-◌, ◌*◌, ◌≤◌, ◌<◌, min}
use native.Mathlib.Omega.{arith}
use lib.IntN.{ℤ, pos, neg_ℤ}
use lib.ListN.{length, get_or, length-map, get_or-append, get_or-map}
use lib.Signed.{mag, ◌≤ℤ◌}
use Rattle.std.specs.Prelude.{Result, Ok}
use Rattle.numbers.specs.Numbers.{word}
use Rattle.refusals.specs.Refusal.{value}
use Rattle.refusals.specs.declared.Error.{Error}
use Rattle.adc.specs.Conversion.{millivolts}
use Rattle.adc.specs.Crate.{crate_uv, CrateGives}
use Rattle.adc.proofs.Crate.{input_crate, input_between, input_range}
use Rattle.numbers.proofs.Between.{Between}
use Rattle.adc.specs.declared.transfer.AdcTransferFunction.{AdcTransferFunction}
use Rattle.wiring.specs.Tables.{fitted}
use Rattle.wiring.specs.Blocks.{shorted}
use Rattle.wiring.proofs.Rows.{as_many, row_within}
use Rattle.wiring.proofs.Undone.{input_at, every_pack_is}
use Rattle.bus.specs.Transfers.{Bus}
use Rattle.bus.specs.Programs.{Ran, ends, on_tape}
use Rattle.bus.specs.Raw.{Done, as_raw, read_bytes}
use Rattle.bus.proofs.Sized.{bytes_size}
use Rattle.bq769x0.specs.Record.{is_sound}
use Rattle.bq769x0.specs.declared.BQ769x0.{BQ769x0}
use Rattle.laws.specs.Over.{◌over◌}
use Rattle.procedure.specs.Inputs.{converted}
use Rattle.procedure.specs.Taking.{of_input}
use Rattle.procedure.specs.Wired.{high_of, byte_of, of_registers}
use Rattle.procedure.specs.Wired.{Shown, shown, unshown, showing, read_wired, wired}
use Rattle.procedure.proofs.Fitted.{of_fitted}
use Rattle.laws.proofs.Lists.{map_same, get_d_any}
use Rattle.procedure.proofs.Converted.{length_converted, converted_at}
use Rattle.procedure.proofs.Reading.{by_call}
use Rattle.bq769x0.proofs.Sizes.{sound_pack, sound_gain}

-- ---- an input's reading is that of its two registers
pub of_input_lem : (adc : AdcTransferFunction) (bytes : List ℕ) (x input : ℕ)
    → length bytes ≡ 2 * x → 1 ≤ input → input ≤ x
    → of_input (converted adc bytes) input ≡ of_registers adc bytes input
of_input_lem adc bytes x input size low high =
    let i = input - 1 in
    let there : i * 2 + 1 < length bytes = omega arith in
    let more : i < length (converted adc bytes) = omega (arith, length_converted adc bytes) in
    let first : i * 2 ≡ high_of input - 0x0C = omega arith in
    let second : i * 2 + 1 ≡ high_of input + 1 - 0x0C = omega arith in
    let words = ap₂ (λ (h l : ℕ). word (get_or bytes h 0) (get_or bytes l 0)) first second in
    get_d_any (converted adc bytes) i (pos 0) _ more
    ∙ converted_at adc bytes i there
    ∙ ap (millivolts adc.gain adc.offset) words

-- ---- what the crate divides for them
abbrev reading : List ℕ → ℕ → ℕ
reading bytes input = word (byte_of bytes (high_of input)) (byte_of bytes (high_of input + 1))

abbrev pub crate_uv_of : AdcTransferFunction → List ℕ → ℕ → ℤ
crate_uv_of adc bytes input = crate_uv adc.gain adc.offset (reading bytes input)

-- ---- where they hold bytes, on a device: the voltage is what the crate gives, and what an input can have
module _ (adc : AdcTransferFunction) (bytes : List ℕ) (input : ℕ)
    (small : (i : ℕ) → get_or bytes i 0 < 256) (byte : mag adc.offset < 128) (device : adc.gain ≤ 396) where
  reads : reading bytes input < 65536
  reads = omega (arith, small (high_of input - 0x0C), small (high_of input + 1 - 0x0C))

  pub registers_crate : CrateGives (crate_uv_of adc bytes input) (of_registers adc bytes input)
  registers_crate = input_crate adc.gain adc.offset (reading bytes input) reads byte device

  pub registers_between : Between 128 26078 (of_registers adc bytes input)
  registers_between = input_between adc.gain adc.offset (reading bytes input) reads byte device

  pub registers_range : (neg_ℤ (pos 128) ≤ℤ of_registers adc bytes input) × (of_registers adc bytes input ≤ℤ pos 26078)
  registers_range = input_range adc.gain adc.offset (reading bytes input) reads byte device

-- ---- the place of an input in a list of voltages over another
pub kth_listed : (f : ℕ → ℤ) (inputs : List ℕ) (list : List ℤ) (k : ℕ) → k < length inputs
    → get_or (map f inputs over list) k (pos 0) ≡ f (get_or inputs k 0)
kth_listed f inputs list k h =
    let there : k < length (map f inputs) = rw (length-map inputs f) h in
    get_or-append (map f inputs) _ (pos 0) k there
    ∙ get_d_any (map f inputs) k (pos 0) (f 0) there
    ∙ get_or-map f inputs k 0

-- ---- an accepted reading, from the lists lent to the lists left
pub record ByRegisters (d : BQ769x0) (b : Bus) (inputs : List ℕ) (list : List ℤ) (inputs' : List ℕ) (list' : List ℤ) : Type 0 where
  pub sound : is_sound d ≡ true
  pub bytes : List ℕ
  pub read : (on_tape (read_bytes d.link 0x0C (2 * d.link.x)) b).answer ≡ value bytes
  pub fits : inputs' ≡ fitted d.link.x d.cell_count over inputs
  pub volts : list' ≡ map (of_registers d.adc bytes) (fitted d.link.x d.cell_count) over list

module _ (d : BQ769x0) (b : Bus) (inputs : List ℕ) (list : List ℤ) where
  abbrev Accepted : Ran Shown → Type 0
  Accepted x = x.answer.answer ≡ value tt → ByRegisters d b inputs list x.answer.inputs x.answer.list

  accepted : Accepted (on_tape (wired d inputs list) b)
  unfolding wired read_wired
  accepted =
      by_call d (min (length inputs) (length list)) (unshown d inputs list) (showing d inputs list) b Accepted
      (λ r b' e. absurd (let z : ◌≡◌ {A = ℕ} 0 1 = cc in omega arith))
      λ sound bytes b' read e.
      let size = bytes_size d.link 0x0C (2 * d.link.x) b bytes read in
      record {
        sound = sound;
        bytes = bytes;
        read = read;
        fits = refl;
        volts =
            ap (λ (l : List ℤ). l over list)
            (of_fitted d.link.x d.cell_count (sound_pack d sound) (of_input (converted d.adc bytes)) (of_registers d.adc bytes)
            (λ input low high. of_input_lem d.adc bytes d.link.x input size low high));
      }

  -- by its promise, every run of the code that is accepted
  pub by_registers : (r : Result Done Error) (left : BQ769x0) (inputs' : List ℕ) (list' : List ℤ) (after : Bus)
      → ends (shown (as_raw r) left inputs' list') after ≡ on_tape (wired d inputs list) b
      → r ≡ Ok tt → ByRegisters d b inputs list inputs' list'
  by_registers r left inputs' list' after promise done = subst⁻¹ Accepted promise accepted (ap as_raw done)

-- ---- the cell at a place, from 0
module _ {d : BQ769x0} {b : Bus} {inputs inputs' : List ℕ} {list list' : List ℤ} (read : ByRegisters d b inputs list inputs' list')
    (k : ℕ) (h : k < d.cell_count) where
  abbrev x : ℕ
  x = d.link.x

  abbrev n : ℕ
  n = d.cell_count

  more : k < length (fitted x n)
  more = rw (as_many x n (sound_pack d read.sound)) h

  pub kth_input : get_or inputs' k 0 ≡ input_at x n k
  kth_input = ap (λ (l : List ℕ). get_or l k 0) read.fits ∙ get_or-append (fitted x n) _ 0 k more

  pub kth_voltage : get_or list' k (pos 0) ≡ of_registers d.adc read.bytes (input_at x n k)
  kth_voltage =
      ap (λ (l : List ℤ). get_or l k (pos 0)) read.volts
      ∙ kth_listed (of_registers d.adc read.bytes) (fitted x n) list k more

  module _ (small : (i : ℕ) → get_or read.bytes i 0 < 256) (byte : mag d.adc.offset < 128) where
    pub kth_crate : CrateGives (crate_uv_of d.adc read.bytes (input_at x n k)) (get_or list' k (pos 0))
    kth_crate =
        rw kth_voltage (registers_crate d.adc read.bytes (input_at x n k) small byte (sound_gain d read.sound))

    pub kth_between : Between 128 26078 (get_or list' k (pos 0))
    kth_between =
        rw kth_voltage (registers_between d.adc read.bytes (input_at x n k) small byte (sound_gain d read.sound))

    pub kth_range : (neg_ℤ (pos 128) ≤ℤ get_or list' k (pos 0)) × (get_or list' k (pos 0) ≤ℤ pos 26078)
    kth_range =
        rw kth_voltage (registers_range d.adc read.bytes (input_at x n k) small byte (sound_gain d read.sound))

-- ---- two accepted readings whose bytes differ at shorted inputs alone show the same
abbrev pub SameAt : List ℕ → List ℕ → ℕ → Type 0
SameAt bytes bytes'' input =
    (byte_of bytes (high_of input) ≡ byte_of bytes'' (high_of input))
    × (byte_of bytes (high_of input + 1) ≡ byte_of bytes'' (high_of input + 1))

pub shorted_unseen : {d : BQ769x0} {b b'' : Bus} {inputs inputs' inputs'' : List ℕ} {list list' list'' : List ℤ}
    (one : ByRegisters d b inputs list inputs' list') (other : ByRegisters d b'' inputs list inputs'' list'')
    → ((input : ℕ) → 1 ≤ input → input ≤ d.link.x → shorted d.link.x d.cell_count input ≡ false
    → SameAt one.bytes other.bytes input)
    → (inputs' ≡ inputs'') × (list' ≡ list'')
shorted_unseen {d} {list = list} one other same =
    let x = d.link.x in
    let n = d.cell_count in
    let pack = sound_pack d one.sound in
    let adc = d.adc in
    let volts =
    map_same (of_registers adc one.bytes) (of_registers adc other.bytes) (fitted x n) λ k h.
    let more = rw (as_many x n pack) at h in
    let within = row_within x n pack k more in
    let alike = same (input_at x n k) within.0 within.1 ((every_pack_is x n pack).unshorted k more) in
    ap₂ (λ (high low : ℕ). millivolts adc.gain adc.offset (word high low)) alike.0 alike.1 in
    (one.fits ∙ sym other.fits, one.volts ∙ ap (λ (l : List ℤ). l over list) volts ∙ sym other.volts)
