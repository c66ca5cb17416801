-- The tie to the crate's numbers: its u32, read in two's complement, is the voltage of the definitions, on every reading, gain and offset: of an
-- input, and of a pack of five cells, since the crate takes five offsets whatever the count.
-- With a device's gain no number on the crate's way to it leaves an `i32`, and the voltage is from -128 to 26078 mV for an input, from -1920 to
-- 105712 mV for a pack of up to 15 cells.
-- Assumes nothing.
use mathlib.Core.Path.{◌≡◌, ap, ◌∙◌}
use Prim.Native.Nat.{ℕ, suc, ◌+◌, ◌*◌, ◌/◌, ◌^◌, ◌≤◌, ◌<◌}
use native.Mathlib.Omega.{arith}
use lib.IntN.{ℤ, pos, negsuc, neg_ℤ, ◌+ℤ◌, ◌*ℤ◌}
use lib.Dec.{lit≤, lit<}
use lib.Signed.{mag, ◌≤ℤ◌}
use Rattle.numbers.specs.Numbers.{◌÷◌, as_i32}
use Rattle.numbers.proofs.Between.{Between, of_sum, of_product, of_quotient, of_byte, wider, in_order, held}
use Rattle.numbers.proofs.Casts.{i32_of_u32}
use Rattle.numbers.proofs.Signed.{product≤}
use Rattle.adc.specs.Conversion.{millivolts, pack_millivolts}
use Rattle.adc.specs.Crate.{crate_uv, crate_pack_uv, crate_millivolts, CrateGives}

-- the crate's five offsets, in the crate's words and in one product
five : (offset : ℤ) → pos 5 *ℤ offset *ℤ pos 1000 ≡ offset *ℤ pos 5000
five (pos k) =
    let e : 5 * k * 1000 ≡ k * 5000 = omega arith in
    ap pos e
five (negsuc k) =
    let more : 5 * suc k ≡ suc (5 * k + 4) = omega arith in
    let e : suc (5 * k + 4) * 1000 ≡ suc k * 5000 = omega arith in
    ap (λ (n : ℕ). neg_ℤ (pos n) *ℤ pos 1000) more ∙ ap (λ (n : ℕ). neg_ℤ (pos n)) e

-- ---- what a product of gain and reading, at most `most`, and an offset so many times come to
module _ {up : ℕ} (most times : ℕ) (offset : ℤ) (few : up ≤ most) (byte : mag offset < 128) where
  abbrev low : ℕ
  low = 128 * times

  abbrev high : ℕ
  high = most + 127 * times

  abbrev uv : ℤ
  uv = pos up +ℤ offset *ℤ pos times

  uv_between : Between low high uv
  uv_between = of_sum most low (127 * times) (offset *ℤ pos times) few (of_product 128 127 times offset (of_byte offset byte))

  mv_between : Between (low / 1000) (high / 1000) (uv ÷ 1000)
  mv_between = of_quotient low high 1000 uv (lit< tt) uv_between

  uv_held : low ≤ 2147483648 → high < 2147483648 → mag uv < 2 ^ 31
  uv_held l h = held low high uv l h uv_between

  mv_held : low / 1000 ≤ 2147483648 → high / 1000 < 2147483648 → mag (uv ÷ 1000) < 2 ^ 31
  mv_held l h = held (low / 1000) (high / 1000) (uv ÷ 1000) l h mv_between

module _ (gain : ℕ) (offset : ℤ) (reading : ℕ) (reads : reading < 65536) (byte : mag offset < 128) where
  pack_uv : crate_pack_uv gain offset reading ≡ pos (4 * gain * reading) +ℤ offset *ℤ pos 5000
  pack_uv = ap (λ (z : ℤ). pos (4 * gain * reading) +ℤ z) (five offset)

  -- ---- of any gain
  module _ (any : gain < 65536) where
    pub crate_input : as_i32 (crate_millivolts (crate_uv gain offset reading)) ≡ millivolts gain offset reading
    crate_input =
        let few : reading * gain ≤ 65535 * 65535 = product≤ 65535 65535 (omega arith) (omega arith) in
        i32_of_u32 (millivolts gain offset reading) (mv_held (65535 * 65535) 1000 offset few byte (lit≤ tt) (lit< tt))

    pub crate_pack : as_i32 (crate_millivolts (crate_pack_uv gain offset reading)) ≡ pack_millivolts 5 gain offset reading
    crate_pack =
        let few : 4 * gain * reading ≤ 4 * 65535 * 65535 = product≤ (4 * 65535) 65535 (omega arith) (omega arith) in
        ap (λ (z : ℤ). as_i32 (crate_millivolts z)) pack_uv
        ∙ i32_of_u32 (pack_millivolts 5 gain offset reading)
        (mv_held (4 * 65535 * 65535) 5000 offset few byte (lit≤ tt) (lit< tt))

  -- ---- of a device's gain, 365 to 396, or of none
  module _ (device : gain ≤ 396) where
    input_few : reading * gain ≤ 65535 * 396
    input_few = product≤ 65535 396 (omega arith) device

    pack_few : 4 * gain * reading ≤ 4 * 396 * 65535
    pack_few = product≤ (4 * 396) 65535 (omega arith) (omega arith)

    pub input_between : Between 128 26078 (millivolts gain offset reading)
    input_between = mv_between (65535 * 396) 1000 offset input_few byte

    pub input_range : (neg_ℤ (pos 128) ≤ℤ millivolts gain offset reading) × (millivolts gain offset reading ≤ℤ pos 26078)
    input_range = in_order 128 26078 (millivolts gain offset reading) input_between

    pub pack_range : (cells : ℕ) → cells ≤ 15
        → (neg_ℤ (pos 1920) ≤ℤ pack_millivolts cells gain offset reading) × (pack_millivolts cells gain offset reading ≤ℤ pos 105712)
    pack_range cells most =
        let mv = pack_millivolts cells gain offset reading in
        in_order 1920 105712 mv
        (wider 1920 105712 mv (omega arith) (omega arith)
        (mv_between (4 * 396 * 65535) (cells * 1000) offset pack_few byte))

    pub input_crate : CrateGives (crate_uv gain offset reading) (millivolts gain offset reading)
    input_crate = (uv_held (65535 * 396) 1000 offset input_few byte (lit≤ tt) (lit< tt), crate_input (omega arith))

    pub pack_crate : CrateGives (crate_pack_uv gain offset reading) (pack_millivolts 5 gain offset reading)
    pack_crate =
        (rw pack_uv (uv_held (4 * 396 * 65535) 5000 offset pack_few byte (lit≤ tt) (lit< tt)), crate_pack (omega arith))
