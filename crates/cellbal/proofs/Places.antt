-- Where an input stands in the registers: in that of its block of five, at its place in the block; and the registers' sizes.
-- Assumes nothing.
use mathlib.Core.Path.{◌≡◌, refl, sym, ap, ◌∙◌}
use mathlib.Core.Bool.{true}
use mathlib.Core.List.{List, [], ◌∷◌}
use Prim.Native.Nat.{ℕ, zero, suc, ◌+◌, ◌-◌, ◌*◌, ◌/◌, ◌%◌, ◌^◌, ◌≤◌, ◌<◌}
use native.Mathlib.Nat.{pow-suc}
use native.Mathlib.Omega.{arith}
use lib.Dec.{eqb}
use lib.ListN.{length, get_or}
use lib.Pow.{shr-shr}
use Rattle.units.specs.Flags.{bit}
use Rattle.sizes.specs.Sizes.{is_size}
use Rattle.sizes.proofs.Sizes.{by_size}
use Rattle.cellbal.specs.Sets.{is_on}
use Rattle.cellbal.specs.Rules.{neighbours}
use Rattle.cellbal.specs.Registers.{register_count, three_for, registers_for, set_of}
use Rattle.cellbal.proofs.Digits.{bit_above, bit_below}
use Rattle.cellbal.proofs.Rules.{in_a_block}

-- ---- a register has the five bits of the set from its block on
pub digit : (k j set : ℕ) → j < 5 → set / 2 ^ k % 32 / 2 ^ j % 2 ≡ set / 2 ^ (k + j) % 2
digit k j set h =
    let five : 4 - j + 1 + j ≡ 5 = omega arith in
    ap (λ (n : ℕ). set / 2 ^ k % 2 ^ n / 2 ^ j % 2) (sym five)
    ∙ bit_below (4 - j) j (set / 2 ^ k)
    ∙ ap (λ (n : ℕ). n % 2) (shr-shr set k j)

five_of : (k j set : ℕ) → j < 5 → bit j (set / 2 ^ k % 32) ≡ bit (k + j) set
five_of k j set h = ap (λ (n : ℕ). eqb n 1) (digit k j set h)

low : (j n : ℕ) → j < 5 → bit j (n % 32) ≡ bit j n
low j n h =
    let whole : n % 32 ≡ n / 1 % 32 = omega arith in
    let at : 0 + j ≡ j = omega arith in
    ap (bit j) whole ∙ five_of 0 j n h ∙ ap (λ (i : ℕ). bit i n) at

pub at_place : (k j set : ℕ) → k < 3 → j < 5 → bit j (get_or (three_for set) k 0) ≡ is_on set (5 * k + j + 1)
at_place zero j set few h =
    let at : j ≡ 5 * 0 + j + 1 - 1 = omega arith in
    low j set h ∙ ap (λ (i : ℕ). bit i set) at
at_place (suc zero) j set few h =
    let at : 5 + j ≡ 5 * 1 + j + 1 - 1 = omega arith in
    five_of 5 j set h ∙ ap (λ (i : ℕ). bit i set) at
at_place (suc (suc zero)) j set few h =
    let at : 10 + j ≡ 5 * 2 + j + 1 - 1 = omega arith in
    five_of 10 j set h ∙ ap (λ (i : ℕ). bit i set) at
at_place (suc (suc (suc k))) j set few h = absurd (omega arith)

-- ---- as many as the device has, one to three
pub count_range : (x : ℕ) → is_size x ≡ true → (1 ≤ register_count x) × (register_count x ≤ 3)
count_range =
    by_size (λ x. (1 ≤ register_count x) × (register_count x ≤ 3)) (omega arith) (omega arith) (omega arith)

pub length_registers : (x set : ℕ) → is_size x ≡ true → length (registers_for x set) ≡ register_count x
unfolding registers_for
length_registers x set = by_size (λ y. length (registers_for y set) ≡ register_count y) refl refl refl x

-- ---- where both bits are set, the two inputs are neighbours
pub side_by_side : (set i : ℕ) → 1 ≤ i → (i - 1) / 5 ≡ i / 5 → (i - 1) / 5 < 3
    → bit ((i - 1) % 5) (get_or (three_for set) ((i - 1) / 5) 0) ≡ true → bit (i % 5) (get_or (three_for set) ((i - 1) / 5) 0) ≡ true
    → neighbours set ≡ true
side_by_side set i least block few a b =
    let k = (i - 1) / 5 in
    let here : 5 * k + (i - 1) % 5 + 1 ≡ i = omega arith in
    let next : 5 * k + i % 5 + 1 ≡ i + 1 = omega arith in
    in_a_block set (record {
      input = i;
      least = least;
      one_block = block;
      on = sym (at_place k ((i - 1) % 5) set few (omega arith) ∙ ap (is_on set) here) ∙ a;
      next_on = sym (at_place k (i % 5) set few (omega arith) ∙ ap (is_on set) next) ∙ b;
    }) (omega arith)

-- ---- and of a set that is read, an input is on where its bit in its register is
pub as_read_lem : (bytes : List ℕ) (k j : ℕ) → k < length bytes → j < 5 → is_on (set_of bytes) (5 * k + j + 1) ≡ bit j (get_or bytes k 0)
unfolding set_of
as_read_lem [] k j few h = absurd (omega arith)
as_read_lem (b ∷ bytes) zero j few h =
    let set = b % 32 + 32 * set_of bytes in
    let at : 0 + j + 1 - 1 ≡ j = omega arith in
    let first : set % 32 ≡ b % 32 = omega arith in
    ap (λ (i : ℕ). bit i set) at ∙ sym (low j set h) ∙ ap (bit j) first ∙ low j b h
as_read_lem (b ∷ bytes) (suc k) j few h =
    let set = b % 32 + 32 * set_of bytes in
    let at : 5 * suc k + j + 1 - 1 ≡ 5 + (5 * k + j + 1 - 1) = omega arith in
    let rest : set / 32 ≡ set_of bytes = omega arith in
    ap (λ (i : ℕ). bit i set) at
    ∙ sym (bit_above 5 (5 * k + j + 1 - 1) set)
    ∙ ap (bit (5 * k + j + 1 - 1)) rest
    ∙ as_read_lem bytes k j (omega arith) h

pub set_bound : (bytes : List ℕ) → set_of bytes < 32 ^ length bytes
unfolding set_of
set_bound [] = omega arith
set_bound (b ∷ bytes) = omega (arith, set_bound bytes, pow-suc 32 (length bytes))
