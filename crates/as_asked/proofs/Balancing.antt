-- Demand 2 of balancing a set of inputs, for every run of the code by its promise, on every tape of bytes.
-- Assumes nothing.
use mathlib.Core.Path.{◌≡◌, refl, sym, ap, subst, ◌∙◌}
use mathlib.Core.Logic.{◌⊎◌, inl, inr}
use mathlib.Core.Bool.{Bool, true, false, true≢false}
use mathlib.Core.List.{List, [], ◌∷◌, map}
use Prim.Native.Nat.{ℕ, ◌+◌, ◌-◌, ◌*◌, ◌/◌, ◌%◌, ◌^◌, ◌≤◌, ◌<◌}
use native.Mathlib.Omega.{arith}
use lib.Dec.{eqb}
use lib.ListN.{length, take}
use borrow.Author.Tests.{eqb-true, eqb-false}
use Rattle.laws.proofs.Lists.{map_take}
use Rattle.check_byte.specs.CheckByte.{Bytes}
use Rattle.refusals.specs.Refusal.{Refusal, Answer, value, refused, number_of, nine}
use Rattle.refusals.proofs.Values.{refused_not, same_value}
use Rattle.units.specs.Flags.{bit}
use Rattle.sizes.specs.Sizes.{is_size}
use Rattle.sizes.proofs.Sizes.{by_size}
use Rattle.cellbal.specs.Sets.{is_on}
use Rattle.cellbal.specs.Rules.{allowed}
use Rattle.cellbal.specs.Broken.{Exactly}
use Rattle.cellbal.specs.Registers.{register_count, three_for, registers_for, set_of}
use Rattle.cellbal.proofs.Exactly.{broken_exactly, kept_exactly}
use Rattle.cellbal.proofs.Places.{digit, count_range, length_registers, as_read_lem, set_bound}
use Rattle.bus.specs.Lent.{LentBus, does}
use Rattle.bus.specs.Programs.{ret, ◌or_leave◌, ◌>>=◌}
use Rattle.bus.specs.Raw.{Done, read_bytes, write_raw}
use Rattle.bus.specs.Shown.{Made, registers_written}
use Rattle.bus.proofs.OfBytes.{AllBytes}
use Rattle.bus.proofs.Throughout.{throughout, throughout_pure, throughout_weaken}
use Rattle.bus.proofs.Exchanges.{WriteSeen, up_to_21, unsent, write_seen}
use Rattle.bq769x0.specs.Record.{is_sound}
use Rattle.bq769x0.specs.declared.BQ769x0.{BQ769x0}
use Rattle.bq769x0.proofs.Speaks.{sound_size}
use Rattle.chip.proofs.Asks.{nothing, asks_call, asks_pure}
use Rattle.chip.proofs.Fed.{read_short, write_short}
use Rattle.commands.specs.Commands.{balance_set, balance_get}
use Rattle.as_asked.specs.Commands.{flag}
use Rattle.as_asked.specs.Seen.{Shows}
use Rattle.as_asked.specs.Tables.{Table01, table01}
use Rattle.as_asked.specs.Balancing.{block_table, set_tables, wrote_from01, SetAsAsked, AsRead, SetAsRead}
use Rattle.as_asked.proofs.Calibration.{of, given_here}
use Rattle.as_asked.proofs.Changing.{made_seen}
use Rattle.as_asked.proofs.Shows.{soundly_shows}

-- ---- the bytes by their table
flagged : (n : ℕ) → flag (eqb (n % 2) 1) ≡ n % 2
flagged n = by (eqb (n % 2) 1) refl
  where
    by : (t : Bool) → eqb (n % 2) 1 ≡ t → flag t ≡ n % 2
    by true e = sym (eqb-true (n % 2) 1 e)
    by false e = omega (arith, eqb-false (n % 2) 1 e)

-- the five bits from one on
abbrev five : ℕ → ℕ → ℕ → ℕ → ℕ → Table01
five a b c d e = record { reserved = 0; cb5 = e; cb4 = d; cb3 = c; cb2 = b; cb1 = a }

abbrev bits : ℕ → ℕ → Table01
bits k set =
    let at : ℕ → ℕ = λ j. set / 2 ^ (k + j) % 2 in
    five (at 0) (at 1) (at 2) (at 3) (at 4)

table_of : (k set : ℕ) → table01 (set / 2 ^ k % 32) ≡ bits k set
table_of k set =
    let none : set / 2 ^ k % 32 / 32 % 8 ≡ 0 = omega arith in
    rw (
      none,
      digit k 0 set (omega arith),
      digit k 1 set (omega arith),
      digit k 2 set (omega arith),
      digit k 3 set (omega arith),
      digit k 4 set (omega arith),
    )

block_of : (k set : ℕ)
    → five (flag (bit (k + 0) set)) (flag (bit (k + 1) set)) (flag (bit (k + 2) set)) (flag (bit (k + 3) set)) (flag (bit (k + 4) set)) ≡ bits k set
block_of k set =
    rw (
      flagged (set / 2 ^ (k + 0)),
      flagged (set / 2 ^ (k + 1)),
      flagged (set / 2 ^ (k + 2)),
      flagged (set / 2 ^ (k + 3)),
      flagged (set / 2 ^ (k + 4)),
    )

all_tables : (x set : ℕ) → map table01 (registers_for x set) ≡ set_tables x set
unfolding registers_for
all_tables x set =
    let whole : set % 32 ≡ set / 1 % 32 = omega arith in
    let first : table01 (set % 32) ≡ block_table set 0 = ap table01 whole ∙ table_of 0 set ∙ sym (block_of 0 set) in
    let second : table01 (set / 32 % 32) ≡ block_table set 1 = table_of 5 set ∙ sym (block_of 5 set) in
    let third : table01 (set / 1024 % 32) ≡ block_table set 2 = table_of 10 set ∙ sym (block_of 10 set) in
    map_take table01 (register_count x) (three_for set)
    ∙ ap (take (register_count x)) (λ i. first i ∷ second i ∷ third i ∷ [])

-- ---- `balance_set`
module _ (d : BQ769x0) (set limit : ℕ) (two : set < 2 ^ 16) where
  abbrev x : ℕ
  x = d.link.x

  abbrev bytes : List ℕ
  bytes = registers_for x set

  -- by what came of the rules, and what was written
  shown : {h : List Made} {y : Answer Done} → (is_sound d ≡ true → Exactly x set limit y)
      → ((r : Refusal) → y ≡ refused r → 22 ≤ r.number → h ≡ [])
      → (registers_written d.link.check h ≡ []) ⊎ (registers_written d.link.check h ≡ wrote_from01 d bytes)
      → (y ≡ value tt → registers_written d.link.check h ≡ wrote_from01 d bytes) → SetAsAsked d h set limit y
  shown exactly unsent written all =
      record { exactly = exactly; unsent = unsent; bytes = bytes; tables = all_tables x set; written = written; all = all }

  -- ahead of any transfer
  unsent_shown : (r : Refusal) → (is_sound d ≡ true → Exactly x set limit (refused r)) → SetAsAsked d [] set limit (refused r)
  unfolding registers_written
  unsent_shown r exactly = shown exactly (λ s e n. refl) (inl refl) (λ e. refused_not e)

  sent_shown : allowed x set limit ≡ value tt → (y : Answer Done) (h : List Made) → WriteSeen d.link 0x01 bytes y h
      → SetAsAsked d h set limit y
  sent_shown fits (value done) h q =
      shown (λ ok. kept_exactly x set limit two fits (value done) (omega arith)) (λ r e n. refused_not (sym e)) (inr q.0) (λ e. q.0)
  sent_shown fits (refused r) h q =
      let few = up_to_21 r q.2 in
      shown (λ ok. kept_exactly x set limit two fits (refused r) few)
      (λ s e n. absurd (omega (arith, few, ap (λ (y : Answer Done). number_of y) e))) q.0 (λ e. refused_not e)

  abbrev Holds : Answer Done → List Made → Type 0
  Holds y h = AllBytes h → SetAsAsked d h set limit y

  set_seen : is_sound d ≡ true
      → throughout Holds ((ret (allowed x set limit) or_leave refused) >>= λ _. write_raw d.link 0x01 bytes)
  set_seen ok =
      let some : 1 ≤ length bytes = omega (arith, length_registers x set (sound_size d ok), count_range x (sound_size d ok)) in
      throughout_pure Holds (allowed x set limit) refused _
      (λ r e all. unsent_shown r (λ s. broken_exactly x set limit two r e))
      (λ a e. throughout_weaken Holds (WriteSeen d.link 0x01 bytes) (write_raw d.link 0x01 bytes)
      (λ y h q all. sent_shown e y h q) (write_seen d.link 0x01 bytes some))

  pub set_shows : (bus : LentBus) (y : Answer Done) → Bytes bus.entry.now.tape.now → does (balance_set d set limit) bus y
      → Shows (λ h. SetAsAsked d h set limit) bus y
  unfolding balance_set
  set_shows bus y =
      soundly_shows d (λ h. SetAsAsked d h set limit) _ bus y
      (λ e. unsent_shown nine (λ ok. absurd (true≢false (sym ok ∙ e))))
      (asks_pure refused _ (allowed x set limit) (λ a e. write_short d.link 0x01 bytes)) set_seen

-- ---- `balance_get`
-- an input of the device has its register
in_register : (x i : ℕ) → is_size x ≡ true → 1 ≤ i → i ≤ x → (i - 1) / 5 < register_count x
in_register x i size least =
    by_size (λ y. i ≤ y → (i - 1) / 5 < register_count y) (λ h. omega arith) (λ h. omega arith) (λ h. omega arith) x size

all_bits : (x : ℕ) → is_size x ≡ true → 32 ^ register_count x ≡ 2 ^ x
all_bits = by_size (λ x. 32 ^ register_count x ≡ 2 ^ x) refl refl refl

module _ (d : BQ769x0) where
  abbrev n : ℕ
  n = register_count d.link.x

  module _ (bytes : List ℕ) (ok : is_sound d ≡ true) (many : length bytes ≡ n) where
    as_shown_is : AsRead d (of d.link 0x01 n bytes ∷ []) (set_of bytes)
    as_shown_is = record {
      bytes = bytes;
      read_01 = given_here d.link 0x01 n bytes [];
      many = many;
      on = λ i least most.
          let k = (i - 1) / 5 in
          let at : i ≡ 5 * k + (i - 1) % 5 + 1 = omega arith in
          ap (is_on (set_of bytes)) at
          ∙ as_read_lem bytes k ((i - 1) % 5) (omega (arith, in_register d.link.x i (sound_size d ok) least most)) (omega arith);
      no_more = omega (arith, set_bound bytes, ap (λ (k : ℕ). 32 ^ k) many, all_bits d.link.x (sound_size d ok));
    }

    read_shown : SetAsRead d (of d.link 0x01 n bytes ∷ []) (value (set_of bytes))
    unfolding registers_written
    read_shown = record {
      accepted = λ set q. subst (AsRead d (of d.link 0x01 n bytes ∷ [])) (same_value q) as_shown_is;
      unwritten = unsent d.link.check d.link.address 0x01 _ bytes [];
    }

  refused_shown : (r : Refusal) (h : List Made) → registers_written d.link.check h ≡ [] → SetAsRead d h (refused r)
  refused_shown r h none = record { accepted = λ set q. refused_not q; unwritten = none }

  get_seen : is_sound d ≡ true
      → throughout (λ y h. AllBytes h → SetAsRead d h y)
      ((read_bytes d.link 0x01 n or_leave refused) >>= λ bytes. ret (value (set_of bytes)))
  get_seen ok =
      made_seen d.link 0x01 n (count_range d.link.x (sound_size d ok)).0 set_of _
      (λ bytes many all. read_shown bytes ok many) (λ r h none all. refused_shown r h none)

  pub get_shows : (bus : LentBus) (y : Answer ℕ) → Bytes bus.entry.now.tape.now → does (balance_get d) bus y → Shows (SetAsRead d) bus y
  unfolding balance_get registers_written
  get_shows bus y =
      soundly_shows d (SetAsRead d) _ bus y (λ e. refused_shown nine [] refl)
      (asks_call refused _ (read_short d.link 0x01 n) (λ bytes. nothing)) get_seen
