-- Demand 2 of each register command, for every run of the code by its promise, on every tape of bytes: the field that it is to change is as asked,
-- all else of the register as it was read, and no other register is written; and what a register that is written whole becomes.
-- Assumes nothing.
use mathlib.Core.Path.{◌≡◌, refl, sym, ◌∙◌}
use mathlib.Core.Bool.{Bool, true, false, true≢false}
use mathlib.Core.List.{List, [], ◌∷◌}
use mathlib.Core.Option.{Option, none, some}
use Prim.Native.Nat.{ℕ}
use lib.Dec.{T}
use borrow.Author.Tests.{eq-eqb}
use Rattle.check_byte.specs.CheckByte.{Bytes}
use Rattle.refusals.specs.Refusal.{Refusal, Answer, refused, nine, no}
use Rattle.units.specs.Flags.{bit}
use Rattle.units.specs.declared.flags.SysStat.{SysStat}
use Rattle.bits.specs.Bits.{placed, putting, switching}
use Rattle.bus.specs.Lent.{LentBus, does}
use Rattle.bus.specs.Programs.{Prog}
use Rattle.bus.specs.Raw.{Done, write_raw}
use Rattle.bus.specs.Shown.{Made, registers_written}
use Rattle.bus.specs.declared.link.Link.{Link}
use Rattle.bus.proofs.Decoders.{Short}
use Rattle.bus.proofs.OfBytes.{AllBytes}
use Rattle.bus.proofs.Throughout.{throughout, throughout_if, throughout_weaken}
use Rattle.bq769x0.specs.Registers.{soundly}
use Rattle.bq769x0.specs.Registers as by-record
use Rattle.bq769x0.specs.declared.BQ769x0.{BQ769x0}
use Rattle.chip.proofs.Asks.{Asks, nothing, asks_if, asks_call}
use Rattle.chip.proofs.Fed.{read_short, write_short}
use Rattle.commands.specs.Registers.{read_register, writing, changing}
use Rattle.commands.specs.Commands.{enable_balancing, sys_stat_reset, discharge, charge, ship_enter, enable_adc, set_temperature_source}
use Rattle.commands.specs.Commands.{coulomb_counter_mode, source_bits, mode_bits}
use Rattle.commands.specs.declared.control.TemperatureSource.{TemperatureSource}
use Rattle.commands.specs.declared.control.TemperatureSource.TheVariants as T
use Rattle.commands.specs.declared.counter.CoulombCounterMode.{CoulombCounterMode}
use Rattle.commands.specs.declared.counter.CoulombCounterMode.TheVariants as M
use Rattle.as_asked.specs.Seen.{Shows}
use Rattle.as_asked.specs.Tables.{table01, table00, table04, table05, with_dsg_on, with_chg_on, with_adc_en, with_temp_sel}
use Rattle.as_asked.specs.Commands.{Changes, untouched, Becomes, Resets, shut_down, flag, source_field, counter_fields}
use Rattle.as_asked.proofs.Bytes.{same04, same04_is, same05, same05_is}
use Rattle.as_asked.proofs.Changing.{Rightly, changing_seen, nothing_put, one_seen, three_seen}
use Rattle.as_asked.proofs.Shows.{soundly_shows}

-- ---- the transfers fit their fields
writing_short : (link : Link) (reg : ℕ) (o : Option ℕ) → Asks Short (writing link reg o)
unfolding writing
writing_short link reg none = nothing
writing_short link reg (some now) = write_short link reg (now ∷ [])

changing_short : (link : Link) (reg : ℕ) (change : ℕ → Option ℕ) → Asks Short (changing link reg change)
unfolding changing read_register
changing_short link reg change =
    asks_call refused _ (asks_call refused _ (read_short link reg 1) (λ bytes. nothing)) (λ byte. writing_short link reg (change byte))

-- ---- each byte, by the tables
discharge_right : (on : Bool) → Rightly same05 table05 (with_dsg_on (flag on)) (switching 0b0000_0010 on)
unfolding switching
discharge_right true = tt
discharge_right false = tt

charge_right : (on : Bool) → Rightly same05 table05 (with_chg_on (flag on)) (switching 0b0000_0001 on)
unfolding switching
charge_right true = tt
charge_right false = tt

mode_right : (mode : CoulombCounterMode) → Rightly same05 table05 (counter_fields mode) (putting 0b0110_0000 (mode_bits mode))
unfolding putting
mode_right M.Disabled = tt
mode_right M.OneShot = tt
mode_right M.Continuous = tt

adc_right : (on : Bool) → Rightly same04 table04 (with_adc_en (flag on)) (putting 0b0001_0000 (placed 0b0001_0000 on))
unfolding putting
adc_right true = tt
adc_right false = tt

source_right : (source : TemperatureSource) → Rightly same04 table04 (with_temp_sel (source_field source)) (putting 0b0000_1000 (source_bits source))
unfolding putting
source_right T.InternalDie = tt
source_right T.ExternalThermistor = tt

-- ---- the runs
module _ (d : BQ769x0) (bus : LentBus) (y : Answer Done) (bytes : Bytes bus.entry.now.tape.now) where
  -- it kept the promise to do p
  abbrev Kept : Prog (Answer Done) → Type 0
  Kept p = does p bus y

  abbrev Shown : (List Made → Answer Done → Type 0) → Type 0
  Shown P = Shows P bus y

  by_promise : (P : List Made → Answer Done → Type 0) (p : Prog (Answer Done)) → P [] (refused nine) → Asks Short p
      → throughout (λ y h. AllBytes h → P h y) p → Kept (soundly d (refused nine) p) → Shown P
  by_promise P p off short holds = soundly_shows d P p bus y (λ e. off) short (λ sound. holds) bytes

  -- those that read their register first
  module _ {Table : Type 0} (same : Table → Table → Bool) (same_is : (x y : Table) → T (same x y) → x ≡ y)
      (table : ℕ → Table) (asked : Table → Table) (reg : ℕ) (change : ℕ → Option ℕ) where
    changes : Rightly same table asked change → Kept (soundly d (refused nine) (changing d.link reg change))
        → Shown (Changes table asked d.link reg)
    unfolding registers_written
    changes rightly =
        by_promise (Changes table asked d.link reg) (changing d.link reg change) (untouched nine refl)
        (changing_short d.link reg change) (changing_seen same same_is table asked d.link reg change rightly)

  pub discharge_shows : (on : Bool) → Kept (discharge d on) → Shown (Changes table05 (with_dsg_on (flag on)) d.link 0x05)
  discharge_shows on = changes same05 same05_is table05 _ 0x05 _ (discharge_right on)

  pub charge_shows : (on : Bool) → Kept (charge d on) → Shown (Changes table05 (with_chg_on (flag on)) d.link 0x05)
  charge_shows on = changes same05 same05_is table05 _ 0x05 _ (charge_right on)

  pub mode_shows : (mode : CoulombCounterMode) → Kept (coulomb_counter_mode d mode)
      → Shown (Changes table05 (counter_fields mode) d.link 0x05)
  mode_shows mode = changes same05 same05_is table05 _ 0x05 _ (mode_right mode)

  pub adc_shows : (on : Bool) → Kept (enable_adc d on) → Shown (Changes table04 (with_adc_en (flag on)) d.link 0x04)
  adc_shows on = changes same04 same04_is table04 _ 0x04 _ (adc_right on)

  pub source_shows : (source : TemperatureSource) → Kept (set_temperature_source d source)
      → Shown (Changes table04 (with_temp_sel (source_field source)) d.link 0x04)
  source_shows source = changes same04 same04_is table04 _ 0x04 _ (source_right source)

  -- those that write it whole
  pub balancing_shows : (cells : ℕ) → Kept (enable_balancing d cells) → Shown (Becomes table01 (table01 cells ∷ []) d.link 0x01)
  unfolding by-record.write_raw
  balancing_shows cells =
      by_promise (Becomes table01 (table01 cells ∷ []) d.link 0x01) _ (nothing_put d.link 0x01 table01 (cells ∷ []) nine)
      (write_short d.link 0x01 _) (one_seen d.link 0x01 table01 cells)

  pub status_shows : (flags : SysStat) → Kept (sys_stat_reset d flags) → Shown (Resets flags.bits d.link)
  unfolding throughout registers_written
  status_shows flags =
      by_promise P _ (none nine) (asks_if (bit 6 byte) (λ e. nothing) (λ e. write_short d.link 0x00 _))
      (throughout_if (λ y h. AllBytes h → P h y) (bit 6 byte) _ _ (λ e ok. none (no 18 []))
      (λ e. throughout_weaken (λ y h. AllBytes h → P h y)
      (λ y h. AllBytes h → Becomes table00 (table00 byte ∷ []) d.link 0x00 h y) (write_raw d.link 0x00 (byte ∷ []))
      (λ y h q ok. record { becomes = q ok; reserved = λ r. absurd (true≢false (sym (eq-eqb _ 1 r) ∙ e)) })
      (one_seen d.link 0x00 table00 byte)))
    where
      byte : ℕ
      byte = flags.bits

      P : List Made → Answer Done → Type 0
      P = Resets byte d.link

      none : (r : Refusal) → P [] (refused r)
      none r = record { becomes = nothing_put d.link 0x00 table00 (byte ∷ []) r; reserved = λ e. refl }

  pub ship_shows : Kept (ship_enter d) → Shown (Becomes table04 shut_down d.link 0x04)
  ship_shows =
      by_promise (Becomes table04 shut_down d.link 0x04) _ (nothing_put d.link 0x04 table04 (0 ∷ 1 ∷ 2 ∷ []) nine)
      (asks_call refused _ (write_short d.link 0x04 _) λ _.
      asks_call refused _ (write_short d.link 0x04 _) λ _. write_short d.link 0x04 _)
      (three_seen d.link 0x04 table04 0 1 2)
