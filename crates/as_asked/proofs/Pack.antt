-- Demand 2 of the pack's voltage, for every run of the code by its promise, on every tape of bytes, with an offset that is an `i8`.
-- Assumes nothing.
use mathlib.Core.Path.{◌≡◌, refl, sym, subst, ◌∙◌}
use mathlib.Core.Bool.{true}
use mathlib.Core.List.{List, [], ◌∷◌, append-nil}
use Prim.Native.Nat.{ℕ, ◌<◌}
use native.Mathlib.Omega.{arith}
use lib.IntN.{ℤ}
use lib.ListN.{length, get_or}
use lib.Signed.{mag}
use Rattle.check_byte.specs.CheckByte.{Bytes}
use Rattle.numbers.specs.Numbers.{word}
use Rattle.refusals.specs.Refusal.{Refusal, Answer, value, refused, nine}
use Rattle.refusals.proofs.Values.{same_value, refused_not}
use Rattle.adc.specs.Conversion.{pack_millivolts}
use Rattle.adc.proofs.Crate.{pack_crate, pack_range}
use Rattle.bus.specs.Lent.{LentBus, does}
use Rattle.bus.specs.Programs.{Prog, ret, ◌or_leave◌, ◌>>=◌}
use Rattle.bus.specs.Shown.{Made, registers_written}
use Rattle.bus.proofs.Decoders.{Short}
use Rattle.bus.proofs.Exchanges.{unsent}
use Rattle.bus.proofs.OfBytes.{AllBytes}
use Rattle.bus.proofs.Throughout.{throughout, throughout_call}
use Rattle.bq769x0.specs.Record.{is_sound}
use Rattle.bq769x0.specs.declared.BQ769x0.{BQ769x0}
use Rattle.bq769x0.proofs.Sizes.{sound_sizes, sound_gain}
use Rattle.chip.proofs.Asks.{Asks, nothing, asks_call}
use Rattle.chip.proofs.Fed.{read_short}
use Rattle.chip.proofs.RegisterBytes.{get_d_byte}
use Rattle.measuring.specs.Pack.{voltage}
use Rattle.measuring.specs.Word.{read_word}
use Rattle.as_asked.specs.Pack.{ByBytes, PackVoltage}
use Rattle.as_asked.specs.Seen.{Shows}
use Rattle.as_asked.proofs.Bytes.{data_bytes, two_bytes}
use Rattle.as_asked.proofs.Calibration.{of, given_here}
use Rattle.as_asked.proofs.Changing.{made_seen}
use Rattle.as_asked.proofs.Shows.{soundly_shows}

abbrev word_of : List ℕ → ℕ
word_of bytes = word (get_or bytes 0 0) (get_or bytes 1 0)

module _ (d : BQ769x0) (i8 : mag d.adc.offset < 128) where
  abbrev volts : ℕ → ℤ
  volts reading = pack_millivolts d.cell_count d.adc.gain d.adc.offset reading

  abbrev and_volts : Answer ℕ → Answer ℤ
  and_volts (value reading) = value (volts reading)
  and_volts (refused r) = refused r

  abbrev Holds : Answer ℤ → List Made → Type 0
  Holds y h = AllBytes h → PackVoltage d h y

  refusing : (r : Refusal) (h : List Made) → registers_written d.link.check h ≡ [] → PackVoltage d h (refused r)
  refusing r h unwritten = record { accepted = λ mv e. refused_not e; unwritten = unwritten }

  module _ (sound : is_sound d ≡ true) (bytes : List ℕ) (two : length bytes ≡ 2) where
    abbrev made : List Made
    made = of d.link 0x2A 2 bytes ∷ []

    abbrev reading : ℕ
    reading = word_of bytes

    small : AllBytes made → reading < 65536
    small ok =
        let both = data_bytes d.link.check d.link.address bytes ok.0 in
        omega (arith, get_d_byte bytes 0 both, get_d_byte bytes 1 both)

    by_bytes : AllBytes made → ByBytes d made (volts reading)
    by_bytes ok =
        let gain = sound_gain d sound in
        let range = pack_range d.adc.gain d.adc.offset reading (small ok) i8 gain d.cell_count (sound_sizes d sound).1 in
        record {
          high = get_or bytes 0 0;
          low = get_or bytes 1 0;
          read_2a = given_here d.link 0x2A 2 bytes [] ∙ two_bytes bytes two;
          volts = refl;
          least = range.0;
          most = range.1;
          of_five = λ five. rw five (pack_crate d.adc.gain d.adc.offset reading (small ok) i8 gain);
        }

    answered : Holds (value (volts reading)) made
    unfolding registers_written
    answered ok = record {
      accepted = λ mv e. subst (ByBytes d made) (same_value e) (by_bytes ok);
      unwritten = unsent d.link.check d.link.address 0x2A _ bytes [];
    }

  word_seen : is_sound d ≡ true → throughout (λ y h. Holds (and_volts y) h) (read_word d.link 0x2A)
  unfolding read_word
  word_seen sound =
      made_seen d.link 0x2A 2 (omega arith) word_of (λ y h. Holds (and_volts y) h) (answered sound)
      (λ r h unwritten ok. refusing r h unwritten)

  -- `voltage` behind its test
  abbrev reads : Prog (Answer ℤ)
  reads = (read_word d.link 0x2A or_leave refused) >>= λ reading. ret (value (volts reading))

  reads_seen : is_sound d ≡ true → throughout Holds reads
  unfolding throughout
  reads_seen sound =
      throughout_call Holds (λ y h. Holds (and_volts y) h) (read_word d.link 0x2A) refused _ (word_seen sound)
      (λ r h q. q)
      (λ reading h q. subst (Holds (value (volts reading))) (sym (append-nil h)) q)

  reads_short : Asks Short reads
  unfolding read_word
  reads_short =
      asks_call refused _ (asks_call refused _ (read_short d.link 0x2A 2) (λ bytes. nothing)) (λ reading. nothing)

  pub voltage_shows : (bus : LentBus) (y : Answer ℤ) → Bytes bus.entry.now.tape.now → does (voltage d) bus y → Shows (PackVoltage d) bus y
  unfolding voltage registers_written
  voltage_shows bus y =
      soundly_shows d (PackVoltage d) reads bus y (λ e. refusing nine [] refl) reads_short reads_seen
