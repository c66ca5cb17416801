-- Demand 2 of `init`, stage by stage, of what its transfers show, whatever they are answered, the bytes being bytes.
-- Assumes nothing.
use mathlib.Core.Path.{◌≡◌, refl, sym, ap, ap₂, subst, ◌∙◌}
use mathlib.Core.Bool.{Bool, not}
use mathlib.Core.List.{List, [], ◌∷◌, ◌++◌, append-nil}
use mathlib.Core.Option.{none, bind}
use Prim.Native.Nat.{ℕ, ◌≤◌}
use native.Mathlib.Omega.{arith}
use lib.Bits.{bit_or}
use lib.ListN.{length, get_or}
use Rattle.check_byte.specs.CheckByte.{Bytes}
use Rattle.refusals.specs.Refusal.{Refusal, Answer, value, refused, refusal_in, nine, no}
use Rattle.refusals.proofs.Values.{refused_not, same_value}
use Rattle.adc.specs.declared.transfer.AdcTransferFunction.{AdcTransferFunction}
use Rattle.adc.proofs.Gain.{gain_range, offset_range}
use Rattle.protection.specs.Steps.{scd_lower, scd_upper, ocd_lower, ocd_upper}
use Rattle.plan.specs.Exactly.{of678, unfit}
use Rattle.plan.specs.Order.{◌and_then◌}
use Rattle.plan.specs.Plan.{Values, Planned, plan_for}
use Rattle.plan.specs.Steps.{InMv, steps_for}
use Rattle.plan.specs.declared.Config.{Config}
use Rattle.plan.proofs.AsAsked.{Given, steps_given, exactly, as_asked_is}
use Rattle.plan.proofs.Only.{Only, shunt_only, step_only}
use Rattle.plan.proofs.Six.{plan_six}
use Rattle.bus.specs.Raw.{Done, read_bytes, write_raw}
use Rattle.bus.specs.Shown.{Made, Access, access, registers_read, registers_written, first_of}
use Rattle.bus.specs.declared.link.Link.{Link}
use Rattle.chip.proofs.RegisterBytes.{get_d_byte}
use Rattle.bus.proofs.Exchanges.{OfBus, not_planned, ReadSeen, WriteSeen, unsent, read_seen, write_seen}
use Rattle.bus.proofs.OfBytes.{AllBytes}
use Rattle.bus.proofs.Shown.{reads_append, writes_append}
use Rattle.bus.proofs.Throughout.{throughout, throughout_bind, throughout_call, throughout_pure, throughout_if}
use Rattle.bq769x0.specs.Record.{Left, leaves, leaving, is_sound, with_shunt}
use Rattle.bq769x0.specs.Registers.{soundly}
use Rattle.bq769x0.specs.declared.BQ769x0.{BQ769x0}
use Rattle.procedure.specs.Calibrate.{calibrated, calibrate}
use Rattle.procedure.specs.Init.{onward, onward_by, start_counter, protect, init_by}
use Rattle.as_asked.specs.Seen as seen
use Rattle.as_asked.specs.Init.{SetAsAsked, Demand2}
use Rattle.as_asked.proofs.Bytes.{data_bytes, behind_bytes, one_byte, counter_on}
use Rattle.as_asked.proofs.Calibration.{of, given_here, given_behind, none_in, both, read, read_in}
use Rattle.as_asked.proofs.Calibration.{Calibrates, both_read, not_read, calibrate_seen}

-- ---- a refusal that is no plan's
-- 12 and 13
only_bus : {A : Type 0} (n : ℕ) (a : Answer A) {r : Refusal} → Only n a → OfBus (no n []) → a ≡ refused r → OfBus r
only_bus {A} n a {r} only q e = subst OfBus (ap (refusal_in {A = A}) (sym (only r e) ∙ e)) q

then_bus : {A B : Type 0} (a : Answer A) (next : A → Answer B) {r : Refusal}
    → (a ≡ refused r → OfBus r) → ((x : A) → next x ≡ refused r → OfBus r) → a and_then next ≡ refused r → OfBus r
unfolding ◌and_then◌
then_bus {A} {B} (value x) next here later e = later x e
then_bus {A} {B} (refused s) next here later e = here (ap (λ (t : Refusal). refused t) (ap (refusal_in {A = B}) e))

steps_refused : (config : Config) (r : Refusal) → steps_for config ≡ refused r → OfBus r
unfolding steps_for
steps_refused config r =
    then_bus _ _ (only_bus 12 _ (shunt_only config.shunt.0) refl) λ shunt.
    then_bus _ _ (only_bus 13 _ (step_only (scd_lower ++ scd_upper) config.scd_threshold.0 shunt) refl) λ scd.
    then_bus _ _ (only_bus 13 _ (step_only (ocd_lower ++ ocd_upper) config.ocd_threshold.0 shunt) refl) λ ocd e.
    refused_not (sym e)

of_bus : (r : Refusal) → OfBus r → of678 {A = Values} (refused r) ≡ none
of_bus r e = rw (not_planned r e)

module _ (link : Link) (config : Config) where
  -- ahead of the calibration
  unread : (r : Refusal) (h : List Made) → OfBus r → seen.read_from link h 0x59 ≡ [] → Demand2 link config h (refused r)
  unfolding bind
  unread r h e away = record {
    accepted = λ v q. refused_not q;
    refused = of_bus r e ∙ sym (rw (none_in link h away));
  }

-- ---- after the calibration
module _ (d : BQ769x0) (config : Config) (steps : InMv) (g : Given config steps)
    (first second : List ℕ) (two : length first ≡ 2) (one : length second ≡ 1) where
  abbrev adc : AdcTransferFunction
  adc = read d.link first second

  abbrev d' : BQ769x0
  d' = calibrated d first second

  abbrev plan : Answer Planned
  plan = plan_for adc.gain adc.offset config steps.scd steps.ocd

  gained : 365 ≤ adc.gain
  gained = (gain_range (get_or first 0 0) (get_or second 0 0)).0

  planned : of678 plan ≡ unfit adc.gain adc.offset config
  planned = exactly adc.gain adc.offset config g (omega (arith, gained))

  -- what is shown from there on
  abbrev whole : List Made → List Made
  whole h = both d.link first second ++ h

  abbrev Holds : Left Values → List Made → Type 0
  Holds left h = AllBytes (whole h) → Demand2 d.link config (whole h) left.answer

  by_plan : (h : List Made) → bind (seen.calibration_in d.link (whole h)) (λ adc. unfit adc.gain adc.offset config)
      ≡ unfit adc.gain adc.offset config
  unfolding bind
  by_plan h = rw (read_in d.link first second two one h)

  -- a plan that is refused
  unplanned : (r : Refusal) → plan ≡ refused r → Holds (leaving d' r) []
  unplanned r e ok = record {
    accepted = λ v q. refused_not q;
    refused = ap of678 (sym e) ∙ planned ∙ sym (by_plan []);
  }

  module _ (p : Planned) (e : plan ≡ value p) where
    fit : unfit adc.gain adc.offset config ≡ none
    fit = sym planned ∙ ap of678 e

    -- a transfer that is refused behind it
    later : (x : BQ769x0) (r : Refusal) (h : List Made) → OfBus r → Holds (leaving x r) h
    later x r h q ok = record {
      accepted = λ v q. refused_not q;
      refused = of_bus r q ∙ sym (by_plan h ∙ fit);
    }

    -- all went well: the six bytes, 05 read, and 05 written
    module _ (byte : List ℕ) (written got on : List Made)
        (six : WriteSeen d.link 0x06 p.regs (value tt) written)
        (five : ReadSeen d.link.check d.link.address 0x05 1 (value byte) got)
        (set : WriteSeen d.link 0x05 (bit_or (get_or byte 0 0) 64 ∷ []) (value tt) on) where
      abbrev check : Bool
      check = d.link.check

      abbrev address : ℕ
      address = d.link.address

      abbrev rest : List Made
      rest = written ++ (got ++ on)

      abbrev was : ℕ
      was = get_or byte 0 0

      abbrev behind : List Made
      behind = of d.link 0x05 1 byte ∷ on

      behind_is : got ++ on ≡ behind
      behind_is = ap (λ (l : List Made). l ++ on) five.0

      given_05 : seen.read_from d.link (whole rest) 0x05 ≡ was ∷ []
      given_05 =
          given_behind d.link 0x50 0x05 2 first (of d.link 0x59 1 second ∷ rest) refl
          ∙ given_behind d.link 0x59 0x05 1 second rest refl
          ∙ ap (first_of address 0x05) (reads_append check written (got ++ on))
          ∙ six.1 address 0x05 (registers_read check (got ++ on)) refl
          ∙ ap (λ (l : List Made). seen.read_from d.link l 0x05) behind_is
          ∙ given_here d.link 0x05 1 byte on
          ∙ one_byte byte five.1

      writes_are : registers_written check (whole rest) ≡ access address 0x06 p.regs ∷ access address 0x05 (bit_or was 64 ∷ []) ∷ []
      writes_are =
          unsent check address 0x50 _ first (of d.link 0x59 1 second ∷ rest)
          ∙ unsent check address 0x59 _ second rest
          ∙ writes_append check written (got ++ on)
          ∙ ap₂ (λ (x y : List Access). x ++ y) six.0
          (ap (registers_written check) behind_is ∙ unsent check address 0x05 _ byte on ∙ set.0)

      byte_bytes : AllBytes rest → Bytes byte
      byte_bytes ok =
          data_bytes check address byte
          (subst AllBytes behind_is (behind_bytes written (got ++ on) ok)).0

      all_set : AllBytes (whole rest) → SetAsAsked d.link config (whole rest) p.values
      all_set ok =
          let small = offset_range (get_or first 1 0) (get_d_byte first 1 (data_bytes check address first ok.0)) in
          record {
            adc = adc;
            calibrated = read_in d.link first second two one rest;
            was = was;
            read_05 = given_05;
            six = p.regs;
            all_six = plan_six adc.gain adc.offset config _ _ p e;
            now = bit_or was 64;
            written = writes_are;
            as_asked_is = as_asked_is adc.gain adc.offset config g gained small e;
            counter = counter_on was (get_d_byte byte 0 (byte_bytes ok.1.1));
          }

      pub set_up_is : (x : BQ769x0) → Holds (leaves (value p.values) x) rest
      set_up_is x ok = record {
        accepted = λ v q. subst (SetAsAsked d.link config (whole rest)) (same_value q) (all_set ok);
        refused = sym (by_plan rest ∙ fit);
      }

  -- ---- the stages
  protect_seen : throughout Holds (protect config steps d')
  unfolding protect start_counter throughout
  protect_seen =
      let link = d.link in
      throughout_pure Holds plan (leaving d') _ unplanned λ p e.
      let some : 1 ≤ length p.regs = omega (arith, plan_six _ _ config _ _ p e) in
      let d'' = with_shunt d' config.shunt in
      throughout_call Holds (WriteSeen link 0x06 p.regs) (write_raw link 0x06 p.regs) (leaving d') _
      (write_seen link 0x06 p.regs some)
      (λ r h q. later p e d' r h q.2) λ x h q.
      throughout_call (λ left k. Holds left (h ++ k)) (ReadSeen link.check link.address 0x05 1) (read_bytes link 0x05 1) (leaving d'') _
      (read_seen link 0x05 1 (omega arith))
      (λ r k t. later p e d'' r (h ++ k) t.1) λ byte k t.
      let on = bit_or (get_or byte 0 0) 64 ∷ [] in
      throughout_call (λ left l. Holds left (h ++ (k ++ l))) (WriteSeen link 0x05 on) (write_raw link 0x05 on) (leaving d'') _
      (write_seen link 0x05 on (omega arith))
      (λ r l u. later p e d'' r (h ++ (k ++ l)) u.2) λ y l u.
      subst (λ (m : List Made). Holds (leaves (value p.values) d'') (h ++ (k ++ m))) (sym (append-nil l))
      (set_up_is p e byte h k l q t u d'')

-- ---- `init`
module _ (d : BQ769x0) (config : Config) where
  abbrev pub Holds-all : Left Values → List Made → Type 0
  Holds-all left h = AllBytes h → Demand2 d.link config h left.answer

  onward_seen : (steps : InMv) → Given config steps → (left : Left Done) (h : List Made) → Calibrates d left h
      → throughout (λ x k. Holds-all x (h ++ k)) (onward (protect config steps) left)
  unfolding onward onward_by throughout
  onward_seen steps g left h (both_read first second two one) = protect_seen d config steps g first second two one
  onward_seen steps g left h (not_read r h' q e) =
      λ ok. unread d.link config r (h ++ []) q (ap (λ (l : List Made). seen.read_from d.link l 0x59) (append-nil h) ∙ e)

  pub init_seen : throughout Holds-all (init_by steps_for d config)
  unfolding init_by soundly throughout registers_read
  init_seen =
      throughout_if Holds-all (not (is_sound d)) _ _ (λ e ok. unread d.link config nine [] refl refl)
      (λ e. throughout_pure Holds-all (steps_for config) (leaving d) _
      (λ r q ok. unread d.link config r [] (steps_refused config r q) refl) λ steps q.
      throughout_bind (onward (protect config steps)) (calibrate d) Holds-all (Calibrates d) (calibrate_seen d)
      (onward_seen steps (steps_given config q)))
