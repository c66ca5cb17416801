-- An `init` on any wire, from the chip and record that earlier ones have left, leaves again what a cut one leaves; and it brings as many
-- of the six bytes as the cut and the build give.
-- Assumes nothing.
use mathlib.Core.Path.{◌≡◌, refl, sym, ap, subst, ◌∙◌}
use mathlib.Core.Bool.{Bool, true, false, not, ◌&&◌}
use mathlib.Core.List.{List, [], ◌∷◌}
use mathlib.Core.Option.{Option}
use Prim.Native.Nat.{ℕ, zero, suc, ◌≤◌, ◌<◌, max}
use native.Mathlib.Omega.{arith}
use lib.Bits.{bit_or}
use lib.ListN.{length, take, get_or}
use Rattle.refusals.specs.Refusal.{Answer, value, refused, nine, number_of}
use Rattle.adc.specs.declared.transfer.AdcTransferFunction.{AdcTransferFunction}
use Rattle.frames.specs.Put.{put}
use Rattle.frames.proofs.Put.{put_none}
use Rattle.plan.specs.Steps.{InMv}
use Rattle.plan.specs.Plan.{Values}
use Rattle.plan.specs.declared.Config.{Config}
use Rattle.laws.specs.Choice.{when◌then◌else◌}
use Rattle.bus.specs.Programs.{ret}
use Rattle.bus.specs.Raw.{Done, sound, read_bytes, write_raw}
use Rattle.bus.specs.declared.link.Link.{Link}
use Rattle.bq769x0.specs.Record.{Left, leaves, leaving, accepts, is_sound, with_calibration, with_shunt}
use Rattle.bq769x0.specs.Registers.{soundly}
use Rattle.procedure.specs.Calibrate.{calibrate}
use Rattle.procedure.specs.Init as procedure
use Rattle.procedure.specs.Init.{onward, onward_by, start_counter, protect, init_by}
use Rattle.bq769x0.specs.declared.BQ769x0.{BQ769x0}
use Rattle.bq769x0.proofs.Speaks.{link_sound, some_inputs}
use Rattle.chip.specs.Devices.{Reached, on_device}
use Rattle.chip.specs.Chip.{with_regs, new_bytes, held}
use Rattle.chip.specs.OnChip.{Matches, Wired, on_wire, on_chip}
use Rattle.chip.specs.declared.Chip.{Chip}
use Rattle.chip.proofs.Devices.{device_bind}
use Rattle.chip.proofs.FirstPart.{new_few}
use Rattle.chip.proofs.Wires.{read_any, write_any, through, through_ret}
use Rattle.recovery.specs.Recovery.{calibration_of, bytes_of, six, chip_left, is_whole, brought, marked, Leaves}
use Rattle.recovery.proofs.Calibrated.{read_twice, Calibrated, broken, reads, calibrate_any}
use Rattle.recovery.proofs.Forms.{put_one}
use Rattle.recovery.proofs.Left.{set_up, planned, unplanned, six_all, counted_left, same_link, marks, recalibrated}
use Rattle.recovery.proofs.Left.{matches_left, same_calibration, more_left, more_new}

module _ (choose : Config → Answer InMv) (config : Config) (d : BQ769x0) (c : Chip) (m : Matches d.link c) where
  abbrev six' : List ℕ
  six' = six choose config c

  abbrev Now : ℕ → BQ769x0 → Chip → Type 0
  Now = Leaves choose config d c

  abbrev Kept : ℕ → Reached Wired (Left Values) → Type 0
  Kept n r = Now n r.answer.device r.device.chip

  kept_ret : (n : ℕ) (a : Answer Values) (d' : BQ769x0) (w : Wired) → Now n d' w.chip → Kept n (on_chip (ret (leaves a d')) w)
  unfolding on_device
  kept_ret n a d' w h = h

  -- none more
  same_new : (n k : ℕ) → k ≡ 0 → {d' : BQ769x0} {c' : Chip} → Now n d' c' → Now (max n k) d' c'
  same_new n k e {d'} {c'} l = let most : n ≡ max n k = omega arith in subst (λ (j : ℕ). Now j d' c') most l

  none_new : (check : Bool) (cut : Option ℕ) → six' ≡ [] → new_bytes check cut six' ≡ 0
  none_new check cut e = omega (arith, new_few check cut six', ap length e)

  -- ---- 05, once the six bytes are new
  module _ (speaks : sound d.link ≡ true) (inputs : 5 ≤ d.link.x) (all : length six' ≡ 6) where
    abbrev done : BQ769x0
    done = set_up config d c

    six_new : (on : Bool) {c' : Chip} → c' ≡ chip_left choose config c on 6 → Now 6 done c'
    six_new on e = record { few = omega arith; on = on; last = λ q. refl; chip = e; recorded = marked refl }

    counted_part : (k : ℕ) → k ≤ 1 → (on : Bool) (c' : Chip) → c' ≡ chip_left choose config c on 6 → (byte : List ℕ)
        → byte ≡ held 5 1 c'.regs
        → Now 6 done (with_regs c' (put c'.regs 5 (take k (bit_or (get_or byte 0 0) 64 ∷ []))))
    unfolding held
    counted_part zero h on c' e byte q = six_new on (ap (with_regs c') (put_none c'.regs 5) ∙ e)
    counted_part (suc zero) h on c' e byte q =
        let long : 5 < length c'.regs = omega (arith, (matches_left (six_new on e) m).size) in
        six_new true
        (ap (λ (v : List ℕ). with_regs c' (put c'.regs 5 (bit_or (get_or v 0 0) 64 ∷ []))) q
        ∙ ap (with_regs c') (put_one c'.regs 5 _ long)
        ∙ counted_left choose config c m.size on 6 e)
    counted_part (suc (suc k)) h on c' e byte q = absurd (omega arith)

    start_counter_leaves : (values : Values) (on : Bool) (w : Wired) → w.chip ≡ chip_left choose config c on 6
        → Kept 6 (on_chip (start_counter done values) w)
    unfolding start_counter
    start_counter_leaves values on w e =
        let s = d.link in
        let read = read_any s speaks w (matches_left (six_new on e) m) 5 1 (omega arith) (omega arith) (omega arith) in
        let e' = read.0 ∙ e in
        let m' = matches_left (six_new on e') m in
        through (Kept 6) _ _ (read_bytes s 5 1) w (λ r q. six_new on e') λ byte q.
        let w' = (on_chip (read_bytes s 5 1) w).device in
        let bytes : List ℕ = bit_or (get_or byte 0 0) 64 ∷ [] in
        let write = write_any s speaks w' m' 5 bytes (omega arith) (omega arith) (omega arith) (omega arith) in
        let k = new_bytes s.check (w'.cuts 0) bytes in
        let same = read.1 byte q ∙ ap (λ (x : Chip). held 5 1 x.regs) (sym read.0) in
        let after =
        subst (Now 6 done) (sym write.0)
        (counted_part k (new_few s.check (w'.cuts 0) bytes) on w'.chip e' byte same) in
        through (Kept 6) _ _ (write_raw s 5 bytes) w' (λ r p. after) (λ x p. kept_ret 6 (value values) done _ after)

  -- ---- for a record that was left, on a chip that was left
  module _ (n : ℕ) (d' : BQ769x0) where
    -- ---- the six bytes
    module _ (speaks : sound d.link ≡ true) (inputs : 5 ≤ d.link.x) (steps : InMv) (chosen : choose config ≡ value steps) (w : Wired)
        (before : Now n d' w.chip) where
      abbrev d'' : BQ769x0
      d'' = with_calibration d' (calibration_of c)

      l : Now n d'' w.chip
      l = recalibrated before (ap accepts chosen)

      abbrev check : Bool
      check = d'.link.check

      protect_leaves : Kept (max n (new_bytes check (w.cuts 0) six')) (on_chip (protect config steps d'') w)
      unfolding protect
      protect_leaves =
          through_ret (Kept (max n (new_bytes check (w.cuts 0) six'))) _ _ _ w
          (λ r q. same_new n _ (none_new check (w.cuts 0) (ap bytes_of (planned choose config c steps chosen (refused r) q))) l)
          λ plan q.
          let is = planned choose config c steps chosen (value plan) q in
          let bytes = ap bytes_of is in
          let all = six_all choose config c plan is in
          let s = d''.link in
          let speaks' = ap sound (same_link l.recorded) ∙ speaks in
          let write =
          write_any s speaks' w (matches_left l m) 6 plan.regs (omega arith) (omega arith) (omega arith) (omega arith) in
          let new : List ℕ → ℕ = λ v. new_bytes check (w.cuts 0) v in
          let part : List ℕ → Chip = λ v. with_regs w.chip (put w.chip.regs 6 (take (new v) v)) in
          let some = new_few check (w.cuts 0) six' in
          let written = write.0 ∙ ap part (sym bytes) in
          let after = subst (Now (max n (new six')) d'') (sym written) (more_new l m (new six') some) in
          let w' = (on_chip (write_raw s 6 plan.regs) w).device in
          through (Kept (max n (new six'))) _ _ (write_raw s 6 plan.regs) w (λ r p. after) λ x p.
          let whole : max n (new six') ≡ 6 = omega (arith, ap new bytes ∙ write.1 (ap number_of p), all, l.few, ap length bytes) in
          subst (λ (k : ℕ). Kept k (on_chip (start_counter (with_shunt d'' config.shunt) plan.values) w')) (sym whole)
          (subst (λ (f : BQ769x0). Kept 6 (on_chip (start_counter f plan.values) w')) (sym (marks config before.recorded))
          (start_counter_leaves speaks inputs (ap length bytes ∙ all) plan.values l.on w'
          (written ∙ more_left l m (new six') some ∙ ap (chip_left choose config c l.on) whole)))

    module _ (w : Wired) (before : Now n d' w.chip) where
      abbrev bring : Bool → ℕ
      bring whole = when whole then new_bytes d'.link.check (w.cuts 2) six' else 0

      none_brought : (whole : Bool) → six' ≡ [] → bring whole ≡ 0
      none_brought true e = none_new d'.link.check (w.cuts 2) e
      none_brought false e = refl

      -- ---- one after the other
      onward_leaves : sound d.link ≡ true → 5 ≤ d.link.x → (steps : InMv) → choose config ≡ value steps
          → (whole : Bool) (r : Reached Wired (Left Done)) → Calibrated d' w whole r
          → Kept (max n (bring whole)) (on_chip (onward (protect config steps) r.answer) r.device)
      unfolding onward onward_by
      onward_leaves speaks inputs steps e whole r (broken q w' same) =
          kept_ret (max n 0) (refused q) d' w' (same_new n 0 refl (subst (Now n d') (sym same) before))
      onward_leaves speaks inputs steps e whole r reads =
          subst (λ (adc : AdcTransferFunction). Kept (max n (bring true)) (on_chip (protect config steps (with_calibration d' adc)) (read_twice w)))
          (sym (same_calibration before m))
          (protect_leaves speaks inputs steps e (read_twice w) before)

      by_soundness : (t : Bool) → is_sound d' ≡ t
          → Kept (max n (when t && (is_whole (w.cuts 0) && is_whole (w.cuts 1)) then new_bytes d'.link.check (w.cuts 2) six' else 0))
          (on_chip (when not t then ret (leaving d' nine) else procedure.set_up choose d' config) w)
      by_soundness false e = kept_ret (max n 0) (refused nine) d' w (same_new n 0 refl before)
      by_soundness true e =
          let whole = is_whole (w.cuts 0) && is_whole (w.cuts 1) in
          let same = same_link before.recorded in
          let speaks = link_sound d' e in
          let inputs = some_inputs d' e in
          through_ret (Kept (max n (bring whole))) _ _ (choose config) w
          (λ r q. same_new n _ (none_brought whole (ap bytes_of (unplanned choose config c r q))) before)
          λ steps q.
          subst (Kept (max n (bring whole))) (sym (device_bind on_wire (calibrate d') (onward (protect config steps)) w))
          (onward_leaves (ap sound (sym same) ∙ speaks) (omega (arith, ap (λ (s : Link). s.x) same)) steps q whole _
          (calibrate_any d' speaks (omega arith) w (matches_left before m)))

      pub stays : Kept (max n (brought d' w.cuts six')) (on_chip (init_by choose d' config) w)
      unfolding init_by soundly
      stays = by_soundness (is_sound d') refl
