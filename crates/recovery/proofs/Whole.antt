-- An `init` on a whole wire, in full: what it answers, the record and the chip.
-- Assumes nothing.
use mathlib.Core.Path.{◌≡◌, refl, sym, ap, ◌∙◌}
use mathlib.Core.Bool.{true}
use mathlib.Core.List.{List, [], ◌∷◌}
use Prim.Native.Nat.{ℕ, ◌+◌, ◌*◌, ◌≤◌, ◌<◌}
use native.Mathlib.Omega.{arith}
use lib.Bits.{bit_or}
use lib.ListN.{length, get_or}
use lib.Seq.{take_all}
use Rattle.refusals.specs.Refusal.{Refusal, Answer, value, refused}
use Rattle.frames.specs.Put.{put}
use Rattle.frames.proofs.Put.{length_put}
use Rattle.plan.specs.Steps.{InMv}
use Rattle.plan.specs.Plan.{Values, Planned, plan_for}
use Rattle.plan.specs.declared.Config.{Config}
use Rattle.plan.proofs.Six.{plan_six}
use Rattle.bus.specs.Programs.{Prog, ◌or_leave◌, ◌>>=◌}
use Rattle.bus.specs.Raw.{Done, sound, read_bytes, write_raw}
use Rattle.bus.specs.declared.link.Link.{Link}
use Rattle.bq769x0.specs.Record.{Left, leaves, leaving, is_sound, with_calibration}
use Rattle.bq769x0.specs.Registers.{soundly}
use Rattle.procedure.specs.Calibrate.{calibrate}
use Rattle.procedure.specs.Init.{onward, onward_by, start_counter, protect, init_by}
use Rattle.bq769x0.specs.declared.BQ769x0.{BQ769x0}
use Rattle.bq769x0.proofs.Speaks.{link_sound, some_inputs}
use Rattle.chip.specs.Devices.{Reached, reached, on_device}
use Rattle.chip.specs.Chip.{with_regs, held}
use Rattle.chip.specs.OnChip.{Matches, Wired, uncut, on_wire, on_chip}
use Rattle.chip.specs.declared.Chip.{Chip}
use Rattle.chip.proofs.Devices.{device_bind, went_on, pure_on, pure_off}
use Rattle.chip.proofs.Uncut.{read_uncut, write_uncut}
use Rattle.recovery.specs.Recovery.{calibration_of, plan_on, counted, regs_left}
use Rattle.recovery.proofs.Calibrated.{calibrate_whole}
use Rattle.recovery.proofs.Forms.{put_one}
use Rattle.recovery.proofs.Left.{set_up, planned}

-- a refused choice; a refused plan, of which the calibration is kept; and the six bytes, 05 and the mark
abbrev pub ends : Config → BQ769x0 → Chip → Answer InMv → Answer Planned → Reached Wired (Left Values)
ends config d c (refused r) y = reached (leaving d r) (uncut c)
ends config d c (value steps) (refused r) = reached (leaving (with_calibration d (calibration_of c)) r) (uncut c)
ends config d c (value steps) (value plan) =
    reached (leaves (value plan.values) (set_up config d c))
    (uncut (with_regs c (regs_left true 6 plan.regs c.regs)))

-- ---- a read and a write on a whole wire, and what follows
module _ (link : Link) (ok : sound link ≡ true) (c : Chip) (m : Matches link c) {B : Type 0} (leave : Refusal → B) where
  read_on : (f : List ℕ → Prog B) (reg n : ℕ) → reg + n ≤ 256 → 1 ≤ n → n ≤ 2 * link.x
      → on_chip ((read_bytes link reg n or_leave leave) >>= f) (uncut c) ≡ on_chip (f (held reg n c.regs)) (uncut c)
  read_on f reg n room few most =
      went_on on_wire (read_bytes link reg n) leave f (uncut c) (uncut c) _ (read_uncut link ok c m reg n room few most)

  write_on : (f : Done → Prog B) (reg : ℕ) (bytes : List ℕ)
      → 0 < reg → reg + length bytes ≤ 256 → 1 ≤ length bytes → length bytes ≤ 8
      → on_chip ((write_raw link reg bytes or_leave leave) >>= f) (uncut c)
      ≡ on_chip (f tt) (uncut (with_regs c (put c.regs reg bytes)))
  write_on f reg bytes other room few most =
      went_on on_wire (write_raw link reg bytes) leave f (uncut c) (uncut (with_regs c (put c.regs reg bytes))) tt
      (write_uncut link ok c m reg bytes other room few most)

-- ---- the stages
module _ (d : BQ769x0) (ok : sound d.link ≡ true) (two : 2 ≤ 2 * d.link.x) (c : Chip)
    (m : Matches d.link c) where
  start_counter_uncut : (values : Values) → on_chip (start_counter d values) (uncut c)
      ≡ reached (leaves (value values) d) (uncut (with_regs c (counted c.regs)))
  unfolding start_counter on_device held
  start_counter_uncut values =
      let byte = bit_or (get_or c.regs 5 0) 64 in
      read_on d.link ok c m _ _ 5 1 (omega arith) (omega arith) (omega arith)
      ∙ write_on d.link ok c m _ _ 5 (byte ∷ []) (omega arith) (omega arith) (omega arith) (omega arith)
      ∙ ap (λ (regs : List ℕ). reached (leaves (value values) d) (uncut (with_regs c regs)))
      (put_one c.regs 5 byte (omega (arith, m.size)))

module _ (choose : Config → Answer InMv) (config : Config) (d : BQ769x0) (c : Chip) (ok : is_sound d ≡ true)
    (m : Matches d.link c) where
  protect_uncut : (steps : InMv) (y : Answer Planned)
      → plan_for (calibration_of c).gain (calibration_of c).offset config steps.scd steps.ocd ≡ y
      → on_chip (protect config steps (with_calibration d (calibration_of c))) (uncut c) ≡ ends config d c (value steps) y
  unfolding protect
  protect_uncut steps (refused r) e = pure_off on_wire _ _ _ (uncut c) r e
  protect_uncut steps (value plan) e =
      let all = plan_six _ _ config _ _ plan e in
      let speaks = link_sound d ok in
      let inputs = some_inputs d ok in
      let d' = set_up config d c in
      let c' = with_regs c (put c.regs 6 plan.regs) in
      let size = length_put c.regs 6 plan.regs (omega (arith, m.size)) ∙ m.size in
      let m' : Matches d.link c' = record { address = m.address; check = m.check; size = size } in
      let left : List ℕ → Chip = λ v. with_regs c (counted (put c.regs 6 v)) in
      pure_on on_wire _ _ _ (uncut c) plan e
      ∙ write_on d.link speaks c m _ _ 6 plan.regs (omega arith) (omega arith) (omega arith) (omega arith)
      ∙ start_counter_uncut d' speaks (omega arith) c' m' plan.values
      ∙ ap (λ (v : List ℕ). reached (leaves (value plan.values) d') (uncut (left v)))
      (sym (take_all 6 plan.regs (omega arith)))

  by_choice : (y : Answer InMv) → choose config ≡ y
      → on_chip (init_by choose d config) (uncut c) ≡ ends config d c y (plan_on choose config c)
  unfolding init_by soundly onward onward_by
  by_choice (refused r) e = simp ok (pure_off on_wire (choose config) _ _ (uncut c) r e)
  by_choice (value steps) e =
      simp ok
      (pure_on on_wire (choose config) _ _ (uncut c) steps e
      ∙ device_bind on_wire (calibrate d) (onward (protect config steps)) (uncut c)
      ∙ ap (λ (r : Reached Wired (Left Done)). on_chip (onward (protect config steps) r.answer) r.device)
      (calibrate_whole d (link_sound d ok) (omega (arith, some_inputs d ok)) (uncut c) m refl refl)
      ∙ protect_uncut steps (plan_on choose config c) (sym (planned choose config c steps e _ refl)))

  pub whole : on_chip (init_by choose d config) (uncut c) ≡ ends config d c (choose config) (plan_on choose config c)
  whole = by_choice (choose config) refl
