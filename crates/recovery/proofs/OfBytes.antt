-- A chip whose registers are bytes answers an `init` with a tape of bytes, wherever the wire is cut: so there is such a tape to hand to the
-- code. And its registers then are bytes.
-- Assumes nothing.
use mathlib.Core.Bool.{not}
use native.Mathlib.Omega.{arith}
use lib.Bits.{or_lt}
use lib.ListN.{get_or}
use Rattle.refusals.specs.Refusal.{Answer, value, refused}
use Rattle.check_byte.specs.CheckByte.{Bytes}
use Rattle.plan.specs.Steps.{InMv}
use Rattle.plan.specs.Plan.{Values}
use Rattle.plan.specs.declared.Config.{Config}
use Rattle.plan.proofs.Six.{plan_bytes}
use Rattle.bus.specs.Raw.{Done}
use Rattle.bq769x0.specs.Record.{Left, is_sound, with_shunt}
use Rattle.bq769x0.specs.Registers.{soundly}
use Rattle.procedure.specs.Calibrate.{calibrate}
use Rattle.procedure.specs.Init.{onward, onward_by, start_counter, protect, init_by}
use Rattle.bq769x0.specs.declared.BQ769x0.{BQ769x0}
use Rattle.chip.specs.Devices.{tape_of}
use Rattle.chip.specs.OnChip.{Wired, on_wire, on_chip}
use Rattle.chip.proofs.RegisterBytes.{get_d_byte}
use Rattle.chip.proofs.TapeBytes.{Sending, ends, tape_bytes, regs_bytes}
use Rattle.chip.proofs.TapeBytes.{sending_bind, sending_call, sending_pure, sending_if, sending_read, sending_write}

-- ---- `init` sends bytes where it is answered bytes
abbrev Any : {A : Type 0} → Left A → Type 0
Any left = Unit {0}

calibrate_sending : (d : BQ769x0) → Sending Any (calibrate d)
unfolding calibrate
calibrate_sending d =
    sending_call _ _ (λ r. tt) (sending_read d.link 0x50 2) λ first h.
    sending_call _ _ (λ r. tt) (sending_read d.link 0x59 1) λ second k.
    ends tt

start_counter_sending : (d : BQ769x0) (values : Values) → Sending Any (start_counter d values)
unfolding start_counter
start_counter_sending d values =
    sending_call _ _ (λ r. tt) (sending_read d.link 0x05 1) λ byte h.
    let one = or_lt 8 (get_or byte 0 0) 64 (get_d_byte byte 0 h) (omega arith) in
    sending_call _ _ (λ r. tt) (sending_write d.link 0x05 _ (omega arith) (one, tt)) λ x k.
    ends tt

protect_sending : (config : Config) (steps : InMv) (d : BQ769x0) → Sending Any (protect config steps d)
unfolding protect
protect_sending config steps d =
    sending_pure _ _ (λ r. tt) _ λ plan e.
    let six = plan_bytes _ _ config _ _ plan e in
    sending_call _ _ (λ r. tt) (sending_write d.link 0x06 plan.regs (omega arith) six) λ x k.
    start_counter_sending (with_shunt d config.shunt) plan.values

module _ (choose : Config → Answer InMv) (config : Config) (d : BQ769x0) where
  init_sending : Sending Any (init_by choose d config)
  unfolding init_by soundly onward onward_by
  init_sending =
      sending_if (not (is_sound d)) (ends tt)
      (sending_pure _ _ (λ r. tt) (choose config) λ steps e.
      sending_bind (onward (protect config steps)) (calibrate_sending d) λ left u.
      by steps left.device left.answer)
    where
      by : (steps : InMv) (d' : BQ769x0) (y : Answer Done) → Sending Any (onward_by (protect config steps) d' y)
      by steps d' (value x) = protect_sending config steps d'
      by steps d' (refused r) = ends tt

  pub tape_of_bytes : (w : Wired) → Bytes w.chip.regs → Bytes (tape_of on_wire (init_by choose d config) w)
  tape_of_bytes w h = tape_bytes init_sending w h

  pub regs_of_bytes : (w : Wired) → Bytes w.chip.regs → Bytes (on_chip (init_by choose d config) w).device.chip.regs
  regs_of_bytes w h = regs_bytes init_sending w h
