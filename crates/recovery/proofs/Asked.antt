-- What an `init` asks for: it makes no transfer after a fault, its transfers fit their fields, and their log is at most
-- 52 bytes, 45 with checks.
-- Assumes nothing.
use mathlib.Core.Path.{◌≡◌, refl, subst}
use mathlib.Core.Bool.{Bool, true, false, not}
use mathlib.Core.List.{List, [], ◌∷◌}
use Prim.Native.Nat.{ℕ, ◌+◌, ◌≤◌}
use native.Mathlib.Omega.{arith}
use lib.Bits.{bit_or}
use lib.ListN.{length, get_or, length-append}
use Rattle.refusals.specs.Refusal.{Answer, value, refused}
use Rattle.plan.specs.Steps.{InMv}
use Rattle.plan.specs.Plan.{Values}
use Rattle.plan.specs.declared.Config.{Config}
use Rattle.plan.proofs.Six.{plan_six}
use Rattle.bus.specs.Transfers.{Transfer, Outcome}
use Rattle.bus.specs.Programs.{Prog, ret, ask, bind}
use Rattle.bus.specs.Raw.{read_bytes}
use Rattle.bq769x0.specs.Record.{Left, is_sound, with_shunt}
use Rattle.bq769x0.specs.Registers.{soundly}
use Rattle.procedure.specs.Calibrate.{calibrate}
use Rattle.procedure.specs.Init.{onward, onward_by, start_counter, protect, init_by}
use Rattle.bq769x0.specs.declared.BQ769x0.{BQ769x0}
use Rattle.bus.proofs.Always.{always, always_call}
use Rattle.chip.specs.Devices.{Reached, on_device, log_of}
use Rattle.chip.proofs.Asks.{asks_bind}
use Rattle.chip.proofs.Logs.{log_bind, write_log}
use Rattle.chip.proofs.Quits.{Over, over, Refuses, refuses_by, quits_bind}
use Rattle.runs.proofs.Fine.{Fine, fine_ret, fine_if, fine_call, fine_pure, fine_read, fine_write}
use Rattle.recovery.specs.Runs.{enough}

-- a call that leaves a record
abbrev pub LeftOff : {A : Type 0} → Left A → Type 0
LeftOff left = Refuses left.answer

-- what holds of a program's answer whatever its transfers give holds on every device
on_device_lem : {S A : Type 0} (move : S → Transfer → Reached S Outcome) (P : A → Type 0) (p : Prog A) → always P p → (s : S)
    → P (on_device move p s).answer
unfolding always on_device
on_device_lem move P (ret a) h s = h
on_device_lem move P (ask t k) h s = on_device_lem move P (k (move s t).answer) (h (move s t).answer) (move s t).device

-- a stage, and the next one on the record that it leaves, which has its check setting
module _ {A B : Type 0} (f : BQ769x0 → Prog (Left B)) (size : Bool → ℕ)
    (fine : (d : BQ769x0) → Fine LeftOff (size d.link.check) (f d)) where
  onward_off : (left : Left A) → LeftOff left → Over LeftOff (onward f left)
  unfolding onward onward_by
  onward_off left off = by left.answer off
    where
      by : (y : Answer A) → Refuses y → Over LeftOff (onward_by f left.device y)
      by y (refuses_by r) = over (refuses_by r)

  onward_fine : (left : Left A) → Fine LeftOff (size left.device.link.check) (onward f left)
  unfolding onward onward_by
  onward_fine left = by left.answer
    where
      by : (y : Answer A) → Fine LeftOff (size left.device.link.check) (onward_by f left.device y)
      by (value a) = fine left.device
      by (refused r) = fine_ret LeftOff _ _

  -- the log of the second stage, after the first on a device
  onward_log : {S : Type 0} (move : S → Transfer → Reached S Outcome) (check : Bool) (p : Prog (Left A))
      → always (λ left. left.device.link.check ≡ check) p → (s : S)
      → length (log_of move (onward f (on_device move p s).answer) (on_device move p s).device) ≤ size check
  onward_log move check p same s =
      let r = on_device move p s in
      subst (λ (c : Bool). length (log_of move (onward f r.answer) r.device) ≤ size c) (on_device_lem move _ p same s)
      ((onward_fine r.answer).logs.most move r.device)

  fine_stage : (m : ℕ) (check : Bool) {p : Prog (Left A)} → Fine LeftOff m p
      → always (λ left. left.device.link.check ≡ check) p
      → Fine LeftOff (m + size check) (bind p (onward f))
  fine_stage m check {p} h same = record {
    quits = quits_bind (onward f) h.quits (λ left. (onward_fine left).quits) onward_off;
    short = asks_bind (onward f) h.short (λ left. (onward_fine left).short);
    logs = record {
      most = λ move s.
          let rest = onward_log move check p same s in
          rw (log_bind move p (onward f) s, length-append) (omega (arith, h.logs.most move s));
    };
  }

-- ---- `init`
module _ (d : BQ769x0) where
  calibrate_fine : Fine LeftOff 14 (calibrate d)
  unfolding calibrate
  calibrate_fine =
      fine_call 7 7 _ _ (fine_read d.link 0x50 2) (λ first.
      fine_call 7 0 _ _ (fine_read d.link 0x59 1) (λ second. fine_ret LeftOff 0 _) refuses_by) refuses_by

  calibrate_check : always (λ left. left.device.link.check ≡ d.link.check) (calibrate d)
  unfolding calibrate always
  calibrate_check =
      always_call _ _ _ (λ r. refl) (read_bytes d.link 0x50 2) λ first.
      always_call _ _ _ (λ r. refl) (read_bytes d.link 0x59 1) λ second.
      refl

abbrev counter_log : Bool → ℕ
counter_log check = 7 + (write_log check 1 + 0)

start_counter_fine : (d : BQ769x0) (values : Values)
    → Fine LeftOff (counter_log d.link.check) (start_counter d values)
unfolding start_counter
start_counter_fine d values =
    fine_call 7 _ _ _ (fine_read d.link 5 1) (λ byte.
    let bytes : List ℕ = bit_or (get_or byte 0 0) 64 ∷ [] in
    fine_call (write_log d.link.check 1) 0 _ _ (fine_write d.link 5 1 bytes refl) (λ x. fine_ret LeftOff 0 _) refuses_by) refuses_by

abbrev protect_log : Bool → ℕ
protect_log check = write_log check 6 + counter_log check

protect_fine : (config : Config) (steps : InMv) (d : BQ769x0)
    → Fine LeftOff (protect_log d.link.check) (protect config steps d)
unfolding protect
protect_fine config steps d =
    fine_pure _ _ _ _ λ plan e.
    let six = plan_six _ _ config _ _ plan e in
    fine_call (write_log d.link.check 6) _ _ _ (fine_write d.link 6 6 plan.regs six)
    (λ x. start_counter_fine (with_shunt d config.shunt) plan.values) refuses_by

in_all : (check : Bool) → 14 + protect_log check ≡ enough check
in_all true = refl
in_all false = refl

pub init_fine : (choose : Config → Answer InMv) (config : Config) (d : BQ769x0)
    → Fine LeftOff (enough d.link.check) (init_by choose d config)
unfolding init_by soundly
init_fine choose config d =
    subst (λ (n : ℕ). Fine LeftOff n (init_by choose d config)) (in_all d.link.check)
    (fine_if _ (not (is_sound d)) (fine_ret LeftOff _ _)
    (fine_pure _ _ _ (choose config) λ steps e.
    fine_stage (protect config steps) protect_log (protect_fine config steps) 14 d.link.check
    (calibrate_fine d) (calibrate_check d)))

-- in either build
pub enough_most : (check : Bool) → enough check ≤ 52
enough_most true = omega arith
enough_most false = omega arith
