-- Demand 2 on the model chip, for every run of the code's `init` by its promise, on any wire: where it is accepted, the registers are as asked.
-- Assumes nothing.
use mathlib.Core.Path.{◌≡◌, refl, sym, ap, subst, subst₂, ◌∙◌}
use mathlib.Core.Bool.{Bool, true, false}
use mathlib.Core.List.{List}
use Prim.Native.Nat.{ℕ, ◌+◌, ◌≤◌, ◌<◌}
use native.Mathlib.Omega.{arith}
use lib.Bits.{bit_or}
use lib.ListN.{length, take, get_or, length-set}
use lib.Seq.{drop-set-lt, get_or-set_same, get_or-set_other, take_all}
use Rattle.check_byte.specs.CheckByte.{Bytes}
use Rattle.refusals.specs.Refusal.{Answer, value, refused, nine}
use Rattle.refusals.proofs.Values.{refused_not, same_value}
use Rattle.adc.proofs.Gain.{gain_range, offset_range}
use Rattle.frames.specs.Put.{put}
use Rattle.frames.proofs.Put.{length_put}
use Rattle.plan.specs.AsAsked.{AsAsked}
use Rattle.plan.specs.Order.{◌and_then◌}
use Rattle.plan.specs.Plan.{Values, Planned, plan_for}
use Rattle.plan.specs.Steps.{InMv, steps_for}
use Rattle.plan.specs.declared.Config.{Config}
use Rattle.plan.proofs.AsAsked.{steps_given, as_asked_is}
use Rattle.plan.proofs.Six.{plan_six}
use Rattle.bus.specs.Transfers.{bus_of}
use Rattle.bus.specs.Programs.{ran, on_tape}
use Rattle.bq769x0.specs.Record.{Left, leaving, is_sound}
use Rattle.bq769x0.specs.Registers.{soundly}
use Rattle.bq769x0.specs.declared.BQ769x0.{BQ769x0}
use Rattle.procedure.specs.Init.{init_by}
use Rattle.chip.specs.Chip.{with_regs, held}
use Rattle.chip.specs.Devices.{Reached, on_device}
use Rattle.chip.specs.OnChip.{Matches, Wired, uncut, on_chip}
use Rattle.chip.specs.declared.Chip.{Chip}
use Rattle.chip.proofs.FirstPart.{old_below, old_above}
use Rattle.chip.proofs.NotCut.{Alike, not_cut}
use Rattle.chip.proofs.Quits.{Refuses, refuses_by}
use Rattle.chip.proofs.RegisterBytes.{get_d_byte}
use Rattle.chip.proofs.Shows.{held_is, held_put}
use Rattle.recovery.specs.Recovery.{calibration_of, plan_on, counted}
use Rattle.runs.specs.Calls.{left_by}
use Rattle.runs.proofs.Calls as runs
use Rattle.recovery.specs.Runs.{Call, Run}
use Rattle.recovery.proofs.Asked.{init_fine}
use Rattle.recovery.proofs.Whole.{ends, whole}
use Rattle.as_asked.specs.Tables.{table05}
use Rattle.as_asked.specs.OnChip.{SetOnChip, SetOnEveryChip}
use Rattle.as_asked.proofs.Bytes.{counter_on}

-- ---- the registers with six new ones from 06 on, and bit 6 of 05 set
module _ (six regs : List ℕ) (size : length regs ≡ 256) (all : length six ≡ 6) where
  abbrev six_new : List ℕ
  six_new = put regs 6 six

  room : 6 + length six ≤ length regs
  room = omega arith

  abbrev left : List ℕ
  left = counted six_new

  left_size : length left ≡ 256
  left_size = length-set six_new 5 _ ∙ length_put regs 6 six room ∙ size

  held_six : held 0x06 6 left ≡ six
  held_six =
      let behind : 6 + 6 ≤ length six_new = omega (arith, length_put regs 6 six room) in
      held_is 6 6 left (omega (arith, left_size))
      ∙ ap (take 6) (drop-set-lt 6 six_new 5 _ (omega arith))
      ∙ sym (held_is 6 6 six_new behind)
      ∙ ap (λ (n : ℕ). held 6 n six_new) (sym all)
      ∙ held_put 6 six regs room

  reg_05 : get_or left 0x05 0 ≡ bit_or (get_or regs 0x05 0) 64
  reg_05 =
      get_or-set_same six_new 5 _ 0 (omega (arith, length_put regs 6 six room))
      ∙ ap (λ (x : ℕ). bit_or x 64) (old_below regs 6 six room 5 (omega arith))

  below_05 : (i : ℕ) → i < 0x05 → get_or left i 0 ≡ get_or regs i 0
  below_05 i h = get_or-set_other six_new 5 i _ 0 (λ e. omega arith) ∙ old_below regs 6 six room i (omega arith)

  above_0b : (i : ℕ) → 0x0B < i → get_or left i 0 ≡ get_or regs i 0
  above_0b i h = get_or-set_other six_new 5 i _ 0 (λ e. omega arith) ∙ old_above regs 6 six room i (omega arith)

unsound : (d : BQ769x0) (config : Config) (w : Wired) → is_sound d ≡ false
    → (on_chip (init_by steps_for d config) w).answer ≡ leaving d nine
unfolding init_by soundly on_device
unsound d config w e = rw e

-- ---- a run that is accepted
module _ (config : Config) (d : BQ769x0) {w : Wired} {call : Call} (run : Run steps_for config d w call) (m : Matches d.link w.chip)
    (bytes : Bytes w.chip.regs) (v : Values) (accepted : call.gave.answer ≡ value v) where
  abbrev c : Chip
  c = w.chip

  abbrev p : Reached Wired (Left Values)
  p = on_chip (init_by steps_for d config) (uncut c)

  answered : (on_chip (init_by steps_for d config) w).answer.answer ≡ value v
  answered = sym (ap (λ (l : Left Values). l.answer) (runs.gave_is (init_fine steps_for config d) run)) ∙ accepted

  -- the record is sound, or it would be 9
  sound : is_sound d ≡ true
  sound = by (is_sound d) refl
    where
      by : (t : Bool) → is_sound d ≡ t → is_sound d ≡ true
      by true e = e
      by false e = refused_not (sym (ap (λ (l : Left Values). l.answer) (unsound d config w e)) ∙ answered)

  not_off : (y : Answer Values) → Refuses y → y ≡ value v → ⊥
  not_off y (refuses_by r) e = refused_not e

  same : Alike (init_by steps_for d config) w
  same = not_cut (init_fine steps_for config d).quits w (λ off. not_off _ off answered)

  module _ (steps : InMv) (e : steps_for config ≡ value steps) (plan : Planned) (q : plan_on steps_for config c ≡ value plan) where
    planned : plan_for (calibration_of c).gain (calibration_of c).offset config steps.scd steps.ocd ≡ value plan
    unfolding plan_on ◌and_then◌
    planned = rw e at q

    all : length plan.regs ≡ 6
    all = plan_six _ _ config _ _ plan planned

    abbrev after : Chip
    after = with_regs c (left plan.regs c.regs m.size all)

    is_set : SetOnChip config plan.values c after
    is_set =
        let adc = calibration_of c in
        let gained = (gain_range (get_or c.regs 0x50 0) (get_or c.regs 0x59 0)).0 in
        let small = offset_range (get_or c.regs 0x51 0) (get_d_byte c.regs 0x51 bytes) in
        record {
          as_asked_is =
              subst (λ (l : List ℕ). AsAsked adc.gain adc.offset config l plan.values)
              (sym (held_six plan.regs c.regs m.size all))
              (as_asked_is adc.gain adc.offset config (steps_given config e) gained small planned);
          counter =
              ap table05 (reg_05 plan.regs c.regs m.size all)
              ∙ counter_on (get_or c.regs 0x05 0) (get_d_byte c.regs 0x05 bytes);
          below = below_05 plan.regs c.regs m.size all;
          above = above_0b plan.regs c.regs m.size all;
        }

  chip_is : left_by w call ≡ p.device.chip
  chip_is = runs.chip_is (init_fine steps_for config d) run ∙ same.chip

  by_plan : (y : Answer InMv) → steps_for config ≡ y → (z : Answer Planned) → plan_on steps_for config c ≡ z
      → p ≡ ends config d c y z → value v ≡ p.answer.answer → SetOnChip config v c (left_by w call)
  by_plan (refused r) e z q is told = refused_not (sym (told ∙ ap (λ (r : Reached Wired (Left Values)). r.answer.answer) is))
  by_plan (value steps) e (refused r) q is told =
      refused_not (sym (told ∙ ap (λ (r : Reached Wired (Left Values)). r.answer.answer) is))
  by_plan (value steps) e (value plan) q is told =
      let values = same_value (told ∙ ap (λ (r : Reached Wired (Left Values)). r.answer.answer) is) in
      let chip =
      chip_is ∙ ap (λ (r : Reached Wired (Left Values)). r.device.chip) is
      ∙ ap (λ (l : List ℕ). with_regs c (counted (put c.regs 6 l))) (take_all 6 plan.regs (omega (arith, all steps e plan q))) in
      subst₂ (λ (u : Values) (x : Chip). SetOnChip config u c x) (sym values) (sym chip) (is_set steps e plan q)

  pub set_on_chip : SetOnChip config v c (left_by w call)
  set_on_chip =
      by_plan (steps_for config) refl (plan_on steps_for config c) refl (whole steps_for config d c sound m)
      (sym answered ∙ ap (λ (l : Left Values). l.answer) same.answer)

-- so of a call that kept its promise
module _ (d : BQ769x0) (config : Config) (call : Call) where
  pub on_every_chip : ran call.gave call.tape call.log' call.at'
      ≡ on_tape (init_by steps_for d config) (bus_of call.tape call.log call.at)
      → SetOnEveryChip config d call
  on_every_chip promise w rest v m bytes answers room accepted =
      set_on_chip config d {call = call} (record { rest = rest; answers = answers; room = room; promise = promise }) m bytes v accepted
