-- Demand 3 proved, for every outcome that keeps `init`'s promise: each call by its log, runs of any number, and one call among them.
-- Assumes nothing.
use mathlib.Core.Path.{◌≡◌, refl, sym, ap, subst, subst₂, ◌∙◌}
use mathlib.Core.Bool.{true, false}
use mathlib.Core.Option.{Option}
use Prim.Native.Nat.{ℕ}
use Rattle.refusals.specs.Refusal.{Refusal, Answer, value, refused, nine}
use Rattle.check_byte.specs.CheckByte.{Bytes}
use Rattle.plan.specs.Steps.{InMv, steps_for}
use Rattle.plan.specs.Plan.{Values, Planned}
use Rattle.plan.specs.declared.Config.{Config}
use Rattle.bus.specs.Transfers.{bus_of}
use Rattle.bus.specs.Programs.{Ran, ran, on_tape}
use Rattle.bq769x0.specs.Record.{Left, leaving, is_sound}
use Rattle.bq769x0.specs.Registers.{soundly}
use Rattle.bq769x0.specs.declared.BQ769x0.{BQ769x0}
use Rattle.procedure.specs.Init.{init_by}
use Rattle.procedure.proofs.Sound.{init_sound}
use Rattle.chip.specs.Devices.{Reached, reached, on_device}
use Rattle.chip.specs.OnChip.{Matches, Wired, uncut, on_chip}
use Rattle.chip.specs.declared.Chip.{Chip}
use Rattle.chip.proofs.InStep.{InStep}
use Rattle.runs.specs.Calls.{on, left_by}
use Rattle.runs.proofs.Calls.{gave_is, chip_is, by_log, alike}
use Rattle.runs.proofs.Fine.{Fine}
use Rattle.recovery.specs.Recovery.{plan_on, Leaves}
use Rattle.recovery.specs.Runs.{enough, Call, Run, Runs, none_yet, one_more, lost, new_of}
use Rattle.recovery.specs.Demand3.{AsAtFirst, Refuses, Recovers, Survives, Demand3}
use Rattle.recovery.proofs.Again.{anew, stays_refused, again}
use Rattle.recovery.proofs.Asked.{LeftOff, init_fine}
use Rattle.recovery.proofs.Cut.{stays}
use Rattle.recovery.proofs.Left.{at_first, begun_again, all_new}
use Rattle.recovery.proofs.OfBytes.{regs_of_bytes}
use Rattle.recovery.proofs.SameLog.{in_step}

-- ---- one run, by what its program comes to on the chip
module _ (choose : Config → Answer InMv) (config : Config) (d : BQ769x0) {w : Wired} {call : Call} (run : Run choose config d w call)
    {r : Reached Wired (Left Values)} (e : on_chip (init_by choose d config) w ≡ r) where
  abbrev fine : Fine LeftOff (enough d.link.check) (init_by choose d config)
  fine = init_fine choose config d

  gives : call.gave ≡ r.answer
  gives = gave_is fine run ∙ ap (λ (x : Reached Wired (Left Values)). x.answer) e

  pub answer_is : call.gave.answer ≡ r.answer.answer
  answer_is = ap (λ (l : Left Values). l.answer) gives

  pub device_is : call.gave.device ≡ r.answer.device
  device_is = ap (λ (l : Left Values). l.device) gives

  pub left_is : left_by w call ≡ r.device.chip
  left_is = chip_is fine run ∙ ap (λ (x : Reached Wired (Left Values)). x.device.chip) e

-- 9, and nothing else
idle : (choose : Config → Answer InMv) (config : Config) (d : BQ769x0) (w : Wired) → is_sound d ≡ false
    → on_chip (init_by choose d config) w ≡ reached (leaving d nine) w
unfolding init_by soundly on_device
idle choose config d w e = rw e refl

-- ---- any number of them
module _ {choose : Config → Answer InMv} {config : Config} {c : Chip} where
  matches : {d d' : BQ769x0} {c' : Chip} → Runs choose config c d d' c' → Matches d.link c
  matches (none_yet m) = m
  matches (one_more runs cuts call run) = matches runs
  matches (lost runs e m) = m

  left_then : {d d' : BQ769x0} {c' : Chip} (runs : Runs choose config c d d' c') → Leaves choose config d c (new_of runs) d' c'
  unfolding new_of
  left_then (none_yet m) = at_first
  left_then (one_more {d = d} {d' = d'} {c' = c'} runs cuts call run) =
      subst₂ (Leaves choose config d c (new_of (one_more runs cuts call run)))
      (sym (device_is choose config d' run refl)) (sym (left_is choose config d' run refl))
      (stays choose config d c (matches runs) (new_of runs) d' (on c' cuts) (left_then runs))
  left_then (lost runs e m) = begun_again (left_then runs) e

  sound_then : {d d' : BQ769x0} {c' : Chip} → Runs choose config c d d' c' → is_sound d ≡ true → is_sound d' ≡ true
  sound_then (none_yet m) ok = ok
  sound_then (one_more {d' = d'} runs cuts call run) ok =
      ap (λ (r : Ran (Left Values)). is_sound r.answer.device) run.promise
      ∙ init_sound choose d' config (bus_of call.tape call.log call.at) (sound_then runs ok)
  sound_then (lost runs e m) ok = ok

  bytes_then : {d d' : BQ769x0} {c' : Chip} → Runs choose config c d d' c' → Bytes c.regs → Bytes c'.regs
  bytes_then (none_yet m) h = h
  bytes_then (one_more {d' = d'} {c' = c'} runs cuts call run) h =
      subst (λ (x : Chip). Bytes x.regs) (sym (left_is choose config d' run refl))
      (regs_of_bytes choose config d' (on c' cuts) (bytes_then runs h))
  bytes_then (lost runs e m) h = bytes_then runs h

  module _ {d d' : BQ769x0} {c' : Chip} (runs : Runs choose config c d d' c') where
    in_step_then : is_sound d ≡ true → (other : Config)
        → InStep (init_by choose d' other) (uncut c') (init_by choose d other) (uncut c)
    in_step_then ok other = in_step choose config d c (matches runs) (left_then runs) ok (sound_then runs ok) other

    same_again : AsAtFirst runs config
    same_again ok second first x y =
        alike (init_fine choose config d') (init_fine choose config d) x y
        (again choose config d c (matches runs) (left_then runs) ok (sound_then runs ok)) (in_step_then ok config)

    other_anew : (other : Config) (plan : Planned) → plan_on choose other c ≡ value plan → AsAtFirst runs other
    other_anew other plan accepted ok second first x y =
        alike (init_fine choose other d') (init_fine choose other d) x y
        (anew choose config d c (matches runs) (left_then runs) ok (sound_then runs ok) other plan accepted) (in_step_then ok other)

    other_refused : is_sound d ≡ true → (other : Config) (r : Refusal) → plan_on choose other c ≡ refused r
        → (call : Call) → Run choose other d' (uncut c') call → Refuses runs other r call
    other_refused ok other r e call run =
        let same = stays_refused choose config d c (matches runs) (left_then runs) ok (sound_then runs ok) other r e in
        record {
          answer = answer_is choose other d' run same;
          device = device_is choose other d' run same;
          chip = left_is choose other d' run same;
        }

    pub recovers : Recovers runs
    recovers = record {
      left = left_then runs;
      only_marked = λ new e. all_new new (left_then runs).recorded e;
      bytes = bytes_then runs;
      again = same_again;
      anew = other_anew;
      refuses = other_refused;
    }

-- ---- one call, whatever came before it
survives : {config : Config} {d : BQ769x0} {c : Chip} {cuts : ℕ → Option ℕ} {call : Call} → Run steps_for config d (on c cuts) call
    → Survives config d call c cuts
survives {config = config} {d = d} {c = c} {cuts = cuts} {call = call} run = record {
  run = run;
  by_log = by_log (init_fine steps_for config d) run;
  unsound = λ e.
      let nothing = idle steps_for config d (on c cuts) e in
      (device_is steps_for config d run nothing, left_is steps_for config d run nothing);
  recovers = λ runs. recovers (one_more runs cuts call run);
}

-- so a call that keeps `init`'s promise
pub demand_3 : {config : Config} {d : BQ769x0} {call : Call}
    → ran call.gave call.tape call.log' call.at' ≡ on_tape (init_by steps_for d config) (bus_of call.tape call.log call.at)
    → Demand3 config d call
demand_3 promise c cuts rest answers room = survives (record { rest = rest; answers = answers; room = room; promise = promise })
