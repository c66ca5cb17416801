-- Demand 3 for C proved, for every outcome that keeps the promise of `bq769x0_init`.
-- Assumes nothing.
use mathlib.Core.Path.{◌≡◌, refl, sym, ap, subst, subst₂, ◌∙◌}
use mathlib.Core.Bool.{Bool, true, false}
use mathlib.Core.List.{List, []}
use mathlib.Core.Option.{Option}
use Prim.Native.Nat.{ℕ, max}
use native.Mathlib.Omega.{arith}
use Rattle.refusals.specs.Refusal.{Refusal, Answer, value, refused, no}
use Rattle.plan.specs.Order.{◌and_then◌}
use Rattle.plan.specs.Steps.{steps_for}
use Rattle.plan.specs.Plan.{Values}
use Rattle.job.specs.Jobs.{device_of, config_of}
use Rattle.job.specs.Inside.{says_job}
use Rattle.job.proofs.ByTests.{job_by_tests}
use Rattle.bus.specs.Transfers.{bus_of}
use Rattle.bus.specs.Programs.{Prog, ret, ran, on_tape, bind, proceed, ◌>>=◌}
use Rattle.bus.specs.Raw.{Done}
use Rattle.bq769x0.specs.Record.{Left, leaving, device_allowed, fresh, new_for, is_sound}
use Rattle.bq769x0.specs.declared.BQ769x0.{BQ769x0}
use Rattle.bq769x0.proofs.Keeps.{new_sound}
use Rattle.procedure.specs.Init.{init_by}
use Rattle.chip.specs.Devices.{Reached, reached, on_device}
use Rattle.chip.specs.OnChip.{Matches, Wired, uncut, on_chip}
use Rattle.chip.specs.declared.Chip.{Chip}
use Rattle.chip.proofs.InStep.{InStep, step_ret}
use Rattle.recovery.specs.Recovery.{six, Leaves}
use Rattle.runs.specs.Calls.{Call, none_yet, one_more, most_of, left_by, on, Alike}
use Rattle.runs.proofs.Calls as runs
use Rattle.runs.proofs.Fine.{Fine, fine_ret, fine_more}
use Rattle.recovery.proofs.Asked.{LeftOff, init_fine, enough_most}
use Rattle.recovery.proofs.Again.{again}
use Rattle.recovery.proofs.Cut.{stays}
use Rattle.recovery.proofs.Left.{at_first, begun_again}
use Rattle.recovery.proofs.SameLog.{in_step}
use Rattle.job_setup.specs.JobInit.{no_device, job_init}
use Rattle.recovered.specs.ForC.{Told, link_of}
use Rattle.recovered.specs.InitForC.{init_for_c, Run, Inits, record_for, brought_by, new_of, Recovers, Survives, Demand3}
use Rattle.recovered.proofs.ForC.{telling_on, telling_fine, alike}

-- ---- a job's program: nothing, or the `init` of a new record
abbrev record_of : List ℕ → BQ769x0
record_of job = let d = device_of job in fresh d.x d.address d.cells d.check

data Program (job : List ℕ) : Type 0 where
  refuses : (r : Refusal) → record_for job ≡ refused r → job_init job ≡ ret (leaving no_device r) → Program job
  sets_up : is_sound (record_of job) ≡ true → record_for job ≡ value (record_of job)
      → job_init job ≡ init_by steps_for (record_of job) (config_of job) → Program job

program : (job : List ℕ) → Program job
unfolding job_init record_for new_for ◌and_then◌ ◌>>=◌ bind proceed
program job = by (says_job job) refl (device_allowed (device_of job).x (device_of job).address (device_of job).cells) refl
  where
    by : (t : Bool) → says_job job ≡ t → (y : Answer Done)
        → device_allowed (device_of job).x (device_of job).address (device_of job).cells ≡ y → Program job
    by false e y f = refuses (no 15 []) (rw (job_by_tests job, e)) (rw (job_by_tests job, e))
    by true e (refused r) f = refuses r (rw (job_by_tests job, e, f)) (rw (job_by_tests job, e, f))
    by true e (value done) f =
        sets_up (new_sound (device_of job).x (device_of job).address (device_of job).cells (device_of job).check (rw f) refl)
        (rw (job_by_tests job, e, f)) (rw (job_by_tests job, e, f))

fine : (job : List ℕ) → Program job → Fine LeftOff 52 (job_init job)
fine job (refuses r q e) = subst (Fine LeftOff 52) (sym e) (fine_ret LeftOff 52 _)
fine job (sets_up ok q e) =
    subst (Fine LeftOff 52) (sym e)
    (fine_more (enough_most (device_of job).check) (init_fine steps_for (config_of job) (record_of job)))

-- ---- one call
chip_is : (job : List ℕ) {w : Wired} {call : Call Told} → Run job w call → left_by w call ≡ (on_chip (job_init job) w).device.chip
chip_is job {w} run =
    runs.chip_is (telling_fine _ (fine job (program job))) run
    ∙ ap (λ (r : Reached Wired Told). r.device.chip) (telling_on _ (job_init job) w)

-- ---- any number of them
module _ (job : List ℕ) (c : Chip) (m : Matches (link_of job) c) where
  abbrev Now : ℕ → Chip → Type 0
  Now n c' = Leaves steps_for (config_of job) (record_of job) c n (record_of job) c'

  nothing : (r : Refusal) → job_init job ≡ ret (leaving no_device r) → (w : Wired) → on_chip (job_init job) w ≡ reached (leaving no_device r) w
  unfolding on_device
  nothing r e w = ap (λ (p : Prog (Left Values)). on_chip p w) e

  same_chip : (r : Refusal) → job_init job ≡ ret (leaving no_device r) → {c' : Chip} → Inits job c c' → c' ≡ c
  same_chip r e none_yet = refl
  same_chip r e (one_more {c' = c'} calls cuts call run) =
      chip_is job run
      ∙ ap (λ (x : Reached Wired (Left Values)). x.device.chip) (nothing r e (on c' cuts))
      ∙ same_chip r e calls

  module _ (ok : is_sound (record_of job) ≡ true) (q : record_for job ≡ value (record_of job))
      (e : job_init job ≡ init_by steps_for (record_of job) (config_of job)) where
    left_then : {c' : Chip} (calls : Inits job c c') → Now (new_of job calls) c'
    unfolding most_of
    left_then none_yet = at_first
    left_then (one_more {c' = c'} calls cuts call run) =
        let w = on c' cuts in
        let after = stays steps_for (config_of job) (record_of job) c m (new_of job calls) (record_of job) w (left_then calls) in
        let same = chip_is job run ∙ ap (λ (p : Prog (Left Values)). (on_chip p w).device.chip) e in
        let most : Answer BQ769x0 → ℕ = λ d. max (new_of job calls) (brought_by d (six steps_for (config_of job) c) cuts) in
        subst (Now (new_of job (one_more calls cuts call run))) (sym same)
        (subst (λ (n : ℕ). Now n (on_chip (init_by steps_for (record_of job) (config_of job)) w).device.chip) (ap most (sym q))
        (begun_again after (record_of job)))

  none_new : (r : Refusal) → record_for job ≡ refused r → {c' : Chip} (calls : Inits job c c') → new_of job calls ≡ 0
  unfolding most_of
  none_new r q none_yet = refl
  none_new r q (one_more calls cuts call run) =
      let none = ap (λ (d : Answer BQ769x0). brought_by d (six steps_for (config_of job) c) cuts) q in
      omega (arith, none_new r q calls, none)

  leaves_then : Program job → {c' : Chip} (calls : Inits job c c') → Now (new_of job calls) c'
  leaves_then (refuses r q e) calls = subst₂ Now (sym (none_new r q calls)) (sym (same_chip r e calls)) at_first
  leaves_then (sets_up ok q e) calls = left_then ok q e calls

  again_alike : Program job → {c' : Chip} → Inits job c c'
      → (second first : Call Told) → Run job (uncut c') second → Run job (uncut c) first → Alike (uncut c') (uncut c) second first
  again_alike (refuses r q e) {c'} calls second first x y =
      let same =
      nothing r e (uncut c')
      ∙ ap (λ (k : Chip). reached (leaving no_device r) (uncut k)) (same_chip r e calls)
      ∙ sym (nothing r e (uncut c)) in
      alike _ (fine job (program job)) x y same (subst (λ (p : Prog (Left Values)). InStep p (uncut c') p (uncut c)) (sym e) (step_ret _ _ _ _))
  again_alike (sets_up ok q e) {c'} calls second first x y =
      let l = left_then ok q e calls in
      let same = again steps_for (config_of job) (record_of job) c m l ok ok in
      let both =
      ap (λ (p : Prog (Left Values)). on_chip p (uncut c')) e ∙ same ∙ sym (ap (λ (p : Prog (Left Values)). on_chip p (uncut c)) e) in
      alike _ (fine job (program job)) x y both
      (subst (λ (p : Prog (Left Values)). InStep p (uncut c') p (uncut c)) (sym e)
      (in_step steps_for (config_of job) (record_of job) c m l ok ok (config_of job)))

  recovers : {c' : Chip} (calls : Inits job c c') → Recovers job calls
  recovers calls =
      let l = leaves_then (program job) calls in
      record { on = l.on; last = l.last; chip = l.chip; again = again_alike (program job) calls }

survives : (job : List ℕ) {call : Call Told} {c : Chip} {cuts : ℕ → Option ℕ} → Run job (on c cuts) call → Survives job call c cuts
survives job {call} {c} {cuts} run = record {
  run = run;
  by_log = runs.by_log (telling_fine _ (fine job (program job))) run;
  recovers = λ {c₀} m calls. recovers job c₀ m (one_more calls cuts call run);
}

-- so a call that keeps the promise
pub demand_3 : (job : List ℕ) {call : Call Told}
    → ran call.gave call.tape call.log' call.at' ≡ on_tape (init_for_c job) (bus_of call.tape call.log call.at)
    → Demand3 job call
demand_3 job promise c cuts rest answers room = survives job (record { rest = rest; answers = answers; room = room; promise = promise })
