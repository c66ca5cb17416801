-- Demand 3 for C proved, for every outcome that keeps the promise of `bq769x0_balance_set`.
-- Assumes nothing.
use mathlib.Core.Path.{◌≡◌, refl, sym, ap, subst, ◌∙◌}
use mathlib.Core.Bool.{Bool, true, false, true≢false}
use mathlib.Core.List.{List, []}
use mathlib.Core.Option.{Option}
use Prim.Native.Nat.{ℕ, ◌+◌, ◌^◌, ◌≤◌, ◌<◌}
use native.Mathlib.Omega.{arith}
use Rattle.refusals.specs.Refusal.{Refusal, Answer, value, refused, no, number_of}
use Rattle.check_byte.specs.CheckByte.{Bytes}
use Rattle.plan.specs.Order.{◌and_then◌}
use Rattle.job.specs.Jobs.{device_of}
use Rattle.job.specs.Inside.{says_device}
use Rattle.job.proofs.ByTests.{device_by_tests}
use Rattle.bus.specs.Transfers.{bus_of}
use Rattle.bus.specs.Programs.{Prog, ret, ran, on_tape, bind, proceed, ◌>>=◌}
use Rattle.bus.specs.Raw.{Done}
use Rattle.bq769x0.specs.Record as record-specs
use Rattle.bq769x0.specs.Record.{device_allowed, fresh}
use Rattle.bq769x0.specs.declared.BQ769x0.{BQ769x0}
use Rattle.bq769x0.proofs.Keeps.{refused_from_9}
use Rattle.chip.specs.Devices.{Reached, on_device}
use Rattle.chip.specs.OnChip.{Matches, Wired, on_chip}
use Rattle.chip.specs.declared.Chip.{Chip}
use Rattle.chip.proofs.Quits.{Refuses}
use Rattle.commands.specs.Commands.{balance_set}
use Rattle.model.specs.Balance.{input_on, set_on, enough, brought, chip_left}
use Rattle.model.proofs.Balanced.{none_left, set_fine}
use Rattle.model.proofs.Balance as balance
use Rattle.model.proofs.Balance.{EndsSame, same_chip, first_new_is, again, anew}
use Rattle.runs.specs.Calls.{Call, none_yet, one_more, most_of, left_by, on}
use Rattle.runs.proofs.Calls as runs
use Rattle.runs.proofs.Fine.{Fine, fine_ret}
use Rattle.firmware.specs.Handed.{no_number}
use Rattle.firmware.specs.JobBalance.{record_of, job_balance_set}
use Rattle.recovered.specs.ForC.{Told, link_of}
use Rattle.recovered.specs.SetForC.{set_for_c, Run, Sets, EndsAlike, new_for, brought_by, Recovers, Survives, Demand3}
use Rattle.recovered.proofs.ForC.{telling_on, telling_fine, alike}

-- ---- the device's program: nothing, or `balance_set` of its new record
abbrev new : List ℕ → BQ769x0
new device = let d = device_of device in fresh d.x d.address d.cells d.check

data Names (device : List ℕ) : Type 0 where
  nothing : (r : Refusal) → 1 ≤ r.number → record_of device ≡ refused r → Names device
  a_device : record_of device ≡ value (new device) → Names device

names : (device : List ℕ) → Names device
unfolding record_of record-specs.new_for ◌and_then◌
names device = by (says_device device) refl (device_allowed (device_of device).x (device_of device).address (device_of device).cells) refl
  where
    by : (t : Bool) → says_device device ≡ t → (y : Answer Done)
        → device_allowed (device_of device).x (device_of device).address (device_of device).cells ≡ y → Names device
    by false e y f = nothing (no 15 []) (omega arith) (rw (device_by_tests device, e))
    by true e (refused r) f = nothing r (omega (arith, refused_from_9 _ _ _ r f)) (rw (device_by_tests device, e, f))
    by true e (value done) f = a_device (rw (device_by_tests device, e, f))

module _ (device : List ℕ) (set limit : ℕ) where
  off : {r : Refusal} → record_of device ≡ refused r → job_balance_set device set limit ≡ ret (refused r)
  unfolding job_balance_set ◌>>=◌ bind proceed
  off e = rw e

  to : record_of device ≡ value (new device) → job_balance_set device set limit ≡ balance_set (new device) set limit
  unfolding job_balance_set ◌>>=◌ bind proceed
  to e = rw e

  fine : Fine Refuses enough (job_balance_set device set limit)
  fine = by (names device)
    where
      by : Names device → Fine Refuses enough (job_balance_set device set limit)
      by (nothing r least e) = subst (Fine Refuses enough) (sym (off e)) (fine_ret Refuses enough _)
      by (a_device e) = subst (Fine Refuses enough) (sym (to e)) (set_fine (new device) set limit)

  -- ---- one call
  chip_is : {w : Wired} {call : Call Told} → Run device set limit w call → left_by w call ≡ (on_chip (job_balance_set device set limit) w).device.chip
  chip_is {w} run =
      runs.chip_is (telling_fine _ fine) run
      ∙ ap (λ (r : Reached Wired Told). r.device.chip) (telling_on _ (job_balance_set device set limit) w)

  -- where it returned 0, the set is on
  told_number : (a : Answer Done) → number_of (no_number a) ≡ number_of a
  told_number (value done) = refl
  told_number (refused r) = refl

  module _ (two : set < 2 ^ 16) {w : Wired} {call : Call Told} (run : Run device set limit w call) (m : Matches (link_of device) w.chip)
      (zero : call.gave.number ≡ 0) where
    number_is : number_of (on_chip (job_balance_set device set limit) w).answer ≡ 0
    number_is =
        let told = runs.gave_is (telling_fine _ fine) run
        ∙ ap (λ (r : Reached Wired Told). r.answer) (telling_on _ (job_balance_set device set limit) w) in
        sym (told_number (on_chip (job_balance_set device set limit) w).answer) ∙ sym (ap (λ (t : Told). t.number) told) ∙ zero

    set_on_is : set_on (device_of device).x (left_by w call) ≡ set
    unfolding on_device
    set_on_is = by (names device)
      where
        by : Names device → set_on (device_of device).x (left_by w call) ≡ set
        by (nothing r least e) =
            absurd (omega (arith, number_is, ap (λ (p : Prog (Answer Done)). number_of (on_chip p w).answer) (off e)))
        by (a_device e) =
            ap (set_on (device_of device).x) (chip_is run ∙ ap (λ (p : Prog (Answer Done)). (on_chip p w).device.chip) (to e))
            ∙ balance.set_on_is (new device) set limit two w m
            (ap (λ (p : Prog (Answer Done)). number_of (on_chip p w).answer) (sym (to e)) ∙ number_is)

  ends_alike : {c c' : Chip} → EndsSame (job_balance_set device set limit) c c' → EndsAlike device set limit c c'
  ends_alike ends a b x y = alike _ fine x y ends.same ends.steps

-- ---- any number of them
module _ (device : List ℕ) (set limit : ℕ) (c : Chip) (m : Matches (link_of device) c) where
  -- where no device is named nothing changes
  module _ (r : Refusal) (e : record_of device ≡ refused r) where
    as_it_was : {c' : Chip} → Sets device set limit c c' → c' ≡ c
    unfolding on_device
    as_it_was none_yet = refl
    as_it_was (one_more {c' = c'} calls cuts call run) =
        chip_is device set limit run
        ∙ ap (λ (p : Prog (Answer Done)). (on_chip p (on c' cuts)).device.chip) (off device set limit e)
        ∙ as_it_was calls

    none_brought : {c' : Chip} (calls : Sets device set limit c c') → most_of (brought_by set limit (record_of device)) calls ≡ 0
    unfolding most_of
    none_brought none_yet = refl
    none_brought (one_more calls cuts call run) =
        omega (arith, none_brought calls, ap (λ (y : Answer BQ769x0). brought_by set limit y cuts) e)

    unnamed : {c' : Chip} (calls : Sets device set limit c c') → Recovers device set limit calls
    unnamed {c'} calls =
        let same = as_it_was calls in
        let n = most_of (brought_by set limit (record_of device)) calls in
        record {
          left = record {
            few = omega (arith, none_brought calls);
            chip = same ∙ sym (ap (λ (y : Answer BQ769x0). chip_left (new_for set limit y) c n) e ∙ none_left c n);
            asked = λ i was on. absurd (true≢false (sym on ∙ ap (λ (y : Chip). input_on y i) same ∙ was));
            neighbours = λ i least block on next.
                (sym (ap (λ (y : Chip). input_on y i) same) ∙ on, sym (ap (λ (y : Chip). input_on y (i + 1)) same) ∙ next);
            bytes = subst (λ (y : Chip). Bytes y.regs) (sym same);
          };
          again = ends_alike device set limit (same_chip (job_balance_set device set limit) same);
          anew = λ set' limit' fits. ends_alike device set' limit' (same_chip (job_balance_set device set' limit') same);
        }

  module _ (e : record_of device ≡ value (new device)) where
    same_left : (w : Wired)
        → (on_chip (set_for_c device set limit) w).device.chip ≡ (on_chip (balance_set (new device) set limit) w).device.chip
    same_left w =
        ap (λ (x : Reached Wired Told). x.device.chip) (telling_on _ (job_balance_set device set limit) w)
        ∙ ap (λ (p : Prog (Answer Done)). (on_chip p w).device.chip) (to device set limit e)

    named : {c' : Chip} (calls : Sets device set limit c c') → Recovers device set limit calls
    named {c'} calls =
        let left = first_new_is (new device) set limit c m (telling_fine _ (fine device set limit)) same_left calls in
        let n = most_of (brought (new device) set limit) calls in
        let alike-by : (set' limit' : ℕ) → EndsSame (balance_set (new device) set' limit') c' c → EndsAlike device set' limit' c' c =
        λ set' limit' ends. ends_alike device set' limit'
        (subst (λ (p : Prog (Answer Done)). EndsSame p c' c) (sym (to device set' limit' e)) ends) in
        record {
          left = rw e left;
          again = alike-by set limit (again (new device) set limit c m n left.chip);
          anew = λ set' limit' fits. alike-by set' limit' (anew (new device) set limit c m n left.chip set' limit' fits);
        }

  recovers : {c' : Chip} (calls : Sets device set limit c c') → Recovers device set limit calls
  recovers calls = by (names device)
    where
      by : Names device → Recovers device set limit calls
      by (nothing r least e) = unnamed r e calls
      by (a_device e) = named e calls

survives : (device : List ℕ) (set limit : ℕ) → set < 2 ^ 16 → {call : Call Told} {c : Chip} {cuts : ℕ → Option ℕ}
    → Run device set limit (on c cuts) call → Survives device set limit call c cuts
survives device set limit two {call} {c} {cuts} run = record {
  run = run;
  by_log = runs.by_log (telling_fine _ (fine device set limit)) run;
  set_on_is = set_on_is device set limit two run;
  recovers = λ {c₀} m calls. recovers device set limit c₀ m (one_more calls cuts call run);
}

-- so a call that keeps the promise
pub demand_3 : (device : List ℕ) (set limit : ℕ) → set < 2 ^ 16 → {call : Call Told}
    → ran call.gave call.tape call.log' call.at' ≡ on_tape (set_for_c device set limit) (bus_of call.tape call.log call.at)
    → Demand3 device set limit call
demand_3 device set limit two promise c cuts rest answers room =
    survives device set limit two (record { rest = rest; answers = answers; room = room; promise = promise })
