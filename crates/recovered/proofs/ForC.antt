-- A function for C whose promise is kept: the call, by what C has of it, keeps that of its program. And what C is told of a program leaves its
-- transfers as they are.
-- Assumes nothing.
use mathlib.Core.Path.{◌≡◌, sym, ap, subst, ◌∙◌}
use mathlib.Core.List.{List}
use Prim.Native.Nat.{ℕ, ◌+◌}
use native.Mathlib.Omega.{arith}
use Rattle.layout.specs.Layout.{laid}
use Rattle.bus.specs.Transfers.{Bus, start, bus_of}
use Rattle.bus.specs.Programs.{Prog, ret, Ran, ran, on_tape}
use Rattle.bus.specs.Raw.{Done}
use Rattle.bus.proofs.Programs.{on_tape_bind, same_tape}
use Rattle.chip.specs.Devices.{Reached, reached, on_device}
use Rattle.chip.specs.OnChip.{Wired, on_wire, on_chip}
use Rattle.chip.proofs.Devices.{device_bind}
use Rattle.chip.proofs.InStep.{InStep, step_bind, step_ret}
use Rattle.chip.proofs.Quits.{over}
use Rattle.runs.specs.Calls.{Call, Run, Alike}
use Rattle.runs.proofs.Calls as runs
use Rattle.runs.proofs.Fine.{Fine, fine_ret, fine_bind}
use Rattle.firmware.specs.Handed.{Handed, handed, tape_used, log_used, numbers_in}
use Rattle.firmware.proofs.Positions.{tape_position, log_position, numbers_back}
use Rattle.recovered.specs.ForC.{Told, telling}

module _ {A : Type 0} (told : A → Told) where
  -- ---- the promise
  module _ (p : Prog A) (tape log : List ℕ) where
    abbrev before : Bus
    before = bus_of tape log start

    abbrev after : Ran A
    after = on_tape p before

    pub kept : {number : ℕ} {out log' : List ℕ}
        → handed number out log' ≡ handed (told after.answer).number (laid after.bus.at (told after.answer).numbers) after.bus.log
        → ran (record { number = number; numbers = numbers_in out }) tape log' (record { tape = tape_used out; log = log_used out })
        ≡ on_tape (telling told p) before
    unfolding on_tape
    kept promise =
        let out-is = ap (λ (h : Handed). h.out) promise in
        let numbers = (told after.answer).numbers in
        let numbers-are = ap numbers_in out-is ∙ numbers_back after.bus.at numbers in
        let tape_used_is = ap tape_used out-is ∙ tape_position after.bus.at numbers in
        let log_used_is = ap log_used out-is ∙ log_position after.bus.at numbers in
        let same = sym (same_tape p before) in
        (λ i. ran (record { number = (promise i).number; numbers = numbers-are i }) (same i) (promise i).log
        (record { tape = tape_used_is i; log = log_used_is i }))
        ∙ sym (on_tape_bind p _ before)

  -- ---- the transfers
  pub telling_on : (p : Prog A) (w : Wired) → on_chip (telling told p) w ≡ reached (told (on_chip p w).answer) (on_chip p w).device
  unfolding on_device
  telling_on p w = device_bind on_wire p _ w

  pub telling_fine : {Off : A → Type 0} {n : ℕ} {p : Prog A} → Fine Off n p → Fine (λ (t : Told). Done) n (telling told p)
  telling_fine {n = n} {p} h =
      let all : n + 0 ≡ n = omega arith in
      subst (λ (k : ℕ). Fine (λ (t : Told). Done) k (telling told p)) all
      (fine_bind n 0 (λ a. ret (told a)) h (λ a. fine_ret _ 0 (told a)) (λ a q. over tt))

  pub alike : {Off : A → Type 0} {n : ℕ} {p : Prog A} → Fine Off n p → {w w' : Wired} {a b : Call Told}
      → Run (telling told p) n w a → Run (telling told p) n w' b
      → on_chip p w ≡ on_chip p w' → InStep p w p w' → Alike w w' a b
  alike {p = p} fine {w} {w'} x y same steps =
      runs.alike (telling_fine fine) (telling_fine fine) x y
      (telling_on p w ∙ ap (λ (r : Reached Wired A). reached (told r.answer) r.device) same ∙ sym (telling_on p w'))
      (step_bind _ _ steps (step_ret _ _ _ _))
