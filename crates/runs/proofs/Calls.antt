-- A call of the code that does a program answers and leaves what the program does on the chip; its own log, the last field cut, leaves on the
-- chip what the program leaves there; and what it used of the tape is the chip's answers to the transfers of its log.
-- Assumes nothing.
use mathlib.Core.Path.{◌≡◌, refl, sym, ap, ◌∙◌}
use mathlib.Core.List.{List, [], ◌∷◌, ◌++◌}
use mathlib.Core.Option.{Option, some}
use Prim.Native.Nat.{ℕ, zero, suc, ◌+◌, ◌-◌, ◌≤◌}
use native.Mathlib.Omega.{arith}
use lib.ListN.{length, take, drop}
use lib.Seq.{take-nil, take_at, drop_at, length-take-le}
use Rattle.frames.proofs.Put.{take_put}
use Rattle.bus.specs.Transfers.{Transfer, Bus, tape_field, bus_of, moved}
use Rattle.bus.specs.Programs.{Prog, ret, ask, Ran, ran, ends, on_tape}
use Rattle.bus.specs.Decoders.{transfers_in}
use Rattle.bus.proofs.Programs.{same_tape}
use Rattle.chip.specs.Devices.{Reached, made_on, log_of, tape_of}
use Rattle.chip.specs.OnChip.{Wired, on_wire, on_chip, fed}
use Rattle.runs.specs.Calls.{Call, Run, transfers, answers_to, added, logged_transfers, used, left_by, ByItsLog, Alike}
use Rattle.chip.proofs.Adequate.{adequate}
use Rattle.chip.proofs.Fed.{transfers_of, log_decodes, fed_last}
use Rattle.runs.proofs.Fine.{Fine}
use Rattle.chip.proofs.Honest.{chip_honest}
use Rattle.chip.proofs.InStep.{InStep}

between : (n k : ℕ) (l : List ℕ) → drop n (take (n + k) l) ≡ take k (drop n l)
between zero k l = let e : 0 + k ≡ k = omega arith in ap (λ (j : ℕ). take j l) e
between (suc n) k [] = ap (drop (suc n)) (take-nil (suc n + k)) ∙ sym (take-nil k)
between (suc n) k (x ∷ l) =
    let e : suc n + k ≡ suc (n + k) = omega arith in
    ap (λ (j : ℕ). drop (suc n) (take j (x ∷ l))) e ∙ between n k l

-- a program's tape is the answers to its transfers
answers_made : {A : Type 0} (p : Prog A) (w : Wired) → answers_to (transfers_of p w) w ≡ tape_of on_wire p w
unfolding answers_to made_on tape_of
answers_made (ret a) w = refl
answers_made (ask t k) w = ap (◌++◌ (tape_field (on_wire w t).answer)) (answers_made (k (on_wire w t).answer) (on_wire w t).device)

-- ---- a function on a lent bus that does its program keeps the promise of its call: the tape stays as it was
pub promised : {A : Type 0} (p : Prog A) (b b' : Bus) (answer : A) → ends answer b' ≡ on_tape p b
    → ran answer b.tape b'.log b'.at ≡ on_tape p b
promised {A} p b b' answer h =
    let tape = ap (λ (r : Ran A). r.bus.tape) h ∙ same_tape p b in
    ap (λ (t : List ℕ). ran answer t b'.log b'.at) (sym tape) ∙ h

-- ---- one call
module _ {A : Type 0} {Off : A → Type 0} {n : ℕ} {p : Prog A} (fine : Fine Off n p) {w : Wired} {call : Call A} (run : Run p n w call) where
  room : call.at.log + length (log_of on_wire p w) ≤ length call.log
  room = omega (arith, run.room, fine.logs.most on_wire w)

  abbrev before : Bus
  before = bus_of call.tape call.log call.at

  went : ran call.gave call.tape call.log' call.at'
      ≡ record { answer = (on_chip p w).answer; bus = moved (tape_of on_wire p w) (log_of on_wire p w) before }
  went = run.promise ∙ (adequate on_wire chip_honest p w before run.rest run.answers room).ran

  pub gave_is : call.gave ≡ (on_chip p w).answer
  gave_is = ap (λ (r : Ran A). r.answer) went

  -- ---- the log
  pub is_added : added call ≡ log_of on_wire p w
  unfolding moved
  is_added =
      let l = log_of on_wire p w in
      let k = call.at.log in
      ap (λ (r : Ran A). drop k (take r.bus.at.log r.bus.log)) went
      ∙ ap (drop k) (take_put call.log k l room)
      ∙ drop_at (take k call.log) l k (length-take-le k call.log (omega (arith, room)))

  log_read : logged_transfers call ≡ some (transfers_of p w)
  log_read = ap (λ (l : List ℕ). transfers_in (length l) l) is_added ∙ log_decodes p w fine.short

  pub chip_is : left_by w call ≡ (on_chip p w).device.chip
  chip_is =
      ap (λ (o : Option (List Transfer)). fed (w.cuts (length (transfers o) - 1)) (transfers o) w.chip) log_read
      ∙ sym (fed_last fine.quits w)

  -- ---- the tape
  is_used : used call ≡ tape_of on_wire p w
  unfolding moved
  is_used =
      let t = tape_of on_wire p w in
      let k = call.at.tape in
      ap (λ (r : Ran A). drop k (take r.bus.at.tape call.tape)) went
      ∙ between k (length t) call.tape
      ∙ ap (take (length t)) run.answers
      ∙ take_at t run.rest (length t) refl

  pub by_log : ByItsLog p w call
  by_log = record {
    reads_back = log_read ∙ ap (λ (o : Option (List Transfer)). some (transfers o)) (sym log_read);
    chip = chip_is;
    tape =
        is_used ∙ sym (answers_made p w) ∙ ap (λ (o : Option (List Transfer)). answers_to (transfers o) w) (sym log_read);
  }

-- ---- two, of which the programs do the same, in step
pub alike : {A : Type 0} {Off Off' : A → Type 0} {n n' : ℕ} {p q : Prog A} → Fine Off n p → Fine Off' n' q
    → {w w' : Wired} {a b : Call A} → Run p n w a → Run q n' w' b
    → on_chip p w ≡ on_chip q w' → InStep p w q w' → Alike w w' a b
alike {A} f g x y same steps = record {
  gave = gave_is f x ∙ ap (λ (r : Reached Wired A). r.answer) same ∙ sym (gave_is g y);
  chip = chip_is f x ∙ ap (λ (r : Reached Wired A). r.device.chip) same ∙ sym (chip_is g y);
  log = is_added f x ∙ steps.log ∙ sym (is_added g y);
  tape = ap length (is_used f x) ∙ steps.tape ∙ sym (ap length (is_used g y));
}
