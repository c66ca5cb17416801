-- What holds of a program's answer and transfers, whatever these give, its bytes being bytes, a run of it shows.
-- Assumes nothing.
use mathlib.Core.Path.{◌≡◌, sym, ap, subst, ◌∙◌}
use mathlib.Core.Bool.{true, false, not}
use mathlib.Core.List.{List, []}
use borrow.Author.Tests.{not-true, not-false}
use Rattle.check_byte.specs.CheckByte.{Bytes}
use Rattle.refusals.specs.Refusal.{Answer, refused, nine}
use Rattle.bus.specs.Lent.{LentBus, held, does}
use Rattle.bus.specs.Programs.{Prog, Ran}
use Rattle.bus.specs.Shown.{Made, made_between}
use Rattle.bus.proofs.Decoders.{Short}
use Rattle.bus.proofs.Framed.{history, framed}
use Rattle.bus.proofs.OfBytes.{AllBytes, all_bytes}
use Rattle.bus.proofs.Shown.{shown_made}
use Rattle.bus.proofs.Throughout.{throughout, on_history, throughout_if}
use Rattle.bq769x0.specs.Record.{is_sound}
use Rattle.bq769x0.specs.Registers.{soundly}
use Rattle.bq769x0.specs.declared.BQ769x0.{BQ769x0}
use Rattle.runs.proofs.Calls.{promised}
use Rattle.chip.proofs.Asks.{Asks, nothing, asks_if}
use Rattle.as_asked.specs.Seen.{StillLent, Shows}
use Rattle.as_asked.proofs.Short.{all_short}

-- a call that does its program
pub still_lent : {A : Type 0} (p : Prog A) (bus : LentBus) (a : A) → does p bus a → StillLent bus
still_lent p bus a h = record { tape_is = ap (λ (r : Ran _). r.bus.tape) h.0 ∙ (framed p (held bus.entry.now)).tape; log_is = h.1 }

-- by the answer in what the program leaves
pub shows : {A B : Type 0} (P : List Made → Answer B → Type 0) (f : A → Answer B) (p : Prog A) (bus : LentBus) (a : A) → does p bus a
    → Asks Short p → throughout (λ x h. AllBytes h → P h (f x)) p → Bytes bus.entry.now.tape.now
    → Shows P bus (f a)
shows {A} P f p bus a h short holds bytes =
    let b = held bus.entry.now in
    let promise = promised p b (held bus.exit.now) a h.0 in
    record {
      seen = history p b;
      reads_back = ap (λ (r : Ran A). made_between b.tape r.bus.log b.at r.bus.at) promise ∙ shown_made p b (all_short short b);
      tape_used_is = ap (λ (r : Ran A). r.bus.at.tape) promise ∙ (framed p b).tape_used_is;
      log_used_is = ap (λ (r : Ran A). r.bus.at.log) promise ∙ (framed p b).log_used_is;
      still = still_lent p bus a h;
      holds =
          subst (P (history p b)) (sym (ap (λ (r : Ran A). f r.answer) promise))
          (on_history (λ x h. AllBytes h → P h (f x)) p holds b (all_bytes p b bytes));
    }

-- 9 ahead of it, where the record is not sound
pub soundly_shows : {A : Type 0} (d : BQ769x0) (P : List Made → Answer A → Type 0) (p : Prog (Answer A)) (bus : LentBus) (y : Answer A)
    → (is_sound d ≡ false → P [] (refused nine)) → Asks Short p
    → (is_sound d ≡ true → throughout (λ x h. AllBytes h → P h x) p) → Bytes bus.entry.now.tape.now
    → does (soundly d (refused nine) p) bus y
    → Shows P bus y
unfolding soundly throughout
soundly_shows {A} d P p bus y off short on bytes promise =
    shows P (λ (x : Answer A). x) (soundly d (refused nine) p) bus y promise
    (asks_if (not (is_sound d)) (λ e. nothing) (λ e. short))
    (throughout_if (λ x h. AllBytes h → P h x) (not (is_sound d)) _ _ (λ e ok. off (not-true (is_sound d) e)) (λ e. on (not-false (is_sound d) e))) bytes
