-- Every accepted read of some registers, by the promise of `read_raw`: its log shows one read, and the tape held exactly the frame of the bytes
-- returned.
-- Assumes nothing.
use mathlib.Core.Path.{◌≡◌, sym, ap, subst, ◌∙◌}
use mathlib.Core.Bool.{Bool, true, false}
use mathlib.Core.List.{List, [], ◌∷◌}
use mathlib.Core.Option.{some}
use Prim.Native.Nat.{ℕ, ◌≤◌}
use native.Mathlib.Omega.{arith}
use lib.ListN.{length}
use Rattle.refusals.specs.Refusal.{Answer, value, answering}
use Rattle.frames.specs.Frames.{read_frame}
use Rattle.frames.proofs.Frames.{length_read_frame}
use Rattle.bus.specs.Transfers.{read, done, Bus}
use Rattle.bus.specs.Programs.{Prog, Ran, ran, on_tape}
use Rattle.bus.specs.Raw.{Done, Read, gives, as_raw, read_raw}
use Rattle.bus.specs.Shown.{made_between}
use Rattle.bus.specs.declared.link.Link.{Link}
use Rattle.bus.specs.Lent.{LentBus, held, does}
use Rattle.refusals.specs.declared.Error.{Error}
use Rattle.std.specs.Prelude.{Result}
use Rattle.runs.proofs.Calls.{promised}
use Rattle.bus.proofs.Exchanges.{ReadSeen, read_answer, raw_seen}
use Rattle.bus.proofs.Framed.{history}
use Rattle.bus.proofs.Reading.{on_bus}
use Rattle.bus.proofs.Shown.{shown_made}
use Rattle.bus.proofs.Sized.{read_size}
use Rattle.bus.proofs.Throughout.{on_history}
use Rattle.chip.proofs.Asks.{asks_read}
use Rattle.as_asked.specs.Reading.{ExactlyRead}
use Rattle.as_asked.proofs.Short.{all_short}

on_bus_lem : (check : Bool) (address : ℕ) (bytes : List ℕ) → on_bus check (length bytes) ≡ length (read_frame check address bytes)
on_bus_lem true address bytes = sym (length_read_frame true address bytes)
on_bus_lem false address bytes = omega (arith, length_read_frame false address bytes)

module _ (link : Link) (reg : ℕ) (buf : List ℕ) (bus : LentBus) (answer : Result Done Error) (bytes : List ℕ)
    (kept : does (read_raw link reg buf) bus (gives (as_raw answer) bytes)) where
  abbrev b : Bus
  b = held bus.entry.now

  abbrev p : Prog Read
  p = read_raw link reg buf

  promise : ran (gives (as_raw answer) bytes) b.tape bus.exit.now.log.now bus.exit.now.at ≡ on_tape p b
  promise = promised p b (held bus.exit.now) (gives (as_raw answer) bytes) kept.0

  same_size : length bytes ≡ length buf
  same_size = ap (λ (r : Ran Read). length r.answer.bytes) promise ∙ read_size link reg buf b

  -- by what it answered
  abbrev Seen : Answer (List ℕ) → Type 0
  Seen y = ReadSeen link.check link.address reg (length buf) y (history p b)

  seen : 1 ≤ length bytes → Seen (read_answer (on_tape p b).answer)
  seen few = on_history _ p (raw_seen link reg buf (omega (arith, same_size))) b

  pub exactly_read : ExactlyRead link reg bus answer bytes
  unfolding ExactlyRead
  exactly_read accepted few =
      let is : read_answer (on_tape p b).answer ≡ value bytes =
      sym (ap (λ (r : Ran Read). read_answer r.answer) promise) ∙ ap (λ (a : Answer Done). answering a bytes) accepted in
      ap (λ (r : Ran Read). made_between b.tape r.bus.log b.at r.bus.at) promise
      ∙ shown_made p b (all_short (asks_read link reg buf (λ k h. omega arith)) b)
      ∙ ap some (subst Seen is (seen few)).0
      ∙ ap (λ (n : ℕ). some ((read link.address reg n, done (read_frame link.check link.address bytes)) ∷ []))
      (ap (on_bus link.check) (sym same_size) ∙ on_bus_lem link.check link.address bytes)
