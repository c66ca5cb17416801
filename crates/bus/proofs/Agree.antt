-- Two outcomes that meet one promise agree: in the answer, in tape, log and both positions, and in the caller's bytes.
-- Assumes nothing.
use mathlib.Core.Path.{◌≡◌, refl, sym, ap, ◌∙◌}
use mathlib.Core.List.{List}
use Prim.Native.Nat.{ℕ}
use Rattle.std.specs.Prelude.{Result}
use Rattle.refusals.specs.Refusal.{Answer}
use Rattle.refusals.specs.declared.Error.{Error}
use Rattle.refusals.proofs.OneToOne.{answer_agree}
use Rattle.bus.specs.Transfers.{Bus}
use Rattle.bus.specs.Programs.{Prog, Ran, ends, on_tape}
use Rattle.bus.specs.Raw.{Done, Read, as_raw, gives}

pub raw_agree : (a b : Result Done Error) → as_raw a ≡ as_raw b → a ≡ b
raw_agree = answer_agree (λ _. tt) (λ _. tt) (λ _. refl)

-- `send` and `write_raw`, whatever their program
pub write_agree : (p : Prog (Answer Done)) (b after after' : Bus) (a a' : Result Done Error)
    → ends (as_raw a) after ≡ on_tape p b
    → ends (as_raw a') after' ≡ on_tape p b
    → (a ≡ a') × (after ≡ after')
write_agree p b after after' a a' e e' =
    let same = e ∙ sym e' in
    (raw_agree a a' (ap (λ (x : Ran (Answer Done)). x.answer) same), ap (λ (x : Ran (Answer Done)). x.bus) same)

-- `read_raw`
pub read_agree : (p : Prog Read) (b after after' : Bus) (a a' : Result Done Error) (bytes bytes' : List ℕ)
    → ends (gives (as_raw a) bytes) after ≡ on_tape p b
    → ends (gives (as_raw a') bytes') after' ≡ on_tape p b
    → (a ≡ a') × (bytes ≡ bytes') × (after ≡ after')
read_agree p b after after' a a' bytes bytes' e e' =
    let same = e ∙ sym e' in (
      raw_agree a a' (ap (λ (x : Ran Read). x.answer.answer) same),
      ap (λ (x : Ran Read). x.answer.bytes) same,
      ap (λ (x : Ran Read). x.bus) same,
    )
