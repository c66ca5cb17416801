-- A call that reads once and answers by what it hears: with the refusal, or with what it makes of the value.
-- Assumes nothing.
use mathlib.Core.Path.{◌≡◌, sym, ◌∙◌}
use Rattle.refusals.specs.Refusal.{Refusal, Answer, value, refused}
use Rattle.bus.specs.Transfers.{Bus}
use Rattle.bus.specs.Programs.{Prog, ret, Ran, on_tape, ◌or_leave◌, ◌>>=◌}
use Rattle.bus.proofs.Programs.{went_on, went_off}

-- what comes of the whole call, by the answer `a` of the read
pub record Heard {A B : Type 0} (whole : Ran (Answer B)) (make : A → Answer B) (a : Answer A) (b : Bus) : Type 0 where
  pub off : {r : Refusal} → a ≡ refused r → whole ≡ record { answer = refused r; bus = b }
  pub on : {v : A} → a ≡ value v → whole ≡ record { answer = make v; bus = b }

module _ {A B : Type 0} (p : Prog (Answer A)) (make : A → Answer B) (bus : Bus) where
  -- where the tests ahead of the read, if there are any, are passed
  pub heard : {whole : Ran (Answer B)} {a : Answer A} {b : Bus}
      → whole ≡ on_tape ((p or_leave refused) >>= λ v. ret (make v)) bus
      → record { answer = a; bus = b } ≡ on_tape p bus
      → Heard whole make a b
  unfolding on_tape
  heard passed read = record {
    off = λ t. passed ∙ went_off p refused _ bus _ _ (sym read) _ t;
    on = λ t. passed ∙ went_on p refused _ bus _ _ (sym read) _ t;
  }
