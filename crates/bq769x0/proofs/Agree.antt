-- Two outcomes that meet one promise agree: in the answer, in the record, and in tape, log and both positions.
-- Assumes nothing.
use mathlib.Core.Path.{◌≡◌, refl, sym, ap, ◌∙◌}
use Rattle.std.specs.Prelude.{Result}
use Rattle.refusals.specs.Refusal.{Answer}
use Rattle.refusals.specs.declared.Error.{Error}
use Rattle.refusals.proofs.OneToOne.{answer_agree}
use Rattle.bus.specs.Transfers.{Bus}
use Rattle.bus.specs.Programs.{Prog, Ran, ends, on_tape}
use Rattle.bus.specs.Raw.{Done}
use Rattle.bq769x0.specs.Record.{unread, head_of, with_head, Left, leaves, as_made, as_new}
use Rattle.bq769x0.specs.declared.BQ769x0.{BQ769x0}
use Rattle.bq769x0.specs.declared.Head.{Head}
use Rattle.bq769x0.specs.declared.Readings.{Readings}
use Rattle.bq769x0.specs.declared.record.New.{New}
use Rattle.bq769x0.specs.declared.record.NewHead.{NewHead}

-- `new`
made_agree : (a b : Result Done Error) → as_made a ≡ as_made b → a ≡ b
made_agree = answer_agree (λ _. tt) (λ _. tt) (λ _. refl)

pub new_agree : (r r' : New) → as_new r ≡ as_new r' → r ≡ r'
new_agree r r' e =
    let a = made_agree r.answer r'.answer (ap (λ (x : Left Done). x.answer) e) in
    let d = ap (λ (x : Left Done). x.device) e in
    λ i. record { answer = a i; device = d i }

-- a head is known by its record, whatever the readings
pub head_agree : (h h' : Head) (readings : Readings) → with_head h readings ≡ with_head h' readings → h ≡ h'
head_agree h h' readings e = ap (λ (d : BQ769x0). head_of d) e

-- `Head::new`
pub new_head_agree : (r r' : NewHead)
    → leaves (as_made r.answer) (with_head r.head unread) ≡ leaves (as_made r'.answer) (with_head r'.head unread)
    → r ≡ r'
new_head_agree r r' e =
    let a = made_agree r.answer r'.answer (ap (λ (x : Left Done). x.answer) e) in
    let h = head_agree r.head r'.head unread (ap (λ (x : Left Done). x.device) e) in
    λ i. record { head = h i; answer = a i }

-- a call that answers and leaves a record, whatever its program
module _ {A : Type 0} (p : Prog (Left A)) (b : Bus) where
  pub left_agree : (a a' : Answer A) (d d' : BQ769x0) (after after' : Bus)
      → ends (leaves a d) after ≡ on_tape p b
      → ends (leaves a' d') after' ≡ on_tape p b
      → (a ≡ a') × (d ≡ d') × (after ≡ after')
  left_agree a a' d d' after after' e e' =
      let same = e ∙ sym e' in (
        ap (λ (x : Ran (Left A)). x.answer.answer) same,
        ap (λ (x : Ran (Left A)). x.answer.device) same,
        ap (λ (x : Ran (Left A)). x.bus) same,
      )
