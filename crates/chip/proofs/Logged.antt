-- What a run of `Chip::answer` on the field that a transfer is logged as gives: the chip's answer to that transfer as the tape's next field, and
-- the chip after it, where the tape has room.
-- Assumes nothing.
use mathlib.Core.Path.{◌≡◌, sym, ap, ◌∙◌}
use mathlib.Core.List.{List, [], append-nil}
use mathlib.Core.Option.{Option, some, bind}
use Prim.Native.Nat.{ℕ, ◌+◌, ◌≤◌}
use lib.ListN.{length}
use borrow.Author.Tests.{le-leb}
use Rattle.frames.specs.Put.{put}
use Rattle.fields.specs.Fields.{unfield}
use Rattle.bus.specs.Transfers.{Transfer, log_field, tape_field}
use Rattle.bus.proofs.Decoders.{Short, unlog_log}
use Rattle.chip.specs.Answering.{transfer_of, Answered, answered_with, tells, answer_on}
use Rattle.chip.specs.Chip.{respond_cut}
use Rattle.chip.specs.declared.Chip.{Chip}
use Rattle.chip.proofs.Answering.{answer_some}

-- a transfer's field in the log reads back as that transfer
read_back : (t : Transfer) → Short t → transfer_of (log_field t) ≡ some t
unfolding transfer_of bind
read_back t short =
    let u = unlog_log t [] short in
    let is : unfield (log_field t) ≡ some u.0 = ap unfield (sym (append-nil (log_field t))) ∙ u.1 in
    rw (is, u.2, u.3)

module _ (cut : Option ℕ) (c : Chip) (t : Transfer) (tape : List ℕ) (end : ℕ) where
  -- the answer's field on the tape
  abbrev said : List ℕ
  said = tape_field (respond_cut cut c t).answer

  with_room : end + length said ≤ length tape
      → tells c (respond_cut cut c t) tape end ≡ (put tape end said, answered_with (respond_cut cut c t).device (end + length said))
  unfolding tells
  with_room h = rw (le-leb (end + length said) (length tape) h)

  -- so a run of the code that meets its promise leaves this tape and this chip
  pub answers_log : Short t → end + length said ≤ length tape → (r : Answered) (out : List ℕ)
      → (out, r) ≡ answer_on cut c (log_field t) tape end
      → (out ≡ put tape end said) × (r.chip ≡ (respond_cut cut c t).device) × (r.end ≡ end + length said)
  answers_log short h r out e =
      let is = e ∙ sym (answer_some cut c (log_field t) tape end t (read_back t short)) ∙ with_room h in (
        ap (λ (x : List ℕ × Answered). x.0) is,
        ap (λ (x : List ℕ × Answered). x.1.chip) is,
        ap (λ (x : List ℕ × Answered). x.1.end) is,
      )
