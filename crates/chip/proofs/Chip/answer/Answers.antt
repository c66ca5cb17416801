-- By the field's tag.
-- Assumes nothing.
use Rattle.std.proofs.Common.{◌≡◌, ℕ, List, get_or, length, sym, ap, ◌∙◌, Option}
use Rattle.bus.specs.Transfers.{read}
use Rattle.chip.specs.Chip.{respond_cut}
use Rattle.chip.specs.Answering.{Answered, answered_with, as_cut, tells}
use Rattle.chip.specs.declared.Chip.{Chip}
use Rattle.chip.proofs.Answering.{no_field, write_field, read_field, other_field, answer_none, answer_some}
use Rattle.chip.proofs.Chip.answer.Goals as goal
use Rattle.chip.proofs.Chip.answer.Goals.{then-field-ne18-via-then-field-ne18, then-field-ne18-via-else-field-ne18+then-field-ne7}

-- the tape and the chip after a read of so many
abbrev wanting : Chip → Option ℕ → List ℕ → List ℕ → ℕ → ℕ → List ℕ × Answered
wanting chip cut field tape end n =
    tells chip (respond_cut (as_cut cut) chip (read (get_or field 3 0) (get_or field 4 0) n)) tape end

pub returns-then-not-is_field : goal.returns-then-not-is_field
returns-then-not-is_field c =
    let a = c.args in
    answer_none (as_cut a.cut) a.self.now a.field.now a.tape.now a.end (no_field a.field.now (sym c.if-not-is_field.ensures))

pub returns-then-field-eq17 : goal.returns-then-field-eq17
returns-then-field-eq17 c =
    let a = c.args in
    ap (λ (n : ℕ). (c.answer_write.new.tape, answered_with c.answer_write.new.self n)) c.unwrap_or.ensures
    ∙ c.answer_write.ensures
    ∙ answer_some (as_cut a.cut) a.self.now a.field.now a.tape.now a.end _
    (write_field a.field.now (sym c.if-not-is_field.ensures) c.if-field-eq17.true)

pub returns-then-field-ne18 : goal.returns-then-field-ne18
returns-then-field-ne18 c =
    let a = c.args in
    let other : get_or a.field.now 0 0 ≡ 18 → length a.field.now ≡ 7 → ⊥ =
    elim c.then-field-ne18.branch [
      | then-field-ne18-via-then-field-ne18 w ↦ λ tag size. w.if-field-ne18.true tag
      | then-field-ne18-via-else-field-ne18+then-field-ne7 w ↦ λ tag size. w.if-field-ne7.true size
    ] in
    answer_none (as_cut a.cut) a.self.now a.field.now a.tape.now a.end
    (other_field a.field.now (sym c.if-not-is_field.ensures) c.if-field-eq17.false other)

pub returns : goal.returns
returns c =
    let a = c.args in
    ap (λ (n : ℕ). (c.answer_read.new.tape, answered_with a.self.now n)) c.unwrap_or-2.ensures
    ∙ c.answer_read.ensures
    ∙ ap (wanting a.self.now a.cut a.field.now a.tape.now a.end) c.be_u16-count.ensures
    ∙ answer_some (as_cut a.cut) a.self.now a.field.now a.tape.now a.end _
    (read_field a.field.now (sym c.if-not-is_field.ensures) c.if-field-ne18.false c.if-field-ne7.false)
