-- A byte and its check byte are stored and the rest follows; the first one's covers the address byte and the register.
-- Assumes nothing.
use Rattle.std.proofs.Common.{[], ◌∷◌, ◌++◌, ◌+◌, ◌*◌, ◌≡◌, get_or, arith, rules, sym, ◌∙◌}
use Rattle.check_byte.specs.CheckByte.{check_byte}
use Rattle.frames.specs.Frames.{write_byte}
use Rattle.frames.proofs.Steps.{before_at, covers_head, covers_byte, stored, stored_all}
use Rattle.frames.proofs.put_checked.Goals as goal
use Rattle.frames.proofs.put_checked.Goals.{then-i-eq0, else-i-eq0}

pub loop-i-preserved : goal.loop-i-preserved
loop-i-preserved c =
    let a = c.args in
    let k = c.loop-i in
    let bytes = a.«data».now in
    let x = get_or bytes k.i 0 in
    let head = write_byte a.address ∷ a.reg ∷ [] in
    let right : c.if-i-eq0.out ≡ check_byte (before_at head k.i ++ x ∷ []) =
    elim c.if-i-eq0.branch [
      | then-i-eq0 w ↦ covers_head a.address a.reg x k.i _ w.if-i-eq0.true (w.out-is ∙ w.check_byte3.ensures)
      | else-i-eq0 w ↦ covers_byte a.address a.reg x k.i _ w.if-i-eq0.false (w.out-is ∙ w.check_byte1.ensures)
    ] in
    stored head bytes k.out k.i c.if-i-eq0.out (search rules) (omega arith) right ∙ k.invariant

pub returns : goal.returns
returns c =
    let a = c.args in
    let k = c.loop-i in
    sym (stored_all _ a.«data».now k.out k.i (2 * k.i + 1) (search rules)) ∙ k.invariant
