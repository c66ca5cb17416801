-- A byte that agrees is one more; the first one's check byte covers the address byte and the register too.
-- Assumes nothing.
use Rattle.std.proofs.Common.{ℕ, List, [], ◌∷◌, ◌++◌, ◌*◌, ◌≡◌, sym, ◌∙◌, get_or, arith}
use Rattle.check_byte.specs.CheckByte.{check_byte}
use Rattle.frames.specs.Frames.{write_byte}
use Rattle.frames.proofs.Steps.{before_at, covers_head, covers_byte}
use Rattle.chip.proofs.Steps.{agreeing_end, agreeing_wrong, agreeing_right}
use Rattle.chip.proofs.Chip.agreeing.Goals as goal
use Rattle.chip.proofs.Chip.agreeing.Goals.{then-i-eq0, else-i-eq0}

-- what the first check byte covers besides its data byte: the address byte of a write, and the register
abbrev head : ℕ → ℕ → List ℕ
head address reg = write_byte address ∷ reg ∷ []

pub returns-then-check-bytes : goal.returns-then-check-bytes
returns-then-check-bytes c =
    let a = c.args in
    let i = c.loop-i.i in
    let x = get_or a.bytes.now (2 * i) 0 in
    let right : c.if-i-eq0.check ≡ check_byte (before_at (head a.self.now.address a.reg) i ++ x ∷ []) =
    elim c.if-i-eq0.branch [
      | then-i-eq0 w ↦ covers_head a.self.now.address a.reg x i _ w.if-i-eq0.true (w.check-is ∙ w.check_byte3-check.ensures)
      | else-i-eq0 w ↦ covers_byte a.self.now.address a.reg x i _ w.if-i-eq0.false (w.check-is ∙ w.check_byte1-check.ensures)
    ] in
    sym (agreeing_wrong (head a.self.now.address a.reg) a.bytes.now i _ (omega arith) right c.if-check-bytes.true) ∙ c.loop-i.invariant

pub loop-i-preserved : goal.loop-i-preserved
loop-i-preserved c =
    let a = c.args in
    let i = c.loop-i.i in
    let x = get_or a.bytes.now (2 * i) 0 in
    let right : c.if-i-eq0.check ≡ check_byte (before_at (head a.self.now.address a.reg) i ++ x ∷ []) =
    elim c.if-i-eq0.branch [
      | then-i-eq0 w ↦ covers_head a.self.now.address a.reg x i _ w.if-i-eq0.true (w.check-is ∙ w.check_byte3-check.ensures)
      | else-i-eq0 w ↦ covers_byte a.self.now.address a.reg x i _ w.if-i-eq0.false (w.check-is ∙ w.check_byte1-check.ensures)
    ] in
    sym (agreeing_right (head a.self.now.address a.reg) a.bytes.now i _ (omega arith) right c.if-check-bytes.false) ∙ c.loop-i.invariant

pub returns : goal.returns
returns c =
    let a = c.args in
    omega (arith, agreeing_end (head a.self.now.address a.reg) a.bytes.now c.loop-i.i (omega arith), c.loop-i.invariant)
