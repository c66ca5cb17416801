-- A byte that agrees is stored and the rest follows; at the end none is left.
-- Assumes nothing.
use Rattle.std.proofs.Common.{[], ◌∷◌, ◌+◌, ◌<◌, length, sym, ap, ◌∙◌, arith}
use Rattle.frames.specs.Frames.{write_byte}
use Rattle.chip.specs.Chip.{with_regs, agreed}
use Rattle.chip.proofs.Steps.{stores_one, stores_end, agreed_at}
use Rattle.chip.proofs.Chip.store_checked.Goals as goal

pub loop-i-preserved : goal.loop-i-preserved
loop-i-preserved c =
    let a = c.args in
    let l = c.loop-i in
    let all = agreed (write_byte a.self.now.address ∷ a.reg ∷ []) a.bytes.now in
    let here : l.i < length all = omega (arith, c.agreeing-i-end.ensures) in
    rw (c.arrive.ensures, ← agreed_at (write_byte a.self.now.address ∷ a.reg ∷ []) a.bytes.now l.i here)
    (ap (with_regs l.self) (stores_one a.reg l.i all l.self.regs here) ∙ l.invariant)

pub returns : goal.returns
returns c =
    let a = c.args in
    let l = c.loop-i in
    let all = agreed (write_byte a.self.now.address ∷ a.reg ∷ []) a.bytes.now in
    sym (ap (with_regs l.self) (stores_end (a.reg + l.i) l.i all l.self.regs (omega (arith, c.agreeing-i-end.ensures)))) ∙ l.invariant
