-- With the bytes that are left and agree stored, the chip is as it has to be.
use Rattle.std.proofs.Common.{◌≡◌, [], ◌∷◌, ◌+◌, drop}
use Rattle.frames.specs.Frames.{write_byte}
use Rattle.chip.specs.Chip.{with_regs, stores, agreed}
use Rattle.chip.proofs.Chip.store_checked.Given as goal

abbrev pub invariant-loop-i : goal.invariant-loop-i
invariant-loop-i l =
    let all = agreed (write_byte l.fn.self.address ∷ l.reg ∷ []) l.bytes in
    with_regs l.self (stores (l.reg + l.i) (drop l.i all) l.self.regs) ≡ with_regs l.fn.self (stores l.reg all l.fn.self.regs)
