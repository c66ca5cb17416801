-- With the bytes that are left stored, the chip is as it has to be.
use Rattle.std.proofs.Common.{◌≡◌, ◌+◌, drop}
use Rattle.chip.specs.Chip.{with_regs, stores}
use Rattle.chip.proofs.Chip.store_alone.Given as goal

abbrev pub invariant-loop-i : goal.invariant-loop-i
invariant-loop-i l =
    with_regs l.self (stores (l.reg + l.i) (drop l.i l.bytes) l.self.regs) ≡ with_regs l.fn.self (stores l.reg l.bytes l.fn.self.regs)
