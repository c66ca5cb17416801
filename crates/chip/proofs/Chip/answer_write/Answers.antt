-- To another address, and to the chip's own.
-- Assumes nothing.
use Rattle.std.proofs.Common.{ℕ, List, ap, ◌∙◌, zero-le}
use Rattle.bus.specs.Transfers.{Outcome}
use Rattle.chip.specs.Devices.{Reached}
use Rattle.chip.specs.Answering.{Answered, as_cut, tells}
use Rattle.chip.specs.declared.Chip.{Chip}
use Rattle.chip.proofs.Answering.{unwrapped, write_elsewhere}
use Rattle.chip.proofs.Chip.answer_write.Goals as goal

-- the tape and the chip after it, by how the transfer went
abbrev after : Chip → List ℕ → ℕ → Reached Chip Outcome → List ℕ × Answered
after chip tape end x = tells chip x tape end

pub returns-then-address-self : goal.returns-then-address-self
returns-then-address-self c =
    let a = c.args in
    let chip = a.self.now in
    ap (λ (x : Answered). (c.reply.new.tape, x)) (unwrapped chip a.end c.reply.result)
    ∙ c.reply.ensures chip 0 zero-le
    ∙ ap (after chip a.tape.now a.end) (write_elsewhere (as_cut a.cut) chip a.address c.if-address-self.true a.bytes.now)
