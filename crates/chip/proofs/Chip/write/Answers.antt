-- By how it is cut, where the chip answers.
-- Assumes nothing.
use Rattle.std.proofs.Common.{sym, ap, ◌∙◌}
use Rattle.std.proofs.Math.Option.{none, some}
use Rattle.std.proofs.lemmas.List.{take_min}
use Rattle.bus.specs.Transfers.{write}
use Rattle.chip.specs.Answering.{as_cut}
use Rattle.chip.specs.Chip.{written, carried}
use Rattle.chip.proofs.Answers.{answers_part}
use Rattle.chip.proofs.Takes.{device_on, device_off}
use Rattle.chip.proofs.Chip.write.Goals as goal

pub returns-then-not-is_answered : goal.returns-then-not-is_answered
returns-then-not-is_answered c =
    device_off (as_cut c.args.cut) c.args.self.now _ (sym c.is_answered.ensures ∙ c.if-not-is_answered.true)

pub take_in-requires : goal.take_in-requires
take_in-requires c = answers_part c.args.self.now c.min.result c.args.bytes.now (sym c.if-not-is_answered.ensures)

pub returns-in-Some : goal.returns-in-Some
unfolding carried
returns-in-Some c =
    let a = c.args in
    rw c.in-Some.is
    (c.take_in.ensures
    ∙ ap (written a.self.now) (rw c.min.ensures (take_min c.in-Some.n a.bytes.now))
    ∙ device_on (some c.in-Some.n) a.self.now (write a.self.now.address a.bytes.now) (sym c.if-not-is_answered.ensures))

pub returns-in-None : goal.returns-in-None
unfolding carried
returns-in-None c =
    let a = c.args in
    rw c.in-None.is
    (c.take_in-in-None.ensures
    ∙ device_on none a.self.now (write a.self.now.address a.bytes.now) (sym c.if-not-is_answered.ensures))
