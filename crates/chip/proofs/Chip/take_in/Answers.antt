-- Where the write is answered, the rest of it passes no register FF.
-- Assumes nothing.
use Rattle.std.proofs.Common.{true, false}
use Rattle.chip.specs.Chip.{begun}
use Rattle.chip.proofs.Takes.{rest_within}
use Rattle.chip.proofs.Chip.take_in.Goals as goal

pub store_checked-requires : goal.store_checked-requires
store_checked-requires c =
    rest_within c.args.self.now c.args.bytes.now _ _ c.in-Some.ensures.cases.0 c.requires true c.if-self.true

pub store_alone-requires : goal.store_alone-requires
unfolding begun
store_alone-requires c =
    rest_within c.args.self.now c.args.bytes.now _ _ c.in-Some.ensures.cases.0 c.requires false c.if-self.false
