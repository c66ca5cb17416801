-- `cells::taking::read` meets its contract: what is read on a record that passes the tests.
-- Assumes nothing.
use Rattle.std.proofs.Common.{arith}
use Rattle.std.proofs.lemmas.Result.{IfOk-weaker}
use Rattle.laws.proofs.Tests.{is_true}
use Rattle.sizes.specs.Sizes.{is_count}
use Rattle.bq769x0.proofs.Soundly.{tested}
use Rattle.bq769x0.proofs.Sizes.{sound_pack, sound_sizes, sound_gain}
use Rattle.cells.proofs.taking.read.Goals as goal

pub read_inputs-requires : goal.read_inputs-requires
read_inputs-requires c =
    let sound = tested c.args.device.now tt c.in_ok-sound.ensures in
    ((sound_sizes c.args.device.now sound).0, sound_gain c.args.device.now sound)

pub returns-clause-ready : goal.returns-clause-ready
returns-clause-ready c =
    let d = c.args.device.now in
    IfOk-weaker c.read_inputs.result _ _
    (λ done small. record {
      pack = is_true (is_count d.link.x d.cell_count) (sound_pack d (tested d tt c.in_ok-sound.ensures));
      fits = omega arith;
      small = small;
    })
    c.read_inputs.ensures.small
