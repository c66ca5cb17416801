-- `calls::shape_of` meets its contract: the tags count up by one, so that the table is read by place. Assumes nothing.
use Rattle.std.proofs.Common.{sym, ap, ◌∙◌}
use Rattle.std.specs.Prelude.{slice_get}
use Rattle.calls.proofs.Items.{item_copied}
use Rattle.calls.proofs.Rows.{in_turn, from}
use Rattle.calls.proofs.shape_of.Goals as goal

pub returns : goal.returns
returns c =
    let place = c.in_ok-place.ensures in
    c.copied.ensures ∙ item_copied in_turn _ _ c.get.ensures.lookup ∙ ap (slice_get in_turn) place.1 ∙ sym (from _ place.0)
