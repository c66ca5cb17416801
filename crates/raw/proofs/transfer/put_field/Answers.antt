-- Four stores and a copy are one field.
-- Assumes nothing.
use Rattle.std.proofs.Common.{◌+◌, add-one, arith, ◌∙◌}
use Rattle.fields.specs.Fields.{field}
use Rattle.raw.proofs.Fields.{put_slice, put_head}
use Rattle.raw.proofs.transfer.put_field.Goals as goal

pub returns : goal.returns
unfolding field
returns c =
    let a = c.args in
    put_slice _ _ a.rest.now (a.at + 4) _ c.copy_from_slice.ensures.after (omega arith)
    ∙ put_head a.log.now a.at _ _ _ _ a.rest.now (omega arith)
    ∙ rw add-one
