-- At the end no byte is left to store.
-- Assumes nothing.
use Rattle.std.proofs.Common.{◌+◌, rules, sym, ap, ◌∙◌}
use lib.ListN.{drop_of_length-le}
use Rattle.frames.specs.Put.{put}
use Rattle.frames.proofs.Put.{put_none}
use Rattle.frames.proofs.put_alone.Goals as goal

pub returns : goal.returns
returns c =
    let i = c.loop-i.i in
    let out = c.loop-i.out in
    sym (put_none out (i + 1))
    ∙ ap (put out (i + 1)) (sym (drop_of_length-le c.args.«data».now {i = i} (search rules)))
    ∙ c.loop-i.invariant
