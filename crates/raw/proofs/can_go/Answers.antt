-- The two tests are what is promised.
-- Assumes nothing.
use Rattle.std.proofs.Common.{sym, ◌∙◌}
use mathlib.Core.Bool.{and-eq-true_iff}
use borrow.Author.Tests.{leb-true}
use Rattle.raw.proofs.can_go.Goals as goal

pub returns : goal.returns
returns c e =
    let both = (and-eq-true_iff _ _).0 e in
    (sym c.is_sound.ensures ∙ both.0, leb-true _ _ both.1)
