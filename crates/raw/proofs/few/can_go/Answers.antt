-- The same, and the count.
-- Assumes nothing.
use mathlib.Core.Bool.{and-eq-true_iff}
use borrow.Author.Tests.{leb-true}
use Rattle.raw.proofs.few.can_go.Goals as goal

pub returns : goal.returns
returns c e =
    let both = (and-eq-true_iff _ _).0 e in
    let there = c.can_go.ensures both.0 in
    (there.0, there.1, leb-true _ _ both.1)
