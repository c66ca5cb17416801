-- `layout::lay_out` meets its contract. Assumes nothing.
use Rattle.layout.proofs.Laid.{laid_is}
use borrow.Author.Rules.{rules}
use Rattle.layout.proofs.lay_out.Goals as goal
use Rattle.layout.proofs.lay_out.Goals.{After-put4, After-put4-3}

-- ---- the places, each from a later one: after the tape's number, and after the first and the third of the five

pub returns : goal.returns
returns c =
    let a = c.args in
    laid_is a.out.now a.at a.numbers (search rules)
    c.put8.ensures
    c.put8-2.ensures
    c.put4.ensures
    c.put4-2.ensures
    c.put4-3.ensures
    c.put4-4.ensures
    c.put4-5.ensures
