-- The search gives the place, from 0, at which the input stands. Assumes nothing.
use Rattle.std.proofs.Common.{◌≡◌, sym, ap, ◌∙◌, eqb, rules, tests}
use Rattle.std.specs.Prelude.{position}
use Rattle.std.proofs.lemmas.Iterator.{YieldsList-from_slice}
use Rattle.std.proofs.lemmas.Iterator.Search.{position_from_yields_List}
use Rattle.wiring.proofs.Found.{cell_at, by_position}
use Rattle.wiring.proofs.questions.place.Goals as goal

pub returns-in-Some : goal.returns-in-Some
returns-in-Some c =
    let l = c.args.inputs.now in
    let input = c.args.input in
    let r : c.position.result ≡ position (λ i. eqb input i) l = position_from_yields_List (λ i. eqb input i) _ _ c.position.result c.position.ensures.ran (YieldsList-from_slice _ c.iter.ensures.rest) (λ x b q k. search (rules, tests)) in
    ap cell_at (sym c.in-Some.is ∙ r) ∙ sym (by_position l input)

pub returns-in-None : goal.returns-in-None
returns-in-None c =
    let l = c.args.inputs.now in
    let input = c.args.input in
    let r : c.position.result ≡ position (λ i. eqb input i) l = position_from_yields_List (λ i. eqb input i) _ _ c.position.result c.position.ensures.ran (YieldsList-from_slice _ c.iter.ensures.rest) (λ x b q k. search (rules, tests)) in
    ap cell_at (sym c.in-None.is ∙ r) ∙ sym (by_position l input)
