-- `calls::past_calls` meets its contract: the walk goes on behind each lawful call, and stops at any other field. Assumes nothing.
use Rattle.std.proofs.Common.{◌-◌, length, sym, refl, ◌∙◌, arith}
use Rattle.calls.proofs.Steps.{unfound, none_past, found_call, found_other}
use Rattle.calls.proofs.past_calls.Goals as goal

pub loop-field-init : goal.loop-field-init
loop-field-init c = (length c.args.input.now, omega arith, refl)

pub loop-field-preserved : goal.loop-field-preserved
loop-field-preserved c =
    let inv = c.loop-field.invariant in (
      inv.0 - 1,
      omega (arith, c.in-Ok.ensures.lies),
      inv.2 ∙ found_call _ _ _ (sym c.in-Ok.ensures.field) inv.0 inv.1 (sym c.if-not-is_lawful.ensures),
    )

pub returns-then-not-is_lawful : goal.returns-then-not-is_lawful
returns-then-not-is_lawful c =
    let inv = c.loop-field.invariant in
    sym (inv.2 ∙ found_other _ _ _ (sym c.in-Ok.ensures.field) inv.0 (sym c.if-not-is_lawful.ensures))

pub returns-in_default : goal.returns-in_default
returns-in_default c =
    let inv = c.loop-field.invariant in
    sym (inv.2 ∙ none_past _ _ inv.0 (unfound _ _ _ (sym c.in_default.ensures.field)))
