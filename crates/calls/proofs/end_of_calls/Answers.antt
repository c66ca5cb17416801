-- `calls::end_of_calls` meets its contract: the field past the calls is the end, or none is. Assumes nothing.
use Rattle.std.proofs.Common.{rules}
use Rattle.calls.proofs.Steps.{search_ends}
use Rattle.calls.proofs.end_of_calls.Goals as goal

pub returns-in_err-field : goal.returns-in_err-field
returns-in_err-field c = rw (search_ends _ _ _ c.past_calls.ensures c.in_err-field.ensures.field) (search rules)

pub returns-then-field : goal.returns-then-field
returns-then-field c = rw (search_ends _ _ _ c.past_calls.ensures c.in_ok-field.ensures.field, c.if-field.true)

pub returns-else-field : goal.returns-else-field
returns-else-field c = rw (search_ends _ _ _ c.past_calls.ensures c.in_ok-field.ensures.field, c.if-field.false)
