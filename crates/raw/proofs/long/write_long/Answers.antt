-- What is not sent is not read back, and what went with check bytes, or is empty, needs not be.
-- Assumes nothing.
use Rattle.std.proofs.Common.{refl, ◌∙◌}
use Rattle.std.proofs.lemmas.Result.{err_from_is_err_and}
use Rattle.bus.proofs.Raws.{write_off, write_done, write_back, back_within}
use Rattle.raw.proofs.long.write_long.Goals as goal

pub returns-in_err-send : goal.returns-in_err-send
returns-in_err-send c =
    let p = err_from_is_err_and c.from_residual.result c.from_residual.ensures.1 in
    let r = c.in_err-send.ensures in
    rw (p.1, p.2) (write_off _ _ _ _ _ _ r.0 _ refl, r.1)

pub returns-then-link-data : goal.returns-then-link-data
returns-then-link-data c =
    let r = c.in_ok-send.ensures in
    (write_done _ _ _ _ _ _ r.0 refl c.if-link-data.true, r.1)

pub verify-requires-clause-data_len_bound : goal.verify-requires-clause-data_len_bound
verify-requires-clause-data_len_bound c = (back_within _ _ _ _ _ c.in_ok-send.ensures.0 refl c.if-link-data.false).0

pub verify-requires-clause-data_bound : goal.verify-requires-clause-data_bound
verify-requires-clause-data_bound c = (back_within _ _ _ _ _ c.in_ok-send.ensures.0 refl c.if-link-data.false).1

pub returns : goal.returns
returns c =
    let r = c.in_ok-send.ensures in
    (c.verify.ensures.0 ∙ write_back _ _ _ _ _ _ r.0 refl c.if-link-data.false, c.verify.ensures.1 ∙ r.1)
