-- Where the registers run out it is 14; else it is as the transfer went.
-- Assumes nothing.
use Rattle.std.proofs.Common.{Ok, Err, arith, refl}
use Rattle.std.proofs.lemmas.Result.{err_from_is_err_and}
use Rattle.bus.proofs.Raws.{plain_out}
use Rattle.raw.proofs.Asked.{plain_read_is}
use Rattle.raw.proofs.long.plain_read.Goals as goal

pub returns-then-reg-data-gt256 : goal.returns-then-reg-data-gt256
returns-then-reg-data-gt256 c = (plain_out _ _ _ _ (omega arith), refl)

pub returns-in_err-transfer_read : goal.returns-in_err-transfer_read
returns-in_err-transfer_read c =
    let a = c.args in
    let p = err_from_is_err_and c.from_residual.result c.from_residual.ensures.1 in
    let r = c.in_err-transfer_read in
    rw (p.1, p.2) (plain_read_is a.link a.reg a.«data».now _ (omega arith) (Err r.field-0.0) refl r.ensures.0, r.ensures.1)

pub returns : goal.returns
returns c =
    let a = c.args in
    let r = c.in_ok-transfer_read in
    (plain_read_is a.link a.reg a.«data».now _ (omega arith) (Ok r.field-0) c.done.ensures r.ensures.0, r.ensures.1)
