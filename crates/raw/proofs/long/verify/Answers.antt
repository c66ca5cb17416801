-- A read that was not done refuses; one that was done is compared.
-- Assumes nothing.
use Rattle.std.proofs.Common.{length, replicate, Ok, Err, refl, sym}
use Rattle.std.proofs.lemmas.Result.{err_from_is_err_and}
use lib.Seq.{length-take-le}
use Rattle.raw.proofs.Asked.{back_off, back_on}
use Rattle.raw.proofs.long.verify.Goals as goal

pub returns-in_err-transfer_read : goal.returns-in_err-transfer_read
returns-in_err-transfer_read c =
    let a = c.args in
    let p = err_from_is_err_and c.from_residual.result c.from_residual.ensures.1 in
    let r = c.in_err-transfer_read in
    let same = length-take-le (length a.«data».now) (replicate 8 0) c.requires.data_len_bound in
    rw (p.1, p.2) (back_off a.address a.reg a.«data».now _ same (Err r.field-0.0) c.transfer_read.auto.buf r.ensures.0 refl, r.ensures.1)

pub returns-in_err-done : goal.returns-in_err-done
returns-in_err-done c =
    let a = c.args in
    let p = err_from_is_err_and c.from_residual-in_err-done.result c.from_residual-in_err-done.ensures.1 in
    let r = c.in_ok-transfer_read in
    let same = length-take-le (length a.«data».now) (replicate 8 0) c.requires.data_len_bound in
    rw (p.1, p.2) (back_off a.address a.reg a.«data».now _ same (Ok r.field-0) c.transfer_read.auto.buf r.ensures.0 (sym c.in_err-done.ensures), r.ensures.1)

pub returns : goal.returns
returns c =
    let a = c.args in
    let r = c.in_ok-transfer_read in
    let same = length-take-le (length a.«data».now) (replicate 8 0) c.requires.data_len_bound in
    (back_on a.address a.reg a.«data».now _ same (Ok r.field-0) c.transfer_read.auto.buf r.ensures.0 (sym c.in_ok-done.ensures) c.compare.ensures, r.ensures.1)
