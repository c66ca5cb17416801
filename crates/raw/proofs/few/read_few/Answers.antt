-- Done by the short way, without check bytes and with them, where the frame is read into zeros.
-- Assumes nothing.
use Rattle.std.proofs.Common.{◌*◌, length, arith}
use borrow.Author.Tests.{not-true, not-false}
use Rattle.bus.proofs.Raws.{zeros}
use Rattle.raw.proofs.Quick.{five, read_well, frame_well}
use Rattle.raw.proofs.few.read_few.Goals as goal

pub returns-then-got : goal.returns-then-got
returns-then-got c =
    let a = c.args in
    let fit = c.can_go.ensures c.if-can_go.true in
    (read_well a.link a.reg a.«data».now fit.0 fit.1 (not-true _ c.if-not-link.true) c.if-got.ensures.0, c.if-got.ensures.1)

pub returns-then-got-2 : goal.returns-then-got-2
returns-then-got-2 c =
    let a = c.args in
    let m = length a.«data».now in
    let fit = c.can_go.ensures c.if-can_go.true in (
      frame_well a.link a.reg a.«data».now fit.0 fit.1 (not-false _ c.if-not-link.false) (omega (arith, fit.2, five a.link fit.0)) c.if-n-ne0.true
          (zeros (2 * m) 16 (omega (arith, fit.2))) c.if-got-2.ensures.0 c.take_pairs.ensures,
      c.if-got-2.ensures.1,
    )
