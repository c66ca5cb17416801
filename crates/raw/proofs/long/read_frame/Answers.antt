-- The frame is read into zeros, and what it gives is taken from it.
-- Assumes nothing.
use Rattle.std.proofs.Common.{ℕ, List, ◌≡◌, ◌*◌, ◌≤◌, length, take, replicate, arith, ◌∙◌}
use Rattle.std.proofs.lemmas.Result.{err_from_is_err_and}
use lib.Seq.{length-take-le}
use Rattle.bus.proofs.Raws.{zeros}
use Rattle.raw.proofs.Asked.{frame_read, frame_stopped}
use Rattle.raw.proofs.Quick.{among_zeros, taken_front, into_zeros}
use Rattle.raw.proofs.long.read_frame.Goals as goal

-- the frame that was read into zeros
size : (n : ℕ) (frame : List ℕ) → n ≤ 30 → length frame ≡ length (take {A = ℕ} (2 * n) (replicate 66 0)) → length frame ≡ 2 * n
size n frame few e = e ∙ length-take-le (2 * n) (replicate 66 0) (omega arith)

pub returns-in_err-made : goal.returns-in_err-made
returns-in_err-made c =
    let a = c.args in
    let n = length a.«data».now in
    let p = err_from_is_err_and c.from_residual.result c.from_residual.ensures.1 in
    let r = c.in_err-made in
    rw (p.1, p.2)
    (frame_stopped a.address a.reg a.«data».now r.field-0.0 (into_zeros _ n (zeros (2 * n) 66 (omega (arith, c.requires.1))) r.ensures.0), r.ensures.1)

pub take_frame-requires-clause-frame_value : goal.take_frame-requires-clause-frame_value
take_frame-requires-clause-frame_value c =
    let t = c.transfer_read in
    among_zeros (replicate 66 0) t.new.buf _ (size (length c.args.«data».now) t.new.buf c.requires.1 t.auto.buf)

pub returns : goal.returns
returns c =
    let a = c.args in
    let t = c.transfer_read in
    let n = length a.«data».now in
    let r = c.in_ok-made in (
      frame_read a.address a.reg a.«data».now r.made.fault r.made.len
          (taken_front a.address a.«data».now (replicate 66 0) t.new.buf (2 * n) r.made.fault (size n t.new.buf c.requires.1 t.auto.buf) c.take_frame.ensures)
          (into_zeros _ n (zeros (2 * n) 66 (omega (arith, c.requires.1))) r.ensures.0),
      r.ensures.1,
    )
