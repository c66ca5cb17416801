-- Done by the short way, without check bytes and with them, where the frame is read into zeros.
-- Assumes nothing.
use Rattle.std.proofs.Common.{ℕ, List, true, ◌≡◌, ◌*◌, ◌≤◌, ◌&&◌, eqb, leb, length, take, replicate, arith, ◌∙◌}
use mathlib.Core.Bool.{not, and-eq-true_iff}
use lib.Seq.{length-take-le}
use borrow.Author.Tests.{leb-true, eqb-false, not-true, not-false}
use Rattle.bus.proofs.Raws.{sound_x}
use Rattle.raw.proofs.Quick.{among_zeros, read_well, front_well}
use Rattle.raw.proofs.read_raw.Goals as goal

-- with check bytes: some bytes, and not too many
counts : (n x : ℕ) → (not (eqb n 0) && leb n (2 * x)) ≡ true → (n ≡ 0 → ⊥) × (n ≤ 2 * x)
counts n x t =
    let both = (and-eq-true_iff (not (eqb n 0)) (leb n (2 * x))).0 t in
    (eqb-false n 0 (not-true (eqb n 0) both.0), leb-true n (2 * x) both.1)

-- the frame that was read into zeros
size : (m : ℕ) (frame : List ℕ) → m ≤ 30 → length frame ≡ length (take {A = ℕ} (2 * m) (replicate 66 0)) → length frame ≡ 2 * m
size m frame few e = e ∙ length-take-le (2 * m) (replicate 66 0) (omega arith)

pub returns-then-got : goal.returns-then-got
returns-then-got c =
    let a = c.args in
    let fit = c.can_go.ensures c.if-can_go.true in
    (read_well a.link a.reg_address a.«data».now fit.0 fit.1 (not-true _ c.if-not-link.true) c.if-got.ensures.0, c.if-got.ensures.1)

pub take_frame-requires-clause-frame_value : goal.take_frame-requires-clause-frame_value
take_frame-requires-clause-frame_value c =
    let a = c.args in
    let m = length a.«data».now in
    let g = c.got-then-n-link in
    let fit = c.can_go.ensures c.if-can_go.true in
    let few = counts m a.link.x c.if-n-link.true in
    let most : m ≤ 30 = omega (arith, few.1, sound_x a.link fit.0) in
    among_zeros (replicate 66 0) g.new.buf (2 * m) (size m g.new.buf most g.auto.buf)

pub returns-then-got-2 : goal.returns-then-got-2
returns-then-got-2 c =
    let a = c.args in
    let m = length a.«data».now in
    let g = c.got-then-n-link in
    let fit = c.can_go.ensures c.if-can_go.true in
    let few = counts m a.link.x c.if-n-link.true in
    let most : m ≤ 30 = omega (arith, few.1, sound_x a.link fit.0) in (
      front_well a.link a.reg_address a.«data».now fit.0 fit.1 66 (omega arith) (not-false _ c.if-not-link.false) few.1 few.0 c.if-got-2.ensures.0
          (size m g.new.buf most g.auto.buf) c.take_frame.ensures,
      c.if-got-2.ensures.1,
    )
