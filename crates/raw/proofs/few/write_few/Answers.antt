-- The frame stands first in the buffer, and is done with by the short way.
-- Assumes nothing.
use Rattle.std.proofs.Common.{ℕ, List, Bool, ◌≡◌, ◌&&◌, eqb, length, take, drop, replicate, ◌++◌, refl, sym, ap, ◌∙◌}
use mathlib.Core.Bool.{true, not, and-eq-true_iff}
use lib.Seq.{length-take-le}
use borrow.Author.Tests.{eqb-false, not-true}
use Rattle.bus.specs.Raw.{compared}
use Rattle.raw.proofs.Asked.{frame_room, frame_sent}
use Rattle.raw.proofs.Quick.{in_front_is, sent_well, echoed_well}
use Rattle.raw.proofs.few.write_few.Goals as goal

-- may be tried, and some bytes
fits : {may : Bool} {n : ℕ} {A : Type 0} → (may ≡ true → A) → (may && not (eqb n 0)) ≡ true → A × (n ≡ 0 → ⊥)
fits there t =
    let both = (and-eq-true_iff _ _).0 t in
    (there both.0, eqb-false _ 0 (not-true _ both.1))

pub slice_bounds-out-end : goal.slice_bounds-out-end
slice_bounds-out-end c =
    let a = c.args in
    let w = c.write_frame-size in
    let fit = fits c.can_go.ensures c.if-can_go-n.true in
    frame_room a.link.check a.link.address a.reg a.«data».now fit.0.2 _ w.new.out w.result refl w.ensures.0 w.ensures.1

pub slice_bounds-frame-end : goal.slice_bounds-frame-end
slice_bounds-frame-end c =
    let a = c.args in
    let w = c.write_frame-size in
    let fit = fits c.can_go.ensures c.if-can_go-n.true in
    sym (length-take-le _ _ (frame_room a.link.check a.link.address a.reg a.«data».now fit.0.2 _ w.new.out w.result refl w.ensures.0 w.ensures.1))

pub returns-then-sent : goal.returns-then-sent
returns-then-sent c =
    let a = c.args in
    let w = c.write_frame-size in
    let fit = fits c.can_go.ensures c.if-can_go-n.true in
    let sent = frame_sent a.link.check a.link.address a.reg a.«data».now fit.0.2 _ w.new.out w.result refl w.ensures.0 w.ensures.1 in
    (sent_well a.link a.reg a.«data».now _ fit.0.0 fit.0.2 fit.1 fit.0.1 sent c.if-link.true c.if-sent.ensures.0, c.if-sent.ensures.1)

pub returns-then-echoed : goal.returns-then-echoed
returns-then-echoed c =
    let a = c.args in
    let w = c.write_frame-size in
    let n = length a.«data».now in
    let fit = fits c.can_go.ensures c.if-can_go-n.true in
    let sent = frame_sent a.link.check a.link.address a.reg a.«data».now fit.0.2 _ w.new.out w.result refl w.ensures.0 w.ensures.1 in
    let none : length (take {A = ℕ} n (replicate 8 0)) ≡ n = length-take-le n (replicate 8 0) fit.0.2 in
    let back : List ℕ = c.echoed.new.back in
    let back_is : take n (back ++ drop n (replicate 8 0)) ≡ back = in_front_is (replicate 8 0) back n (c.echoed.auto.back ∙ none) in (
      echoed_well a.link a.reg a.«data».now _ fit.0.0 fit.0.2 fit.1 fit.0.1 sent (take n (replicate 8 0)) c.if-link.false
          c.if-echoed.ensures.0 none c.echoed.auto.back (c.compare.ensures ∙ ap (compared a.reg a.«data».now) back_is),
      c.if-echoed.ensures.1,
    )
