-- A pair is tested, and what is left goes on; a byte is stored, and what is left goes on.
-- Assumes nothing.
use Rattle.std.proofs.Common.{ℕ, [], ◌∷◌, ◌*◌, ◌≤◌, length, get_or, arith, sym, ap, ◌∙◌}
use Rattle.check_byte.specs.CheckByte.{check_byte}
use Rattle.frames.specs.Frames.{read_byte}
use Rattle.frames.proofs.Steps.{shifted_one}
use Rattle.refusals.specs.Refusal.{value}
use Rattle.bus.specs.Raw.{gives}
use Rattle.raw.proofs.Asked.{taken_wrong, taken_right}
use Rattle.raw.proofs.Pairs.{tested, tested_next, tested_all, carried, carried_all}
use Rattle.raw.proofs.few.take_pairs.Goals as goal

pub loop-i-init : goal.loop-i-init
loop-i-init c =
    let a = c.args in
    let frame = a.frame.now in
    tested frame 0 (omega (arith, c.requires.0, c.requires.1)) (read_byte a.address ∷ []) _
    (c.check_byte2.ensures ∙ ap (λ (x : ℕ). check_byte (x ∷ get_or frame 0 0 ∷ [])) (shifted_one a.address))

pub loop-i-preserved : goal.loop-i-preserved
loop-i-preserved c =
    let k = c.loop-i in
    tested_next c.args.frame.now k.i (omega (arith, c.requires.1, c.loop-i-test.true)) _ k.right _ c.check_byte1.ensures k.invariant

pub returns-then-not-right : goal.returns-then-not-right
returns-then-not-right c =
    let a = c.args in
    let k = c.loop-i in
    let size : length a.frame.now ≤ 2 * k.i = omega (arith, c.requires.1, c.loop-i-test.false) in
    sym (taken_wrong a.address a.«data».now a.frame.now _ (k.invariant ∙ tested_all a.frame.now k.i size k.right ∙ c.if-not-right.true))

pub loop-i-2-preserved : goal.loop-i-2-preserved
loop-i-2-preserved c =
    let k = c.loop-i-2 in
    sym (carried c.args.frame.now k.i (omega (arith, c.requires.1, c.loop-i-2-test.true)) k.«data» (omega arith)) ∙ k.invariant

pub returns : goal.returns
returns c =
    let a = c.args in
    let k = c.loop-i in
    let l = c.loop-i-2 in
    let size : length a.frame.now ≤ 2 * k.i = omega (arith, c.requires.1, c.loop-i-test.false) in
    let done : length a.frame.now ≤ 2 * l.i = omega (arith, c.requires.1, c.loop-i-2-test.false) in
    ap (gives (value tt)) (sym (carried_all a.frame.now l.i done l.«data») ∙ l.invariant)
    ∙ sym (taken_right a.address a.«data».now a.frame.now (k.invariant ∙ tested_all a.frame.now k.i size k.right ∙ c.if-not-right.false))
