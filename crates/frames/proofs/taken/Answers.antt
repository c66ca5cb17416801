-- The first pair is tested, and then eight pairs at a time; the data of eight pairs is stored after that of the pairs before them.
-- Assumes nothing.
use Rattle.std.proofs.Common.{ℕ, ◌≡◌, ◌+◌, ◌-◌, ◌*◌, ◌%◌, min, Bool, bit_or, ◌&&◌, List, [], ◌∷◌, length, take, drop, get_or, arith}
use Rattle.std.proofs.Common.{rules, refl, sym, ap, ◌∙◌, eqb}
use borrow.Author.Tests.{eq-eqb, ne_eqb}
use Rattle.check_byte.specs.CheckByte.{check_byte}
use Rattle.frames.specs.Frames.{read_byte, right, data_of}
use Rattle.frames.specs.Put.{put}
use Rattle.frames.proofs.Put.{put_none}
use Rattle.frames.proofs.Eights.{tested_first, tested_eight, carried_eight, tested_eights, carried_eights}
use Rattle.frames.proofs.Steps.{shifted_one}
use Rattle.frames.proofs.taken.Goals as goal

-- the first check byte covers the address byte of a read
first : (address eights c : ℕ) (frame : List ℕ) → length frame ≡ 66 → c ≡ check_byte (bit_or (address * 2 % 256) 1 ∷ get_or frame 0 0 ∷ [])
    → right (read_byte address ∷ []) (take (16 * eights + 2) frame) ≡ (eqb (get_or frame 1 0) c && right [] (take (16 * eights) (drop 2 frame)))
first address eights c frame size e =
    tested_first (read_byte address ∷ []) frame (16 * eights) c (omega arith)
    (e ∙ ap (λ (x : ℕ). check_byte (x ∷ get_or frame 0 0 ∷ [])) (shifted_one address))

pub returns-then-bytes-check_byte2 : goal.returns-then-bytes-check_byte2
returns-then-bytes-check_byte2 c =
    let a = c.args in
    let frame = a.frame.now in
    let size : length frame ≡ 66 = search rules in (
      sym (first a.address a.eights _ frame size c.check_byte2.ensures
          ∙ ap (λ (t : Bool). t && right [] (take (16 * a.eights) (drop 2 frame))) (ne_eqb _ _ c.if-bytes-check_byte2.true)),
      refl,
    )

pub loop-k-init : goal.loop-k-init
unfolding data_of
loop-k-init c =
    let a = c.args in
    let frame = a.frame.now in
    let size : length frame ≡ 66 = search rules in
    let all : 16 * a.eights ≡ 16 * (a.eights - 0) = omega arith in (
      first a.address a.eights _ frame size c.check_byte2.ensures
          ∙ ap (λ (t : Bool). t && right [] (take (16 * a.eights) (drop 2 frame))) (eq-eqb _ _ c.if-bytes-check_byte2.false)
          ∙ ap (λ (n : ℕ). right [] (take n (drop 2 frame))) all,
      sym (put_none a.«data».now 0),
    )

pub returns-then-not-right_eight : goal.returns-then-not-right_eight
returns-then-not-right_eight c =
    let a = c.args in
    let k = c.loop-k in
    let frame = a.frame.now in
    let size : length frame ≡ 66 = search rules in
    let rest = right [] (take (16 * (a.eights - (k.k + 1))) (drop (16 * (k.k + 1) + 2) frame)) in (
      sym (k.invariant.0
          ∙ tested_eight frame a.eights k.k c.right_eight.result (omega arith) (omega arith) c.right_eight.ensures
          ∙ ap (λ (t : Bool). t && rest) c.if-not-right_eight.true),
      refl,
    )

pub loop-k-preserved : goal.loop-k-preserved
loop-k-preserved c =
    let a = c.args in
    let k = c.loop-k in
    let frame = a.frame.now in
    let size : length frame ≡ 66 = search rules in
    let rest = right [] (take (16 * (a.eights - (k.k + 1))) (drop (16 * (k.k + 1) + 2) frame)) in (
      k.invariant.0
          ∙ tested_eight frame a.eights k.k c.right_eight.result (omega arith) (omega arith) c.right_eight.ensures
          ∙ ap (λ (t : Bool). t && rest) c.if-not-right_eight.false,
      c.carry_eight.ensures
          ∙ ap (λ (v : List ℕ). put v (8 * k.k) (data_of (take 16 (drop (16 * k.k) frame)))) k.invariant.1
          ∙ carried_eight frame a.«data».now k.k (omega arith) (omega arith),
    )

pub returns : goal.returns
returns c =
    let a = c.args in
    let k = c.loop-k in
    let frame = a.frame.now in
    let size : length frame ≡ 66 = search rules in
    let end : k.k ≡ min a.eights 4 = omega arith in (
      sym (k.invariant.0 ∙ tested_eights frame a.eights k.k size end),
      k.invariant.1 ∙ ap (put a.«data».now 0) (sym (carried_eights frame a.eights k.k size end)),
    )
