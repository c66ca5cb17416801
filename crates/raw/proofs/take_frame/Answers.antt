-- In zeros the frame is right where the whole is, and its data are the first of the whole's.
-- Assumes nothing.
use Rattle.std.proofs.Common.{ℕ, List, [], ◌∷◌, ◌≡◌, ◌+◌, ◌*◌, ◌/◌, ◌≤◌, Bool, length, take, replicate, arith, sym, ap, ◌∙◌}
use lib.ListN.{length-take}
use lib.Seq.{length-take-le}
use Rattle.frames.specs.Frames.{read_byte, right, data_of}
use Rattle.frames.specs.Put.{put}
use Rattle.frames.proofs.Put.{length_put, put_all}
use Rattle.frames.proofs.Padded.{padded_right, padded_data}
use Rattle.refusals.specs.Refusal.{value}
use Rattle.bus.specs.Raw.{gives}
use Rattle.raw.proofs.Asked.{taken_wrong, taken_fault, taken_right}
use Rattle.raw.proofs.take_frame.Goals as goal

-- the frame, and the zeros that it stands in
module _ (padded : List ℕ) (n : ℕ) (some : 1 ≤ n) (few : n ≤ 30) (is : padded ≡ put (replicate 66 0) 0 (take (2 * n) padded)) where
  abbrev frame : List ℕ
  frame = take (2 * n) padded

  at_most : length frame ≤ 2 * n
  at_most = simp length-take (omega arith)

  all : length padded ≡ 66
  all = ap length is ∙ length_put (replicate 66 0) 0 frame (omega (arith, at_most))

  size : length frame ≡ 2 * n
  size = length-take-le (2 * n) padded (omega (arith, all))

  -- what the test says
  tested : (address : ℕ) (r : Bool) → r ≡ right (read_byte address ∷ []) (take (16 * ((n + 7) / 8) + 2) padded)
      → r ≡ right (read_byte address ∷ []) frame
  tested address r e = e ∙ padded_right frame padded n is size some few address

  carried : (bytes : List ℕ) → bytes ≡ put (replicate 32 0) 0 (take 32 (data_of (take (16 * ((n + 7) / 8)) padded)))
      → take n bytes ≡ data_of frame
  carried bytes e = ap (take n) e ∙ padded_data frame padded n is size some few

pub returns-then-not-taken : goal.returns-then-not-taken
returns-then-not-taken c =
    let a = c.args in
    let q = c.requires in
    let n = length a.«data».now in
    sym (taken_wrong a.address _ (take (2 * n) a.frame.now) a.fault
    (sym (tested a.frame.now n q.in_bounds.0 q.in_bounds.1 q.frame_value a.address _ c.taken.ensures.0) ∙ c.if-not-taken.true))

pub returns-then-fault : goal.returns-then-fault
returns-then-fault c =
    let a = c.args in
    let q = c.requires in
    let n = length a.«data».now in
    rw c.if-fault.true
    (sym (taken_fault a.address _ (take (2 * n) a.frame.now)
    (sym (tested a.frame.now n q.in_bounds.0 q.in_bounds.1 q.frame_value a.address _ c.taken.ensures.0) ∙ c.if-not-taken.false)))

pub returns : goal.returns
returns c =
    let a = c.args in
    let q = c.requires in
    let n = length a.«data».now in
    let is = c.copy_from_slice.ensures.after
    ∙ carried a.frame.now n q.in_bounds.0 q.in_bounds.1 q.frame_value _ (rw c.if-not-taken.false at c.taken.ensures.1) in
    rw c.if-fault.false
    (ap (gives (value tt)) (is ∙ sym (put_all a.«data».now _ (omega (arith, c.copy_from_slice.ensures.len, ap length is))))
    ∙ sym (taken_right a.address _ (take (2 * n) a.frame.now)
    (sym (tested a.frame.now n q.in_bounds.0 q.in_bounds.1 q.frame_value a.address _ c.taken.ensures.0) ∙ c.if-not-taken.false)))
