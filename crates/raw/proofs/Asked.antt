-- From what one transfer did, and the buffers that it left: what the raw calls' programs that ask for it do.
-- Assumes nothing.
use mathlib.Core.Path.{◌≡◌, refl, sym, ap, ◌∙◌}
use mathlib.Core.Bool.{Bool, true, false, cond}
use Prim.Native.Nat.{ℕ, ◌+◌, ◌*◌, ◌≤◌}
use mathlib.Core.List.{List, [], ◌∷◌}
use native.Mathlib.Omega.{arith}
use Rattle.std.specs.Prelude.{Ok, Err}
use lib.ListN.{length, take, replicate}
use lib.Seq.{take_all}
use borrow.Author.Tests.{le-ltb}
use Rattle.bus.proofs.Raws.{verified_done}
use Rattle.refusals.specs.Refusal.{Refusal, Answer, value, refused, as_refusal}
use Rattle.refusals.specs.declared.Error.{Error}
use Rattle.refusals.proofs.Values.{refused_not}
use Rattle.frames.specs.Frames.{read_byte, right, data_of, write_frame, written_frame}
use Rattle.frames.specs.Put.{put}
use Rattle.frames.proofs.Frames.{length_write_frame, written_frame_lem}
use Rattle.frames.proofs.Put.{length_put, take_front}
use Rattle.bus.specs.Transfers.{Transfer, read, write, Outcome, Bus}
use Rattle.bus.specs.Programs.{ret, ask, ends, on_tape}
use Rattle.bus.specs.Raw.{Done, refuses, Read, gives, plainly, received, where_right, checkedly}
use Rattle.bus.specs.Raw.{plain_read, ask_frame, wrote, ask_write, compared, verified, ask_back}
use Rattle.bus.specs.declared.link.Link.{Link}
use Rattle.raw.specs.Inside.{Reply, made, whole, outcome_of, ending, answer_to, taken, buffer_after, WentBy, ReadBy, WrittenBy}

-- one transfer, and an answer by its outcome
asked_by : {A : Type 0} (t : Transfer) {b b' : Bus} (f : Outcome → A) {o : Outcome} → WentBy t o b b'
    → ends (f o) b' ≡ on_tape (ask t (λ p. ret (f p))) b
unfolding on_tape
asked_by t f w = λ i. record { answer = f (w.went i); bus = w.next i }

-- ---- without checks
plainly_is : (buf held : List ℕ) (r : Reply)
    → gives (answer_to r) (buffer_after buf (outcome_of r held)) ≡ plainly buf (outcome_of r held)
unfolding plainly
plainly_is buf held (Err e) = refl
plainly_is buf held (Ok m) = by_fault m.fault
  where
    by_fault : (f : Bool) → gives (ending f) (buffer_after buf (outcome_of (made f m.len) held)) ≡ plainly buf (outcome_of (made f m.len) held)
    by_fault true = refl
    by_fault false = refl

module _ (s : Link) (reg : ℕ) (buf : List ℕ) (b : Bus) where
  pub plain_read_is : reg + length buf ≤ 256 → (r : Reply) {a : Answer Done} {buf' : List ℕ} {b' : Bus} → a ≡ answer_to r
      → ReadBy (read s.address reg (length buf)) buf r buf' b b'
      → ends (gives a buf') b' ≡ on_tape (plain_read s reg buf) b
  unfolding plain_read
  plain_read_is h r {a} {buf'} {b'} e by =
      let stored = by.stored ∙ ap (buffer_after buf) (sym by.moved.went) in
      rw (le-ltb _ _ h, e)
      (ap (λ (x : Read). ends x b')
      (ap (gives (answer_to r)) stored ∙ plainly_is buf buf' r)
      ∙ asked_by (read s.address reg (length buf)) (plainly buf) by.moved)

-- ---- with checks
module _ (address : ℕ) (buf frame : List ℕ) where
  pub taken_wrong : (f : Bool) → right (read_byte address ∷ []) frame ≡ false
      → taken address buf frame f ≡ gives (refuses 1) buf
  unfolding taken where_right
  taken_wrong true e = rw e
  taken_wrong false e = rw e

  pub taken_fault : right (read_byte address ∷ []) frame ≡ true
      → taken address buf frame true ≡ gives (refuses 2) buf
  unfolding taken where_right
  taken_fault e = rw e

  pub taken_right : right (read_byte address ∷ []) frame ≡ true
      → taken address buf frame false ≡ gives (value tt) (put buf 0 (data_of frame))
  unfolding taken where_right
  taken_right e = rw e

  taken_is : (f : Bool) (n : ℕ) → frame ≡ buffer_after (replicate (2 * length buf) 0) (outcome_of (made f n) frame)
      → taken address buf frame f ≡ checkedly address buf (outcome_of (made f n) frame)
  unfolding taken checkedly received
  taken_is true n e = ap (λ (x : List ℕ). where_right address buf x (gives (refuses 2) buf)) e
  taken_is false n e = ap (λ (x : List ℕ). where_right address buf x (gives (value tt) (put buf 0 (data_of x)))) e

-- the frame's buffer is zero before
module _ (address reg : ℕ) (buf : List ℕ) {b b' : Bus} {frame : List ℕ} where
  pub frame_read : (f : Bool) (n : ℕ) {x : Read} → x ≡ taken address buf frame f
      → ReadBy (read address reg (2 * length buf)) (replicate (2 * length buf) 0) (made f n) frame b b'
      → ends x b' ≡ on_tape (ask_frame address reg buf) b
  unfolding ask_frame
  frame_read f n e by =
      let stored = by.stored ∙ ap (buffer_after (replicate (2 * length buf) 0)) (sym by.moved.went) in
      ap (λ (y : Read). ends y b') (e ∙ taken_is address buf frame f n stored)
      ∙ asked_by (read address reg (2 * length buf)) (checkedly address buf) by.moved

  -- and where it was not made the caller's bytes stay
  pub frame_stopped : (e : Error)
      → ReadBy (read address reg (2 * length buf)) (replicate (2 * length buf) 0) (Err e) frame b b'
      → ends (gives (refused (as_refusal e)) buf) b' ≡ on_tape (ask_frame address reg buf) b
  unfolding ask_frame checkedly
  frame_stopped e by = asked_by (read address reg (2 * length buf)) (checkedly address buf) by.moved

-- ---- read back
-- a read that was not done refuses; one that was done compares all that it read
verified_off : (reg : ℕ) (bytes held : List ℕ) (r : Reply) (x : Refusal) → answer_to r ≡ refused x
    → answer_to r ≡ verified reg bytes (outcome_of r held)
unfolding verified
verified_off reg bytes held (Err y) x e = refl
verified_off reg bytes held (Ok m) x e = by_fault m.fault e
  where
    by_fault : (f : Bool) → ending f ≡ refused x → ending f ≡ verified reg bytes (outcome_of (made f m.len) held)
    by_fault true e = refl
    by_fault false e = refused_not (sym e)

verified_on : (reg : ℕ) (bytes held : List ℕ) (r : Reply) → ((n : ℕ) → r ≡ whole n → length held ≤ n)
    → answer_to r ≡ value tt
    → compared reg bytes held ≡ verified reg bytes (outcome_of r held)
verified_on reg bytes held (Err y) h e = refused_not e
verified_on reg bytes held (Ok m) h e = by_fault m.fault refl e
  where
    by_fault : (f : Bool) → m.fault ≡ f → ending f ≡ value tt → compared reg bytes held ≡ verified reg bytes (outcome_of (made f m.len) held)
    by_fault true q e = refused_not e
    by_fault false q e =
        ap (compared reg bytes) (sym (take_all m.len held (h m.len (ap (λ (f : Bool). made f m.len) q)))) ∙ sym (verified_done reg bytes (take m.len held))

module _ (address reg : ℕ) (bytes back : List ℕ) {b b' : Bus} (same : length back ≡ length bytes) (r : Reply) {back' : List ℕ}
    (kept : length back' ≡ length back) (by : ReadBy (read address reg (length back)) back r back' b b') where
  asked_back : (x : Answer Done) → x ≡ verified reg bytes (outcome_of r back')
      → ends x b' ≡ on_tape (ask_back address reg bytes) b
  unfolding ask_back
  asked_back x e =
      ap (λ (y : Answer Done). ends y b') e
      ∙ asked_by (read address reg (length back)) (verified reg bytes) by.moved
      ∙ ap (λ (k : ℕ). on_tape (ask (read address reg k) (λ o. ret (verified reg bytes o))) b) same

  pub back_off : {x : Refusal} → answer_to r ≡ refused x → ends (refused x) b' ≡ on_tape (ask_back address reg bytes) b
  back_off {x} e = asked_back _ (sym e ∙ verified_off reg bytes back' r x e)

  pub back_on : {x : Answer Done} → answer_to r ≡ value tt → x ≡ compared reg bytes back'
      → ends x b' ≡ on_tape (ask_back address reg bytes) b
  back_on e is = asked_back _ (is ∙ verified_on reg bytes back' r (λ n q. omega (arith, by.all n q, kept)) e)

-- ---- writing
wrote_is : (r : Reply) → answer_to r ≡ wrote (outcome_of r [])
unfolding wrote
wrote_is (Err e) = refl
wrote_is (Ok m) = by_fault m.fault
  where
    by_fault : (f : Bool) → ending f ≡ wrote (outcome_of (made f m.len) [])
    by_fault true = refl
    by_fault false = refl

module _ (s : Link) (reg : ℕ) (bytes frame : List ℕ) {b b' : Bus} where
  pub write_sent : (r : Reply) {a : Answer Done} → a ≡ answer_to r → frame ≡ write_frame s.check s.address reg bytes
      → WrittenBy (write s.address frame) r b b'
      → ends a b' ≡ on_tape (ask_write s reg bytes) b
  unfolding ask_write
  write_sent r e is by =
      ap (λ (y : Answer Done). ends y b') (e ∙ wrote_is r)
      ∙ asked_by _ wrote by
      ∙ ap (λ (l : List ℕ). on_tape (ask (write s.address l) (λ o. ret (wrote o))) b) is

-- the frame of a write that the length allows, as it stands in the code's buffer
module _ (check : Bool) (address reg : ℕ) (bytes : List ℕ) (few : length bytes ≤ 8) where
  frame_size : length (write_frame check address reg bytes) ≤ 17
  frame_size = by_check check (length_write_frame check address reg bytes)
    where
      by_check : (c : Bool) {n : ℕ} → n ≡ cond c 2 1 * length bytes + 1 → n ≤ 17
      by_check true e = omega arith
      by_check false e = omega arith

  module _ (out out' : List ℕ) (n : ℕ) (room : length out ≡ 17)
      (size : n ≡ length (written_frame check address reg bytes))
      (is : out' ≡ put out 0 (written_frame check address reg bytes)) where
    counted : n ≡ length (write_frame check address reg bytes)
    counted = size ∙ ap length (written_frame_lem check address reg bytes few)

    holds : out' ≡ put out 0 (write_frame check address reg bytes)
    holds = is ∙ ap (put out 0) (written_frame_lem check address reg bytes few)

    fits : length (write_frame check address reg bytes) ≤ length out
    fits = omega (arith, frame_size, room)

    pub frame_room : n ≤ length out'
    frame_room =
        omega (arith, counted, fits, ap length holds ∙ length_put out 0 _ (omega (arith, fits)))

    pub frame_sent : take n out' ≡ write_frame check address reg bytes
    frame_sent = rw (counted, holds) (take_front out (write_frame check address reg bytes) fits)
