-- A read leaves as many bytes as it was lent, whatever tape and log hold:
-- what the tape says to a transfer has the size that it asks for.
-- Assumes nothing.
use mathlib.Core.Path.{◌≡◌, refl, sym, ap, ◌∙◌}
use mathlib.Core.Bool.{Bool, true, false, not, ◌&&◌}
use mathlib.Core.List.{List, [], ◌∷◌}
use mathlib.Core.Option.{Option, none, some}
use Prim.Native.Nat.{ℕ, ◌+◌, ◌*◌, ◌≤◌}
use native.Mathlib.Omega.{arith}
use lib.Dec.{T, eqb, leb, ltb, eqb→eq, leb→le}
use lib.ListN.{length, drop, replicate, length-replicate}
use Rattle.laws.proofs.Tests.{both_right}
use Rattle.refusals.specs.Refusal.{Answer, value, refused, answering, no}
use Rattle.frames.specs.Frames.{read_byte, right, data_of}
use Rattle.frames.specs.Put.{put}
use Rattle.frames.proofs.Checked.{length_data}
use Rattle.frames.proofs.Put.{length_put}
use Rattle.laws.specs.Choice.{when◌then◌else◌}
use Rattle.fields.specs.Fields.{Field, unfield}
use Rattle.bus.specs.Transfers.{Transfer, read, Outcome, done, fault, stopped, Bus}
use Rattle.bus.specs.Transfers.{wanted, untape, says, outcome}
use Rattle.bus.specs.Programs.{Prog, ret, Ran, on_tape}
use Rattle.bus.specs.Raw.{Done, sound, refuses, Read, gives, plainly, received, where_right, checkedly}
use Rattle.bus.specs.Raw.{plain_read, ask_frame, checked_read, read_raw, read_bytes}
use Rattle.bus.specs.declared.link.Link.{Link}
use Rattle.bus.proofs.Order.{by_room}
use Rattle.bus.proofs.Programs.{on_tape_bind}

-- what the tape can say to a transfer that wants n bytes; 15, 16 and 17 stop it
abbrev pub Sized : ℕ → Outcome → Type 0
Sized n (done bytes) = length bytes ≡ n
Sized n (fault bytes) = length bytes ≤ n
Sized n (stopped r) = leb 15 r.number && leb r.number 17 ≡ true

-- ---- the tape
by_tag : (n : ℕ) (v : List ℕ) (a b : Bool) → (T a → length v ≡ n) → (T b → length v ≤ n)
    → Sized n (when a then done v else when b then fault v else stopped (no 15 []))
by_tag n v true b whole part = whole tt
by_tag n v false true whole part = part tt
by_tag n v false false whole part = refl

sized_field : (n : ℕ) (f : Option Field) → Sized n (untape n f)
unfolding untape
sized_field n none = refl
sized_field n (some f) =
    by_tag n f.value
    (eqb f.tag 0x01 && eqb (length f.value) n) (eqb f.tag 0x02 && leb (length f.value) n)
    (λ t. eqb→eq (length f.value) n (both_right (eqb f.tag 0x01) (eqb (length f.value) n) t))
    (λ t. leb→le (length f.value) n (both_right (eqb f.tag 0x02) (leb (length f.value) n) t))

sized_said : (n : ℕ) (l : List ℕ) → Sized n (says n l)
unfolding says
sized_said n [] = refl
sized_said n (b ∷ l) = sized_field n (unfield (b ∷ l))

pub sized : (t : Transfer) (b : Bus) → Sized (wanted t) (outcome t b)
sized t b = by_room t b (Sized (wanted t)) (λ e. sized_said (wanted t) (drop b.at.tape b.tape)) refl

-- ---- the caller's bytes
plain_size : (buf : List ℕ) (o : Outcome) → Sized (length buf) o → length (plainly buf o).bytes ≡ length buf
unfolding plainly
plain_size buf (done bytes) h = length_put buf 0 bytes (omega arith)
plain_size buf (fault bytes) h = omega (arith, length_put buf 0 bytes (omega arith))
plain_size buf (stopped r) h = refl

where_right_size : (buf : List ℕ) (ok : Bool) (r : Read) → length r.bytes ≡ length buf
    → length (when ok then r else gives (refuses 1) buf).bytes ≡ length buf
where_right_size buf true r h = h
where_right_size buf false r h = refl

check_size : (address : ℕ) (buf : List ℕ) (o : Outcome) → Sized (2 * length buf) o
    → length (checkedly address buf o).bytes ≡ length buf
unfolding checkedly where_right received
check_size address buf (done bytes) h =
    let frame = put (replicate (2 * length buf) 0) 0 bytes in
    let zeros = length-replicate {A = ℕ} (2 * length buf) 0 in
    let whole : length frame ≡ 2 * length buf =
    length_put (replicate (2 * length buf) 0) 0 bytes (omega arith) ∙ zeros in
    where_right_size buf (right (read_byte address ∷ []) frame) (gives (value tt) (put buf 0 (data_of frame)))
    (length_put buf 0 (data_of frame) (omega (arith, length_data frame)))
check_size address buf (fault bytes) h =
    let frame = received (2 * length buf) bytes in
    omega (arith, where_right_size buf (right (read_byte address ∷ []) frame) (gives (refuses 2) buf) refl)
check_size address buf (stopped r) h = refl

-- ---- the read
module _ (s : Link) (reg : ℕ) (buf : List ℕ) (b : Bus) where
  Same : Prog Read → Type 0
  Same p = length (on_tape p b).answer.bytes ≡ length buf

  either : (t : Bool) (p q : Prog Read) → Same p → Same q → Same (when t then p else q)
  either true p q h k = h
  either false p q h k = k

  plain : Same (plain_read s reg buf)
  unfolding plain_read Same on_tape wanted
  plain = either (ltb 256 (reg + length buf)) _ _ refl (plain_size buf _ (sized (read s.address reg (length buf)) b))

  check : Same (checked_read s reg buf)
  unfolding checked_read ask_frame Same on_tape wanted
  check =
      either (ltb (2 * s.x) (length buf)) _ _ refl
      (either (eqb (length buf) 0) _ _ refl
      (either (ltb 256 (reg + length buf)) _ _ refl
      (check_size s.address buf _ (sized (read s.address reg (2 * length buf)) b))))

  pub read_size : length (on_tape (read_raw s reg buf) b).answer.bytes ≡ length buf
  unfolding read_raw Same on_tape
  read_size = either (not (sound s)) _ _ refl (either s.check _ _ check plain)

-- ---- and so of a read of n bytes that is accepted
given_bytes : (a : Answer Done) (bs bytes : List ℕ) → answering a bs ≡ value bytes → bs ≡ bytes
given_bytes (value ok) bs bytes e = cc
given_bytes (refused r) bs bytes e = absurd (let z : ◌≡◌ {A = ℕ} 0 1 = cc in omega arith)

pub bytes_size : (s : Link) (reg n : ℕ) (b : Bus) (bytes : List ℕ)
    → (on_tape (read_bytes s reg n) b).answer ≡ value bytes → length bytes ≡ n
unfolding read_bytes on_tape
bytes_size s reg n b bytes e =
    let r = on_tape (read_raw s reg (replicate n 0)) b in
    let whole = on_tape_bind (read_raw s reg (replicate n 0)) (λ r. ret (answering r.answer r.bytes)) b in
    let given = sym (ap (λ (x : Ran (Answer (List ℕ))). x.answer) whole) ∙ e in
    let same = given_bytes r.answer.answer r.answer.bytes bytes given in
    sym (ap length same) ∙ read_size s reg (replicate n 0) b ∙ length-replicate n 0
