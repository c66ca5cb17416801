-- The tape of a program that, answered by bytes, sends bytes, on a chip whose registers are bytes: it is one of bytes, so that it can be
-- lent to the code.
-- Assumes nothing.
use mathlib.Core.Path.{◌≡◌, refl}
use mathlib.Core.Bool.{Bool, true, false, not, ◌||◌}
use mathlib.Core.List.{List, [], ◌∷◌, ◌++◌}
use Prim.Native.Nat.{ℕ, zero, suc, ◌+◌, ◌*◌, ◌^◌, ◌<◌}
use native.Mathlib.Omega.{arith}
use lib.ListN.{length, take, drop, replicate}
use lib.Dec.{eqb, ltb}
use Rattle.check_byte.specs.CheckByte.{Bytes}
use Rattle.refusals.specs.Refusal.{Refusal, Answer, value, refused, answering}
use Rattle.frames.specs.Frames.{right, data_of}
use Rattle.frames.specs.Put.{put}
use Rattle.frames.proofs.Frames.{bytes_write_frame}
use Rattle.laws.specs.Choice.{when◌then◌else◌}
use Rattle.bus.specs.Transfers.{Transfer, Outcome, done, fault, stopped, tape_field}
use Rattle.bus.specs.Programs.{Prog, ret, ask, bind, proceed, ◌or_leave◌, ◌>>=◌}
use Rattle.bus.specs.Raw.{Done, Read, gives, refuses, sound, plainly, received, where_right, checkedly, plain_read, ask_frame, checked_read}
use Rattle.bus.specs.Raw.{read_raw, read_bytes, wrote, ask_write, send, verified, ask_back, write_raw}
use Rattle.bus.specs.declared.link.Link.{Link}
use Rattle.chip.specs.Devices.{on_device, tape_of}
use Rattle.chip.specs.Chip.{delivered}
use Rattle.chip.specs.OnChip.{Wired, on_wire, on_chip}
use Rattle.bus.proofs.OfBytes.{take_bytes, drop_bytes}
use Rattle.chip.proofs.RegisterBytes.{Sends, append_bytes, respond_bytes, tape_field_bytes}

-- whatever bytes it is answered, it sends bytes, and ends with an answer of which R holds
pub data Sending {A : Type 0} (R : A → Type 0) : Prog A → Type 0 where
  ends : {a : A} → R a → Sending R (ret a)
  sends : {t : Transfer} {k : Outcome → Prog A}
      → Sends t → ((o : Outcome) → Bytes (delivered o) → Sending R (k o)) → Sending R (ask t k)

pub tape_bytes : {A : Type 0} {R : A → Type 0} {p : Prog A} → Sending R p
    → (w : Wired) → Bytes w.chip.regs → Bytes (tape_of on_wire p w)
unfolding tape_of on_wire
tape_bytes (ends r) w h = tt
tape_bytes (sends {t} {k} s more) w h =
    let o = (on_wire w t).answer in
    let w' = (on_wire w t).device in
    let b = respond_bytes (w.cuts 0) w.chip t h s in
    append_bytes (tape_field o) (tape_of on_wire (k o) w') (tape_field_bytes o b.answer)
    (tape_bytes (more o b.answer) w' b.device)

-- and so are the registers that it leaves
pub regs_bytes : {A : Type 0} {R : A → Type 0} {p : Prog A} → Sending R p
    → (w : Wired) → Bytes w.chip.regs → Bytes (on_chip p w).device.chip.regs
unfolding on_device on_wire
regs_bytes (ends r) w h = h
regs_bytes (sends {t} {k} s more) w h =
    let b = respond_bytes (w.cuts 0) w.chip t h s in
    regs_bytes (more (on_wire w t).answer b.answer) (on_wire w t).device b.device

-- ---- one program after another
module _ {A B : Type 0} {R : A → Type 0} {T : B → Type 0} where
  pub sending_bind : {p : Prog A} (f : A → Prog B) → Sending R p → ((a : A) → R a → Sending T (f a))
      → Sending T (bind p f)
  unfolding bind
  sending_bind f (ends {a} r) g = g a r
  sending_bind f (sends s k) g = sends s (λ o h. sending_bind f (k o h) g)

-- R of the value, where there is one
abbrev pub OfValue : {A : Type 0} → (A → Type 0) → Answer A → Type 0
OfValue R (value a) = R a
OfValue R (refused r) = Unit {0}

module _ {A B : Type 0} {T : B → Type 0} (leave : Refusal → B) (f : A → Prog B) (off : (r : Refusal) → T (leave r)) where
  by_answer : (R : A → Type 0) (y : Answer A) → OfValue R y → ((a : A) → R a → Sending T (f a))
      → Sending T (proceed leave f y)
  unfolding proceed
  by_answer R (value a) r g = g a r
  by_answer R (refused r) u g = ends (off r)

  pub sending_call : {R : A → Type 0} {p : Prog (Answer A)} → Sending (OfValue R) p → ((a : A) → R a → Sending T (f a))
      → Sending T ((p or_leave leave) >>= f)
  unfolding ◌>>=◌
  sending_call {R} q g = sending_bind (proceed leave f) q (λ y r. by_answer R y r g)

  -- the same where the answer is known
  pub sending_pure : (y : Answer A) → ((a : A) → y ≡ value a → Sending T (f a))
      → Sending T ((ret y or_leave leave) >>= f)
  unfolding ◌>>=◌ bind proceed
  sending_pure (value a) g = g a refl
  sending_pure (refused r) g = ends (off r)

pub sending_if : {A : Type 0} {R : A → Type 0} (c : Bool) {p q : Prog A}
    → Sending R p → Sending R q → Sending R (when c then p else q)
sending_if true h k = h
sending_if false h k = k

pub sending_one : {A : Type 0} {R : A → Type 0} {t : Transfer} (f : Outcome → A)
    → Sends t → ((o : Outcome) → Bytes (delivered o) → R (f o))
    → Sending R (ask t (λ o. ret (f o)))
sending_one f s h = sends s (λ o b. ends (h o b))

-- ---- the bus's calls
put_bytes : (l : List ℕ) (at : ℕ) (v : List ℕ) → Bytes l → Bytes v → Bytes (put l at v)
unfolding put
put_bytes l at v h k =
    append_bytes (take at l ++ v) (drop (at + length v) l)
    (append_bytes (take at l) v (take_bytes at l h) k)
    (drop_bytes (at + length v) l h)

zero_bytes : (n : ℕ) → Bytes (replicate n 0)
zero_bytes zero = tt
zero_bytes (suc n) = (omega arith, zero_bytes n)

data_bytes : (l : List ℕ) → Bytes l → Bytes (data_of l)
unfolding data_of
data_bytes [] h = tt
data_bytes (x ∷ []) h = h
data_bytes (x ∷ c ∷ l) h = (h.0, data_bytes l h.1.1)

abbrev ReadsBytes : Read → Type 0
ReadsBytes r = Bytes r.bytes

plainly_bytes : (buf : List ℕ) → Bytes buf → (o : Outcome) → Bytes (delivered o) → ReadsBytes (plainly buf o)
unfolding plainly
plainly_bytes buf h (done bytes) k = put_bytes buf 0 bytes h k
plainly_bytes buf h (fault bytes) k = put_bytes buf 0 bytes h k
plainly_bytes buf h (stopped r) k = h

where_bytes : (yes : Bool) (buf : List ℕ) (r : Read) → Bytes buf → ReadsBytes r
    → ReadsBytes (when yes then r else gives (refuses 1) buf)
where_bytes true buf r h k = k
where_bytes false buf r h k = h

checkedly_bytes : (address : ℕ) (buf : List ℕ) → Bytes buf
    → (o : Outcome) → Bytes (delivered o) → ReadsBytes (checkedly address buf o)
unfolding checkedly where_right received
checkedly_bytes address buf h (done bytes) k =
    let frame = put (replicate (2 * length buf) 0) 0 bytes in
    where_bytes (right _ frame) buf (gives (value tt) (put buf 0 (data_of frame))) h
    (put_bytes buf 0 (data_of frame) h
    (data_bytes frame (put_bytes (replicate (2 * length buf) 0) 0 bytes (zero_bytes (2 * length buf)) k)))
checkedly_bytes address buf h (fault bytes) k =
    where_bytes (right _ (put (replicate (2 * length buf) 0) 0 bytes)) buf (gives (refuses 2) buf) h h
checkedly_bytes address buf h (stopped r) k = h

module _ (link : Link) (reg : ℕ) where
  sending_raw : (buf : List ℕ) → Bytes buf → Sending ReadsBytes (read_raw link reg buf)
  unfolding read_raw plain_read checked_read ask_frame
  sending_raw buf h =
      sending_if (not (sound link)) (ends h)
      (sending_if link.check
      (sending_if (ltb (2 * link.x) (length buf)) (ends h)
      (sending_if (eqb (length buf) 0) (ends h)
      (sending_if (ltb 256 (reg + length buf)) (ends h)
      (sending_one (checkedly link.address buf) tt (checkedly_bytes link.address buf h)))))
      (sending_if (ltb 256 (reg + length buf)) (ends h)
      (sending_one (plainly buf) tt (plainly_bytes buf h))))

  pub sending_read : (n : ℕ) → Sending (OfValue Bytes) (read_bytes link reg n)
  unfolding read_bytes
  sending_read n =
      sending_bind _ (sending_raw (replicate n 0) (zero_bytes n)) (λ r h. ends (by r.answer r.bytes h))
    where
      by : (a : Answer Done) (bytes : List ℕ) → Bytes bytes → OfValue Bytes (answering a bytes)
      by (value x) bytes h = h
      by (refused r) bytes h = tt

  pub sending_write : (bytes : List ℕ) → reg < 2 ^ 8 → Bytes bytes
      → Sending (OfValue {A = Done} (λ x. Unit {0})) (write_raw link reg bytes)
  unfolding write_raw send ask_write ask_back
  sending_write bytes r h =
      sending_call refused _ (λ x. tt)
      (sending_if (not (sound link)) (ends tt)
      (sending_if (ltb 8 (length bytes)) (ends tt)
      (sending_if (eqb (length bytes) 0) (ends tt)
      (sending_if (ltb 256 (reg + length bytes)) (ends tt)
      (sending_one wrote (bytes_write_frame link.check link.address reg bytes r h) (λ o b. any (wrote o)))))))
      (λ x u. sending_if (link.check || eqb (length bytes) 0) (ends tt)
      (sending_one (verified reg bytes) tt (λ o b. any (verified reg bytes o))))
    where
      any : (y : Answer Done) → OfValue {A = Done} (λ x. Unit {0}) y
      any (value x) = tt
      any (refused q) = tt
