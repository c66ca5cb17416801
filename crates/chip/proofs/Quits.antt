-- Programs that make no transfer after one that faults: a fault is answered by leaving.
-- Assumes nothing.
use mathlib.Core.Path.{◌≡◌, refl}
use mathlib.Core.Bool.{Bool, true, false, not, ◌||◌}
use mathlib.Core.List.{List}
use Prim.Native.Nat.{ℕ, ◌+◌, ◌*◌}
use lib.ListN.{length, replicate}
use lib.Dec.{eqb, ltb}
use Rattle.refusals.specs.Refusal.{Refusal, Answer, value, refused, answering}
use Rattle.frames.specs.Frames.{right}
use Rattle.laws.specs.Choice.{when◌then◌else◌}
use Rattle.bus.specs.Transfers.{Transfer, Outcome, fault}
use Rattle.bus.specs.Programs.{Prog, ret, ask, bind, proceed, ◌or_leave◌, ◌>>=◌}
use Rattle.bus.specs.Raw.{Done, Read, gives, refuses, sound, plainly, where_right, checkedly, plain_read, ask_frame, checked_read, read_raw}
use Rattle.bus.specs.Raw.{read_bytes, wrote, ask_write, send, verified, ask_back, write_raw}
use Rattle.bus.specs.declared.link.Link.{Link}

-- over, with an answer of which Off holds
pub data Over {A : Type 0} (Off : A → Type 0) : Prog A → Type 0 where
  over : {a : A} → Off a → Over Off (ret a)

-- after a fault it is over, with such an answer
pub data Quits {A : Type 0} (Off : A → Type 0) : Prog A → Type 0 where
  ends : {a : A} → Quits Off (ret a)
  goes : {t : Transfer} {k : Outcome → Prog A}
      → ((o : Outcome) → Quits Off (k o)) → ((bytes : List ℕ) → Over Off (k (fault bytes)))
      → Quits Off (ask t k)

-- an answer that refuses
pub data Refuses {A : Type 0} : Answer A → Type 0 where
  refuses_by : (r : Refusal) → Refuses (refused r)

module _ {A B : Type 0} {Q : A → Type 0} {Off : B → Type 0} where
  over_bind : {p : Prog A} (f : A → Prog B) → ((a : A) → Q a → Over Off (f a)) → Over Q p → Over Off (bind p f)
  unfolding bind
  over_bind f g (over {a} q) = g a q

  pub quits_bind : {p : Prog A} (f : A → Prog B)
      → Quits Q p → ((a : A) → Quits Off (f a)) → ((a : A) → Q a → Over Off (f a))
      → Quits Off (bind p f)
  unfolding bind
  quits_bind f (ends {a}) on off = on a
  quits_bind f (goes k h) on off = goes (λ o. quits_bind f (k o) on off) (λ bytes. over_bind f off (h bytes))

module _ {A B : Type 0} {Off : B → Type 0} where
  -- a `do`: each refusal is left by
  pub quits_call : {p : Prog (Answer A)} (leave : Refusal → B) (f : A → Prog B)
      → Quits Refuses p → ((a : A) → Quits Off (f a)) → ((r : Refusal) → Off (leave r))
      → Quits Off ((p or_leave leave) >>= f)
  unfolding ◌>>=◌ proceed
  quits_call leave f q on off = quits_bind (proceed leave f) q by leaving
    where
      by : (y : Answer A) → Quits Off (proceed leave f y)
      by (value a) = on a
      by (refused r) = ends

      leaving : (y : Answer A) → Refuses y → Over Off (proceed leave f y)
      leaving y (refuses_by r) = over (off r)

  -- the same where the answer is known
  pub quits_pure : (leave : Refusal → B) (f : A → Prog B) (y : Answer A) → ((a : A) → y ≡ value a → Quits Off (f a))
      → Quits Off ((ret y or_leave leave) >>= f)
  unfolding ◌>>=◌ bind proceed
  quits_pure leave f (value a) g = g a refl
  quits_pure leave f (refused r) g = ends

pub quits_if : {A : Type 0} {Off : A → Type 0} (c : Bool) {p q : Prog A}
    → Quits Off p → Quits Off q → Quits Off (when c then p else q)
quits_if true h k = h
quits_if false h k = k

-- one transfer, and an answer by its outcome
pub quits_one : {A : Type 0} {Off : A → Type 0} {t : Transfer} (f : Outcome → A)
    → ((bytes : List ℕ) → Off (f (fault bytes))) → Quits Off (ask t (λ o. ret (f o)))
quits_one f h = goes (λ o. ends) (λ bytes. over (h bytes))

-- ---- the bus's calls
abbrev ReadRefuses : Read → Type 0
ReadRefuses r = Refuses r.answer

checkedly_off : (address : ℕ) (buf bytes : List ℕ) → Refuses (checkedly address buf (fault bytes)).answer
unfolding checkedly where_right
checkedly_off address buf bytes = by (right _ _)
  where
    by : (yes : Bool) → Refuses (when yes then gives (refuses 2) buf else gives (refuses 1) buf).answer
    by true = refuses_by _
    by false = refuses_by _

module _ (link : Link) (reg : ℕ) where
  quits_raw : (buf : List ℕ) → Quits ReadRefuses (read_raw link reg buf)
  unfolding read_raw plain_read checked_read ask_frame plainly
  quits_raw buf =
      quits_if (not (sound link)) ends
      (quits_if link.check
      (quits_if (ltb (2 * link.x) (length buf)) ends
      (quits_if (eqb (length buf) 0) ends
      (quits_if (ltb 256 (reg + length buf)) ends
      (quits_one (checkedly link.address buf) (checkedly_off link.address buf)))))
      (quits_if (ltb 256 (reg + length buf)) ends
      (quits_one (plainly buf) (λ bytes. refuses_by _))))

  pub quits_read : (n : ℕ) → Quits Refuses (read_bytes link reg n)
  unfolding read_bytes
  quits_read n =
      quits_bind _ (quits_raw (replicate n 0)) (λ r. ends) (λ r q. over (answering_off r.answer r.bytes q))
    where
      answering_off : (a : Answer Done) (bytes : List ℕ) → Refuses a → Refuses (answering a bytes)
      answering_off a bytes (refuses_by r) = refuses_by r

  pub quits_send : (bytes : List ℕ) → Quits Refuses (send link reg bytes)
  unfolding send ask_write wrote
  quits_send bytes =
      quits_if (not (sound link)) ends
      (quits_if (ltb 8 (length bytes)) ends
      (quits_if (eqb (length bytes) 0) ends
      (quits_if (ltb 256 (reg + length bytes)) ends
      (quits_one wrote (λ b. refuses_by _)))))

  pub quits_write : (bytes : List ℕ) → Quits Refuses (write_raw link reg bytes)
  unfolding write_raw ask_back verified
  quits_write bytes =
      quits_call refused _ (quits_send bytes)
      (λ x. quits_if (link.check || eqb (length bytes) 0) ends (quits_one (verified reg bytes) (λ b. refuses_by _)))
      refuses_by
