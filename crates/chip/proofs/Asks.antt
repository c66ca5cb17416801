-- What a program may ask for, whatever it is answered; and what a device keeps of that.
-- Assumes nothing.
use mathlib.Core.Path.{◌≡◌, refl}
use mathlib.Core.Bool.{Bool, true, false, not, ◌||◌}
use mathlib.Core.List.{List}
use Prim.Native.Nat.{ℕ, ◌+◌, ◌*◌, ◌≤◌}
use native.Mathlib.Omega.{arith}
use lib.ListN.{length, replicate}
use lib.Dec.{eqb, ltb}
use borrow.Author.Tests.{ltb-false}
use Rattle.refusals.specs.Refusal.{Refusal, Answer, value, refused}
use Rattle.frames.specs.Frames.{write_frame}
use Rattle.laws.specs.Choice.{when◌then◌else◌}
use Rattle.bus.specs.Transfers.{Transfer, read, write, Outcome}
use Rattle.bus.specs.Programs.{Prog, ret, ask, bind, proceed, ◌or_leave◌, ◌>>=◌}
use Rattle.bus.specs.Raw.{Done, refuses, sound, plain_read, ask_frame, checked_read, read_raw, read_bytes}
use Rattle.bus.specs.Raw.{ask_write, send, ask_back, write_raw}
use Rattle.bus.specs.declared.link.Link.{Link}
use Rattle.chip.specs.Devices.{Reached, on_device}

-- every transfer that the program may ask for is a P
pub data Asks (P : Transfer → Type 0) {A : Type 0} : Prog A → Type 0 where
  nothing : {a : A} → Asks P (ret a)
  this : {t : Transfer} {k : Outcome → Prog A} → P t → ((o : Outcome) → Asks P (k o)) → Asks P (ask t k)

module _ {P : Transfer → Type 0} where
  pub asks_bind : {A B : Type 0} {p : Prog A} (f : A → Prog B) → Asks P p → ((a : A) → Asks P (f a)) → Asks P (bind p f)
  unfolding bind
  asks_bind f (nothing {a}) g = g a
  asks_bind f (this h k) g = this h (λ o. asks_bind f (k o) g)

  asks_proceed : {A B : Type 0} (leave : Refusal → B) (f : A → Prog B) → ((a : A) → Asks P (f a))
      → (y : Answer A) → Asks P (proceed leave f y)
  unfolding proceed
  asks_proceed leave f g (value a) = g a
  asks_proceed leave f g (refused r) = nothing

  pub asks_call : {A B : Type 0} {p : Prog (Answer A)} (leave : Refusal → B) (f : A → Prog B)
      → Asks P p → ((a : A) → Asks P (f a)) → Asks P ((p or_leave leave) >>= f)
  unfolding ◌>>=◌
  asks_call leave f h g = asks_bind (proceed leave f) h (asks_proceed leave f g)

  -- the same where the answer is known
  pub asks_pure : {A B : Type 0} (leave : Refusal → B) (f : A → Prog B) (y : Answer A)
      → ((a : A) → y ≡ value a → Asks P (f a)) → Asks P ((ret y or_leave leave) >>= f)
  unfolding ◌>>=◌ bind proceed
  asks_pure leave f (value a) g = g a refl
  asks_pure leave f (refused r) g = nothing

  pub asks_if : {A : Type 0} (c : Bool) {p q : Prog A} → (c ≡ true → Asks P p) → (c ≡ false → Asks P q)
      → Asks P (when c then p else q)
  asks_if true h k = h refl
  asks_if false h k = k refl

  -- ---- the bus's calls
  module _ (link : Link) (reg : ℕ) where
    -- one read, of registers up to FF
    pub asks_read : (buf : List ℕ) → ((n : ℕ) → n ≤ 512 → P (read link.address reg n))
        → Asks P (read_raw link reg buf)
    unfolding read_raw plain_read checked_read ask_frame
    asks_read buf h =
        asks_if (not (sound link)) (λ e. nothing)
        (λ e. asks_if link.check
        (λ c. asks_if (ltb (2 * link.x) (length buf)) (λ e. nothing)
        (λ e. asks_if (eqb (length buf) 0) (λ e. nothing)
        (λ e. asks_if (ltb 256 (reg + length buf)) (λ e. nothing)
        (λ e. this (h (2 * length buf) (omega (arith, ltb-false 256 (reg + length buf) e))) (λ o. nothing)))))
        (λ c. asks_if (ltb 256 (reg + length buf)) (λ e. nothing)
        (λ e. this (h (length buf) (omega (arith, ltb-false 256 (reg + length buf) e))) (λ o. nothing))))

    pub asks_bytes : (n : ℕ) → ((k : ℕ) → k ≤ 512 → P (read link.address reg k)) → Asks P (read_bytes link reg n)
    unfolding read_bytes
    asks_bytes n h = asks_bind _ (asks_read (replicate n 0) h) (λ r. nothing)

    -- one write, of up to eight bytes, and one read
    pub asks_send : (bytes : List ℕ)
        → (length bytes ≤ 8 → P (write link.address (write_frame link.check link.address reg bytes)))
        → Asks P (send link reg bytes)
    unfolding send ask_write
    asks_send bytes h =
        asks_if (not (sound link)) (λ e. nothing)
        (λ e. asks_if (ltb 8 (length bytes)) (λ e. nothing)
        (λ few. asks_if (eqb (length bytes) 0) (λ e. nothing)
        (λ e. asks_if (ltb 256 (reg + length bytes)) (λ e. nothing)
        (λ e. this (h (ltb-false 8 (length bytes) few)) (λ o. nothing)))))

    -- over eight bytes nothing is asked for
    refused_first : (unsound : Bool) (f : Done → Prog (Answer Done))
        → Asks P (bind (when unsound then ret (refuses 9) else ret (refuses 3)) (proceed refused f))
    unfolding bind proceed
    refused_first true f = nothing
    refused_first false f = nothing

    by_length : (bytes : List ℕ)
        → (length bytes ≤ 8 → P (write link.address (write_frame link.check link.address reg bytes)))
        → (length bytes ≤ 8 → P (read link.address reg (length bytes)))
        → (large : Bool) → ltb 8 (length bytes) ≡ large → Asks P (write_raw link reg bytes)
    unfolding write_raw send ask_back ◌>>=◌
    by_length bytes h k true e = rw e (refused_first (not (sound link)) _)
    by_length bytes h k false e =
        asks_call refused _ (asks_send bytes h)
        (λ x. asks_if (link.check || eqb (length bytes) 0) (λ q. nothing)
        (λ q. this (k (ltb-false 8 (length bytes) e)) (λ o. nothing)))

    pub asks_write : (bytes : List ℕ)
        → (length bytes ≤ 8 → P (write link.address (write_frame link.check link.address reg bytes)))
        → (length bytes ≤ 8 → P (read link.address reg (length bytes))) → Asks P (write_raw link reg bytes)
    asks_write bytes h k = by_length bytes h k (ltb 8 (length bytes)) refl

-- ---- on a device
module _ {S : Type 0} (move : S → Transfer → Reached S Outcome) where
  -- what every transfer keeps, every program keeps
  pub keeps : (I : S → Type 0) → ((s : S) (t : Transfer) → I s → I (move s t).device)
      → {A : Type 0} (p : Prog A) (s : S) → I s → I (on_device move p s).device
  unfolding on_device
  keeps I step (ret a) s i = i
  keeps I step (ask t k) s i = keeps I step (k (move s t).answer) (move s t).device (step s t i)

  module _ {P : Transfer → Type 0} where
    -- what every P keeps, a program that asks only for those keeps
    pub kept : (I : S → Type 0) → ((s : S) (t : Transfer) → P t → I s → I (move s t).device)
        → {A : Type 0} {p : Prog A} → Asks P p → (s : S) → I s → I (on_device move p s).device
    unfolding on_device
    kept I step nothing s i = i
    kept I step (this {t = t} h k) s i = kept I step (k (move s t).answer) (move s t).device (step s t h i)
