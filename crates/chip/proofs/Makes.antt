-- How many transfers a program can make, whatever they are answered; and so the bus's calls: a read one, and a write one and, without
-- checks, one for the read back.
-- Assumes nothing.
use mathlib.Core.Path.{◌≡◌, refl}
use mathlib.Core.Bool.{Bool, true, false, not, ◌||◌}
use mathlib.Core.List.{List}
use Prim.Native.Nat.{ℕ, zero, suc, ◌+◌, ◌*◌, ◌≤◌}
use native.Mathlib.Omega.{arith}
use lib.Dec.{eqb, ltb}
use lib.ListN.{length, replicate}
use Rattle.refusals.specs.Refusal.{Refusal, Answer, value, refused}
use Rattle.laws.specs.Choice.{when◌then◌else◌}
use Rattle.bus.specs.Transfers.{Transfer, Outcome}
use Rattle.bus.specs.Programs.{Prog, ret, ask, bind, proceed, ◌or_leave◌, ◌>>=◌}
use Rattle.bus.specs.Raw.{sound, plain_read, ask_frame, checked_read, read_raw, read_bytes, ask_write, send, ask_back, write_raw}
use Rattle.bus.specs.declared.link.Link.{Link}
use Rattle.chip.specs.Devices.{Reached, made_on}

-- at most n transfers
pub data Makes {A : Type 0} : ℕ → Prog A → Type 0 where
  no_more : {n : ℕ} {a : A} → Makes n (ret a)
  one_more : {n : ℕ} {t : Transfer} {k : Outcome → Prog A} → ((o : Outcome) → Makes n (k o)) → Makes (suc n) (ask t k)

-- and so on every device
pub makes_on : {S A : Type 0} (move : S → Transfer → Reached S Outcome) {n : ℕ} {p : Prog A} → Makes n p → (s : S)
    → length (made_on move p s) ≤ n
unfolding made_on
makes_on move no_more s = omega arith
makes_on move (one_more {t = t} h) s = omega (arith, makes_on move (h (move s t).answer) (move s t).device)

pub makes_within : {A : Type 0} {m : ℕ} {p : Prog A} (n : ℕ) → Makes m p → m ≤ n → Makes n p
makes_within n no_more few = no_more
makes_within zero (one_more h) few = absurd (omega arith)
makes_within (suc n) (one_more h) few = one_more (λ o. makes_within n (h o) (omega arith))

-- one after the other
pub makes_bind : {A B : Type 0} (m n : ℕ) {p : Prog A} (f : A → Prog B) → Makes m p → ((a : A) → Makes n (f a)) → Makes (m + n) (bind p f)
unfolding bind
makes_bind m n f (no_more {a = a}) g = makes_within (m + n) (g a) (omega arith)
makes_bind (suc m) n f (one_more h) g = makes_within (suc m + n) (one_more (λ o. makes_bind m n f (h o) g)) (omega arith)

module _ {A B : Type 0} (leave : Refusal → B) (f : A → Prog B) where
  makes_proceed : (n : ℕ) (y : Answer A) → ((a : A) → y ≡ value a → Makes n (f a)) → Makes n (proceed leave f y)
  unfolding proceed
  makes_proceed n (value a) g = g a refl
  makes_proceed n (refused r) g = no_more

  pub makes_call : (m n : ℕ) {p : Prog (Answer A)} → Makes m p → ((a : A) → Makes n (f a)) → Makes (m + n) ((p or_leave leave) >>= f)
  unfolding ◌>>=◌
  makes_call m n h g = makes_bind m n (proceed leave f) h (λ y. makes_proceed n y (λ a e. g a))

  -- the same where the answer is known
  pub makes_pure : (n : ℕ) (y : Answer A) → ((a : A) → y ≡ value a → Makes n (f a)) → Makes n ((ret y or_leave leave) >>= f)
  unfolding ◌>>=◌ bind
  makes_pure n y g = makes_proceed n y g

pub makes_if : {A : Type 0} {n : ℕ} (c : Bool) {p q : Prog A} → Makes n p → Makes n q → Makes n (when c then p else q)
makes_if true h k = h
makes_if false h k = k

-- ---- the bus's calls
module _ (link : Link) (reg : ℕ) where
  pub makes_read : (n : ℕ) → Makes 1 (read_bytes link reg n)
  unfolding read_bytes read_raw plain_read checked_read ask_frame
  makes_read n =
      let buf : List ℕ = replicate n 0 in
      makes_bind 1 0 _
      (makes_if (not (sound link)) no_more
      (makes_if link.check
      (makes_if (ltb (2 * link.x) (length buf)) no_more
      (makes_if (eqb (length buf) 0) no_more
      (makes_if (ltb 256 (reg + length buf)) no_more (one_more (λ o. no_more)))))
      (makes_if (ltb 256 (reg + length buf)) no_more (one_more (λ o. no_more)))))
      (λ r. no_more)

  module _ (bytes : List ℕ) where
    makes_send : Makes 1 (send link reg bytes)
    unfolding send ask_write
    makes_send =
        makes_if (not (sound link)) no_more
        (makes_if (ltb 8 (length bytes)) no_more
        (makes_if (eqb (length bytes) 0) no_more
        (makes_if (ltb 256 (reg + length bytes)) no_more (one_more (λ o. no_more)))))

    pub makes_write : Makes 2 (write_raw link reg bytes)
    unfolding write_raw ask_back
    makes_write =
        makes_call refused _ 1 1 makes_send
        (λ x. makes_if (link.check || eqb (length bytes) 0) no_more (one_more (λ o. no_more)))
