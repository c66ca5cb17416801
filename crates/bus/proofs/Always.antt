-- What holds of a program's answer whatever its transfers give, and so on every tape and log.
-- Assumes nothing.
use mathlib.Core.Path.{◌≡◌, refl}
use Rattle.refusals.specs.Refusal.{Refusal, Answer, value, refused}
use Rattle.bus.specs.Transfers.{Outcome, Bus, outcome, after}
use Rattle.bus.specs.Programs.{Prog, ret, ask, on_tape, bind, proceed, ◌or_leave◌, ◌>>=◌}

unfoldable pub always : {A : Type 0} → (A → Type 0) → Prog A → Type 0
always P (ret a) = P a
always P (ask t k) = (o : Outcome) → always P (k o)

pub on_tape_lem : {A : Type 0} (P : A → Type 0) (p : Prog A) → always P p → (b : Bus) → P (on_tape p b).answer
unfolding always on_tape
on_tape_lem P (ret a) h b = h
on_tape_lem P (ask t k) h b = on_tape_lem P (k (outcome t b)) (h (outcome t b)) (after t (outcome t b) b)

module _ {A B : Type 0} (P : B → Type 0) where
  -- after a program of which Q holds
  pub always_after : (Q : A → Type 0) (p : Prog A) (f : A → Prog B) → always Q p → ((a : A) → Q a → always P (f a)) → always P (bind p f)
  unfolding always bind
  always_after Q (ret a) f h g = g a h
  always_after Q (ask t k) f h g = λ o. always_after Q (k o) f (h o) g

  pub always_bind : (p : Prog A) (f : A → Prog B) → ((a : A) → always P (f a)) → always P (bind p f)
  unfolding always bind
  always_bind (ret a) f g = g a
  always_bind (ask t k) f g = λ o. always_bind (k o) f g

module _ {A B : Type 0} (P : B → Type 0) (leave : Refusal → B) (f : A → Prog B) (off : (r : Refusal) → P (leave r)) where
  -- after a call, and where it refuses
  pub always_call : (p : Prog (Answer A)) → ((a : A) → always P (f a)) → always P ((p or_leave leave) >>= f)
  unfolding ◌>>=◌ always proceed
  always_call p on = always_bind P p (proceed leave f) by
    where
      by : (y : Answer A) → always P (proceed leave f y)
      by (value a) = on a
      by (refused r) = off r

  -- the same where the answer is known
  pub always_pure : (y : Answer A) → ((a : A) → y ≡ value a → always P (f a)) → always P ((ret y or_leave leave) >>= f)
  unfolding ◌>>=◌ bind always proceed
  always_pure (value a) on = on a refl
  always_pure (refused r) on = off r
