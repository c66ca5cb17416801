-- What a program does on tape and log, step by step: one transfer and then the rest; one program and then the next;
-- and of a `do`, the rest after a call that gave a value, nothing after a call that refused.
-- Assumes nothing.
use mathlib.Core.Path.{◌≡◌, refl, ap, ◌∙◌}
use Rattle.refusals.specs.Refusal.{Refusal, Answer, value, refused}
use Rattle.bus.specs.Transfers.{Transfer, Outcome, done, fault, stopped, Bus, outcome, moved, after}
use Rattle.bus.specs.Programs.{Prog, ret, ask, Ran, on_tape, bind, proceed, ◌or_leave◌, ◌>>=◌}

-- a transfer whose outcome is known, and then the rest
pub on_tape_ask : {A : Type 0} (t : Transfer) (k : Outcome → Prog A) (b : Bus) {o : Outcome} → outcome t b ≡ o
    → on_tape (ask t k) b ≡ on_tape (k o) (after t o b)
unfolding on_tape
on_tape_ask t k b e = ap (λ (x : Outcome). on_tape (k x) (after t x b)) e

-- one program after another starts where the first one ends
pub on_tape_bind : {A B : Type 0} (p : Prog A) (f : A → Prog B) (b : Bus)
    → on_tape (bind p f) b ≡ on_tape (f (on_tape p b).answer) (on_tape p b).bus
unfolding on_tape bind
on_tape_bind (ret a) f b = refl
on_tape_bind (ask t k) f b = on_tape_bind (k (outcome t b)) f (after t (outcome t b) b)

-- a call whose answer y is known: on with its value, or off with its refusal
module _ {A B : Type 0} (p : Prog (Answer A)) (leave : Refusal → B) (f : A → Prog B) (b b' : Bus) (y : Answer A)
    (e : on_tape p b ≡ record { answer = y; bus = b' }) where
  went : {z : Answer A} → y ≡ z → on_tape ((p or_leave leave) >>= f) b ≡ on_tape (proceed leave f z) b'
  unfolding ◌>>=◌
  went q =
      on_tape_bind p (proceed leave f) b
      ∙ ap (λ (r : Ran (Answer A)). on_tape (proceed leave f r.answer) r.bus) e
      ∙ ap (λ (z : Answer A). on_tape (proceed leave f z) b') q

  pub went_on : (a : A) → y ≡ value a → on_tape ((p or_leave leave) >>= f) b ≡ on_tape (f a) b'
  unfolding proceed
  went_on a q = went q

  pub went_off : (r : Refusal) → y ≡ refused r
      → on_tape ((p or_leave leave) >>= f) b ≡ record { answer = leave r; bus = b' }
  unfolding proceed on_tape
  went_off r q = went q

-- a call that makes no transfer
module _ {A B : Type 0} (leave : Refusal → B) (f : A → Prog B) (b : Bus) (y : Answer A) where
  pub pure_on : (a : A) → y ≡ value a → on_tape ((ret y or_leave leave) >>= f) b ≡ on_tape (f a) b
  unfolding on_tape
  pure_on a q = went_on (ret y) leave f b b y refl a q

  pub pure_off : (r : Refusal) → y ≡ refused r
      → on_tape ((ret y or_leave leave) >>= f) b ≡ record { answer = leave r; bus = b }
  unfolding on_tape
  pure_off r q = went_off (ret y) leave f b b y refl r q

-- the tape's bytes stay as they were
pub tape_after : (t : Transfer) (o : Outcome) (b : Bus) → (after t o b).tape ≡ b.tape
unfolding after moved
tape_after t (done bytes) b = refl
tape_after t (fault bytes) b = refl
tape_after t (stopped r) b = refl

pub same_tape : {A : Type 0} (p : Prog A) (b : Bus) → (on_tape p b).bus.tape ≡ b.tape
unfolding on_tape
same_tape (ret a) b = refl
same_tape (ask t k) b = same_tape (k (outcome t b)) (after t (outcome t b) b) ∙ tape_after t (outcome t b) b
