-- A driver call as a program over transfers: it asks for transfers and goes on by what they answer.
-- And what a program does on tape and log.
-- Assumes nothing.
use Rattle.std.specs.Prelude.{List, ℕ}
use Rattle.refusals.specs.Refusal.{Refusal, Answer, value, refused}
use Rattle.bus.specs.Transfers.{Transfer, Outcome, Bus, bus_of, outcome, after}
use Rattle.bus.specs.declared.Cursor.{Cursor}

pub data Prog (A : Type 0) : Type 0 where
  ret : A → Prog A
  ask : Transfer → (Outcome → Prog A) → Prog A

-- an answer, with tape and log as it is given
pub record Ran (A : Type 0) : Type 0 where
  pub answer : A
  pub bus : Bus

abbrev pub ends : {A : Type 0} → A → Bus → Ran A
ends a b = record { answer = a; bus = b }

abbrev pub ran : {A : Type 0} → A → List ℕ → List ℕ → Cursor → Ran A
ran a tape log at = record { answer = a; bus = bus_of tape log at }

unfoldable pub on_tape : {A : Type 0} → Prog A → Bus → Ran A
on_tape (ret a) b = record { answer = a; bus = b }
on_tape (ask t k) b = on_tape (k (outcome t b)) (after t (outcome t b) b)

-- one program after another
unfoldable pub bind : {A B : Type 0} → Prog A → (A → Prog B) → Prog B
bind (ret a) f = f a
bind (ask t k) f = ask t (λ o. bind (k o) f)

-- ---- `do`: a call, and what is left where it refuses; one `or_leave` is one `?` of the Rust
pub record Step (A B : Type 0) : Type 0 where
  pub call : Prog (Answer A)
  pub leave : Refusal → B

infixl 20 ◌or_leave◌
abbrev pub ◌or_leave◌ : {A B : Type 0} → Prog (Answer A) → (Refusal → B) → Step A B
p or_leave leave = record { call = p; leave = leave }

unfoldable pub proceed : {A B : Type 0} → (Refusal → B) → (A → Prog B) → Answer A → Prog B
proceed leave f (value a) = f a
proceed leave f (refused r) = ret (leave r)

infixl 10 ◌>>=◌
unfoldable pub ◌>>=◌ : {A B : Type 0} → Step A B → (A → Prog B) → Prog B
s >>= f = bind s.call (proceed s.leave f)
