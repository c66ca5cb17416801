-- Programs of which a call can be read from its log: they make no transfer after a fault, their transfers fit their fields, and so much log
-- is enough.
-- Assumes nothing.
use mathlib.Core.Path.{◌≡◌, subst}
use mathlib.Core.Bool.{Bool, true, false}
use mathlib.Core.List.{List}
use Prim.Native.Nat.{ℕ, ◌+◌, ◌≤◌}
use native.Mathlib.Omega.{arith}
use lib.ListN.{length}
use Rattle.refusals.specs.Refusal.{Refusal, Answer, value}
use Rattle.laws.specs.Choice.{when◌then◌else◌}
use Rattle.bus.specs.Programs.{Prog, ret, bind, ◌or_leave◌, ◌>>=◌}
use Rattle.bus.specs.Raw.{read_bytes, write_raw}
use Rattle.bus.specs.declared.link.Link.{Link}
use Rattle.bus.proofs.Decoders.{Short}
use Rattle.chip.proofs.Asks.{Asks, nothing, asks_bind, asks_call, asks_pure}
use Rattle.chip.proofs.Fed.{read_short, write_short}
use Rattle.chip.proofs.Logs.{Logs, logs_ret, logs_bind, logs_proceed, logs_call, write_log, logs_read, logs_write}
use Rattle.chip.proofs.Quits.{Over, Quits, ends, Refuses, quits_bind, quits_call, quits_pure, quits_read, quits_write}

pub record Fine {A : Type 0} (Off : A → Type 0) (n : ℕ) (p : Prog A) : Type 1 where
  pub quits : Quits Off p
  pub short : Asks Short p
  pub logs : Logs n p

pub fine_ret : {A : Type 0} (Off : A → Type 0) (n : ℕ) (a : A) → Fine Off n (ret a)
fine_ret Off n a = record { quits = ends; short = nothing; logs = logs_ret n a }

pub fine_if : {A : Type 0} {Off : A → Type 0} (n : ℕ) (t : Bool) {p q : Prog A} → Fine Off n p → Fine Off n q
    → Fine Off n (when t then p else q)
fine_if n true h k = h
fine_if n false h k = k

-- with more log
pub fine_more : {A : Type 0} {Off : A → Type 0} {n m : ℕ} {p : Prog A} → n ≤ m → Fine Off n p → Fine Off m p
fine_more few h = record {
  quits = h.quits;
  short = h.short;
  logs = record { most = λ move s. omega (arith, h.logs.most move s) };
}

module _ {A B : Type 0} {Off : B → Type 0} (n n' : ℕ) where
  pub fine_bind : {Q : A → Type 0} {p : Prog A} (f : A → Prog B) → Fine Q n p → ((a : A) → Fine Off n' (f a))
      → ((a : A) → Q a → Over Off (f a)) → Fine Off (n + n') (bind p f)
  fine_bind f h g off = record {
    quits = quits_bind f h.quits (λ a. (g a).quits) off;
    short = asks_bind f h.short (λ a. (g a).short);
    logs = logs_bind n n' f h.logs (λ a. (g a).logs);
  }

  pub fine_call : (leave : Refusal → B) (f : A → Prog B) {p : Prog (Answer A)} → Fine Refuses n p → ((a : A) → Fine Off n' (f a))
      → ((r : Refusal) → Off (leave r)) → Fine Off (n + n') ((p or_leave leave) >>= f)
  fine_call leave f h g off = record {
    quits = quits_call leave f h.quits (λ a. (g a).quits) off;
    short = asks_call leave f h.short (λ a. (g a).short);
    logs = logs_call leave f n n' h.logs (λ a. (g a).logs);
  }

-- the answer is known
pub fine_pure : {A B : Type 0} {Off : B → Type 0} (n : ℕ) (leave : Refusal → B) (f : A → Prog B) (y : Answer A)
    → ((a : A) → y ≡ value a → Fine Off n (f a)) → Fine Off n ((ret y or_leave leave) >>= f)
unfolding ◌>>=◌ bind
fine_pure n leave f y g = record {
  quits = quits_pure leave f y (λ a e. (g a e).quits);
  short = asks_pure leave f y (λ a e. (g a e).short);
  logs = logs_proceed leave f n y (λ a e. (g a e).logs);
}

-- ---- the bus's calls
module _ (link : Link) (reg : ℕ) where
  pub fine_read : (n : ℕ) → Fine Refuses 7 (read_bytes link reg n)
  fine_read n = record { quits = quits_read link reg n; short = read_short link reg n; logs = logs_read link reg n }

  -- of n bytes
  pub fine_write : (n : ℕ) (bytes : List ℕ) → length bytes ≡ n → Fine Refuses (write_log link.check n) (write_raw link reg bytes)
  fine_write n bytes all =
      subst (λ (k : ℕ). Fine Refuses (write_log link.check k) (write_raw link reg bytes)) all
      (record { quits = quits_write link reg bytes; short = write_short link reg bytes; logs = logs_write link reg bytes })
