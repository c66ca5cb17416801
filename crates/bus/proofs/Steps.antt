-- A program step by step, as a prover rewrites it: a call and what is left after its answer, an answer, the bytes of a read. A function that makes its
-- program's calls in turn is proved by these alone.
-- Assumes nothing.
use mathlib.Core.Path.{◌≡◌, refl}
use Prim.Native.Nat.{ℕ}
use lib.ListN.{replicate}
use Rattle.refusals.specs.Refusal.{Refusal, Answer, value, refused, answering}
use Rattle.bus.specs.Transfers.{Bus}
use Rattle.bus.specs.Programs.{Prog, ret, ends, on_tape, proceed, ◌or_leave◌, ◌>>=◌}
use Rattle.bus.specs.Raw.{read_raw, read_bytes}
use Rattle.bus.specs.declared.link.Link.{Link}
use Rattle.bus.proofs.Programs.{on_tape_bind}

pub step : {A B : Type 0} (p : Prog (Answer A)) (leave : Refusal → B) (f : A → Prog B) (b : Bus)
    → on_tape ((p or_leave leave) >>= f) b ≡ on_tape (proceed leave f (on_tape p b).answer) (on_tape p b).bus
unfolding ◌>>=◌
step p leave f b = on_tape_bind p (proceed leave f) b

pub on : {A B : Type 0} (leave : Refusal → B) (f : A → Prog B) (a : A) → proceed leave f (value a) ≡ f a
unfolding proceed
on leave f a = refl

pub off : {A B : Type 0} (leave : Refusal → B) (f : A → Prog B) (r : Refusal) → proceed leave f (refused r) ≡ ret (leave r)
unfolding proceed
off leave f r = refl

pub at_end : {A : Type 0} (a : A) (b : Bus) → on_tape (ret a) b ≡ ends a b
unfolding on_tape
at_end a b = refl

-- the bytes that a read gave, or its refusal
pub bytes : (s : Link) (reg n : ℕ) (b : Bus)
    → let read = on_tape (read_raw s reg (replicate n 0)) b in
    on_tape (read_bytes s reg n) b ≡ ends (answering read.answer.answer read.answer.bytes) read.bus
unfolding read_bytes on_tape
bytes s reg n b = on_tape_bind (read_raw s reg (replicate n 0)) (λ r. ret (answering r.answer r.bytes)) b

pub ruleset steps = (step, on, off, at_end, bytes)
