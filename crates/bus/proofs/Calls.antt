-- In a `do`, a call whose outcome is known: on with what it gave, or off with its refusal.
-- Assumes nothing.
use mathlib.Core.Path.{◌≡◌, sym, ap, ◌∙◌}
use Prim.Native.Nat.{ℕ}
use mathlib.Core.List.{List}
use lib.ListN.{replicate}
use Rattle.refusals.specs.Refusal.{Refusal, Answer, value, refused, answering}
use Rattle.bus.specs.Transfers.{Bus}
use Rattle.bus.specs.Programs.{Prog, ret, Ran, on_tape, ◌or_leave◌, ◌>>=◌}
use Rattle.bus.specs.Raw.{Done, Read, gives, read_raw, read_bytes}
use Rattle.bus.specs.declared.link.Link.{Link}
use Rattle.bus.proofs.Programs.{on_tape_bind, went_on, went_off}

module _ (s : Link) (reg n : ℕ) (b : Bus) {b' : Bus} {a : Answer Done} {bytes : List ℕ}
    (e : record { answer = gives a bytes; bus = b' } ≡ on_tape (read_raw s reg (replicate n 0)) b) where
  heard : on_tape (read_bytes s reg n) b ≡ record { answer = answering a bytes; bus = b' }
  unfolding read_bytes on_tape
  heard =
      on_tape_bind (read_raw s reg (replicate n 0)) (λ r. ret (answering r.answer r.bytes)) b
      ∙ ap (λ (r : Ran Read). on_tape (ret (answering r.answer.answer r.answer.bytes)) r.bus) (sym e)

  module _ {B : Type 0} (leave : Refusal → B) (f : List ℕ → Prog B) where
    pub read_on : a ≡ value tt → on_tape ((read_bytes s reg n or_leave leave) >>= f) b ≡ on_tape (f bytes) b'
    read_on t = went_on (read_bytes s reg n) leave f b b' (answering a bytes) heard bytes (ap (λ (x : Answer Done). answering x bytes) t)

    pub read_off : (r : Refusal) → a ≡ refused r → on_tape ((read_bytes s reg n or_leave leave) >>= f) b ≡ record { answer = leave r; bus = b' }
    read_off r t = went_off (read_bytes s reg n) leave f b b' (answering a bytes) heard r (ap (λ (x : Answer Done). answering x bytes) t)
