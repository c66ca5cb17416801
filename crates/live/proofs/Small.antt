-- Programs that leave at a fault, whose transfers fit their fields, with how many they make and how many bytes of log.
-- Assumes nothing.
use mathlib.Core.Path.{◌≡◌}
use mathlib.Core.Bool.{Bool, true, false}
use Prim.Native.Nat.{ℕ, ◌+◌}
use Rattle.refusals.specs.Refusal.{Refusal, Answer, value}
use Rattle.laws.specs.Choice.{when◌then◌else◌}
use Rattle.bus.specs.Programs.{Prog, ret, bind, ◌or_leave◌, ◌>>=◌}
use Rattle.bus.specs.Raw.{read_bytes}
use Rattle.bus.specs.declared.link.Link.{Link}
use Rattle.chip.proofs.Makes.{Makes, no_more, makes_bind, makes_call, makes_pure, makes_read}
use Rattle.chip.proofs.Quits.{Over, Refuses}
use Rattle.runs.proofs.Fine.{Fine, fine_ret, fine_bind, fine_call, fine_pure, fine_read}

pub record Small {A : Type 0} (Off : A → Type 0) (made logged : ℕ) (p : Prog A) : Type 1 where
  pub fine : Fine Off logged p
  pub makes : Makes made p

pub small_ret : {A : Type 0} (Off : A → Type 0) (m n : ℕ) (a : A) → Small Off m n (ret a)
small_ret Off m n a = record { fine = fine_ret Off n a; makes = no_more }

pub small_if : {A : Type 0} {Off : A → Type 0} (m n : ℕ) (c : Bool) {p q : Prog A} → Small Off m n p → Small Off m n q
    → Small Off m n (when c then p else q)
small_if m n true h k = h
small_if m n false h k = k

module _ {A B : Type 0} {Off : B → Type 0} (m n m' n' : ℕ) where
  pub small_bind : {Q : A → Type 0} {p : Prog A} (f : A → Prog B) → Small Q m n p → ((a : A) → Small Off m' n' (f a))
      → ((a : A) → Q a → Over Off (f a)) → Small Off (m + m') (n + n') (bind p f)
  small_bind f h g off = record {
    fine = fine_bind n n' f h.fine (λ a. (g a).fine) off;
    makes = makes_bind m m' f h.makes (λ a. (g a).makes);
  }

  pub small_call : (leave : Refusal → B) (f : A → Prog B) {p : Prog (Answer A)} → Small Refuses m n p → ((a : A) → Small Off m' n' (f a))
      → ((r : Refusal) → Off (leave r)) → Small Off (m + m') (n + n') ((p or_leave leave) >>= f)
  small_call leave f h g off = record {
    fine = fine_call n n' leave f h.fine (λ a. (g a).fine) off;
    makes = makes_call leave f m m' h.makes (λ a. (g a).makes);
  }

-- the answer is known
pub small_pure : {A B : Type 0} {Off : B → Type 0} (m n : ℕ) (leave : Refusal → B) (f : A → Prog B) (y : Answer A)
    → ((a : A) → y ≡ value a → Small Off m n (f a)) → Small Off m n ((ret y or_leave leave) >>= f)
small_pure m n leave f y g = record {
  fine = fine_pure n leave f y (λ a e. (g a e).fine);
  makes = makes_pure leave f m y (λ a e. (g a e).makes);
}

pub small_read : (link : Link) (reg n : ℕ) → Small Refuses 1 7 (read_bytes link reg n)
small_read link reg n = record { fine = fine_read link reg n; makes = makes_read link reg n }
