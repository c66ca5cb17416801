-- What holds of a program's answer and of the transfers that it makes, whatever these give, and so on every tape and log.
-- Assumes nothing.
use mathlib.Core.Path.{◌≡◌, refl, sym, subst}
use mathlib.Core.Bool.{Bool, true, false}
use mathlib.Core.List.{List, [], ◌∷◌, ◌++◌, append-nil}
use Rattle.refusals.specs.Refusal.{Refusal, Answer, value, refused}
use Rattle.laws.specs.Choice.{when◌then◌else◌}
use Rattle.bus.specs.Transfers.{Transfer, Outcome, done, fault, stopped, Bus, wanted, outcome, after}
use Rattle.bus.specs.Programs.{Prog, ret, ask, on_tape, bind, proceed, ◌or_leave◌, ◌>>=◌}
use Rattle.bus.specs.Shown.{Made}
use Rattle.bus.proofs.Framed.{made, history}
use Rattle.bus.proofs.Sized.{Sized, sized}

unfoldable pub throughout : {A : Type 0} → (A → List Made → Type 0) → Prog A → Type 0
throughout P (ret a) = P a []
throughout P (ask t k) = (o : Outcome) → Sized (wanted t) o → throughout (λ a h. P a (made t o h)) (k o)

pub on_history : {A : Type 0} (P : A → List Made → Type 0) (p : Prog A) → throughout P p → (b : Bus)
    → P (on_tape p b).answer (history p b)
unfolding throughout on_tape history
on_history P (ret a) h b = h
on_history P (ask t k) h b =
    on_history (λ a h. P a (made t (outcome t b) h)) (k (outcome t b)) (h (outcome t b) (sized t b)) (after t (outcome t b) b)

-- what holds so, and what follows from it
pub throughout_weaken : {A : Type 0} (P Q : A → List Made → Type 0) (p : Prog A) → ((a : A) (h : List Made) → Q a h → P a h)
    → throughout Q p → throughout P p
unfolding throughout
throughout_weaken P Q (ret a) f q = f a [] q
throughout_weaken P Q (ask t k) f q =
    λ o s. throughout_weaken (λ a h. P a (made t o h)) (λ a h. Q a (made t o h)) (k o) (λ a h. f a (made t o h)) (q o s)

module _ {A B : Type 0} (f : A → Prog B) where
  -- after a program of which Q holds
  abbrev Then : (B → List Made → Type 0) → (A → List Made → Type 0) → Type 0
  Then P Q = (a : A) (h : List Made) → Q a h → throughout (λ b g. P b (h ++ g)) (f a)

  abbrev Binds : Prog A → Type 1
  Binds p = (P : B → List Made → Type 0) (Q : A → List Made → Type 0) → throughout Q p → Then P Q → throughout P (bind p f)

  one_more : (t : Transfer) (o : Outcome) (p : Prog A) → Binds p
      → (P : B → List Made → Type 0) (Q : A → List Made → Type 0)
      → throughout (λ a h. Q a (made t o h)) p → Then P Q → throughout (λ b h. P b (made t o h)) (bind p f)
  unfolding made
  one_more t (done bytes) p binds P Q q g =
      binds (λ b h. P b ((t, done bytes) ∷ h)) (λ a h. Q a ((t, done bytes) ∷ h)) q (λ a h. g a ((t, done bytes) ∷ h))
  one_more t (fault bytes) p binds P Q q g =
      binds (λ b h. P b ((t, fault bytes) ∷ h)) (λ a h. Q a ((t, fault bytes) ∷ h)) q (λ a h. g a ((t, fault bytes) ∷ h))
  one_more t (stopped r) p binds P Q q g = binds P Q q g

  pub throughout_bind : (p : Prog A) → Binds p
  unfolding throughout bind
  throughout_bind (ret a) P Q h g = g a [] h
  throughout_bind (ask t k) P Q h g = λ o s. one_more t o (k o) (throughout_bind (k o)) P Q (h o s) g

module _ {A B : Type 0} where
  -- after a call, and where it refuses
  pub throughout_call : (P : B → List Made → Type 0) (Q : Answer A → List Made → Type 0) (p : Prog (Answer A))
      (leave : Refusal → B) (f : A → Prog B)
      → throughout Q p
      → ((r : Refusal) (h : List Made) → Q (refused r) h → P (leave r) h)
      → ((a : A) (h : List Made) → Q (value a) h → throughout (λ b g. P b (h ++ g)) (f a))
      → throughout P ((p or_leave leave) >>= f)
  unfolding ◌>>=◌ throughout proceed
  throughout_call P Q p leave f h off on = throughout_bind (proceed leave f) p P Q h by
    where
      by : (y : Answer A) (h : List Made) → Q y h → throughout (λ b g. P b (h ++ g)) (proceed leave f y)
      by (value a) h q = on a h q
      by (refused r) h q = subst (P (leave r)) (sym (append-nil h)) (off r h q)

  -- the same where the answer is known
  pub throughout_pure : (P : B → List Made → Type 0) (y : Answer A) (leave : Refusal → B) (f : A → Prog B)
      → ((r : Refusal) → y ≡ refused r → P (leave r) [])
      → ((a : A) → y ≡ value a → throughout P (f a))
      → throughout P ((ret y or_leave leave) >>= f)
  unfolding ◌>>=◌ bind throughout proceed
  throughout_pure P (value a) leave f off on = on a refl
  throughout_pure P (refused r) leave f off on = off r refl

pub throughout_if : {A : Type 0} (P : A → List Made → Type 0) (t : Bool) (p q : Prog A)
    → (t ≡ true → throughout P p) → (t ≡ false → throughout P q) → throughout P (when t then p else q)
throughout_if P true p q h k = h refl
throughout_if P false p q h k = k refl
