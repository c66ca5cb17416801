-- What a program does on a device, step by step: one transfer and then the rest; one program and then the next; and of a `do`, the rest
-- after a call that gave a value, nothing after a call that refused. The same whatever the device.
-- Assumes nothing.
use mathlib.Core.Path.{◌≡◌, refl, ap, ◌∙◌}
use Rattle.refusals.specs.Refusal.{Refusal, Answer, value, refused}
use Rattle.bus.specs.Transfers.{Transfer, Outcome}
use Rattle.bus.specs.Programs.{Prog, ret, ask, bind, proceed, ◌or_leave◌, ◌>>=◌}
use Rattle.chip.specs.Devices.{Reached, reached, on_device}

module _ {S : Type 0} (move : S → Transfer → Reached S Outcome) where
  -- a transfer whose answer is known, and then the rest
  pub device_ask : {A : Type 0} (t : Transfer) (k : Outcome → Prog A) (s : S) {r : Reached S Outcome} → move s t ≡ r
      → on_device move (ask t k) s ≡ on_device move (k r.answer) r.device
  unfolding on_device
  device_ask t k s e = ap (λ (r : Reached S Outcome). on_device move (k r.answer) r.device) e

  -- one program after another starts where the first one ends
  pub device_bind : {A B : Type 0} (p : Prog A) (f : A → Prog B) (s : S)
      → on_device move (bind p f) s ≡ on_device move (f (on_device move p s).answer) (on_device move p s).device
  unfolding on_device bind
  device_bind (ret a) f s = refl
  device_bind (ask t k) f s = device_bind (k (move s t).answer) f (move s t).device

  -- a call whose answer is known: on with its value, or off with its refusal
  module _ {A B : Type 0} (p : Prog (Answer A)) (leave : Refusal → B) (f : A → Prog B) (s s' : S) where
    went : {y : Answer A} → on_device move p s ≡ reached y s' → on_device move ((p or_leave leave) >>= f) s ≡ on_device move (proceed leave f y) s'
    unfolding ◌>>=◌
    went e =
        device_bind p (proceed leave f) s
        ∙ ap (λ (r : Reached S (Answer A)). on_device move (proceed leave f r.answer) r.device) e

    pub went_on : (a : A) → on_device move p s ≡ reached (value a) s' → on_device move ((p or_leave leave) >>= f) s ≡ on_device move (f a) s'
    unfolding proceed
    went_on a e = went e

    pub went_off : (r : Refusal) → on_device move p s ≡ reached (refused r) s' → on_device move ((p or_leave leave) >>= f) s ≡ reached (leave r) s'
    unfolding proceed on_device
    went_off r e = went e

  -- a call that makes no transfer
  pub known : {A : Type 0} {y z : Answer A} → y ≡ z → (s : S) → on_device move (ret y) s ≡ reached z s
  unfolding on_device
  known {A} e s = ap (λ (x : Answer A). reached x s) e

  module _ {A B : Type 0} (y : Answer A) (leave : Refusal → B) (f : A → Prog B) (s : S) where
    pub pure_on : (a : A) → y ≡ value a → on_device move ((ret y or_leave leave) >>= f) s ≡ on_device move (f a) s
    pure_on a e = went_on (ret y) leave f s s a (known e s)

    pub pure_off : (r : Refusal) → y ≡ refused r → on_device move ((ret y or_leave leave) >>= f) s ≡ reached (leave r) s
    pure_off r e = went_off (ret y) leave f s s r (known e s)
