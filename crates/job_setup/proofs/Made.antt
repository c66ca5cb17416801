-- What `new` leaves is known by its answer: where it refuses a device of size 0; and it is sound just where it does not.
-- Assumes nothing.
use mathlib.Core.Path.{◌≡◌, refl}
use mathlib.Core.Bool.{Bool, true}
use Prim.Native.Nat.{ℕ}
use Rattle.refusals.specs.Refusal.{Answer, value, refused}
use Rattle.bus.specs.Raw.{Done}
use Rattle.bq769x0.specs.Record.{device_allowed, accepts, is_sound, leaves, fresh, made_by, new_for}
use Rattle.bq769x0.specs.declared.BQ769x0.{BQ769x0}
use Rattle.bq769x0.proofs.Keeps.{new_sound}

pub new_by_answer : (x address n : ℕ) (check : Bool)
    → new_for x address n check ≡ made_by (new_for x address n check).answer (fresh x address n check)
unfolding new_for
new_by_answer x address n check = by (device_allowed x address n)
  where
    by : (y : Answer Done) → made_by y (fresh x address n check) ≡ made_by (made_by y (fresh x address n check)).answer (fresh x address n check)
    by (value done) = refl
    by (refused r) = refl

pub new_sound_by_answer : (x address n : ℕ) (check : Bool)
    → is_sound (new_for x address n check).device ≡ accepts (new_for x address n check).answer
unfolding new_for is_sound device_allowed
new_sound_by_answer x address n check = by (device_allowed x address n) (λ d e. new_sound x address n check e refl)
  where
    by : (y : Answer Done) → ((d : BQ769x0) → leaves (value tt) d ≡ made_by y (fresh x address n check) → is_sound d ≡ true)
        → is_sound (made_by y (fresh x address n check)).device ≡ accepts (made_by y (fresh x address n check)).answer
    by (value done) sound = sound (fresh x address n check) refl
    by (refused r) sound = refl
