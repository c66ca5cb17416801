-- The test decides just soundness; `new` gives a sound record, or refuses with 9 or more; and the readings have no part in it.
-- Assumes nothing.
use mathlib.Core.Path.{◌≡◌, refl, sym, ap, ◌∙◌}
use mathlib.Core.Bool.{Bool, true, false≢true, not, ◌&&◌, and-eq-true_iff}
use Prim.Native.Nat.{ℕ}
use native.Mathlib.Omega.{arith}
use lib.Dec.{leb, ltb}
use Rattle.refusals.specs.Refusal.{Answer, value, refused}
use Rattle.refusals.proofs.Values.{refused_not, NumberedFrom, from_if, from_value}
use Rattle.sizes.specs.Sizes.{is_size, is_count}
use Rattle.bus.specs.Raw.{Done}
use Rattle.bq769x0.specs.Record.{device_allowed, fresh, Left, leaves, made_by, new_for}
use Rattle.bq769x0.specs.Record.{accepts, calibrated_right, Sound, is_sound, with_readings}
use Rattle.bq769x0.specs.declared.BQ769x0.{BQ769x0}
use Rattle.bq769x0.specs.declared.Readings.{Readings}

-- ---- the test and the clauses
accepted : (y : Answer Done) → accepts y ≡ true → y ≡ value tt
accepted (value done) e = refl
accepted (refused r) e = absurd (false≢true e)

-- the test decides just soundness
pub decides : (d : BQ769x0) → is_sound d ≡ true → Sound d
unfolding is_sound
decides d e =
    let taken = (and-eq-true_iff (accepts (device_allowed d.link.x d.link.address d.cell_count)) _).0 e in
    let rest = (and-eq-true_iff (calibrated_right d && leb d.shunt.0 2147483647) _).0 taken.1 in
    let first = (and-eq-true_iff (calibrated_right d) _).0 rest.0 in
    record { device = accepted _ taken.0; calibrated = first.0; shunted = first.1; marked = rest.1 }

pub decided : (d : BQ769x0) → Sound d → is_sound d ≡ true
unfolding is_sound
decided d s = rw (s.device, s.calibrated, s.shunted, s.marked)

-- ---- `new`
fresh_sound : (x address n : ℕ) (check : Bool) → device_allowed x address n ≡ value tt → is_sound (fresh x address n check) ≡ true
fresh_sound x address n check e =
    decided (fresh x address n check) (record { device = e; calibrated = refl; shunted = refl; marked = refl })

made_sound : (y : Answer Done) (made : BQ769x0) → (y ≡ value tt → is_sound made ≡ true)
    → {a : Answer Done} {d : BQ769x0} → leaves a d ≡ made_by y made → a ≡ value tt → is_sound d ≡ true
made_sound (value done) made sound e t = ap (λ (l : Left Done). is_sound l.device) e ∙ sound refl
made_sound (refused r) made sound e t = refused_not (sym (ap (λ (l : Left Done). l.answer) e) ∙ t)

pub refused_from_9 : (x address n : ℕ) → NumberedFrom 9 (device_allowed x address n)
unfolding device_allowed
refused_from_9 x address n =
    from_if 9 (not (is_size x)) 9 _ (omega arith)
    (from_if 9 (not (is_count x n)) 10 _ (omega arith)
    (from_if 9 (ltb 127 address) 11 _ (omega arith) (from_value 9 tt)))

-- the record of an outcome that is not refused
pub new_sound : (x address n : ℕ) (check : Bool) {a : Answer Done} {d : BQ769x0}
    → leaves a d ≡ new_for x address n check → a ≡ value tt → is_sound d ≡ true
unfolding new_for
new_sound x address n check = made_sound (device_allowed x address n) (fresh x address n check) (fresh_sound x address n check)

-- ---- the readings, of which soundness does not speak
pub readings_sound : (d : BQ769x0) (readings : Readings) → is_sound (with_readings d readings) ≡ is_sound d
unfolding is_sound
readings_sound d readings = refl
