-- A sound record's count is one that its device allows, so that it has at most 15 inputs and at most 15 cells; its gain is one that registers
-- give, or none.
-- Assumes nothing.
use mathlib.Core.Path.{◌≡◌, sym, ap, subst}
use mathlib.Core.Bool.{Bool, true, false, not, ◌&&◌}
use mathlib.Core.Logic.{⊎_elim}
use Prim.Native.Nat.{◌≤◌}
use native.Mathlib.Omega.{arith}
use lib.Dec.{T, eqb, ltb, leb, eqb→eq, leb→le}
use mir.Facts.{or_yes}
use Rattle.laws.proofs.Tests.{both_left, both_right}
use Rattle.refusals.specs.Refusal.{Answer, value, refused_if}
use Rattle.sizes.specs.Sizes.{is_size, is_count}
use Rattle.sizes.proofs.Sizes.{at_most_15}
use Rattle.bus.specs.Raw.{Done}
use Rattle.bq769x0.specs.Record.{device_allowed, accepts, is_zero, is_sound}
use Rattle.bq769x0.specs.declared.BQ769x0.{BQ769x0}
use Rattle.bq769x0.proofs.Keeps.{decides}

-- a device that is not refused passes the test of its count
passes : (size count address : Bool)
    → T (accepts (refused_if (not size) 9 (refused_if (not count) 10 (refused_if address 11 (value (tt {0}))))))
    → T count
passes true true address t = tt
passes true false address t = absurd t
passes false count address t = absurd t

pub sound_pack : (d : BQ769x0) → is_sound d ≡ true → T (is_count d.link.x d.cell_count)
unfolding device_allowed
sound_pack d e =
    let taken = ap (λ (y : Answer Done). accepts y) (decides d e).device in
    passes (is_size d.link.x) (is_count d.link.x d.cell_count) (ltb 127 d.link.address)
    (subst T (sym taken) tt)

pub sound_sizes : (d : BQ769x0) → is_sound d ≡ true → (d.link.x ≤ 15) × (d.cell_count ≤ 15)
sound_sizes d e = at_most_15 d.link.x d.cell_count (sound_pack d e)

pub sound_gain : (d : BQ769x0) → is_sound d ≡ true → d.adc.gain ≤ 396
sound_gain d e =
    let gain = d.adc.gain in
    let none = is_zero d.adc.offset in
    ⊎_elim
    (λ (t : T (leb 365 gain && leb gain 396)). leb→le gain 396 (both_right (leb 365 gain) (leb gain 396) t))
    (λ (t : T (eqb gain 0 && none)). omega (arith, eqb→eq gain 0 (both_left (eqb gain 0) none t)))
    (or_yes (leb 365 gain && leb gain 396) (eqb gain 0 && none) (rw (decides d e).calibrated tt))
