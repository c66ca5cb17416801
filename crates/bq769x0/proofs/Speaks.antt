-- A sound record speaks to a chip: its link is sound, and it has inputs.
-- Assumes nothing.
use mathlib.Core.Path.{◌≡◌, refl, ap₂}
use mathlib.Core.Bool.{Bool, true, false, not, ◌&&◌}
use Prim.Native.Nat.{◌≤◌}
use native.Mathlib.Omega.{arith}
use lib.Dec.{leb, ltb}
use borrow.Author.Tests.{le-leb, ltb-false, not-false}
use Rattle.refusals.specs.Refusal.{value, refused_if}
use Rattle.refusals.proofs.Values.{refused_not}
use Rattle.bus.specs.Raw.{Done, sound}
use Rattle.sizes.specs.Sizes.{is_size, is_count}
use Rattle.sizes.proofs.Sizes.{by_size}
use Rattle.bq769x0.specs.Record.{device_allowed, is_sound}
use Rattle.bq769x0.specs.declared.BQ769x0.{BQ769x0}
use Rattle.bq769x0.proofs.Keeps.{decides}

accepted : (a b c : Bool) (x : Done) → refused_if a 9 (refused_if b 10 (refused_if c 11 (value x))) ≡ value x → (a ≡ false) × (c ≡ false)
accepted true b c x e = refused_not e
accepted false true c x e = refused_not e
accepted false false true x e = refused_not e
accepted false false false x e = (refl, refl)

fits : (d : BQ769x0) → is_sound d ≡ true → (is_size d.link.x ≡ true) × (leb d.link.address 127 ≡ true)
unfolding device_allowed
fits d e =
    let tests =
    accepted (not (is_size d.link.x)) (not (is_count d.link.x d.cell_count)) (ltb 127 d.link.address) tt
    (decides d e).device in
    (not-false (is_size d.link.x) tests.0, le-leb d.link.address 127 (ltb-false 127 d.link.address tests.1))

pub sound_size : (d : BQ769x0) → is_sound d ≡ true → is_size d.link.x ≡ true
sound_size d e = (fits d e).0

pub link_sound : (d : BQ769x0) → is_sound d ≡ true → sound d.link ≡ true
link_sound d e = ap₂ ◌&&◌ (fits d e).1 (fits d e).0

pub some_inputs : (d : BQ769x0) → is_sound d ≡ true → 5 ≤ d.link.x
some_inputs d e = by_size (λ x. 5 ≤ x) (omega arith) (omega arith) (omega arith) d.link.x (sound_size d e)
