-- A sound record stays sound, whatever call leaves it: the calibration, init, whatever way the steps are chosen, and both calls for the cells.
-- Assumes nothing.
use mathlib.Core.Path.{◌≡◌, refl, ◌∙◌}
use mathlib.Core.Bool.{Bool, true, false, true≢false, not, ◌&&◌, ◌||◌, and-eq-true_iff}
use mathlib.Core.List.{List}
use Prim.Native.Nat.{ℕ, ◌≤◌}
use lib.Dec.{eqb, ltb}
use lib.IntN.{ℤ}
use lib.ListN.{get_or}
use borrow.Author.Tests.{le-leb, ltb-false, ne_eqb}
use native.Mathlib.Omega.{arith}
use Rattle.refusals.specs.Refusal.{Answer}
use Rattle.adc.specs.Registers.{gain_of}
use Rattle.adc.proofs.Gain.{gain_range}
use Rattle.units.specs.declared.MicroOhms.{MicroOhms}
use Rattle.plan.specs.Steps.{InMv, bad_shunt}
use Rattle.plan.specs.declared.Config.{Config}
use Rattle.laws.specs.Choice.{when◌then◌else◌}
use Rattle.bus.specs.Transfers.{Bus}
use Rattle.bus.specs.Programs.{on_tape}
use Rattle.bq769x0.specs.Record.{is_sound, with_shunt}
use Rattle.bq769x0.specs.declared.BQ769x0.{BQ769x0}
use Rattle.bq769x0.proofs.Keeps.{decides, decided, readings_sound}
use Rattle.procedure.specs.Calibrate.{calibrated, read_adc_characteristics}
use Rattle.procedure.specs.Init.{init_by}
use Rattle.procedure.specs.Taking.{taking}
use Rattle.procedure.specs.Cells.{cell_voltages}
use Rattle.procedure.specs.Wired.{wired}
use Rattle.procedure.proofs.Keeps.{read_adc_keeps, init_keeps, cells_keep, wired_keeps}

abbrev Sound : BQ769x0 → Type 0
Sound d = is_sound d ≡ true

-- ---- calibration
some_gain : (b50 b59 : ℕ) → eqb (gain_of b50 b59) 0 ≡ false
some_gain b50 b59 = ne_eqb (gain_of b50 b59) 0 (none (gain_of b50 b59) (gain_range b50 b59).0)
  where
    none : (gain : ℕ) → 365 ≤ gain → gain ≡ 0 → ⊥
    none gain h q = omega arith

-- a mark that is right stays right with another gain that is not 0
another_gain : (mark : Bool) (shunt : Bool) (gain gain' : Bool) → gain' ≡ false
    → (when mark then not shunt && not gain else shunt) ≡ true
    → (when mark then not shunt && not gain' else shunt) ≡ true
another_gain true shunt gain gain' some e = rw (((and-eq-true_iff (not shunt) (not gain)).0 e).0, some)
another_gain false shunt gain gain' some e = e

calibrated_sound : (d : BQ769x0) (first second : List ℕ) → is_sound d ≡ true → is_sound (calibrated d first second) ≡ true
calibrated_sound d first second e =
    let s = decides d e in
    let b50 = get_or first 0 0 in
    let b59 = get_or second 0 0 in
    let range = gain_range b50 b59 in
    decided (calibrated d first second)
    (record {
      device = s.device;
      calibrated = rw (le-leb 365 (gain_of b50 b59) range.0, le-leb (gain_of b50 b59) 396 range.1);
      shunted = s.shunted;
      marked =
          another_gain d.init_complete (eqb d.shunt.0 0) (eqb d.adc.gain 0) (eqb (gain_of b50 b59) 0)
          (some_gain b50 b59) s.marked;
    })

-- ---- a shunt that is not refused, stored with the mark
neither : (a b : Bool) → (a || b) ≡ false → (a ≡ false) × (b ≡ false)
neither false b e = (refl, e)
neither true b e = absurd (true≢false e)

shunted_sound : (d : BQ769x0) (shunt : MicroOhms) → is_sound d ≡ true → bad_shunt shunt.0 ≡ false → eqb d.adc.gain 0 ≡ false
    → is_sound (with_shunt d shunt) ≡ true
shunted_sound d shunt e good some =
    let s = decides d e in
    let fine = neither (eqb shunt.0 0) (ltb 2147483647 shunt.0) good in
    decided (with_shunt d shunt)
    (record {
      device = s.device;
      calibrated = s.calibrated;
      shunted = le-leb shunt.0 2147483647 (ltb-false 2147483647 shunt.0 fine.1);
      marked = rw (fine.0, some);
    })

-- ---- the calls
pub read_adc_sound : (d : BQ769x0) (b : Bus) → Sound d → Sound (on_tape (read_adc_characteristics d) b).answer.device
read_adc_sound = read_adc_keeps Sound calibrated_sound

pub init_sound : (choose : Config → Answer InMv) (d : BQ769x0) (config : Config) (b : Bus) → Sound d
    → Sound (on_tape (init_by choose d config) b).answer.device
init_sound = init_keeps Sound calibrated_sound shunted_sound

-- soundness does not speak of the readings
still_sound : (d : BQ769x0) → Sound d → (readings : List ℤ) → Sound (taking d readings)
still_sound d e readings = readings_sound d (taking d readings).readings ∙ e

pub cells_sound : (d : BQ769x0) → Sound d → (list : List ℤ) (b : Bus) → Sound (on_tape (cell_voltages d list) b).answer.device
cells_sound d e = cells_keep Sound d e (λ sound. still_sound d e)

pub wired_sound : (d : BQ769x0) → Sound d → (inputs : List ℕ) (list : List ℤ) (b : Bus)
    → Sound (on_tape (wired d inputs list) b).answer.device
wired_sound d e = wired_keeps Sound d e (λ sound. still_sound d e)
