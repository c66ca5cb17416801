-- The calibration on any wire: read whole; or one of its two reads is cut, and the record is as it was. The chip is as it was either way.
-- Assumes nothing.
use mathlib.Core.Path.{◌≡◌, refl, sym, subst, ◌∙◌}
use mathlib.Core.Bool.{Bool, true, false, ◌&&◌}
use mathlib.Core.Option.{Option, none, some}
use Prim.Native.Nat.{ℕ, ◌*◌, ◌≤◌}
use native.Mathlib.Omega.{arith}
use Rattle.refusals.specs.Refusal.{Refusal, value}
use Rattle.bus.specs.Raw.{Done, sound}
use Rattle.bq769x0.specs.Record.{Left, leaves, leaving, with_calibration}
use Rattle.bq769x0.specs.declared.BQ769x0.{BQ769x0}
use Rattle.procedure.specs.Calibrate.{calibrate}
use Rattle.chip.specs.Devices.{Reached, reached, on_device}
use Rattle.chip.specs.Chip.{held}
use Rattle.chip.specs.OnChip.{Matches, Wired, next, on_wire, on_chip}
use Rattle.chip.proofs.Devices.{went_on, went_off}
use Rattle.chip.proofs.Wires.{read_whole, read_broken}
use Rattle.recovery.specs.Recovery.{calibration_of, is_whole}

-- the wire after both reads
abbrev pub read_once : Wired → Wired
read_once w = next w w.chip

abbrev pub read_twice : Wired → Wired
read_twice w = read_once (read_once w)

pub data Calibrated (d : BQ769x0) (w : Wired) : Bool → Reached Wired (Left Done) → Type 0 where
  broken : (r : Refusal) (w' : Wired) → w'.chip ≡ w.chip → Calibrated d w false (reached (leaving d r) w')
  reads : Calibrated d w true (reached (leaves (value tt) (with_calibration d (calibration_of w.chip))) (read_twice w))

module _ (d : BQ769x0) (ok : sound d.link ≡ true) (two : 2 ≤ 2 * d.link.x) (w : Wired)
    (m : Matches d.link w.chip) where
  pub calibrate_whole : w.cuts 0 ≡ none → w.cuts 1 ≡ none
      → on_chip (calibrate d) w ≡ reached (leaves (value tt) (with_calibration d (calibration_of w.chip))) (read_twice w)
  unfolding calibrate on_device held
  calibrate_whole e f =
      went_on on_wire _ _ _ w (read_once w) _ (read_whole d.link ok w m 0x50 2 (omega arith) (omega arith) two e)
      ∙ went_on on_wire _ _ _ (read_once w) (read_twice w) _
      (read_whole d.link ok (read_once w) m 0x59 1 (omega arith) (omega arith) (omega arith) f)

  pub calibrate_any : Calibrated d w (is_whole (w.cuts 0) && is_whole (w.cuts 1)) (on_chip (calibrate d) w)
  unfolding calibrate
  calibrate_any = by (w.cuts 0) (w.cuts 1) refl refl
    where
      by : (one two : Option ℕ) → w.cuts 0 ≡ one → w.cuts 1 ≡ two
          → Calibrated d w (is_whole one && is_whole two) (on_chip (calibrate d) w)
      by none none e f = subst (Calibrated d w true) (sym (calibrate_whole e f)) reads
      by none (some j) e f =
          let off = read_broken d.link ok (read_once w) m 0x59 1 (omega arith) (omega arith) (omega arith) j f in
          subst (Calibrated d w false)
          (sym (went_on on_wire _ _ _ w (read_once w) _ (read_whole d.link ok w m 0x50 2 (omega arith) (omega arith) two e)
          ∙ went_off on_wire _ _ _ (read_once w) (read_twice w) off.0 off.1))
          (broken off.0 (read_twice w) refl)
      by (some j) other e f =
          let off = read_broken d.link ok w m 0x50 2 (omega arith) (omega arith) two j e in
          subst (Calibrated d w false) (sym (went_off on_wire _ _ _ w (read_once w) off.0 off.1)) (broken off.0 (read_once w) refl)
