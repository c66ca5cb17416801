-- The calibration among a run's transfers: where 50 and 59 were read first it is theirs, and where 59 was not read there is none.
-- Assumes nothing.
use mathlib.Core.Path.{◌≡◌, refl, sym, ap, subst₂, ◌∙◌}
use mathlib.Core.Bool.{Bool, true, false, ◌&&◌}
use mathlib.Core.List.{List, [], ◌∷◌, ◌++◌}
use mathlib.Core.Option.{none, some}
use Prim.Native.Nat.{ℕ}
use native.Mathlib.Omega.{arith}
use lib.Dec.{eqb}
use lib.ListN.{length, get_or}
use borrow.Author.Tests.{eq-eqb}
use Rattle.laws.specs.Choice.{when◌then◌else◌}
use Rattle.refusals.specs.Refusal.{Refusal, Answer, value}
use Rattle.adc.specs.Registers.{calibration}
use Rattle.adc.specs.declared.transfer.AdcTransferFunction.{AdcTransferFunction}
use Rattle.bus.specs.Raw.{Done, read_bytes}
use Rattle.bus.specs.Shown.{Made, registers_read, first_of}
use Rattle.bus.specs.declared.link.Link.{Link}
use Rattle.bus.proofs.Exchanges.{OfBus, ReadSeen, accepted, got, found, passed, read_seen}
use Rattle.bus.proofs.Throughout.{throughout, throughout_call}
use Rattle.bq769x0.specs.Record.{Left, leaves, leaving}
use Rattle.bq769x0.specs.declared.BQ769x0.{BQ769x0}
use Rattle.procedure.specs.Calibrate.{calibrated, calibrate}
use Rattle.as_asked.specs.Seen.{read_from, calibration_in}

module _ (link : Link) where
  -- an accepted read of some registers
  abbrev pub of : ℕ → ℕ → List ℕ → Made
  of reg n bytes = accepted link.check link.address reg n bytes

  pub given_here : (reg n : ℕ) (bytes : List ℕ) (h : List Made) → read_from link (of reg n bytes ∷ h) reg ≡ bytes
  given_here reg n bytes h =
      ap (first_of link.address reg) (got link.check link.address reg n bytes h)
      ∙ found link.address reg bytes (registers_read link.check h)

  pub given_behind : (reg other n : ℕ) (bytes : List ℕ) (h : List Made) → eqb reg other ≡ false
      → read_from link (of reg n bytes ∷ h) other ≡ read_from link h other
  given_behind reg other n bytes h e =
      ap (first_of link.address other) (got link.check link.address reg n bytes h)
      ∙ passed link.address link.address reg other bytes (registers_read link.check h) e

  -- no calibration where 59 was not read
  pub none_in : (h : List Made) → read_from link h 0x59 ≡ [] → calibration_in link h ≡ none
  none_in h e = rw e (by (eqb (length (read_from link h 0x50)) 2))
    where
      by : (t : Bool) → (when t && false then some (calibration (get_or (read_from link h 0x50) 0 0) (get_or (read_from link h 0x50) 1 0) 0) else none) ≡ none
      by true = refl
      by false = refl

  module _ (first second : List ℕ) where
    -- the two reads
    abbrev pub both : List Made
    both = of 0x50 2 first ∷ of 0x59 1 second ∷ []

    abbrev pub read : AdcTransferFunction
    read = calibration (get_or first 0 0) (get_or first 1 0) (get_or second 0 0)

    pub read_in : length first ≡ 2 → length second ≡ 1 → (h : List Made) → calibration_in link (both ++ h) ≡ some read
    read_in two one h =
        let a = given_here 0x50 2 first (of 0x59 1 second ∷ h) in
        let b = given_behind 0x50 0x59 2 first (of 0x59 1 second ∷ h) refl ∙ given_here 0x59 1 second h in
        rw (a, b, eq-eqb _ _ two, eq-eqb _ _ one)

-- ---- `calibrate`: both reads, or a refusal with 59 not read
pub data Calibrates (d : BQ769x0) : Left Done → List Made → Type 0 where
  both_read : (first second : List ℕ) → length first ≡ 2 → length second ≡ 1
      → Calibrates d (leaves (value tt) (calibrated d first second)) (both d.link first second)
  not_read : (r : Refusal) (h : List Made) → OfBus r → read_from d.link h 0x59 ≡ [] → Calibrates d (leaving d r) h

pub calibrate_seen : (d : BQ769x0) → throughout (Calibrates d) (calibrate d)
unfolding calibrate throughout
calibrate_seen d =
    let link = d.link in
    let Seen : ℕ → ℕ → Answer (List ℕ) → List Made → Type 0 = ReadSeen link.check link.address in
    throughout_call (Calibrates d) (Seen 0x50 2) (read_bytes link 0x50 2) (leaving d) _ (read_seen link 0x50 2 (omega arith))
    (λ r h q. not_read r h q.1 (q.0.unread link.address 0x59))
    (λ first h q. throughout_call (λ left g. Calibrates d left (h ++ g)) (Seen 0x59 1) (read_bytes link 0x59 1) (leaving d) _
    (read_seen link 0x59 1 (omega arith))
    (λ r g k. not_read r (h ++ g) k.1
    (ap (λ (l : List Made). read_from link (l ++ g) 0x59) q.0
    ∙ given_behind link 0x50 0x59 2 first g refl ∙ k.0.unread link.address 0x59))
    (λ second g k. subst₂ (λ (x y : List Made). Calibrates d (leaves (value tt) (calibrated d first second)) (x ++ (y ++ [])))
    (sym q.0) (sym k.0) (both_read first second q.1 k.1)))
