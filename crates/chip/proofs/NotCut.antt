-- A program that quits at a fault, and ends otherwise than it does then, was not cut: it ended as on a whole wire.
-- Assumes nothing.
use mathlib.Core.Path.{◌≡◌, refl, sym, ap, subst, ◌∙◌}
use mathlib.Core.Bool.{Bool, true, false}
use mathlib.Core.List.{List, []}
use mathlib.Core.Option.{Option, none, some}
use Prim.Native.Nat.{ℕ}
use lib.ListN.{take}
use Rattle.laws.specs.Choice.{when◌then◌else◌}
use Rattle.bus.specs.Transfers.{Transfer, write, read, Outcome, fault}
use Rattle.bus.specs.Programs.{Prog, ask}
use Rattle.chip.specs.Devices.{Reached, reached, on_device}
use Rattle.chip.specs.Chip.{answers, carried, respond_cut, shows}
use Rattle.chip.specs.OnChip.{Wired, uncut, next, on_wire, on_chip}
use Rattle.chip.specs.declared.Chip.{Chip}
use Rattle.chip.proofs.Quits.{Over, over, Quits, ends, goes}

-- a cut transfer faults
cut_faults : (j : ℕ) (c : Chip) (t : Transfer) → (bytes : List ℕ) × ((respond_cut (some j) c t).answer ≡ fault bytes)
unfolding respond_cut carried
cut_faults j c t = by t (answers c t)
  where
    by : (t : Transfer) (yes : Bool)
        → (bytes : List ℕ) × ((when yes then carried (some j) c t else reached (fault []) c).answer ≡ fault bytes)
    by (write a bytes) true = ([], refl)
    by (read a r n) true = (take j (shows c r n), refl)
    by t false = ([], refl)

-- the same answer, and the same chip
pub record Alike {A : Type 0} (p : Prog A) (w : Wired) : Type 0 where
  pub answer : (on_chip p w).answer ≡ (on_chip p (uncut w.chip)).answer
  pub chip : (on_chip p w).device.chip ≡ (on_chip p (uncut w.chip)).device.chip

over_off : {A : Type 0} {Off : A → Type 0} {p : Prog A} → Over Off p → (w : Wired) → Off (on_chip p w).answer
unfolding on_device
over_off (over q) w = q

module _ {A : Type 0} (Off : A → Type 0) (t : Transfer) (k : Outcome → Prog A) (w : Wired) where
  abbrev c : Chip
  c = w.chip

  one_step : ((bytes : List ℕ) → Over Off (k (fault bytes)))
      → ((o : Outcome) (w' : Wired) → (Off (on_chip (k o) w').answer → ⊥) → Alike (k o) w')
      → (Off (on_chip (ask t k) w).answer → ⊥) → (cut : Option ℕ) → w.cuts 0 ≡ cut → Alike (ask t k) w
  unfolding on_device on_wire
  one_step off on h none e =
      let r = respond_cut (w.cuts 0) c t in
      let rest = on r.answer (next w r.device) h in
      let whole : Option ℕ → Reached Wired A = λ cut. on_chip (k (respond_cut cut c t).answer) (uncut (respond_cut cut c t).device) in
      record {
        answer = rest.answer ∙ ap (λ (x : Option ℕ). (whole x).answer) e;
        chip = rest.chip ∙ ap (λ (x : Option ℕ). (whole x).device.chip) e;
      }
  one_step off on h (some j) e =
      let faults = cut_faults j c t in
      let w' = next w (respond_cut (w.cuts 0) c t).device in
      let is = ap (λ (x : Option ℕ). (respond_cut x c t).answer) e ∙ faults.1 in
      absurd (h (subst (λ (o : Outcome). Off (on_chip (k o) w').answer) (sym is) (over_off (off faults.0) w')))

pub not_cut : {A : Type 0} {Off : A → Type 0} {p : Prog A} → Quits Off p → (w : Wired) → (Off (on_chip p w).answer → ⊥) → Alike p w
unfolding on_device
not_cut ends w h = record { answer = refl; chip = refl }
not_cut {A} {Off} (goes {t} {k} on off) w h = one_step Off t k w off (λ o w' h. not_cut (on o) w' h) h (w.cuts 0) refl
