-- What a program answers on every tape and log it answers on every chip and wire: the chip's own answers are a tape.
-- Assumes nothing.
use mathlib.Core.Path.{refl, ap, subst}
use native.Mathlib.Omega.{arith}
use Rattle.bus.specs.Transfers.{Bus}
use Rattle.bus.specs.Programs.{Prog, Ran, on_tape}
use Rattle.chip.specs.Devices.{log_of, tape_of}
use Rattle.chip.specs.OnChip.{Wired, on_wire, on_chip}
use Rattle.chip.proofs.Honest.{on_a_tape}

-- the chip's answers, and just enough log
abbrev its : {A : Type 0} → Prog A → Wired → Bus
its p w = record { tape = tape_of on_wire p w; log = log_of on_wire p w; at = record { tape = 0; log = 0 } }

pub on_every_chip : {A : Type 0} (P : A → Type 0) (p : Prog A) → ((b : Bus) → P (on_tape p b).answer) → (w : Wired)
    → P (on_chip p w).answer
on_every_chip {A} P p h w =
    subst P (ap (λ (r : Ran A). r.answer) (on_a_tape p w (its p w) refl (omega arith)).ran)
    (h (its p w))
