-- The model chip is honest: what it answers fits the transfer, and one field of the tape. So every program does on some tape what it
-- does on the chip.
-- Assumes nothing.
use mathlib.Core.Path.{◌≡◌, refl, sym, ◌∙◌}
use mathlib.Core.Bool.{Bool, true, false}
use mathlib.Core.List.{[], append-nil}
use mathlib.Core.Option.{Option, none, some}
use Prim.Native.Nat.{ℕ, ◌+◌, ◌≤◌, ◌<◌}
use native.Mathlib.Omega.{arith}
use lib.ListN.{drop, length-take}
use Rattle.laws.specs.Choice.{when◌then◌else◌}
use Rattle.bus.specs.Transfers.{Transfer, write, read, done, fault, wanted, Bus}
use Rattle.bus.specs.Programs.{Prog}
use Rattle.bus.specs.Decoders.{Fitting}
use Rattle.bus.proofs.Framed.{Room}
use Rattle.chip.specs.Devices.{reached, log_of, tape_of}
use Rattle.chip.specs.Chip.{begun, shows, acknowledged, answers, carried, respond_cut}
use Rattle.chip.specs.OnChip.{Wired, on_wire}
use Rattle.chip.specs.declared.Chip.{Chip}
use Rattle.chip.proofs.Answers.{read_within}
use Rattle.chip.proofs.Shows.{length_shows}
use Rattle.chip.proofs.Adequate.{AsOn, adequate}

-- a read that is answered is of at most 512 bytes
short : (check : Bool) (r n : ℕ) → r + begun check n ≤ 256 → n < 65536
unfolding begun
short true r n h = omega arith
short false r n h = omega arith

acknowledged_fits : (yes : Bool) → Fitting 0 (when yes then done [] else fault [])
acknowledged_fits true = (refl, omega arith)
acknowledged_fits false = (omega arith, omega arith)

carried_fits : (cut : Option ℕ) (c : Chip) (t : Transfer) → answers c t ≡ true
    → Fitting (wanted t) (carried cut c t).answer
unfolding carried wanted
carried_fits none c (write a bytes) h = acknowledged_fits (acknowledged c bytes)
carried_fits (some j) c (write a bytes) h = (omega arith, omega arith)
carried_fits none c (read a r n) h =
    let size = length_shows c r n in
    let few = short c.check r n (read_within c r a n h) in
    (size, omega arith)
carried_fits (some j) c (read a r n) h =
    let size = length_shows c r n in
    let part = length-take j (shows c r n) in
    let few = short c.check r n (read_within c r a n h) in
    (omega arith, omega arith)

if_fits : (cut : Option ℕ) (c : Chip) (t : Transfer) (yes : Bool) → answers c t ≡ yes
    → Fitting (wanted t) (when yes then carried cut c t else reached (fault []) c).answer
if_fits cut c t true e = carried_fits cut c t e
if_fits cut c t false e = (omega arith, omega arith)

pub chip_honest : (w : Wired) (t : Transfer) → Fitting (wanted t) (on_wire w t).answer
unfolding on_wire respond_cut
chip_honest w t = if_fits (w.cuts 0) w.chip t (answers w.chip t) refl

-- for every chip and every cut: on the tape of the chip's answers, behind whatever came before, a program does what it does on the chip
pub on_a_tape : {A : Type 0} (p : Prog A) (w : Wired) (b : Bus)
    → drop b.at.tape b.tape ≡ tape_of on_wire p w
    → Room b (log_of on_wire p w)
    → AsOn on_wire p w b
on_a_tape p w b tape room = adequate on_wire chip_honest p w b [] (tape ∙ sym (append-nil _)) room
