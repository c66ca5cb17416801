-- `cells::wired::wired` meets its contract: it tells what the read gave.
-- Assumes nothing.
use Rattle.std.proofs.Common.{◌≡◌, ℕ, min, List, length, take, ℤ, T, sym, ap, subst, ◌∙◌, arith, rules}
use Rattle.laws.specs.Over.{◌over◌}
use Rattle.refusals.specs.Refusal.{Refusal, value, refused}
use Rattle.wiring.specs.Tables.{fitted}
use Rattle.bus.specs.Transfers.{Bus}
use Rattle.bus.specs.Programs.{ends, on_tape}
use Rattle.bus.specs.Lent.{held}
use Rattle.bq769x0.specs.declared.BQ769x0.{BQ769x0}
use Rattle.procedure.specs.Wired.{unshown, showing, read_wired, wired}
use Rattle.cells.specs.Inside.{reads}
use Rattle.cells.proofs.Taken.{many, first_volts}
use Rattle.cells.proofs.Told.{tells}
use Rattle.cells.proofs.wired.wired.Goals as goal

module _ (d : BQ769x0) (inputs : List ℕ) (list : List ℤ) (b b' : Bus) where
  abbrev room : ℕ
  room = min (length inputs) (length list)

  unread : (r : Refusal) → ends (refused r) b' ≡ on_tape (reads d room) b → ends (unshown d inputs list r) b' ≡ on_tape (wired d inputs list) b
  unfolding wired read_wired
  unread r = tells d room (unshown d inputs list) (showing d inputs list) b (refused r) b'

  given : (readings : List ℤ) → ends (value readings) b' ≡ on_tape (reads d room) b
      → ends (showing d inputs list readings) b' ≡ on_tape (wired d inputs list) b
  unfolding wired read_wired
  given readings = tells d room (unshown d inputs list) (showing d inputs list) b (value readings) b'

pub returns-in_err-read : goal.returns-in_err-read
returns-in_err-read c =
    let left = unread c.args.device.now c.args.inputs.now c.args.list.now (held c.args.bus.now) _ _ (rw c.min.ensures at c.in_err-read.ensures.read.0) in
    search (rules, left)

pub show-requires : goal.show-requires
show-requires c =
    let d = c.args.device.now in
    let ready = c.in_ok-read.ensures.ready in
    let row : length c.fitted.result.now ≡ d.cell_count = many d.link.x d.cell_count (subst T (sym ready.pack) tt) c.fitted.ensures in
    let fits = rw c.min.ensures at ready.fits in
    omega (arith, row, fits)

pub take-requires-clause-volts : goal.take-requires-clause-volts
take-requires-clause-volts c =
    let d = c.args.device.now in
    rw c.by_wiring.ensures (first_volts d.link.x d.cell_count (subst T (sym c.in_ok-read.ensures.ready.pack) tt) (take d.link.x c.read.new.inputs) _)

pub returns : goal.returns
returns c =
    let d = c.args.device.now in
    let inputs = c.args.inputs.now in
    let list = c.args.list.now in
    let readings = take d.link.x c.read.new.inputs in
    let left = given d inputs list (held c.args.bus.now) _ readings (rw c.min.ensures at c.in_ok-read.ensures.read.0) in
    let copied : c.show.new.inputs ≡ fitted d.link.x d.cell_count over inputs = c.show.ensures ∙ ap (λ (l : List ℕ). l over inputs) c.fitted.ensures in
    (rw (c.take.ensures.stored, copied, c.by_wiring.ensures) left, c.read.ensures.read.1)
