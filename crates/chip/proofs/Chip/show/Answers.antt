-- `Chip::show` meets its contract. The loop's invariant: the bytes stored so far are the first of those shown.
-- Assumes nothing.
use Rattle.std.proofs.Common.{◌≡◌, ap, ◌∙◌, List, ℕ, ◌+◌, ◌<◌, length, get_or, set, add-one, arith, rules}
use Rattle.std.proofs.Math.Seq.{paste-suc, length-take-le}
use Rattle.frames.specs.Put.{put}
use Rattle.chip.specs.Chip.{shows}
use Rattle.chip.proofs.Shows.{length_shows}
use Rattle.chip.proofs.Steps.{begun_fewer}
use Rattle.chip.proofs.Chip.show.Goals as goal

pub shown-requires : goal.shown-requires
shown-requires c =
    let a = c.args in
    begun_fewer a.self.now.check a.reg (c.loop-i.i + 1) a.n (search rules) c.requires.n_bound

pub loop-i-preserved : goal.loop-i-preserved
loop-i-preserved c =
    let l = c.loop-i in
    let a = c.args in
    let here : a.at + l.i < length a.tape.now = omega (arith, c.requires.n_in_bounds) in
    λ m h.
    let there : l.i < length (shows a.self.now a.reg m) = omega (arith, length_shows a.self.now a.reg m) in
    ap (set l.tape (a.at + l.i)) (c.shown.ensures m (omega arith))
    ∙ ap (λ (t : List ℕ). set t (a.at + l.i) (get_or (shows a.self.now a.reg m) l.i 0)) (l.invariant m h)
    ∙ paste-suc a.tape.now a.at (shows a.self.now a.reg m) l.i 0 here there
    ∙ rw add-one

pub returns : goal.returns
unfolding put
returns c m h =
    let l = c.loop-i in
    let a = c.args in
    let end : l.i ≡ a.n = omega arith in
    let size = length-take-le a.n (shows a.self.now a.reg m) (omega (arith, length_shows a.self.now a.reg m)) in
    l.invariant m h ∙ rw (end, size)
