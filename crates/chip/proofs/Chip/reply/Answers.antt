-- `Chip::reply` meets its contract: a head of three bytes and what is shown behind it are one field.
-- Assumes nothing.
use Rattle.std.proofs.Common.{◌≡◌, ℕ, ◌≤◌, length, take, arith}
use Rattle.std.proofs.Math.Seq.{length-take-le}
use Rattle.chip.specs.Chip.{shows}
use Rattle.chip.specs.declared.Chip.{Chip}
use Rattle.chip.proofs.Answering.{few_begun, no_room, with_room}
use Rattle.chip.proofs.Shows.{length_shows}
use Rattle.chip.proofs.Chip.reply.Goals as goal

-- the field has n bytes, of a read of m
long : (chip : Chip) (reg n m : ℕ) → n ≤ m → length (take n (shows chip reg m)) ≡ n
long chip reg n m h = length-take-le n (shows chip reg m) (omega (arith, length_shows chip reg m))

pub overflow_add-n : goal.overflow_add-n
overflow_add-n c = omega (arith, few_begun c.args.self.now.check c.args.reg c.args.n c.requires)

pub returns-then-saturating_sub-n : goal.returns-then-saturating_sub-n
returns-then-saturating_sub-n c after m h =
    let a = c.args in
    let chip = a.self.now in
    no_room chip after a.good (take a.n (shows chip a.reg m)) a.tape.now a.end (omega (arith, long chip a.reg a.n m h))

pub returns : goal.returns
returns c after m h =
    let a = c.args in
    let chip = a.self.now in
    let size = long chip a.reg a.n m h in
    with_room chip after a.good (take a.n (shows chip a.reg m)) a.tape.now a.end
    (omega (arith, size)) a.n size c.tag_of.result c.tag_of.ensures _ (c.show.ensures m h)
