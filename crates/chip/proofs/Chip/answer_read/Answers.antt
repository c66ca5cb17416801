-- By whether the chip answers, and by how it is cut.
-- Assumes nothing.
use Rattle.std.proofs.Common.{◌≡◌, ◌+◌, ℕ, List, sym, ap, ◌∙◌, [], false, le_refl, zero-le, arith}
use borrow.Author.Tests.{leb-true}
use Rattle.bus.specs.Transfers.{Outcome, read}
use Rattle.chip.specs.Devices.{Reached, reached}
use Rattle.chip.specs.Chip.{begun, respond_cut}
use Rattle.chip.specs.Answering.{Answered, as_cut, tells}
use Rattle.chip.specs.Inside.{saying}
use Rattle.chip.specs.declared.Chip.{Chip}
use Rattle.chip.proofs.Steps.{begun_fewer}
use Rattle.chip.proofs.Answering.{unwrapped, read_away, read_past_end, read_here, read_whole, read_cut}
use Rattle.chip.proofs.Chip.answer_read.Goals as goal
use Rattle.chip.proofs.Chip.answer_read.Goals.{then-address-self-via-then-address-self, then-address-self-via-else-address-self+then-not-is_within}

-- the tape and the chip after it, by how the transfer went
abbrev after : Chip → List ℕ → ℕ → Reached Chip Outcome → List ℕ × Answered
after chip tape end x = tells chip x tape end

pub returns-then-address-self : goal.returns-then-address-self
returns-then-address-self c =
    let a = c.args in
    let chip = a.self.now in
    let refuses : reached (saying false []) chip ≡ respond_cut (as_cut a.cut) chip (read a.address a.reg a.n) =
    elim c.then-address-self.branch [
      | then-address-self-via-then-address-self w ↦ read_away chip a.address a.reg a.n (as_cut a.cut) w.if-address-self.true
      | then-address-self-via-else-address-self+then-not-is_within w ↦
          read_past_end chip a.address a.reg a.n (as_cut a.cut) (sym w.is_within.ensures ∙ w.if-not-is_within.true)
    ] in
    ap (λ (x : Answered). (c.reply.new.tape, x)) (unwrapped chip a.end c.reply.result)
    ∙ c.reply.ensures chip 0 zero-le
    ∙ ap (after chip a.tape.now a.end) refuses

pub reply-requires-in-Some : goal.reply-requires-in-Some
reply-requires-in-Some c =
    let a = c.args in
    begun_fewer a.self.now.check a.reg c.min.result a.n (omega arith)
    (leb-true (a.reg + begun a.self.now.check a.n) 256 (sym c.if-not-is_within.ensures))

pub returns-in-Some : goal.returns-in-Some
returns-in-Some c =
    let a = c.args in
    let chip = a.self.now in
    let there = read_here chip a.address a.reg a.n c.if-address-self.false (sym c.if-not-is_within.ensures) in
    rw c.in-Some.is
    (ap (λ (x : Answered). (c.reply-in-Some.new.tape, x)) (unwrapped chip a.end c.reply-in-Some.result)
    ∙ c.reply-in-Some.ensures chip a.n (omega arith)
    ∙ rw c.min.ensures (ap (after chip a.tape.now a.end) (read_cut chip a.address a.reg a.n there c.in-Some.k)))

pub returns-in-None : goal.returns-in-None
returns-in-None c =
    let a = c.args in
    let chip = a.self.now in
    let there = read_here chip a.address a.reg a.n c.if-address-self.false (sym c.if-not-is_within.ensures) in
    rw c.in-None.is
    (ap (λ (x : Answered). (c.reply-in-None.new.tape, x)) (unwrapped chip a.end c.reply-in-None.result)
    ∙ c.reply-in-None.ensures chip a.n (le_refl _)
    ∙ ap (after chip a.tape.now a.end) (read_whole chip a.address a.reg a.n there))
