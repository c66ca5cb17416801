-- `layout::list::put_numbers` meets its contract: a turn goes on from i numbers to i + 1. Assumes nothing.
use Rattle.std.proofs.Common.{◌≡◌, List, ℕ, ◌*◌, get_or, pos, sym, refl, ap, ap₂, ◌∙◌, arith, add-one, w32, rules}
use Rattle.frames.specs.Put.{put}
use Rattle.frames.proofs.Put.{put_none}
use Rattle.numbers.specs.Numbers.{four, as_u32}
use Rattle.numbers.proofs.Signed.{read_back}
use Rattle.layout.specs.Cells.{stored}
use Rattle.layout.proofs.CellBytes.{one_more}
use Rattle.layout.proofs.list.put_numbers.Goals as goal

pub loop-i-init : goal.loop-i-init
loop-i-init c = (sym (put_none _ 0), refl)

pub loop-i-preserved : goal.loop-i-preserved
loop-i-preserved c =
    let n = get_or c.args.millivolts.now c.loop-i.i (pos 0) in
    let number : c.as_u32.result ≡ as_u32 n = c.as_u32.ensures ∙ ap as_u32 (read_back w32 n (search rules)) in
    let here : c.put4.new.out ≡ put (stored c.loop-i.i c.args.millivolts.now c.args.list.now) (4 * c.loop-i.i) (four (as_u32 n)) =
    c.put4.ensures ∙ ap₂ (λ (x : List ℕ) (b : ℕ). put x (4 * c.loop-i.i) (four b)) c.loop-i.invariant.0 number in
    let next = one_more c.args.list.now _ c.args.millivolts.now c.loop-i.i (pos 0) (omega arith) (omega arith) here in
    (next ∙ rw add-one, search rules)
