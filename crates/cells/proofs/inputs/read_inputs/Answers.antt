-- `cells::inputs::read_inputs` meets its contract: what it leaves of the bytes read, by what the read said.
-- Assumes nothing.
use Rattle.std.proofs.Common.{◌≡◌, ℕ, ◌*◌, List, ◌++◌, length, take, drop, replicate, ℤ, ap, ◌∙◌, rules}
use lib.Seq.{take_at}
use Rattle.refusals.specs.Refusal.{value}
use Rattle.bus.specs.Programs.{ends}
use Rattle.bus.specs.Lent.{held}
use Rattle.procedure.specs.Inputs.{converted}
use Rattle.procedure.proofs.Converted.{first_converted}
use Rattle.cells.proofs.AllInputs.{all_refused, all_read}
use Rattle.cells.proofs.inputs.read_inputs.Goals as goal

pub returns-in_err-read_raw-clause-read : goal.returns-in_err-read_raw-clause-read
returns-in_err-read_raw-clause-read c =
    let left = all_refused c.args.link c.args.adc c.requires.0 _ _ _ c.in_err-read_raw.ensures.0 in
    search (rules, left)

pub returns-clause-read : goal.returns-clause-read
returns-clause-read c =
    let x = c.args.link.x in
    let zeroes : List ℕ = replicate 32 0 in
    let bytes = c.read_raw.new.data in
    let left = all_read c.args.link c.args.adc c.requires.0 _ _ bytes c.in_ok-read_raw.ensures.0 in
    let many : length bytes ≡ 2 * x = search (rules) in
    let first : take x c.convert.new.inputs ≡ converted c.args.adc bytes =
    c.convert.ensures.first ∙ first_converted c.args.adc (bytes ++ drop (2 * x) zeroes) x
    ∙ ap (converted c.args.adc) (take_at bytes (drop (2 * x) zeroes) (2 * x) many) in
    (ap (λ (l : List ℤ). ends (value l) (held c.read_raw.new.bus)) first ∙ left, c.read_raw.ensures.1)
