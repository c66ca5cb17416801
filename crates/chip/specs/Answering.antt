-- What the chip answers to the field of a transfer in a log: the next field of a tape.
-- Assumes nothing.
use Rattle.std.specs.Prelude.{List, ℕ, ◌+◌, length, eqb, leb, Some, None}
use Rattle.std.specs.Prelude as code
use Rattle.std.proofs.Math.Option.{Option, none, some, bind}
use Rattle.frames.specs.Put.{put}
use Rattle.laws.specs.Choice.{when◌then◌else◌}
use Rattle.fields.specs.Fields.{unfield}
use Rattle.bus.specs.Decoders.{unlog}
use Rattle.bus.specs.Transfers.{Transfer, Outcome, tape_field}
use Rattle.chip.specs.Devices.{Reached}
use Rattle.chip.specs.Chip.{respond_cut}
use Rattle.chip.specs.declared.Chip.{Chip}

-- how a transfer goes: whole, or cut after so many bytes behind the address byte
abbrev pub as_cut : code.Option ℕ → Option ℕ
as_cut None = none
as_cut (Some n) = some n

-- the transfer whose log field these bytes are, and nothing more
unfoldable pub transfer_of : List ℕ → Option Transfer
transfer_of bytes = bind (unfield bytes) λ f. when eqb (length f.rest) 0 then unlog f else none

-- the chip after a transfer, and how far the tape is filled
pub record Answered : Type 0 where
  pub chip : Chip
  pub end : ℕ

abbrev pub answered_with : Chip → ℕ → Answered
answered_with c end = record { chip = c; end = end }

-- how a transfer went is put on the tape, from `end` on, and the chip is as it then is; where the tape has no room, nothing is changed
unfoldable pub tells : Chip → Reached Chip Outcome → List ℕ → ℕ → List ℕ × Answered
tells c r tape end =
    let said = tape_field r.answer in
    when leb (end + length said) (length tape)
    then (put tape end said, answered_with r.device (end + length said))
    else (tape, answered_with c end)

-- the same of the transfer that a log field reads back as; other bytes change nothing
abbrev tells_of : Option ℕ → Chip → Option Transfer → List ℕ → ℕ → List ℕ × Answered
tells_of cut c none tape end = (tape, answered_with c end)
tells_of cut c (some t) tape end = tells c (respond_cut cut c t) tape end

unfoldable pub answer_on : Option ℕ → Chip → List ℕ → List ℕ → ℕ → List ℕ × Answered
answer_on cut c bytes tape end = tells_of cut c (transfer_of bytes) tape end
