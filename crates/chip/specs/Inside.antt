-- What private contracts cite: how a transfer went, as the code tells it. Nobody has to believe it.
-- Assumes nothing.
use Rattle.std.specs.Prelude.{ℕ, Bool, true, false, List, Option, Some, None}
use Rattle.bus.specs.Transfers.{Outcome, done, fault}
use Rattle.chip.specs.Answering.{Answered, answered_with}
use Rattle.chip.specs.declared.Chip.{Chip}

-- done, or a fault, with these bytes
abbrev pub saying : Bool → List ℕ → Outcome
saying true bytes = done bytes
saying false bytes = fault bytes

-- with its answer on the tape, the chip as it is after the transfer and how far the tape is filled; where it has no room, as before
abbrev pub told : Chip → Chip → ℕ → Option ℕ → Answered
told c after end None = answered_with c end
told c after end (Some next) = answered_with after next
