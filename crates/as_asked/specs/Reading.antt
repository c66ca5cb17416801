-- What an accepted read of registers shows: that the tape held exactly the frame of the bytes returned, with right check bytes where there are any.
-- So no wrong check byte is ever accepted.
-- Assumes nothing.
use Rattle.std.specs.Prelude.{ℕ, ◌≤◌, ◌≡◌, List, [], ◌∷◌, length, Result}
use Rattle.std.proofs.Math.Option.{some}
use Rattle.refusals.specs.Refusal.{value}
use Rattle.frames.specs.Frames.{read_frame}
use Rattle.refusals.specs.declared.Error.{Error}
use Rattle.bus.specs.Lent.{LentBus}
use Rattle.bus.specs.Raw.{Done, as_raw}
use Rattle.bus.specs.Transfers.{read, done}
use Rattle.bus.specs.declared.link.Link.{Link}
use Rattle.as_asked.specs.Seen.{transfers_made}

-- a read of some registers on this bus, which answered so and gave back these bytes
unfoldable pub ExactlyRead : Link → ℕ → LentBus → Result Done Error → List ℕ → Type 0
ExactlyRead link reg bus answer bytes =
    let frame = read_frame link.check link.address bytes in
    as_raw answer ≡ value tt → 1 ≤ length bytes
    → transfers_made bus ≡ some ((read link.address reg (length frame), done frame) ∷ [])
