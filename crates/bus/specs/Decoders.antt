-- The log read back: the transfer that a field stands for, and those of a whole log.
-- (The tape's fields are read back by `unfield` and `untape`.) And which outcomes a tape can say to a transfer.
-- Assumes nothing.
use Rattle.std.specs.Prelude.{ℕ, zero, suc, ◌≤◌, ◌<◌, ◌≡◌, ◌&&◌, List, [], ◌∷◌, length, drop, get_or, leb, eqb}
use Rattle.std.proofs.Math.Option.{Option, none, some, bind, map}
use Rattle.numbers.specs.Numbers.{word}
use Rattle.laws.specs.Choice.{when◌then◌else◌}
use Rattle.fields.specs.Fields.{Field, unfield}
use Rattle.bus.specs.Transfers.{Transfer, write, read, Outcome, done, fault, stopped}

unfoldable pub unlog : Field → Option Transfer
unlog f =
    let at : ℕ → ℕ = λ i. get_or f.value i 0 in
    when eqb f.tag 0x11 && leb 1 (length f.value)
    then some (write (at 0) (drop 1 f.value))
    else when eqb f.tag 0x12 && eqb (length f.value) 4
    then some (read (at 0) (at 1) (word (at 2) (at 3)))
    else none

-- the transfers whose fields these bytes are, in order, in at most so many steps; none where they are no such fields
unfoldable pub transfers_in : ℕ → List ℕ → Option (List Transfer)
transfers_in zero [] = some []
transfers_in zero (x ∷ bytes) = none
transfers_in (suc n) [] = some []
transfers_in (suc n) (x ∷ bytes) =
    bind (unfield (x ∷ bytes)) λ f.
    bind (unlog f) λ t.
    map (λ (ts : List Transfer). t ∷ ts) (transfers_in n f.rest)

-- an outcome that a transfer which wants n bytes takes: exactly these where it is done, at most these where it faults; and a field holds them
abbrev pub Fitting : ℕ → Outcome → Type 0
Fitting n (done bytes) = (length bytes ≡ n) × (length bytes < 65536)
Fitting n (fault bytes) = (length bytes ≤ n) × (length bytes < 65536)
Fitting n (stopped r) = ⊥
