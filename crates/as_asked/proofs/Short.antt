-- The transfers that a program makes fit their fields, where all that it may ask for do.
-- Assumes nothing.
use mathlib.Core.List.{List}
use Rattle.bus.specs.Transfers.{Transfer, Outcome, done, fault, stopped, Bus, outcome, after}
use Rattle.bus.specs.Programs.{Prog}
use Rattle.bus.specs.Shown.{Made}
use Rattle.bus.proofs.Decoders.{Short, AllShort}
use Rattle.bus.proofs.Framed.{made, history}
use Rattle.chip.proofs.Asks.{Asks, nothing, this}

one_short : (t : Transfer) (o : Outcome) (h : List Made) → Short t → AllShort h → AllShort (made t o h)
unfolding made
one_short t (done bytes) h s k = (s, k)
one_short t (fault bytes) h s k = (s, k)
one_short t (stopped r) h s k = k

pub all_short : {A : Type 0} {p : Prog A} → Asks Short p → (b : Bus) → AllShort (history p b)
unfolding history
all_short nothing b = tt
all_short (this {t = t} s k) b = one_short t (outcome t b) _ s (all_short (k (outcome t b)) (after t (outcome t b) b))
