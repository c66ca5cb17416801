-- A switch that stands so already writes nothing; any other writes the byte with its bit switched.
-- Assumes nothing.
use mathlib.Core.Path.{◌≡◌}
use mathlib.Core.Bool.{Bool, true, false, not}
use mathlib.Core.Option.{none, some}
use Prim.Native.Nat.{ℕ}
use Rattle.bits.specs.Bits.{holds, switched, switching}

pub stands_so : (mask byte : ℕ) (on : Bool) → holds mask byte ≡ on → switching mask on byte ≡ none
unfolding switching
stands_so mask byte true h = rw h
stands_so mask byte false h = rw h

pub differs : (mask byte : ℕ) (on : Bool) → holds mask byte ≡ not on → switching mask on byte ≡ some (switched mask on byte)
unfolding switching
differs mask byte true h = rw h
differs mask byte false h = rw h
