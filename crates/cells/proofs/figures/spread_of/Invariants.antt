-- What was made of the first cell and of the i after it.
use mathlib.Core.Path.{◌≡◌}
use mathlib.Core.List.{foldl}
use Prim.Native.Nat.{◌+◌, ◌*◌, ◌≤◌}
use lib.IntN.{nat_abs, ◌+ℤ◌}
use lib.ListN.{take}
use Rattle.bq769x0.specs.Figures.{lower, higher}
use Rattle.cells.proofs.figures.spread_of.Given as goal

abbrev pub invariant-loop-mv : goal.invariant-loop-mv
invariant-loop-mv l =
    (nat_abs l.sum ≤ 27001 * (l.mv-index + 1))
    × (l.sum ≡ foldl ◌+ℤ◌ l.first (take l.mv-index l.mv-items))
    × (l.lowest ≡ foldl lower l.first (take l.mv-index l.mv-items))
    × (l.highest ≡ foldl higher l.first (take l.mv-index l.mv-items))
