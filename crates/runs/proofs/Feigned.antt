-- A call whose positions did not move made no transfer, and is alike to none that did.
-- Assumes nothing.
use mathlib.Core.Path.{◌≡◌, ap}
use native.Mathlib.Omega.{arith}
use lib.ListN.{length, take, drop, length-take, length-drop}
use Rattle.bus.specs.declared.Cursor.{Cursor}
use Rattle.chip.specs.OnChip.{Wired}
use Rattle.runs.specs.Calls.{Call, added, Alike}

pub none_added : {A : Type 0} {w w' : Wired} {call other : Call A} → call.at' ≡ call.at → Alike w w' call other
    → length (added other) ≡ 0
none_added {call = call} same a =
    let n = call.at.log in
    let none = ap (λ (at : Cursor). length (drop n (take at.log call.log'))) same in
    omega (arith, none, length-drop n (take n call.log'), length-take n call.log', ap length a.log)
