-- A sound record's device has at most three registers of a set. Where they are read into three zeros, those that it has not stay zeros.
-- Assumes nothing.
use mathlib.Core.Path.{◌≡◌}
use mathlib.Core.Bool.{true}
use mathlib.Core.List.{List, [], ◌∷◌, ◌++◌}
use Prim.Native.Nat.{ℕ, ◌/◌, ◌≤◌}
use native.Mathlib.Omega.{arith}
use lib.ListN.{take, drop, replicate}
use lib.Seq.{length-take-le}
use Rattle.cellbal.specs.Registers.{set_of}
use Rattle.cellbal.proofs.RoundTrip.{zeros_behind}
use Rattle.bus.proofs.Raws.{zeros}
use Rattle.bq769x0.specs.Record.{is_sound}
use Rattle.bq769x0.specs.declared.BQ769x0.{BQ769x0}
use Rattle.bq769x0.proofs.Sizes.{sound_sizes}
use Rattle.commands.proofs.Steps.{steps}

pub at_most_three : (d : BQ769x0) → is_sound d ≡ true → d.link.x / 5 ≤ 3
at_most_three d sound = omega (arith, sound_sizes d sound)

pub zeros_of_three : (n : ℕ) → n ≤ 3 → take {A = ℕ} n (0 ∷ 0 ∷ 0 ∷ []) ≡ replicate n 0
zeros_of_three n few = zeros n 3 few

pub zeros_stay : (n : ℕ) (bytes : List ℕ) → set_of (bytes ++ drop n (0 ∷ 0 ∷ 0 ∷ [])) ≡ set_of bytes
zeros_stay n bytes = zeros_behind n 3 bytes

pub ruleset few = (steps, at_most_three, zeros_of_three, zeros_stay, length-take-le)
