-- The registers that a cut `init` leaves, one by one: of 06 to 0B the first are new and the others old, 05 is old or
-- has bit 6 set, and every other register is old.
-- Assumes nothing.
use mathlib.Core.Path.{◌≡◌, refl, ap, ◌∙◌}
use mathlib.Core.Bool.{Bool, true, false}
use mathlib.Core.List.{List}
use Prim.Native.Nat.{ℕ, ◌+◌, ◌≤◌, ◌<◌}
use native.Mathlib.Omega.{arith}
use lib.Bits.{bit_or}
use lib.ListN.{length, take, get_or}
use lib.Seq.{length-take-le, get_or-take, get_or-set_same, get_or-set_other}
use Rattle.refusals.specs.Refusal.{Answer}
use Rattle.frames.proofs.Put.{get_d_put, length_put}
use Rattle.plan.specs.Steps.{InMv}
use Rattle.plan.specs.declared.Config.{Config}
use Rattle.laws.specs.Choice.{when◌then◌else◌}
use Rattle.bq769x0.specs.declared.BQ769x0.{BQ769x0}
use Rattle.chip.specs.OnChip.{Matches}
use Rattle.chip.specs.declared.Chip.{Chip}
use Rattle.chip.proofs.FirstPart.{old_below, old_above}
use Rattle.recovery.specs.Recovery.{first_new, regs_left, six, Leaves}
use Rattle.recovery.proofs.Left.{six_few}

module _ {choose : Config → Answer InMv} {config : Config} {d : BQ769x0} {c : Chip} (m : Matches d.link c)
    {n : ℕ} {d' : BQ769x0} {c' : Chip} (l : Leaves choose config d c n d' c') where
  abbrev six' : List ℕ
  six' = six choose config c

  -- the new ones, and the registers with these, before 05 is set
  abbrev bytes : List ℕ
  bytes = take n six'

  abbrev part : List ℕ
  part = first_new n six' c.regs

  size : length bytes ≡ n
  size = length-take-le n six' l.few

  room : 6 + length bytes ≤ length c.regs
  room = omega (arith, m.size, six_few choose config c, size, l.few)

  -- apart from 05 it makes no difference whether that is set
  set_or_not : (on : Bool) (i : ℕ) → (i ≡ 5 → ⊥) → get_or (regs_left on n six' c.regs) i 0 ≡ get_or part i 0
  set_or_not true i h = get_or-set_other part 5 i _ 0 h
  set_or_not false i h = refl

  but_05 : (i : ℕ) → (i ≡ 5 → ⊥) → get_or c'.regs i 0 ≡ get_or part i 0
  but_05 i h = ap (λ (x : Chip). get_or x.regs i 0) l.chip ∙ set_or_not l.on i h

  pub new : (i : ℕ) → i < n → get_or c'.regs (0x06 + i) 0 ≡ get_or (six choose config c) i 0
  new i h =
      but_05 (6 + i) (λ e. omega arith)
      ∙ get_d_put c.regs 6 bytes room i 0 (omega (arith, size))
      ∙ get_or-take n six' i 0 h

  pub rest_old : (i : ℕ) → 0x06 + n ≤ i → get_or c'.regs i 0 ≡ get_or c.regs i 0
  rest_old i h = but_05 i (λ e. omega arith) ∙ old_above c.regs 6 bytes room i (omega (arith, size))

  pub below_old : (i : ℕ) → i < 0x05 → get_or c'.regs i 0 ≡ get_or c.regs i 0
  below_old i h = but_05 i (λ e. omega arith) ∙ old_below c.regs 6 bytes room i (omega arith)

  pub reg_05 : get_or c'.regs 0x05 0
      ≡ (when l.on then bit_or (get_or c.regs 0x05 0) 0b0100_0000 else get_or c.regs 0x05 0)
  reg_05 = ap (λ (x : Chip). get_or x.regs 5 0) l.chip ∙ by l.on
    where
      old : get_or part 5 0 ≡ get_or c.regs 5 0
      old = old_below c.regs 6 bytes room 5 (omega arith)

      by : (on : Bool) → get_or (regs_left on n six' c.regs) 5 0
          ≡ (when on then bit_or (get_or c.regs 5 0) 64 else get_or c.regs 5 0)
      by true =
          get_or-set_same part 5 _ 0 (omega (arith, length_put c.regs 6 bytes room, room))
          ∙ ap (λ (x : ℕ). bit_or x 64) old
      by false = old
