-- `discharge` and `charge` write just where the bit does not stand so already; else tape and log stay as the read
-- left them.
-- Assumes nothing.
use mathlib.Core.Path.{◌≡◌, refl, sym, ◌∙◌}
use mathlib.Core.Bool.{Bool, true, not}
use mathlib.Core.List.{[], ◌∷◌}
use Prim.Native.Nat.{ℕ}
use Rattle.refusals.specs.Refusal.{value, refused, nine}
use Rattle.bus.specs.Transfers.{Bus}
use Rattle.bus.specs.Programs.{on_tape}
use Rattle.bus.specs.Raw.{write_raw}
use Rattle.bq769x0.specs.Record.{is_sound}
use Rattle.bq769x0.specs.Registers.{soundly}
use Rattle.bq769x0.specs.declared.BQ769x0.{BQ769x0}
use Rattle.bq769x0.proofs.Soundly.{sound_on}
use Rattle.bits.specs.Bits.{holds, switched, switching}
use Rattle.bits.proofs.Switching.{stands_so, differs}
use Rattle.commands.specs.Registers.{read_register, writing, changing}
use Rattle.bus.proofs.Programs.{went_on}

-- on a sound record, by a read of 05 that gave a byte; mask 2 is `discharge`, mask 1 is `charge`
module _ (d : BQ769x0) (sound : is_sound d ≡ true) (mask byte : ℕ) (on : Bool) (b b' : Bus)
    (e : record { answer = value byte; bus = b' } ≡ on_tape (read_register d.link 0x05) b) where
  switched_by : on_tape (soundly d (refused nine) (changing d.link 0x05 (switching mask on))) b
      ≡ on_tape (writing d.link 0x05 (switching mask on byte)) b'
  unfolding changing
  switched_by = sound_on _ _ _ b sound ∙ went_on (read_register d.link 0x05) refused _ b _ _ (sym e) _ refl

  pub unwritten : holds mask byte ≡ on
      → on_tape (soundly d (refused nine) (changing d.link 0x05 (switching mask on))) b
      ≡ record { answer = value tt; bus = b' }
  unfolding writing on_tape
  unwritten h = switched_by ∙ rw (stands_so mask byte on h)

  pub written : holds mask byte ≡ not on
      → on_tape (soundly d (refused nine) (changing d.link 0x05 (switching mask on))) b
      ≡ on_tape (write_raw d.link 0x05 (switched mask on byte ∷ [])) b'
  unfolding writing
  written h = switched_by ∙ rw (differs mask byte on h)
