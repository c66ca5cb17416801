-- What private contracts cite: what the code leaves in the sixteen places for the inputs, and the read that both calls for the cells make. Nobody
-- has to believe it.
-- Assumes nothing.
use Rattle.std.specs.Prelude.{◌≡◌, true, List, ℕ, ◌≤◌, ◌<◌, ℤ, pos, nat_abs, not, length, take, get_or}
use Rattle.refusals.specs.Refusal.{Answer, refused, refused_if}
use Rattle.sizes.specs.Sizes.{is_count}
use Rattle.adc.specs.declared.transfer.AdcTransferFunction.{AdcTransferFunction}
use Rattle.bus.specs.Programs.{Prog, ret, ◌or_leave◌, ◌>>=◌}
use Rattle.bq769x0.specs.Record.{is_sound}
use Rattle.bq769x0.specs.declared.BQ769x0.{BQ769x0}
use Rattle.procedure.specs.Inputs.{converted, read_inputs}
use Rattle.procedure.specs.Cells.{ready}

-- ---- the places for the inputs
-- the first n of them are such that fifteen add up in an i32
abbrev pub Small : ℕ → List ℤ → Type 0
Small n cells = (k : ℕ) → k < n → nat_abs (get_or cells k (pos 0)) ≤ 27000

-- of 32 bytes the first n inputs
pub record Held (adc : AdcTransferFunction) (bytes : List ℕ) (n : ℕ) (cells : List ℤ) : Type 0 where
  pub from : length bytes ≡ 32
  pub room : length cells ≡ 16
  pub first : take n cells ≡ take n (converted adc bytes)
  pub small : Small n cells

-- ---- a read of all inputs, by a caller with room for so many cells
abbrev pub reads : BQ769x0 → ℕ → Prog (Answer (List ℤ))
reads d room = do
  _ ← ret (refused_if (not (is_sound d)) 9 (ready d room)) or_leave refused
  read_inputs d.link d.adc

-- what is so of device, room and inputs where it was done
pub record Ready (d : BQ769x0) (room : ℕ) (inputs : List ℤ) : Type 0 where
  pub pack : is_count d.link.x d.cell_count ≡ true
  pub fits : d.cell_count ≤ room
  pub small : Small d.link.x inputs
