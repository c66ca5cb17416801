-- The call fields: for each tag what its value is. Any other tag is no call's.
-- Assumes nothing.
use Rattle.std.specs.Prelude.{ℕ, Bool, false, cond, ◌&&◌, List, [], ◌∷◌, length, eqb, leb, ltb, Option, Some, None}
use Rattle.numbers.specs.Numbers.{word}
use Rattle.job.specs.Jobs.{byte_at, is_config}
use Rattle.calls.specs.declared.Shape.{Shape}
use Rattle.calls.specs.declared.Shape.TheVariants as S

abbrev pub shapes : List (ℕ × Shape)
shapes =
    (0x21, S.Config)  -- init
    ∷ (0x22, S.Bytes 1)  -- cells
    ∷ (0x23, S.Empty)  -- current
    ∷ (0x24, S.Empty)  -- voltage
    ∷ (0x25, S.Empty)  -- temperature
    ∷ (0x26, S.Bytes 1)  -- enable_balancing
    ∷ (0x27, S.Empty)  -- balancing_state
    ∷ (0x28, S.Empty)  -- sys_stat
    ∷ (0x29, S.Bytes 1)  -- sys_stat_reset
    ∷ (0x2A, S.Below 2)  -- discharge
    ∷ (0x2B, S.Below 2)  -- charge
    ∷ (0x2C, S.Empty)  -- is_charge_enabled
    ∷ (0x2D, S.Empty)  -- ship_enter
    ∷ (0x2E, S.Below 2)  -- enable_adc
    ∷ (0x2F, S.Below 2)  -- set_temperature_source
    ∷ (0x30, S.Empty)  -- temperature_source
    ∷ (0x31, S.Below 3)  -- coulomb_counter_mode
    ∷ (0x32, S.Read)  -- read_raw
    ∷ (0x33, S.Write)  -- write_raw
    ∷ (0x34, S.Bytes 2)  -- wired
    ∷ (0x35, S.Bytes 3)  -- cell_on
    ∷ (0x36, S.Bytes 3)  -- balance_set
    ∷ (0x37, S.Empty)  -- balance_get
    ∷ (0x38, S.Empty)  -- spread
    ∷ []

abbrev pub shape_in : List (ℕ × Shape) → ℕ → Option Shape
shape_in [] tag = None
shape_in (row ∷ rows) tag = cond (eqb tag row.0) (Some row.1) (shape_in rows tag)

unfoldable pub shape_of : ℕ → Option Shape
shape_of tag = shape_in shapes tag

-- one byte below a bound
unfoldable pub below : ℕ → List ℕ → Bool
below bound bytes = eqb (length bytes) 1 && ltb (byte_at bytes 0) bound

-- a register and a two-byte count, at most 512
unfoldable pub reads : List ℕ → Bool
reads bytes = eqb (length bytes) 3 && leb (word (byte_at bytes 1) (byte_at bytes 2)) 512

-- a register and at most 64 bytes
unfoldable pub writes : List ℕ → Bool
writes bytes = leb 1 (length bytes) && leb (length bytes) 65

abbrev pub fits : Shape → List ℕ → Bool
fits S.Empty bytes = eqb (length bytes) 0
fits (S.Bytes n) bytes = eqb (length bytes) n
fits (S.Below bound) bytes = below bound bytes
fits S.Config bytes = is_config bytes
fits S.Read bytes = reads bytes
fits S.Write bytes = writes bytes

-- by what a tag's value is; no value is right for a tag that no call has
abbrev pub fits_any : Option Shape → List ℕ → Bool
fits_any None bytes = false
fits_any (Some shape) bytes = fits shape bytes

unfoldable pub lawful : ℕ → List ℕ → Bool
lawful tag bytes = fits_any (shape_of tag) bytes
