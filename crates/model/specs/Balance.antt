-- Balancing on the model chip: what calls of `balance_set` leave where the bus fails them, and that it can be done again; and what
-- `balance_get` reads there.
-- Assumes nothing.
use Rattle.std.specs.Prelude.{◌≡◌, Bool, true, false, ◌&&◌, List, [], ℕ, ◌+◌, ◌-◌, ◌/◌, ◌%◌, ◌≤◌, length, take, get_or}
use Rattle.std.proofs.Math.Option.{Option, none}
use Rattle.refusals.specs.Refusal.{Answer, value}
use Rattle.units.specs.Flags.{bit}
use Rattle.check_byte.specs.CheckByte.{Bytes}
use Rattle.cellbal.specs.Rules.{allowed}
use Rattle.cellbal.specs.Registers.{register_count, registers_for, set_of}
use Rattle.frames.specs.Put.{put}
use Rattle.laws.specs.Choice.{when◌then◌else◌}
use Rattle.bus.specs.Raw.{Done}
use Rattle.bq769x0.specs.Record.{accepts, is_sound}
use Rattle.bq769x0.specs.declared.BQ769x0.{BQ769x0}
use Rattle.commands.specs.Commands.{balance_set, balance_get}
use Rattle.chip.specs.Chip.{with_regs, new_bytes, held}
use Rattle.chip.specs.OnChip.{Matches, Wired, uncut}
use Rattle.chip.specs.declared.Chip.{Chip}
use Rattle.runs.specs.Calls as runs
use Rattle.runs.specs.Calls.{Call, OnEveryChip, Calls, one_more, most_of, on, left_by, ByItsLog, Alike}

-- ---- the inputs that a chip has on: an input's bit is in the register of its block of five, from 01 on
abbrev pub input_on : Chip → ℕ → Bool
input_on c input = bit ((input - 1) % 5) (get_or c.regs (0x01 + (input - 1) / 5) 0)

-- those of a device of x inputs, as a set
abbrev pub set_on : ℕ → Chip → ℕ
set_on x c = set_of (held 0x01 (register_count x) c.regs)

-- ---- `balance_set`

-- enough log
abbrev pub enough : ℕ
enough = 15

module _ (d : BQ769x0) (set limit : ℕ) where
  -- the bytes that are new; none where the call is refused ahead of its write
  abbrev pub new_registers : List ℕ
  new_registers = when is_sound d && accepts (allowed d.link.x set limit) then registers_for d.link.x set else []

  -- of them so many come by a wire
  abbrev pub brought : (ℕ → Option ℕ) → ℕ
  brought cuts = new_bytes d.link.check (cuts 0) new_registers

  -- a call on a chip and its wire, and such calls, one after another, each on a wire of its own, cut anywhere
  abbrev pub Run : Wired → Call (Answer Done) → Type 0
  Run w call = runs.Run (balance_set d set limit) enough w call

  abbrev pub Sets : Chip → Chip → Type 0
  Sets c c' = Calls (balance_set d set limit) enough c c'

  -- on sound buses a call ends alike on either of two chips
  abbrev pub EndsAlike : Chip → Chip → Type 0
  EndsAlike c c' = (a b : Call (Answer Done)) → Run (uncut c) a → Run (uncut c') b → Alike (uncut c) (uncut c') a b

-- a chip with the first n of these registers new, from 01 on, and the rest old, and no other register changed
abbrev pub chip_left : List ℕ → Chip → ℕ → Chip
chip_left registers c n = with_regs c (put c.regs 0x01 (take n registers))

pub record FirstNew (registers : List ℕ) (n : ℕ) (c c' : Chip) : Type 0 where
  pub few : n ≤ length registers
  pub chip : c' ≡ chip_left registers c n
  -- an input that is on and was off before is on in these registers
  pub asked : (i : ℕ) → input_on c i ≡ false → input_on c' i ≡ true → bit ((i - 1) % 5) (get_or registers ((i - 1) / 5) 0) ≡ true
  -- two neighbouring inputs of one block that are on were on before
  pub neighbours : (i : ℕ) → 1 ≤ i → (i - 1) / 5 ≡ i / 5 → input_on c' i ≡ true → input_on c' (i + 1) ≡ true
      → (input_on c i ≡ true) × (input_on c (i + 1) ≡ true)
  -- registers that were bytes are bytes
  pub bytes : Bytes c.regs → Bytes c'.regs

-- What calls leave, cut anywhere and any number of them, and what comes of the next one on a sound bus.
pub record Recovers (d : BQ769x0) (set limit : ℕ) {c c' : Chip} (calls : Sets d set limit c c') : Type 0 where
  -- of the new registers there are as many as one of the calls brought at most
  pub left : FirstNew (new_registers d set limit) (most_of (brought d set limit) calls) c c'
  -- with the same set and limit, and with any others that are allowed, it ends as it would have at first
  pub again : EndsAlike d set limit c' c
  pub anew : (set' limit' : ℕ) → allowed d.link.x set' limit' ≡ value tt → EndsAlike d set' limit' c' c

-- One call for a record, on a chip and a wire that is cut anywhere.
pub record Survives (d : BQ769x0) (set limit : ℕ) (call : Call (Answer Done)) (c : Chip) (cuts : ℕ → Option ℕ) : Type 0 where
  pub run : Run d set limit (on c cuts) call
  pub by_log : ByItsLog (balance_set d set limit) (on c cuts) call
  -- done, the chip has the set on
  pub set_on_is : Matches d.link c → call.gave ≡ value tt → set_on d.link.x (left_by (on c cuts) call) ≡ set
  -- whatever calls came before it
  pub recovers : {c₀ : Chip} → Matches d.link c₀ → (calls : Sets d set limit c₀ c)
      → Recovers d set limit (one_more calls cuts call run)

-- Demand 3 of one call, whatever chip answers it, on whatever wire.
abbrev pub Demand3 : BQ769x0 → ℕ → ℕ → Call (Answer Done) → Type 0
Demand3 d set limit call = OnEveryChip (balance_set d set limit) enough call (Survives d set limit call)

-- ---- `balance_get`
pub record ReadsBack (d : BQ769x0) (call : Call (Answer ℕ)) (c : Chip) (cuts : ℕ → Option ℕ) : Type 0 where
  -- the chip is as it was
  pub chip : left_by (on c cuts) call ≡ c
  -- what is answered is the set that it has on; and on a sound bus, for a sound record, it is answered
  pub set : (s : ℕ) → call.gave ≡ value s → s ≡ set_on d.link.x c
  pub whole : is_sound d ≡ true → cuts 0 ≡ none → call.gave ≡ value (set_on d.link.x c)

-- of one call, as above; its log is one field of 7 bytes
abbrev pub ReadsEveryChip : BQ769x0 → Call (Answer ℕ) → Type 0
ReadsEveryChip d call = OnEveryChip (balance_get d) 7 call λ c cuts. Matches d.link c → ReadsBack d call c cuts
