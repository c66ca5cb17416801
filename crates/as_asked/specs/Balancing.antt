-- Demand 2 of balancing a set of inputs: what the calls' own log and tape show, by the rules of the set and by the table of 01 to 03.
-- Assumes nothing.
use Rattle.std.specs.Prelude.{ℕ, ◌+◌, ◌-◌, ◌*◌, ◌/◌, ◌%◌, ◌^◌, ◌≤◌, ◌<◌, ◌≡◌, ◌⊎◌, true, List, [], ◌∷◌, map, length, get_or, take}
use Rattle.refusals.specs.Refusal.{Refusal, Answer, value, refused}
use Rattle.units.specs.Flags.{bit}
use Rattle.cellbal.specs.Sets.{is_on}
use Rattle.cellbal.specs.Broken.{Exactly}
use Rattle.cellbal.specs.Registers.{register_count}
use Rattle.bus.specs.Raw.{Done}
use Rattle.bus.specs.Shown.{Made, Access, access, registers_written}
use Rattle.bq769x0.specs.Record.{is_sound}
use Rattle.bq769x0.specs.declared.BQ769x0.{BQ769x0}
use Rattle.as_asked.specs.Commands.{flag}
use Rattle.as_asked.specs.Seen.{read_from}
use Rattle.as_asked.specs.Tables.{Table01, table01}

-- the register of block k, from 0, for a set: the reserved bits 0, and of its five inputs those on
abbrev pub block_table : ℕ → ℕ → Table01
block_table set k = record {
  reserved = 0;
  cb5 = flag (is_on set (5 * k + 5));
  cb4 = flag (is_on set (5 * k + 4));
  cb3 = flag (is_on set (5 * k + 3));
  cb2 = flag (is_on set (5 * k + 2));
  cb1 = flag (is_on set (5 * k + 1));
}

-- those of a device of x inputs
abbrev pub set_tables : ℕ → ℕ → List Table01
set_tables x set = take (register_count x) (block_table set 0 ∷ block_table set 1 ∷ block_table set 2 ∷ [])

-- bytes written from 01 on, and no other register
abbrev pub wrote_from01 : BQ769x0 → List ℕ → List Access
wrote_from01 d bytes = access d.link.address 0x01 bytes ∷ []

module _ (d : BQ769x0) (seen : List Made) where
  pub record SetAsAsked (set limit : ℕ) (y : Answer Done) : Type 0 where
    -- for a sound record 22, 23 and 24 exactly where the set breaks their rules, and then no transfer is made
    pub exactly : is_sound d ≡ true → Exactly d.link.x set limit y
    pub unsent : (r : Refusal) → y ≡ refused r → 22 ≤ r.number → seen ≡ []
    -- what is written, if anything is: one register for each five inputs of the device, by the table
    pub bytes : List ℕ
    pub tables : map table01 bytes ≡ set_tables d.link.x set
    pub written : (registers_written d.link.check seen ≡ []) ⊎ (registers_written d.link.check seen ≡ wrote_from01 d bytes)
    pub all : y ≡ value tt → registers_written d.link.check seen ≡ wrote_from01 d bytes

  -- accepted, with this set
  pub record AsRead (set : ℕ) : Type 0 where
    pub bytes : List ℕ
    pub read_01 : read_from d.link seen 0x01 ≡ bytes
    pub many : length bytes ≡ register_count d.link.x
    -- each input of the device is on as its bit was read, and no other is
    pub on : (i : ℕ) → 1 ≤ i → i ≤ d.link.x → is_on set i ≡ bit ((i - 1) % 5) (get_or bytes ((i - 1) / 5) 0)
    pub no_more : set < 2 ^ d.link.x

  pub record SetAsRead (y : Answer ℕ) : Type 0 where
    pub accepted : (set : ℕ) → y ≡ value set → AsRead set
    pub unwritten : registers_written d.link.check seen ≡ []
