-- Demand 2 of the register commands: what a run's own log and tape show of the register that it is to change, by the register tables.
-- Assumes nothing.
use Rattle.std.specs.Prelude.{ℕ, ◌≡◌, Bool, true, false, List, [], ◌∷◌, map, take}
use Rattle.refusals.specs.Refusal.{Refusal, Answer, value, refused}
use Rattle.bus.specs.Raw.{Done}
use Rattle.bus.specs.Shown.{Made, Access, access, registers_written}
use Rattle.bus.specs.declared.link.Link.{Link}
use Rattle.commands.specs.declared.control.TemperatureSource.{TemperatureSource}
use Rattle.commands.specs.declared.control.TemperatureSource.TheVariants as T
use Rattle.commands.specs.declared.counter.CoulombCounterMode.{CoulombCounterMode}
use Rattle.commands.specs.declared.counter.CoulombCounterMode.TheVariants as M
use Rattle.as_asked.specs.Seen.{read_from}
use Rattle.as_asked.specs.Tables.{Table04, Table05, table00, with_counter, shutting}

-- the one register that a run wrote, and its byte
abbrev pub wrote_byte : Link → ℕ → ℕ → List Access
wrote_byte link reg byte = access link.address reg (byte ∷ []) ∷ []

-- ---- a command that reads its register first and changes a field of it; by a table of the register, and what that is to become
module _ {Table : Type 0} (table : ℕ → Table) (asked : Table → Table) (link : Link) (reg : ℕ) (seen : List Made) where
  pub data Changes : Answer Done → Type 0 where
    -- refused with nothing written
    untouched : (r : Refusal) → registers_written link.check seen ≡ [] → Changes (refused r)
    -- the register, as it was read, is as asked already, and nothing is written
    stands : (was : ℕ) → read_from link seen reg ≡ was ∷ [] → table was ≡ asked (table was) → registers_written link.check seen ≡ []
        → Changes (value tt)
    -- it is written, and no other is: what was read of it, with the field as asked; and then the write is accepted or refused
    changed : (was now : ℕ) → read_from link seen reg ≡ was ∷ [] → table now ≡ asked (table was)
        → registers_written link.check seen ≡ wrote_byte link reg now → (y : Answer Done) → Changes y

-- ---- a command that writes its register whole, once or more: by its table, what it becomes, in order
module _ {Table : Type 0} (table : ℕ → Table) (asked : List Table) (link : Link) (reg : ℕ) (seen : List Made) where
  pub record Becomes (y : Answer Done) : Type 0 where
    pub bytes : List ℕ
    pub tables : map table bytes ≡ asked
    -- the first of these bytes, in order, and all where it is accepted, and nothing else
    pub count : ℕ
    pub written : registers_written link.check seen ≡ map (λ (byte : ℕ). access link.address reg (byte ∷ [])) (take count bytes)
    pub all : y ≡ value tt → take count bytes ≡ bytes

-- status: each flag given is written as 1, which clears it; nothing is written where the reserved bit is among them
pub record Resets (flags : ℕ) (link : Link) (seen : List Made) (y : Answer Done) : Type 0 where
  pub becomes : Becomes table00 (table00 flags ∷ []) link 0x00 seen y
  pub reserved : (table00 flags).reserved ≡ 1 → registers_written link.check seen ≡ []

-- ship mode: SHUT_A and SHUT_B are 0 0, then 0 1, then 1 0, and every other field is 0
abbrev pub shut_down : List Table04
shut_down = shutting 0 0 ∷ shutting 0 1 ∷ shutting 1 0 ∷ []

-- ---- what is asked, as a field's value
abbrev pub flag : Bool → ℕ
flag true = 1
flag false = 0

abbrev pub source_field : TemperatureSource → ℕ
source_field T.InternalDie = 0
source_field T.ExternalThermistor = 1

-- CC_EN runs the counter always, CC_ONESHOT once
abbrev pub counter_fields : CoulombCounterMode → Table05 → Table05
counter_fields M.Disabled = with_counter 0 0
counter_fields M.OneShot = with_counter 0 1
counter_fields M.Continuous = with_counter 1 0
