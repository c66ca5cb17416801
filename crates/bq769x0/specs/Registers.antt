-- The chip's registers by a record, as programs: 9 first where it is not sound.
-- Assumes nothing.
use Rattle.std.specs.Prelude.{ℕ, not, List}
use Rattle.refusals.specs.Refusal.{Answer}
use Rattle.laws.specs.Choice.{when◌then◌else◌}
use Rattle.bus.specs.Programs.{Prog, ret}
use Rattle.bus.specs.Raw.{Done, Read, gives, refuses}
use Rattle.bus.specs.Raw as link
use Rattle.bq769x0.specs.Record.{is_sound}
use Rattle.bq769x0.specs.declared.BQ769x0.{BQ769x0}

-- a call on a record: 9 where it is not sound
unfoldable pub soundly : {A : Type 0} → BQ769x0 → A → Prog A → Prog A
soundly d nine p = when not (is_sound d) then ret nine else p

unfoldable pub read_raw : BQ769x0 → ℕ → List ℕ → Prog Read
read_raw d reg buf = soundly d (gives (refuses 9) buf) (link.read_raw d.link reg buf)

unfoldable pub write_raw : BQ769x0 → ℕ → List ℕ → Prog (Answer Done)
write_raw d reg bytes = soundly d (refuses 9) (link.write_raw d.link reg bytes)
