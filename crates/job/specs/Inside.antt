-- What private contracts cite: what the code tests, by the places of bytes. Nobody has to believe it.
-- Assumes nothing.
use Rattle.std.specs.Prelude.{ℕ, ◌+◌, Bool, ◌&&◌, List, length, eqb, leb, ltb}
use Rattle.numbers.specs.Numbers.{word}
use Rattle.refusals.specs.Refusal.{Answer, value}
use Rattle.protection.specs.Delays.{scd_delays, ocd_delays, uv_delays, ov_delays, delay_for}
use Rattle.protection.specs.declared.delays.SCDDelay.TheVariants as S
use Rattle.protection.specs.declared.delays.OCDDelay.TheVariants as O
use Rattle.protection.specs.declared.delays.UVDelay.TheVariants as U
use Rattle.protection.specs.declared.delays.OVDelay.TheVariants as W
use Rattle.plan.specs.Order.{◌and_then◌}
use Rattle.plan.specs.declared.Config.{Config}
use Rattle.job.specs.Jobs.{byte_at, number_at, signed_at, codes_at}

-- at byte i a field's tag and length
abbrev pub says_field : List ℕ → ℕ → ℕ → ℕ → Bool
says_field bytes i tag len = eqb (byte_at bytes i) tag && eqb (word (byte_at bytes (i + 1)) (byte_at bytes (i + 2))) len

-- field 20 at the head
unfoldable pub says_device : List ℕ → Bool
says_device bytes = leb 7 (length bytes) && says_field bytes 0 0x20 4 && ltb (byte_at bytes 6) 2

-- both fields
unfoldable pub says_job : List ℕ → Bool
says_job bytes = leb 34 (length bytes) && says_device bytes && says_field bytes 7 0x21 24 && codes_at bytes 10

-- the configuration from byte i on, by the delay of each of its codes
unfoldable pub listed_config : List ℕ → ℕ → Answer Config
listed_config bytes i =
    delay_for S._70uS scd_delays (byte_at bytes (i + 20)) and_then λ scd.
    delay_for O._8ms ocd_delays (byte_at bytes (i + 21)) and_then λ ocd.
    delay_for U._1s uv_delays (byte_at bytes (i + 22)) and_then λ uv.
    delay_for W._1s ov_delays (byte_at bytes (i + 23)) and_then λ ov.
    value
    (record {
      shunt = record { 0 = number_at bytes i };
      scd_threshold = record { 0 = number_at bytes (i + 4) };
      ocd_threshold = record { 0 = number_at bytes (i + 8) };
      uv_threshold = record { 0 = signed_at bytes (i + 12) };
      ov_threshold = record { 0 = signed_at bytes (i + 16) };
      scd_delay = scd;
      ocd_delay = ocd;
      uv_delay = uv;
      ov_delay = ov;
    })
