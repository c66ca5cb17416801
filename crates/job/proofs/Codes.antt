-- A delay's code is its place in its list: a delay is found by the code that it has, and has the code that it is found by.
-- Assumes nothing.
use mathlib.Core.Path.{◌≡◌, refl}
use mathlib.Core.Bool.{true}
use Prim.Native.Nat.{ℕ, ◌<◌}
use lib.ListN.{length}
use lib.Dec.{T, ltb, eqb}
use denote.Enum.Declared.{Record}
use Rattle.laws.proofs.Tests.{all_below, same_below}
use Rattle.laws.proofs.Variants.{variants, by_variants}
use Rattle.protection.specs.Delays.{scd_code, ocd_code, uv_code, ov_code, scd_delays, ocd_delays, uv_delays, ov_delays}
use Rattle.protection.specs.contracts.delays.SCDDelay as scd
use Rattle.protection.specs.contracts.delays.OCDDelay as ocd
use Rattle.protection.specs.contracts.delays.UVDelay as uv
use Rattle.protection.specs.contracts.delays.OVDelay as ov
use Rattle.job.specs.Delays.{scd_at, ocd_at, uv_at, ov_at}

-- codes from 0 up to a count, and what each names
pub record Coded {D : Type 0} (code : D → ℕ) (at : ℕ → D) (count : ℕ) : Type 0 where
  pub found : (d : D) → at (code d) ≡ d
  pub listed : (d : D) → ltb (code d) count ≡ true
  pub has : (n : ℕ) → n < count → code (at n) ≡ n

-- each part is one test that antt computes
coded : (enum : Record) (code : enum.D → ℕ) (at : ℕ → enum.D) (count : ℕ)
    → variants enum (λ d. at (code d)) ≡ variants enum (λ d. d)
    → variants enum (λ d. ltb (code d) count) ≡ variants enum (λ d. true)
    → T (all_below count (λ n. eqb (code (at n)) n))
    → Coded code at count
coded enum code at count found listed has = record {
  found = by_variants enum (λ d. at (code d)) (λ d. d) found;
  listed = by_variants enum (λ d. ltb (code d) count) (λ d. true) listed;
  has = same_below count (λ n. code (at n)) (λ n. n) has;
}

pub scd_coded : Coded scd_code scd_at (length scd_delays)
scd_coded = coded scd.enum scd_code scd_at (length scd_delays) refl refl tt

pub ocd_coded : Coded ocd_code ocd_at (length ocd_delays)
ocd_coded = coded ocd.enum ocd_code ocd_at (length ocd_delays) refl refl tt

pub uv_coded : Coded uv_code uv_at (length uv_delays)
uv_coded = coded uv.enum uv_code uv_at (length uv_delays) refl refl tt

pub ov_coded : Coded ov_code ov_at (length ov_delays)
ov_coded = coded ov.enum ov_code ov_at (length ov_delays) refl refl tt
