-- What a configuration's bytes have been tested for.
-- Assumes nothing.
use mathlib.Core.Path.{◌≡◌}
use mathlib.Core.Bool.{true, and-eq-true_iff}
use mathlib.Core.List.{List}
use Prim.Native.Nat.{ℕ, ◌+◌, ◌<◌}
use lib.ListN.{length}
use borrow.Author.Tests.{ltb-true}
use Rattle.protection.specs.Delays.{scd_delays, ocd_delays, uv_delays, ov_delays}
use Rattle.job.specs.Jobs.{byte_at, codes_at}

-- each code of a configuration from byte i on in its list
abbrev pub ListedAt : List ℕ → ℕ → Type 0
ListedAt bytes i =
    (byte_at bytes (i + 20) < length scd_delays)
    × (byte_at bytes (i + 21) < length ocd_delays)
    × (byte_at bytes (i + 22) < length uv_delays)
    × (byte_at bytes (i + 23) < length ov_delays)

pub listed : (bytes : List ℕ) (i : ℕ) → codes_at bytes i ≡ true → ListedAt bytes i
unfolding codes_at
listed bytes i e =
    let ov = (and-eq-true_iff _ _).0 e in
    let uv = (and-eq-true_iff _ _).0 ov.0 in
    let ocd = (and-eq-true_iff _ _).0 uv.0 in
    (ltb-true _ _ ocd.0, ltb-true _ _ ocd.1, ltb-true _ _ uv.1, ltb-true _ _ ov.1)
