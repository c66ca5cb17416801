-- The delays: each one's code, the code's place in its register, the times that the datasheet gives the codes, and those that the names say; and the
-- delay of a code.
-- Assumes nothing.
use Rattle.std.specs.Prelude.{ℕ, ◌*◌, ◌≡◌, List, [], ◌∷◌, length, get_or, leb, Result}
use Rattle.refusals.specs.Refusal.{Answer, value, refused_if, as_answer}
use Rattle.refusals.specs.declared.Error.{Error}
use Rattle.protection.specs.declared.delays.SCDDelay.{SCDDelay}
use Rattle.protection.specs.declared.delays.SCDDelay.TheVariants as S
use Rattle.protection.specs.declared.delays.OCDDelay.{OCDDelay}
use Rattle.protection.specs.declared.delays.OCDDelay.TheVariants as O
use Rattle.protection.specs.declared.delays.UVDelay.{UVDelay}
use Rattle.protection.specs.declared.delays.UVDelay.TheVariants as U
use Rattle.protection.specs.declared.delays.OVDelay.{OVDelay}
use Rattle.protection.specs.declared.delays.OVDelay.TheVariants as W

abbrev pub scd_code : SCDDelay → ℕ
scd_code S._70uS = 0
scd_code S._100uS = 1
scd_code S._200uS = 2
scd_code S._400uS = 3

-- bits 4-3 of PROTECT1
abbrev pub scd_bits : SCDDelay → ℕ
scd_bits d = scd_code d * 8

-- the datasheet's µs for the codes from 0
abbrev pub scd_times : List ℕ
scd_times = 70 ∷ 100 ∷ 200 ∷ 400 ∷ []

-- the µs in the names
abbrev pub scd_named : SCDDelay → ℕ
scd_named S._70uS = 70
scd_named S._100uS = 100
scd_named S._200uS = 200
scd_named S._400uS = 400

abbrev pub ocd_code : OCDDelay → ℕ
ocd_code O._8ms = 0
ocd_code O._20ms = 1
ocd_code O._40ms = 2
ocd_code O._80ms = 3
ocd_code O._160ms = 4
ocd_code O._320ms = 5
ocd_code O._640ms = 6
ocd_code O._1280ms = 7

-- bits 6-4 of PROTECT2
abbrev pub ocd_bits : OCDDelay → ℕ
ocd_bits d = ocd_code d * 16

-- the datasheet's ms for the codes from 0
abbrev pub ocd_times : List ℕ
ocd_times = 8 ∷ 20 ∷ 40 ∷ 80 ∷ 160 ∷ 320 ∷ 640 ∷ 1280 ∷ []

-- the ms in the names
abbrev pub ocd_named : OCDDelay → ℕ
ocd_named O._8ms = 8
ocd_named O._20ms = 20
ocd_named O._40ms = 40
ocd_named O._80ms = 80
ocd_named O._160ms = 160
ocd_named O._320ms = 320
ocd_named O._640ms = 640
ocd_named O._1280ms = 1280

abbrev pub uv_code : UVDelay → ℕ
uv_code U._1s = 0
uv_code U._4s = 1
uv_code U._8s = 2
uv_code U._16s = 3

-- bits 7-6 of PROTECT3
abbrev pub uv_bits : UVDelay → ℕ
uv_bits d = uv_code d * 64

-- the datasheet's s for the codes from 0
abbrev pub uv_times : List ℕ
uv_times = 1 ∷ 4 ∷ 8 ∷ 16 ∷ []

-- the s that a delay stands for
abbrev pub uv_seconds : UVDelay → ℕ
uv_seconds d = get_or uv_times (uv_code d) 0

-- the s in the names
abbrev pub uv_named : UVDelay → ℕ
uv_named U._1s = 1
uv_named U._4s = 4
uv_named U._8s = 8
uv_named U._16s = 16

abbrev pub ov_code : OVDelay → ℕ
ov_code W._1s = 0
ov_code W._2s = 1
ov_code W._4s = 2
ov_code W._8s = 3

-- bits 5-4 of PROTECT3
abbrev pub ov_bits : OVDelay → ℕ
ov_bits d = ov_code d * 16

-- the datasheet's s for the codes from 0
abbrev pub ov_times : List ℕ
ov_times = 1 ∷ 2 ∷ 4 ∷ 8 ∷ []

-- the s that a delay stands for
abbrev pub ov_seconds : OVDelay → ℕ
ov_seconds d = get_or ov_times (ov_code d) 0

-- the s in the names
abbrev pub ov_named : OVDelay → ℕ
ov_named W._1s = 1
ov_named W._2s = 2
ov_named W._4s = 4
ov_named W._8s = 8

-- ---- the delays of each kind, by their codes from 0
abbrev pub scd_delays : List SCDDelay
scd_delays = S._70uS ∷ S._100uS ∷ S._200uS ∷ S._400uS ∷ []

abbrev pub ocd_delays : List OCDDelay
ocd_delays = O._8ms ∷ O._20ms ∷ O._40ms ∷ O._80ms ∷ O._160ms ∷ O._320ms ∷ O._640ms ∷ O._1280ms ∷ []

abbrev pub uv_delays : List UVDelay
uv_delays = U._1s ∷ U._4s ∷ U._8s ∷ U._16s ∷ []

abbrev pub ov_delays : List OVDelay
ov_delays = W._1s ∷ W._2s ∷ W._4s ∷ W._8s ∷ []

-- the delay of a code, or 15 for a code past the list, whose first is `first`
abbrev pub delay_for : {D : Type 0} → D → List D → ℕ → Answer D
delay_for first delays code = refused_if (leb (length delays) code) 15 (value (get_or delays code first))

-- as the code answers
abbrev pub as_delay : {D : Type 0} → Result D Error → Answer D
as_delay = as_answer (λ delay. delay)

abbrev pub scd_for : ℕ → Result SCDDelay Error → Type 0
scd_for code delay = as_delay delay ≡ delay_for S._70uS scd_delays code

abbrev pub ocd_for : ℕ → Result OCDDelay Error → Type 0
ocd_for code delay = as_delay delay ≡ delay_for O._8ms ocd_delays code

abbrev pub uv_for : ℕ → Result UVDelay Error → Type 0
uv_for code delay = as_delay delay ≡ delay_for U._1s uv_delays code

abbrev pub ov_for : ℕ → Result OVDelay Error → Type 0
ov_for code delay = as_delay delay ≡ delay_for W._1s ov_delays code
