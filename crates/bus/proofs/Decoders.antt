-- The decoders undo the encoders: a transfer's field in the log, an outcome's field on the tape, and a whole log.
-- A length is two bytes, so each holds below 65536.
-- Assumes nothing.
use mathlib.Core.Path.{◌≡◌, refl, ap, ◌∙◌}
use mathlib.Core.List.{List, [], ◌∷◌, ◌++◌, map}
use mathlib.Core.Option
use mathlib.Core.Option.{none, some, bind, none-ne-some}
use Prim.Native.Nat.{ℕ, suc, zero, ◌/◌, ◌%◌, ◌≤◌, ◌<◌}
use native.Mathlib.Omega.{arith}
use lib.ListN.{length, length-append}
use borrow.Author.Tests.{le-leb, eq-eqb}
use Rattle.fields.specs.Fields.{field, Field, unfield}
use Rattle.fields.proofs.Fields.{two_bytes, field_of, unfield_field}
use Rattle.bus.specs.Decoders.{unlog, transfers_in, Fitting}
use Rattle.bus.specs.Transfers.{Transfer, write, read, Outcome, done, fault, stopped}
use Rattle.bus.specs.Transfers.{log_field, tape_field, untape, says}
use Rattle.bus.specs.Shown.{Made, logged}

-- ---- a transfer in the log

-- what its field can hold: so many bytes sent, or such a count
abbrev pub Short : Transfer → Type 0
Short (write address bytes) = length (address ∷ bytes) < 65536
Short (read address reg count) = count < 65536

pub unlog_log : (t : Transfer) (rest : List ℕ) → Short t
    → (f : Field) × (unfield (log_field t ++ rest) ≡ some f) × (f.rest ≡ rest) × (unlog f ≡ some t)
unfolding log_field unlog
unlog_log (write address bytes) rest h = (
  _,
  unfield_field 0x11 (address ∷ bytes) rest h,
  refl,
  rw (le-leb 1 (suc (length bytes)) (omega arith)),
)
unlog_log (read address reg count) rest h = (
  _,
  unfield_field 0x12 (address ∷ reg ∷ count / 256 % 256 ∷ count % 256 ∷ []) rest (omega arith),
  refl,
  rw (two_bytes count h),
)

-- ---- an outcome on the tape
says_field_lem : (n tag : ℕ) (value rest : List ℕ) → length value < 65536
    → says n (field tag value ++ rest) ≡ untape n (some (field_of tag value rest))
unfolding says field
says_field_lem n tag value rest h = ap (untape n) (unfield_field tag value rest h)

pub says_tape : (n : ℕ) (o : Outcome) (rest : List ℕ) → Fitting n o → says n (tape_field o ++ rest) ≡ o
unfolding tape_field untape
says_tape n (done bytes) rest f = says_field_lem n _ bytes rest f.1 ∙ rw (eq-eqb _ _ f.0)
says_tape n (fault bytes) rest f = says_field_lem n _ bytes rest f.1 ∙ rw (le-leb _ _ f.0)
says_tape n (stopped r) rest f = absurd f

-- ---- a whole log

abbrev pub AllShort : List Made → Type 0
AllShort [] = Unit
AllShort (m ∷ h) = Short m.0 × AllShort h

first_in : (n : ℕ) (bytes : List ℕ) (f : Field) (t : Transfer) → unfield bytes ≡ some f → unlog f ≡ some t
    → transfers_in (suc n) bytes ≡ Option.map (λ (ts : List Transfer). t ∷ ts) (transfers_in n f.rest)
unfolding transfers_in bind unfield
first_in n [] f t e q = absurd (none-ne-some _ e)
first_in n (x ∷ bytes) f t e q = rw (e, q)

-- no field is empty
fewer : (t : Transfer) (o : Outcome) (h : List Made) → length (logged h) < length (logged ((t, o) ∷ h))
unfolding logged log_field field
fewer (write address bytes) o h = simp length-append (omega arith)
fewer (read address reg count) o h = omega arith

-- as many steps as bytes suffice
pub transfers_logged : (h : List Made) (n : ℕ) → AllShort h → length (logged h) ≤ n
    → transfers_in n (logged h) ≡ some (map (λ m. m.0) h)
unfolding transfers_in logged
transfers_logged [] zero s k = refl
transfers_logged [] (suc n) s k = refl
transfers_logged (m ∷ h) zero s k = absurd (omega (arith, fewer m.0 m.1 h))
transfers_logged (m ∷ h) (suc n) s k =
    let u = unlog_log m.0 (logged h) s.0 in
    first_in n _ u.0 m.0 u.1 u.3
    ∙ rw (u.2, transfers_logged h n s.1 (omega (arith, fewer m.0 m.1 h)))
