-- The head that bytes begin with: field 20, the device, then call fields, each lawful, then 3F 0000; the tape follows. Anything else is 15.
-- Assumes nothing.
use Rattle.std.specs.Prelude.{ℕ, zero, suc, ◌+◌, Bool, cond, ◌&&◌, List, [], length, drop, eqb, Result}
use Rattle.std.proofs.Math.Option.{Option, none, some}
use Rattle.fields.specs.Fields.{unfield}
use Rattle.fields.specs.Fields as read
use Rattle.refusals.specs.Refusal.{Answer, value, refused, no, as_answer}
use Rattle.refusals.specs.declared.Error.{Error}
use Rattle.job.specs.Jobs.{device_for}
use Rattle.job.specs.declared.Device.{Device}
use Rattle.calls.specs.Shapes.{lawful}
use Rattle.calls.specs.declared.Field.{Field}
use Rattle.calls.specs.declared.Heading.{Heading}

-- where a field lies that begins at byte `at` of the input
abbrev pub placed : ℕ → read.Field → Field
placed at f = record { tag = f.tag; start = at + 3; len = length f.value }

abbrev pub found_at : ℕ → Option read.Field → Answer Field
found_at at (some f) = value (placed at f)
found_at at none = refused (no 15 [])

-- the field at byte `at`, of the input's bytes from there on
unfoldable pub field_at : ℕ → List ℕ → Answer Field
field_at at bytes = found_at at (unfield bytes)

abbrev pub as_field : Result Field Error → Answer Field
as_field = as_answer (λ field. field)

-- past the calls: where the first field stands that is none; there are no more fields than bytes
abbrev pub past_by : (ℕ → List ℕ → ℕ) → ℕ → Option read.Field → ℕ
past_by next at (some f) = cond (lawful f.tag f.value) (next (at + (3 + length f.value)) f.rest) at
past_by next at none = at

unfoldable pub past_from : ℕ → ℕ → List ℕ → ℕ
past_from zero at bytes = at
past_from (suc fields) at bytes = past_by (past_from fields) at (unfield bytes)

-- 3F 0000
abbrev pub is_end : read.Field → Bool
is_end f = eqb f.tag 0x3F && eqb (length f.value) 0

-- the field that ends the calls, where each field ahead of it is a call; there are no more fields than bytes
abbrev pub end_by : (ℕ → List ℕ → Answer Field) → ℕ → Option read.Field → Answer Field
end_by next at (some f) =
    cond (is_end f)
    (value (placed at f))
    (cond (lawful f.tag f.value) (next (at + (3 + length f.value)) f.rest) (refused (no 15 [])))
end_by next at none = refused (no 15 [])

unfoldable pub end_from : ℕ → ℕ → List ℕ → Answer Field
end_from zero at bytes = refused (no 15 [])
end_from (suc fields) at bytes = end_by (end_from fields) at (unfield bytes)

abbrev pub headed : Answer Device → Answer Field → Answer Heading
headed (value device) (value end) = value (record { device = device; tape_at = end.start })
headed (value device) (refused r) = refused r
headed (refused r) end = refused r

unfoldable pub heading_of : List ℕ → Answer Heading
heading_of bytes = headed (device_for bytes) (end_from (length bytes) 7 (drop 7 bytes))

abbrev pub as_head : Result Heading Error → Answer Heading
as_head = as_answer (λ heading. heading)
