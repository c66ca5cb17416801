-- What it is that a rule is broken: an input on that the device has not, two beside each other in one block of five, more than the limit; and
-- that an answer says so exactly where it is.
-- Assumes nothing.
use Rattle.std.specs.Prelude.{ℕ, ◌+◌, ◌-◌, ◌/◌, ◌≤◌, ◌<◌, true, [], ◌↔◌, ◌≡◌}
use Rattle.std.specs.Int.Count.{ones}
use Rattle.refusals.specs.Refusal.{Answer, refused, no}
use Rattle.cellbal.specs.Sets.{is_on}

pub record OffDevice (x set : ℕ) : Type 0 where
  pub input : ℕ
  pub over : x < input
  pub on : is_on set input ≡ true

pub record Beside (set : ℕ) : Type 0 where
  pub input : ℕ
  pub least : 1 ≤ input
  pub one_block : (input - 1) / 5 ≡ input / 5
  pub on : is_on set input ≡ true
  pub next_on : is_on set (input + 1) ≡ true

-- Each number is given exactly where its rule is broken and those ahead of it are kept.
pub record Exactly (x set limit : ℕ) (y : Answer (Unit {0})) : Type 0 where
  pub off : (y ≡ refused (no 22 [])) ↔ OffDevice x set
  pub beside : (y ≡ refused (no 23 [])) ↔ ((OffDevice x set → ⊥) × Beside set)
  pub many : (y ≡ refused (no 24 [])) ↔ ((OffDevice x set → ⊥) × (Beside set → ⊥) × (limit < ones set))
