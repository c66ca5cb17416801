-- A pack: a device, named by its count of inputs, and a count of cells.
-- Assumes nothing.
use Rattle.std.specs.Prelude.{ℕ, not}
use Rattle.refusals.specs.Refusal.{Answer, refused_if}
use Rattle.sizes.specs.Sizes.{is_size, is_count}

-- 9, 10, and else what is asked of the pack
abbrev pub of_pack : {A : Type 0} → ℕ → ℕ → Answer A → Answer A
of_pack x n answer = refused_if (not (is_size x)) 9 (refused_if (not (is_count x n)) 10 answer)
