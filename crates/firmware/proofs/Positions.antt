-- The two positions and the five numbers, read back from their bytes of out.
-- Assumes nothing.
use mathlib.Core.Path.{◌≡◌, ap₂, ◌∙◌}
use Prim.Native.Nat.{ℕ, ◌/◌, ◌%◌}
use Rattle.numbers.specs.Numbers.{word8, four, eight}
use Rattle.numbers.proofs.Bytes.{word4_four, word8_eight}
use Rattle.job.specs.Jobs.{number_at}
use Rattle.plan.specs.declared.answer.InitNumbers.{InitNumbers}
use Rattle.layout.specs.Layout.{laid}
use Rattle.bus.specs.declared.Cursor.{Cursor}
use Rattle.firmware.specs.Handed.{tape_used, log_used, numbers_in}

whole : (n : ℕ) → word8 (number_at (eight n) 0) (number_at (eight n) 4) ≡ n
unfolding eight four
whole n = ap₂ word8 (word4_four (n / 4294967296)) (word4_four (n % 4294967296)) ∙ word8_eight n

module _ (at : Cursor) (numbers : InitNumbers) where
  pub tape_position : tape_used (laid at numbers) ≡ at.tape
  unfolding laid eight four
  tape_position = whole at.tape

  pub log_position : log_used (laid at numbers) ≡ at.log
  unfolding laid eight four
  log_position = whole at.log

  pub numbers_back : numbers_in (laid at numbers) ≡ numbers
  unfolding laid eight four
  numbers_back =
      let back : (n : ℕ) → number_at (four n) 0 ≡ n = word4_four in
      λ i. record {
        0 = back numbers.0 i;
        1 = back numbers.1 i;
        2 = back numbers.2 i;
        3 = back numbers.3 i;
        4 = back numbers.4 i;
      }
