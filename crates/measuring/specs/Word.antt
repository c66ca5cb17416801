-- Two registers as one number, the high byte first, as a program.
-- Assumes nothing.
use Rattle.std.specs.Prelude.{ℕ, get_or}
use Rattle.numbers.specs.Numbers.{word}
use Rattle.refusals.specs.Refusal.{Answer, value, refused}
use Rattle.bus.specs.Programs.{Prog, ret, ◌or_leave◌, ◌>>=◌}
use Rattle.bus.specs.Raw.{read_bytes}
use Rattle.bus.specs.declared.link.Link.{Link}

unfoldable pub read_word : Link → ℕ → Prog (Answer ℕ)
read_word s reg = do
  bytes ← read_bytes s reg 2 or_leave refused
  ret (value (word (get_or bytes 0 0) (get_or bytes 1 0)))
