-- A call by the record's mark: 4 where it is not initialised, else the rest. And the counter's reading, whose sign is read back as it was.
-- Assumes nothing.
use mathlib.Core.Path.{◌≡◌}
use mathlib.Core.Bool.{true, false}
use mathlib.Core.List.{[]}
use Rattle.numbers.proofs.Signed.{read_back}
use Rattle.refusals.specs.Refusal.{Answer, no, refused}
use Rattle.bus.specs.Transfers.{Bus}
use Rattle.bus.specs.Programs.{Prog, ret, ends, on_tape, ◌or_leave◌, ◌>>=◌}
use Rattle.bus.specs.Raw.{Done}
use Rattle.bus.proofs.Programs.{pure_on, pure_off}
use Rattle.bq769x0.specs.declared.BQ769x0.{BQ769x0}
use Rattle.commands.proofs.Steps.{steps}
use Rattle.measuring.specs.Pack.{initialised}

module _ {A : Type 0} (d : BQ769x0) (rest : Done → Prog (Answer A)) (b : Bus) where
  pub marked : d.init_complete ≡ true → on_tape ((ret (initialised d) or_leave refused) >>= rest) b ≡ on_tape (rest tt) b
  marked mark = pure_on refused rest b (initialised d) tt (rw mark)

  pub unmarked : d.init_complete ≡ false → on_tape ((ret (initialised d) or_leave refused) >>= rest) b ≡ ends (refused (no 4 [])) b
  unmarked mark = pure_off refused rest b (initialised d) (no 4 []) (rw mark)

pub ruleset initialised_or_not = (steps, marked, unmarked, read_back)
