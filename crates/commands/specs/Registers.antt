-- One register as programs: its byte read, and the byte that is written in its place.
-- Assumes nothing.
use Rattle.std.specs.Prelude.{ℕ, [], ◌∷◌, get_or}
use Rattle.std.proofs.Math.Option.{Option, none, some}
use Rattle.refusals.specs.Refusal.{Answer, value, refused}
use Rattle.bus.specs.Programs.{Prog, ret, ◌or_leave◌, ◌>>=◌}
use Rattle.bus.specs.Raw.{Done, read_bytes, write_raw}
use Rattle.bus.specs.declared.link.Link.{Link}

unfoldable pub read_register : Link → ℕ → Prog (Answer ℕ)
read_register s reg = do
  bytes ← read_bytes s reg 1 or_leave refused
  ret (value (get_or bytes 0 0))

unfoldable pub read_as : {A : Type 0} → (ℕ → A) → Link → ℕ → Prog (Answer A)
read_as f s reg = do
  byte ← read_register s reg or_leave refused
  ret (value (f byte))

unfoldable pub writing : Link → ℕ → Option ℕ → Prog (Answer Done)
writing s reg none = ret (value tt)
writing s reg (some byte) = write_raw s reg (byte ∷ [])

unfoldable pub changing : Link → ℕ → (ℕ → Option ℕ) → Prog (Answer Done)
changing s reg change = do
  byte ← read_register s reg or_leave refused
  writing s reg (change byte)
