-- By what its type says of its elements.
-- Assumes nothing.
use Rattle.std.proofs.Common.{ℕ}
use Rattle.check_byte.proofs.Message.{bytes}
use Rattle.as_asked.proofs.of_bytes.Goals as goal

pub returns : goal.returns
returns c = bytes c.args.tape.now (λ (i : ℕ). (c.type_inv.tape i).fits)
