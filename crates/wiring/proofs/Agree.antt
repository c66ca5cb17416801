-- Two outcomes that meet one promise agree: whether a pack is allowed, the inputs listed with all fifteen numbers, and the cell on an input.
-- Assumes nothing.
use mathlib.Core.Path.{◌≡◌, refl}
use mathlib.Core.List.{List}
use Prim.Native.Nat.{ℕ}
use Rattle.std.specs.Prelude.{Result}
use Rattle.refusals.specs.declared.Error.{Error}
use Rattle.refusals.proofs.OneToOne.{answer_agree}
use Rattle.wiring.specs.Questions.{as_allowed, as_cell_answer, as_inputs}

-- `allowed`
pub allowed_agree : (a b : Result (Unit {0}) Error) → as_allowed a ≡ as_allowed b → a ≡ b
allowed_agree = answer_agree (λ _. tt) (λ _. tt) (λ _. refl)

-- `cell_on`
pub cell_agree : (a b : Result ℕ Error) → as_cell_answer a ≡ as_cell_answer b → a ≡ b
cell_agree = answer_agree (λ cell. cell) (λ cell. cell) (λ _. refl)

-- `inputs`
pub inputs_agree : (r r' : Result (List ℕ) Error) → as_inputs r ≡ as_inputs r' → r ≡ r'
inputs_agree = answer_agree (λ inputs. inputs) (λ inputs. inputs) (λ _. refl)
