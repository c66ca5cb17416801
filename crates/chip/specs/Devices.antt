-- What a program does on a device in place of tape and log: a device is a state, and how it answers one transfer and what it then is,
-- events of its own included. Its answers are a tape, and the transfers made on it a log.
-- Assumes nothing.
use Rattle.std.specs.Prelude.{List, [], ◌∷◌, ◌++◌, ℕ}
use Rattle.bus.specs.Transfers.{Transfer, Outcome, log_field, tape_field}
use Rattle.bus.specs.Programs.{Prog, ret, ask}

-- an answer, and the device after it
pub record Reached (S A : Type 0) : Type 0 where
  pub answer : A
  pub device : S

abbrev pub reached : {S A : Type 0} → A → S → Reached S A
reached a s = record { answer = a; device = s }

module _ {S : Type 0} (move : S → Transfer → Reached S Outcome) where
  unfoldable pub on_device : {A : Type 0} → Prog A → S → Reached S A
  on_device (ret a) s = reached a s
  on_device (ask t k) s = on_device (k (move s t).answer) (move s t).device

  -- the transfers that the program makes, in order, and how each goes
  unfoldable pub made_on : {A : Type 0} → Prog A → S → List (Transfer × Outcome)
  made_on (ret a) s = []
  made_on (ask t k) s = (t, (move s t).answer) ∷ made_on (k (move s t).answer) (move s t).device

  -- their fields in the log, and those of the device's answers on the tape
  unfoldable pub log_of : {A : Type 0} → Prog A → S → List ℕ
  log_of (ret a) s = []
  log_of (ask t k) s = log_field t ++ log_of (k (move s t).answer) (move s t).device

  unfoldable pub tape_of : {A : Type 0} → Prog A → S → List ℕ
  tape_of (ret a) s = []
  tape_of (ask t k) s = tape_field (move s t).answer ++ tape_of (k (move s t).answer) (move s t).device
