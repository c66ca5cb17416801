-- A command step by step, as a prover rewrites it: the steps of its program, and the test of its record ahead of them.
-- Assumes nothing.
use mathlib.Core.Path.{◌≡◌, refl, sym}
use mathlib.Core.Bool.{Bool, true, false, not}
use Rattle.refusals.specs.Refusal.{Refusal, Answer, refused}
use Rattle.bus.specs.Transfers.{Bus}
use Rattle.bus.specs.Programs.{Prog, ret, on_tape, ◌or_leave◌, ◌>>=◌}
use Rattle.bus.proofs.Programs.{pure_off}
use Rattle.bus.proofs.Steps.{step, on, off, at_end, bytes}
use Rattle.laws.specs.Choice.{when◌then◌else◌}
use Rattle.bq769x0.specs.Record.{is_sound}
use Rattle.bq769x0.specs.Registers.{soundly}
use Rattle.bq769x0.specs.declared.BQ769x0.{BQ769x0}
use Rattle.bq769x0.proofs.Soundly.{sound_on, sound_off}

-- the test of the record stands in a call's first step, or ahead of the whole call
pub tested_first : {A B : Type 0} (d : BQ769x0) (r : Refusal) (p : Prog (Answer A)) (f : A → Prog (Answer B)) (b : Bus)
    → on_tape (soundly d (refused r) ((p or_leave refused) >>= f)) b ≡ on_tape ((soundly d (refused r) p or_leave refused) >>= f) b
unfolding soundly on_tape
tested_first d r p f b = by_test (is_sound d)
  where
    by_test : (sound : Bool)
        → on_tape (when not sound then ret (refused r) else ((p or_leave refused) >>= f)) b
        ≡ on_tape (((when not sound then ret (refused r) else p) or_leave refused) >>= f) b
    by_test true = refl
    by_test false = sym (pure_off refused f b (refused r) r refl)

pub ruleset steps = (step, on, off, at_end, sound_on, sound_off, tested_first, bytes)
