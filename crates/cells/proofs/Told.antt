-- What both calls for the cells do, by the read that they make: they tell what it gave, and leave all as it was where it is refused.
-- Assumes nothing.
use mathlib.Core.Path.{◌≡◌, refl, sym, ap, ◌∙◌}
use mathlib.Core.Bool.{Bool, true, false, not}
use mathlib.Core.List.{List}
use Prim.Native.Nat.{ℕ}
use lib.IntN.{ℤ}
use Rattle.refusals.specs.Refusal.{Refusal, Answer, value, refused, refused_if, nine}
use Rattle.bus.specs.Transfers.{Bus}
use Rattle.bus.specs.Programs.{Prog, ret, Ran, ends, on_tape, proceed, ◌or_leave◌, ◌>>=◌}
use Rattle.bus.specs.Raw.{Done}
use Rattle.bus.proofs.Programs.{pure_on, pure_off}
use Rattle.bus.proofs.Steps.{step}
use Rattle.bq769x0.specs.Record.{is_sound}
use Rattle.bq769x0.specs.declared.BQ769x0.{BQ769x0}
use Rattle.bq769x0.proofs.Soundly.{sound_on, sound_off}
use Rattle.procedure.specs.Inputs.{read_inputs}
use Rattle.procedure.specs.Cells.{ready}
use Rattle.procedure.proofs.Reading.{reading, call}
use Rattle.cells.specs.Inside.{reads}

module _ {A : Type 0} (d : BQ769x0) (room : ℕ) (leave : Refusal → A) (give : List ℤ → A) (b : Bus) where
  abbrev tell : Answer (List ℤ) → A
  tell (value inputs) = give inputs
  tell (refused r) = leave r

  abbrev told : Ran (Answer (List ℤ)) → Ran A
  told r = ends (tell r.answer) r.bus

  by_answer : (y : Answer (List ℤ)) (b' : Bus) → on_tape (proceed leave (λ inputs. ret (give inputs)) y) b' ≡ ends (tell y) b'
  unfolding proceed on_tape
  by_answer (value inputs) b' = refl
  by_answer (refused r) b' = refl

  by_reading : on_tape (reading d room leave give b) b ≡ told (on_tape (read_inputs d.link d.adc) b)
  by_reading =
      let read = on_tape (read_inputs d.link d.adc) b in
      step (read_inputs d.link d.adc) leave _ b ∙ by_answer read.answer read.bus

  abbrev tested : Answer Done → Prog (Answer (List ℤ))
  tested y = (ret y or_leave refused) >>= λ _. read_inputs d.link d.adc

  by_ready : (y : Answer Done) → on_tape ((ret y or_leave leave) >>= λ _. reading d room leave give b) b ≡ told (on_tape (tested y) b)
  by_ready (value done) =
      pure_on leave _ b (value done) done refl ∙ by_reading ∙ ap told (sym (pure_on refused _ b (value done) done refl))
  by_ready (refused r) = pure_off leave _ b (refused r) r refl ∙ ap told (sym (pure_off refused _ b (refused r) r refl))

  by_sound : (sound : Bool) → is_sound d ≡ sound
      → on_tape (call d room leave give b) b ≡ told (on_tape (tested (refused_if (not sound) 9 (ready d room))) b)
  by_sound true e = sound_on d (leave nine) _ b e ∙ by_ready (ready d room)
  by_sound false e = sound_off d (leave nine) _ b e ∙ ap told (sym (pure_off refused _ b (refused nine) nine refl))

  pub tells : (y : Answer (List ℤ)) (b' : Bus) → ends y b' ≡ on_tape (reads d room) b → ends (tell y) b' ≡ on_tape (call d room leave give b) b
  tells y b' e = ap told e ∙ sym (by_sound (is_sound d) refl)
