-- A stage that needs no more than the link, and the stage of a record: the second does what the first does, and names the record that is left.
-- Assumes nothing.
use mathlib.Core.Path.{◌≡◌, refl, sym, ap, ◌∙◌}
use Rattle.refusals.specs.Refusal.{Answer, value, refused}
use Rattle.adc.specs.declared.transfer.AdcTransferFunction.{AdcTransferFunction}
use Rattle.plan.specs.Plan.{Values}
use Rattle.bus.specs.Transfers.{Bus}
use Rattle.bus.specs.Programs.{Prog, ret, Ran, ends, on_tape, proceed, ◌or_leave◌, ◌>>=◌}
use Rattle.bus.specs.Raw.{Done, read_bytes}
use Rattle.bq769x0.specs.Record.{Left, leaves, leaving, with_calibration}
use Rattle.bq769x0.specs.declared.BQ769x0.{BQ769x0}
use Rattle.procedure.specs.Calibrate.{calibrate}
use Rattle.procedure.specs.Init.{start_counter}
use Rattle.setup.specs.Inside.{calibration_read, counter_started}
use Rattle.bus.proofs.Steps.{step}

-- two programs of which the second tells by `tell` what the first answers
module _ {A B : Type 0} (tell : Answer A → B) where
  abbrev told : Ran (Answer A) → Ran B
  told r = ends (tell r.answer) r.bus

  module _ {C : Type 0} (f : C → Prog (Answer A)) (g : C → Prog B)
      (alike : (a : C) (b : Bus) → on_tape (g a) b ≡ told (on_tape (f a) b)) where
    by_answer : (y : Answer C) (b : Bus) → on_tape (proceed (λ r. tell (refused r)) g y) b ≡ told (on_tape (proceed refused f y) b)
    unfolding proceed on_tape
    by_answer (value a) b = alike a b
    by_answer (refused r) b = refl

    tells : (p : Prog (Answer C)) (b : Bus)
        → on_tape ((p or_leave λ r. tell (refused r)) >>= g) b ≡ told (on_tape ((p or_leave refused) >>= f) b)
    tells p b =
        step p (λ r. tell (refused r)) g b
        ∙ by_answer (on_tape p b).answer (on_tape p b).bus
        ∙ sym (ap told (step p refused f b))

-- ---- the stages
abbrev pub calibrated_by : BQ769x0 → Answer AdcTransferFunction → Left Done
calibrated_by d (value adc) = leaves (value tt) (with_calibration d adc)
calibrated_by d (refused r) = leaving d r

pub calibrate_tells : (d : BQ769x0) (b : Bus)
    → let read = on_tape (calibration_read d.link) b in
    on_tape (calibrate d) b ≡ ends (calibrated_by d read.answer) read.bus
unfolding calibrate calibration_read on_tape
calibrate_tells d =
    tells (calibrated_by d) _ _
    (λ first. tells (calibrated_by d) _ _ (λ second b. refl) (read_bytes d.link 0x59 1))
    (read_bytes d.link 0x50 2)

abbrev pub counted_by : BQ769x0 → Values → Answer Done → Left Values
counted_by d values (value done) = leaves (value values) d
counted_by d values (refused r) = leaving d r

last : (d : BQ769x0) (values : Values) (p : Prog (Answer Done)) (b : Bus)
    → on_tape ((p or_leave leaving d) >>= λ _. ret (leaves (value values) d)) b ≡ told (counted_by d values) (on_tape p b)
unfolding proceed on_tape
last d values p b = step p (leaving d) _ b ∙ by (on_tape p b).answer (on_tape p b).bus
  where
    by : (y : Answer Done) (b : Bus)
        → on_tape (proceed (leaving d) (λ _. ret (leaves (value values) d)) y) b ≡ ends (counted_by d values y) b
    by (value done) b = refl
    by (refused r) b = refl

pub start_counter_tells : (d : BQ769x0) (values : Values) (b : Bus)
    → let started = on_tape (counter_started d.link) b in
    on_tape (start_counter d values) b ≡ ends (counted_by d values started.answer) started.bus
unfolding start_counter counter_started
start_counter_tells d values =
    tells (counted_by d values) _ _ (λ byte. last d values _) (read_bytes d.link 0x05 1)
