-- `balance_get` on the model chip, for every outcome that keeps its promise: the chip is as it was, and what is answered is the set that it has
-- on, wherever the wire is cut.
-- Assumes nothing.
use mathlib.Core.Path.{◌≡◌, refl, sym, ap, ◌∙◌}
use mathlib.Core.Bool.{Bool, true, false, not}
use mathlib.Core.Option.{none}
use Prim.Native.Nat.{ℕ, ◌+◌, ◌*◌, ◌≤◌}
use native.Mathlib.Omega.{arith}
use Rattle.refusals.specs.Refusal.{Answer, value, refused}
use Rattle.refusals.proofs.Values.{refused_not, same_value}
use Rattle.cellbal.specs.Registers.{register_count, set_of}
use Rattle.cellbal.proofs.Places.{count_range}
use Rattle.bus.specs.Transfers.{bus_of}
use Rattle.bus.specs.Programs.{ran, on_tape}
use Rattle.bus.specs.Raw.{read_bytes}
use Rattle.bq769x0.specs.Record.{is_sound}
use Rattle.bq769x0.specs.Registers.{soundly}
use Rattle.bq769x0.specs.declared.BQ769x0.{BQ769x0}
use Rattle.bq769x0.proofs.Speaks.{sound_size, link_sound, some_inputs}
use Rattle.commands.specs.Commands.{balance_get}
use Rattle.chip.specs.Devices.{Reached, on_device}
use Rattle.chip.specs.OnChip.{Matches, Wired, on_wire, on_chip}
use Rattle.chip.proofs.Devices.{went_on}
use Rattle.chip.proofs.Quits.{Refuses, refuses_by}
use Rattle.chip.proofs.Wires.{read_whole, read_any, through}
use Rattle.runs.specs.Calls.{Call, Run, on}
use Rattle.runs.proofs.Calls.{gave_is, chip_is}
use Rattle.runs.proofs.Fine.{Fine, fine_ret, fine_if, fine_call, fine_read}
use Rattle.model.specs.Balance.{set_on, ReadsEveryChip}

module _ (d : BQ769x0) where
  abbrev x : ℕ
  x = d.link.x

  get_fine : Fine Refuses 7 (balance_get d)
  unfolding balance_get soundly
  get_fine =
      fine_if 7 (not (is_sound d)) (fine_ret Refuses 7 _)
      (fine_call 7 0 _ _ (fine_read d.link 0x01 (register_count x)) (λ bytes. fine_ret Refuses 0 _) refuses_by)

  module _ (w : Wired) (m : Matches d.link w.chip) where
    abbrev Shows : Reached Wired (Answer ℕ) → Type 0
    Shows r = (r.device.chip ≡ w.chip) × ((s : ℕ) → r.answer ≡ value s → s ≡ set_on x w.chip)

    -- as many registers as can be read
    module _ (ok : is_sound d ≡ true) where
      few : 0x01 + register_count x ≤ 256
      few = omega (arith, count_range x (sound_size d ok))

      most : register_count x ≤ 2 * x
      most = omega (arith, count_range x (sound_size d ok), some_inputs d ok)

    shows : Shows (on_chip (balance_get d) w)
    unfolding balance_get soundly on_device
    shows = by (is_sound d) refl
      where
        by : (t : Bool) → is_sound d ≡ t → Shows (on_chip (balance_get d) w)
        by false e = rw e (refl, λ s v. refused_not v)
        by true e =
            let read = read_any d.link (link_sound d e) w m 0x01 (register_count x) (few e) (count_range x (sound_size d e)).0 (most e) in
            rw e
            (through Shows refused _ (read_bytes d.link 0x01 (register_count x)) w (λ r q. (read.0, λ s v. refused_not v))
            (λ bytes q. (read.0, λ s v. sym (same_value v) ∙ ap set_of (read.1 bytes q))))

    shows_whole : is_sound d ≡ true → w.cuts 0 ≡ none → (on_chip (balance_get d) w).answer ≡ value (set_on x w.chip)
    unfolding balance_get soundly on_device
    shows_whole ok whole =
        rw ok
        (ap (λ (r : Reached Wired (Answer ℕ)). r.answer)
        (went_on on_wire (read_bytes d.link 0x01 (register_count x)) refused _ w _ _
        (read_whole d.link (link_sound d ok) w m 0x01 (register_count x) (few ok) (count_range x (sound_size d ok)).0 (most ok) whole)))

-- so a call that keeps the promise of `balance_get`
pub reads_back : (d : BQ769x0) {call : Call (Answer ℕ)}
    → ran call.gave call.tape call.log' call.at' ≡ on_tape (balance_get d) (bus_of call.tape call.log call.at)
    → ReadsEveryChip d call
reads_back d {call} promise c cuts rest answers room m =
    let run : Run (balance_get d) 7 (on c cuts) call = record { rest = rest; answers = answers; room = room; promise = promise } in
    let gave = gave_is (get_fine d) run in
    record {
      chip = chip_is (get_fine d) run ∙ (shows d (on c cuts) m).0;
      set = λ s v. (shows d (on c cuts) m).1 s (sym gave ∙ v);
      whole = λ ok q. gave ∙ shows_whole d (on c cuts) m ok q;
    }
