-- `balance_set` as a program: refused ahead of its write, or the write alone. And so what it leaves on the chip, on any wire, and what it comes
-- to on a whole one.
-- Assumes nothing.
use mathlib.Core.Path.{◌≡◌, refl, sym, ap, ap₂, subst, ◌∙◌}
use mathlib.Core.Bool.{Bool, true, false}
use mathlib.Core.List.{List, []}
use Prim.Native.Nat.{ℕ, ◌≤◌}
use native.Mathlib.Omega.{arith}
use lib.ListN.{length, take}
use lib.Seq.{take-nil}
use Rattle.refusals.specs.Refusal.{Refusal, Answer, value, refused, nine, number_of}
use Rattle.cellbal.specs.Rules.{allowed}
use Rattle.cellbal.specs.Registers.{register_count, registers_for}
use Rattle.cellbal.proofs.Exactly.{numbered}
use Rattle.cellbal.proofs.Places.{count_range, length_registers}
use Rattle.frames.specs.Put.{put}
use Rattle.frames.proofs.Put.{put_none}
use Rattle.bus.specs.Programs.{Prog, ret, bind, proceed, ◌>>=◌}
use Rattle.bus.specs.Raw.{Done, write_raw}
use Rattle.bq769x0.specs.Record.{is_sound}
use Rattle.bq769x0.specs.Registers.{soundly}
use Rattle.bq769x0.specs.declared.BQ769x0.{BQ769x0}
use Rattle.bq769x0.proofs.Speaks.{sound_size, link_sound}
use Rattle.commands.specs.Commands.{balance_set}
use Rattle.chip.specs.Chip.{with_regs, new_bytes}
use Rattle.chip.specs.Devices.{Reached, on_device}
use Rattle.chip.specs.OnChip.{Matches, Wired, on_chip}
use Rattle.chip.specs.declared.Chip.{Chip}
use Rattle.chip.proofs.Logs.{write_log}
use Rattle.chip.proofs.Quits.{Refuses}
use Rattle.chip.proofs.Wires.{write_any}
use Rattle.runs.proofs.Fine.{Fine, fine_ret, fine_more, fine_write}
use Rattle.model.specs.Balance.{enough, new_registers, brought, chip_left}

pub none_left : (c : Chip) (n : ℕ) → chip_left [] c n ≡ c
none_left c n = ap (λ (l : List ℕ). with_regs c (put c.regs 0x01 l)) (take-nil n) ∙ ap (with_regs c) (put_none c.regs 0x01)

module _ (d : BQ769x0) (set limit : ℕ) where
  abbrev x : ℕ
  x = d.link.x

  abbrev bytes : List ℕ
  bytes = registers_for x set

  pub data Program : Type 0 where
    refuses : (r : Refusal) → 1 ≤ r.number → new_registers d set limit ≡ [] → balance_set d set limit ≡ ret (refused r) → Program
    writes : is_sound d ≡ true → allowed x set limit ≡ value tt → new_registers d set limit ≡ bytes
        → balance_set d set limit ≡ write_raw d.link 0x01 bytes → Program

  pub program : Program
  unfolding balance_set soundly ◌>>=◌ bind proceed
  program = by (is_sound d) refl (allowed x set limit) refl
    where
      by : (t : Bool) → is_sound d ≡ t → (y : Answer Done) → allowed x set limit ≡ y → Program
      by false e y f = refuses nine (omega arith) (rw e) (rw e)
      by true e (refused r) f = refuses r (omega (arith, numbered x set limit r f)) (rw (e, f)) (rw (e, f))
      by true e (value done) f = writes e f (rw (e, f)) (rw (e, f))

  -- ---- of a sound record: one to three bytes, as many as the device has registers
  module _ (ok : is_sound d ≡ true) where
    pub length_bytes : length bytes ≡ register_count x
    length_bytes = length_registers x set (sound_size d ok)

    pub some_bytes : 1 ≤ length bytes
    some_bytes = omega (arith, length_bytes, count_range x (sound_size d ok))

    pub few_bytes : length bytes ≤ 3
    few_bytes = omega (arith, length_bytes, count_range x (sound_size d ok))

  -- ---- so much log is enough
  log_enough : (check : Bool) (n : ℕ) → n ≤ 3 → write_log check n ≤ enough
  log_enough true n few = omega arith
  log_enough false n few = omega arith

  pub set_fine : Fine Refuses enough (balance_set d set limit)
  set_fine = by program
    where
      by : Program → Fine Refuses enough (balance_set d set limit)
      by (refuses r least none e) = subst (Fine Refuses enough) (sym e) (fine_ret Refuses enough (refused r))
      by (writes ok fits new e) =
          subst (Fine Refuses enough) (sym e)
          (fine_more (log_enough d.link.check (length bytes) (few_bytes ok)) (fine_write d.link 0x01 (length bytes) bytes refl))

  -- ---- on any wire: a first part of the bytes is new, and the number is 0 only where all are
  pub record Written (n : ℕ) : Type 0 where
    pub ok : is_sound d ≡ true
    pub fits : allowed x set limit ≡ value tt
    pub new : new_registers d set limit ≡ bytes
    pub all : n ≡ length bytes

  pub record Leaves (w : Wired) (r : Reached Wired (Answer Done)) : Type 0 where
    pub chip : r.device.chip ≡ chip_left (new_registers d set limit) w.chip (brought d set limit w.cuts)
    pub done : number_of r.answer ≡ 0 → Written (brought d set limit w.cuts)

  pub none_new : (c : Chip) (n : ℕ) → new_registers d set limit ≡ [] → chip_left (new_registers d set limit) c n ≡ c
  none_new c n e = ap (λ (l : List ℕ). chip_left l c n) e ∙ none_left c n

  pub leaves : (w : Wired) → Matches d.link w.chip → Leaves w (on_chip (balance_set d set limit) w)
  unfolding on_device
  leaves w m = by program
    where
      by : Program → Leaves w (on_chip (balance_set d set limit) w)
      by (refuses r least none e) =
          subst (λ (p : Prog (Answer Done)). Leaves w (on_chip p w)) (sym e)
          (record { chip = sym (none_new w.chip (brought d set limit w.cuts) none); done = λ zero. absurd (omega arith) })
      by (writes ok fits new e) =
          let left = write_any d.link (link_sound d ok) w m 0x01 bytes (omega arith) (omega (arith, few_bytes ok)) (some_bytes ok)
          (omega (arith, few_bytes ok)) in
          let many = ap (new_bytes d.link.check (w.cuts 0)) new in
          subst (λ (p : Prog (Answer Done)). Leaves w (on_chip p w)) (sym e)
          (record {
            chip =
                left.0
                ∙ sym (ap₂ (λ (n : ℕ) (l : List ℕ). with_regs w.chip (put w.chip.regs 0x01 (take n l))) many new);
            done = λ zero. record { ok = ok; fits = fits; new = new; all = many ∙ left.1 zero };
          })
