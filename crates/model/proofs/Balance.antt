-- Balancing on the model chip, proved for every outcome that keeps the promise of `balance_set`, or of `balance_get`.
-- Assumes nothing.
use mathlib.Core.Path.{◌≡◌, refl, sym, ap, ap₂, subst, ◌∙◌}
use mathlib.Core.Bool.{Bool, true, false, true≢false}
use mathlib.Core.List.{List, [], ◌++◌}
use mathlib.Core.Option.{Option}
use Prim.Native.Nat.{ℕ, ◌+◌, ◌-◌, ◌/◌, ◌%◌, ◌^◌, ◌≤◌, ◌<◌}
use native.Mathlib.Omega.{arith}
use lib.Dec.{ltb}
use lib.ListN.{length, take, drop, get_or, length-take}
use lib.Seq.{take-length, get_or-take}
use borrow.Author.Tests.{ltb-true, ltb-false}
use Rattle.refusals.specs.Refusal.{Answer, value, number_of}
use Rattle.check_byte.specs.CheckByte.{Bytes}
use Rattle.units.specs.Flags.{bit}
use Rattle.sizes.proofs.Sizes.{by_size}
use Rattle.cellbal.specs.Rules.{allowed}
use Rattle.cellbal.proofs.Exactly.{keeps}
use Rattle.cellbal.proofs.Places.{side_by_side}
use Rattle.cellbal.proofs.RoundTrip.{back}
use Rattle.cellbal.specs.Registers.{register_count, three_for, registers_for, set_of}
use Rattle.frames.specs.Put.{put}
use Rattle.frames.proofs.Put.{put_none, length_put, get_d_put, put_parts, put_over}
use Rattle.bus.specs.Transfers.{bus_of}
use Rattle.bus.specs.Programs.{Prog, ran, on_tape}
use Rattle.bus.specs.Raw.{Done, write_raw}
use Rattle.bus.proofs.OfBytes.{take_bytes, drop_bytes}
use Rattle.bq769x0.specs.Record.{is_sound}
use Rattle.bq769x0.specs.declared.BQ769x0.{BQ769x0}
use Rattle.bq769x0.proofs.Speaks.{sound_size, link_sound}
use Rattle.commands.specs.Commands.{balance_set}
use Rattle.chip.specs.Chip.{with_regs, held}
use Rattle.chip.specs.Devices.{reached}
use Rattle.chip.specs.OnChip.{Matches, Wired, uncut, on_chip}
use Rattle.chip.specs.declared.Chip.{Chip}
use Rattle.chip.proofs.FirstPart.{old_above, new_few}
use Rattle.chip.proofs.InStep.{InStep, step_write}
use Rattle.chip.proofs.RegisterBytes.{append_bytes}
use Rattle.chip.proofs.Shows.{held_put}
use Rattle.chip.proofs.Uncut.{write_uncut}
use Rattle.runs.specs.Calls.{Call, Calls, none_yet, one_more, most_of, on}
use Rattle.runs.proofs.Calls.{chip_is, gave_is, alike, by_log}
use Rattle.runs.proofs.Fine.{Fine}
use Rattle.model.specs.Balance.{new_registers, brought, chip_left, Run, Sets, input_on, set_on, EndsAlike, FirstNew, Recovers, Survives, Demand3}
use Rattle.model.proofs.Balanced.{Program, refuses, writes, program, Written, Leaves}
use Rattle.model.proofs.Balanced.{length_bytes, some_bytes, few_bytes, set_fine, none_new, leaves}

-- on whole wires a program does the same on two chips, in step
pub record EndsSame {A : Type 0} (p : Prog A) (c c' : Chip) : Type 0 where
  pub same : on_chip p (uncut c) ≡ on_chip p (uncut c')
  pub steps : InStep p (uncut c) p (uncut c')

pub same_chip : {A : Type 0} (p : Prog A) {c c' : Chip} → c ≡ c' → EndsSame p c c'
same_chip p {c' = c'} e = subst (λ (k : Chip). EndsSame p k c') (sym e) (record { same = refl; steps = record { log = refl; tape = refl } })

module _ (d : BQ769x0) (set limit : ℕ) where
  abbrev new : List ℕ
  new = new_registers d set limit

  few_new : length new ≤ 3
  few_new = by (program d set limit)
    where
      by : Program d set limit → length new ≤ 3
      by (refuses r least none e) = omega (arith, ap length none)
      by (writes ok fits is e) = omega (arith, ap length is, few_bytes d set limit ok)

  new_bytes_is : Program d set limit → Bytes new
  unfolding registers_for
  new_bytes_is (refuses r least none e) = subst Bytes (sym none) tt
  new_bytes_is (writes ok fits is e) =
      subst Bytes (sym is)
      (by_size (λ x. Bytes (registers_for x set)) (omega arith, tt) (omega arith, (omega arith, tt)) (omega arith, (omega arith, (omega arith, tt)))
      d.link.x (sound_size d ok))

  -- no more than any set's
  new_within : (other : ℕ) → is_sound d ≡ true → length new ≤ length (registers_for d.link.x other)
  new_within other ok = by (program d set limit)
    where
      by : Program d set limit → length new ≤ length (registers_for d.link.x other)
      by (refuses r least none e) = omega (arith, ap length none)
      by (writes sound fits is e) =
          omega (arith, ap length is, length_bytes d set limit ok, length_bytes d other limit ok)

  -- ---- any number of calls
  module _ (c : Chip) (m : Matches d.link c) where
    room : (n : ℕ) → 0x01 + length (take n new) ≤ length c.regs
    room n = omega (arith, few_new, m.size, length-take n new)

    matches_left : (n : ℕ) → Matches d.link (chip_left new c n)
    matches_left n = record {
      address = m.address;
      check = m.check;
      size = length_put c.regs 0x01 (take n new) (room n) ∙ m.size;
    }

    -- of a program that leaves on every chip what `balance_set` leaves there
    module _ {A : Type 0} {Off : A → Type 0} {few : ℕ} {p : Prog A} (fine : Fine Off few p)
        (same : (w : Wired) → (on_chip p w).device.chip ≡ (on_chip (balance_set d set limit) w).device.chip) where
      new_then : {c' : Chip} (calls : Calls p few c c') → most_of (brought d set limit) calls ≤ length new
      unfolding most_of
      new_then none_yet = omega arith
      new_then (one_more calls cuts call run) = omega (arith, new_then calls, new_few d.link.check (cuts 0) new)

      left_then : {c' : Chip} (calls : Calls p few c c') → c' ≡ chip_left new c (most_of (brought d set limit) calls)
      unfolding most_of
      left_then none_yet = ap (with_regs c) (sym (put_none c.regs 0x01))
      left_then (one_more {c' = c'} calls cuts call run) =
          let n = most_of (brought d set limit) calls in
          let k = brought d set limit cuts in
          let before = left_then calls in
          let m' = subst (Matches d.link) (sym before) (matches_left n) in
          chip_is fine run
          ∙ same (on c' cuts)
          ∙ (leaves d set limit (on c' cuts) m').chip
          ∙ ap (λ (y : Chip). chip_left new y k) before
          ∙ ap (with_regs c)
          (put_parts c.regs new 0x01 n k (new_then calls) (new_few d.link.check (cuts 0) new) (omega (arith, few_new, m.size)))

    -- ---- and one more, on a sound bus
    module _ (n : ℕ) {c' : Chip} (left : c' ≡ chip_left new c n) where
      abbrev SameEnd : Prog (Answer Done) → Type 0
      SameEnd p = EndsSame p c' c

      m' : Matches d.link c'
      m' = subst (Matches d.link) (sym left) (matches_left n)

      -- the registers are written over
      written_over : (other : ℕ) → is_sound d ≡ true
          → with_regs c' (put c'.regs 0x01 (registers_for d.link.x other)) ≡ with_regs c (put c.regs 0x01 (registers_for d.link.x other))
      written_over other ok =
          let over = registers_for d.link.x other in
          ap (λ (y : Chip). with_regs y (put y.regs 0x01 over)) left
          ∙ ap (with_regs c) (put_over c.regs 0x01 (take n new) (room n) over (omega (arith, new_within other ok, length-take n new)))

      by_program : (set' limit' : ℕ) → Program d set' limit' → (new_registers d set' limit' ≡ [] → c' ≡ c) → SameEnd (balance_set d set' limit')
      by_program set' limit' (refuses r least none e) as_before =
          same_chip (balance_set d set' limit') (as_before none)
      by_program set' limit' (writes ok fits is e) as_before =
          let over = registers_for d.link.x set' in
          let few = few_bytes d set' limit' ok in
          let some = some_bytes d set' limit' ok in
          let ends : (k : Chip) → Matches d.link k
          → on_chip (write_raw d.link 0x01 over) (uncut k) ≡ reached (value tt) (uncut (with_regs k (put k.regs 0x01 over))) =
          λ k h. write_uncut d.link (link_sound d ok) k h 0x01 over (omega arith) (omega arith) some (omega arith) in
          subst SameEnd (sym e)
          (record {
            same = ends c' m' ∙ ap (λ (k : Chip). reached (value tt) (uncut k)) (written_over set' ok) ∙ sym (ends c m);
            steps = step_write d.link (link_sound d ok) c' c m' m 0x01 over (omega arith) (omega arith) some (omega arith);
          })

      pub again : SameEnd (balance_set d set limit)
      again = by_program set limit (program d set limit) (λ none. left ∙ none_new d set limit c n none)

      pub anew : (set' limit' : ℕ) → allowed d.link.x set' limit' ≡ value tt → SameEnd (balance_set d set' limit')
      anew set' limit' fits = by_program set' limit' (program d set' limit') (λ none. by none (is_sound d) refl)
        where
          by : new_registers d set' limit' ≡ [] → (t : Bool) → is_sound d ≡ t → c' ≡ c
          by none false e = left ∙ none_new d set limit c n (rw e)
          by none true e = absurd (omega (arith, ap length (rw (e, fits) at none), some_bytes d set' limit' e))

      -- ---- each register is new or old
      abbrev at : Chip → ℕ → ℕ
      at y k = get_or y.regs (0x01 + k) 0

      data Register (k : ℕ) : Type 0 where
        is_old : at c' k ≡ at c k → Register k
        is_new : k < length (take n new) → at c' k ≡ get_or new k 0 → Register k

      register : (k : ℕ) → Register k
      register k = by (ltb k (length (take n new))) refl
        where
          by : (t : Bool) → ltb k (length (take n new)) ≡ t → Register k
          by true e =
              let h = ltb-true k (length (take n new)) e in
              is_new h
              (ap (λ (y : Chip). at y k) left
              ∙ get_d_put c.regs 0x01 (take n new) (room n) k 0 h
              ∙ get_or-take n new k 0 (omega (arith, length-take n new)))
          by false e =
              is_old (ap (λ (y : Chip). at y k) left
              ∙ old_above c.regs 0x01 (take n new) (room n) (0x01 + k) (omega (arith, ltb-false k (length (take n new)) e)))

      asked : (i : ℕ) → input_on c i ≡ false → input_on c' i ≡ true → bit ((i - 1) % 5) (get_or new ((i - 1) / 5) 0) ≡ true
      asked i was now = by (register ((i - 1) / 5))
        where
          by : Register ((i - 1) / 5) → bit ((i - 1) % 5) (get_or new ((i - 1) / 5) 0) ≡ true
          by (is_old e) = absurd (true≢false (sym now ∙ ap (bit ((i - 1) % 5)) e ∙ was))
          by (is_new h e) = sym (ap (bit ((i - 1) % 5)) e) ∙ now

      -- ---- no neighbours come of it: a new register is that of an allowed set
      record OfSet (k : ℕ) : Type 0 where
        few : k < 3
        is : get_or new k 0 ≡ get_or (three_for set) k 0
        fits : allowed d.link.x set limit ≡ value tt

      of_set : (k : ℕ) → k < length (take n new) → Program d set limit → OfSet k
      unfolding registers_for
      of_set k h (refuses r least none e) = absurd (omega (arith, length-take n new, ap length none))
      of_set k h (writes ok fits is e) =
          let count = register_count d.link.x in
          let few : k < count = omega (arith, length-take n new, ap length is, length_bytes d set limit ok) in
          record {
            few = omega (arith, few_bytes d set limit ok, length_bytes d set limit ok);
            is = ap (λ (l : List ℕ). get_or l k 0) is ∙ get_or-take count (three_for set) k 0 few;
            fits = fits;
          }

      neighbours : (i : ℕ) → 1 ≤ i → (i - 1) / 5 ≡ i / 5 → input_on c' i ≡ true → input_on c' (i + 1) ≡ true
          → (input_on c i ≡ true) × (input_on c (i + 1) ≡ true)
      neighbours i least block on next = by (register ((i - 1) / 5))
        where
          -- input i + 1 is in the same register
          beside : (y : Chip) → input_on y (i + 1) ≡ bit (i % 5) (at y ((i - 1) / 5))
          beside y =
              let here : i + 1 - 1 ≡ i = omega arith in
              rw (here, block)

          by : Register ((i - 1) / 5) → (input_on c i ≡ true) × (input_on c (i + 1) ≡ true)
          by (is_old e) =
              (sym (ap (bit ((i - 1) % 5)) e) ∙ on, beside c ∙ sym (ap (bit (i % 5)) e) ∙ sym (beside c') ∙ next)
          by (is_new h e) =
              let s = of_set ((i - 1) / 5) h (program d set limit) in
              let both = side_by_side set i least block s.few (sym (ap (bit ((i - 1) % 5)) (e ∙ s.is)) ∙ on)
              (sym (ap (bit (i % 5)) (e ∙ s.is)) ∙ sym (beside c') ∙ next) in
              absurd (true≢false (sym both ∙ (keeps d.link.x set limit s.fits).apart))

      -- ---- bytes are put among bytes
      bytes : Bytes c.regs → Bytes c'.regs
      unfolding put
      bytes h =
          subst (λ (y : Chip). Bytes y.regs) (sym left)
          (append_bytes (take 0x01 c.regs ++ take n new) (drop (0x01 + length (take n new)) c.regs)
          (append_bytes (take 0x01 c.regs) (take n new) (take_bytes 0x01 c.regs h) (take_bytes n new (new_bytes_is (program d set limit))))
          (drop_bytes (0x01 + length (take n new)) c.regs h))

    pub first_new_is : {A : Type 0} {Off : A → Type 0} {few : ℕ} {p : Prog A} → Fine Off few p
        → ((w : Wired) → (on_chip p w).device.chip ≡ (on_chip (balance_set d set limit) w).device.chip)
        → {c' : Chip} (calls : Calls p few c c') → FirstNew new (most_of (brought d set limit) calls) c c'
    first_new_is fine same calls =
        let n = most_of (brought d set limit) calls in
        let left = left_then fine same calls in
        record {
          few = new_then fine same calls;
          chip = left;
          asked = asked n left;
          neighbours = neighbours n left;
          bytes = bytes n left;
        }

    pub recovers : {c' : Chip} (calls : Sets d set limit c c') → Recovers d set limit calls
    recovers {c'} calls =
        let left = first_new_is (set_fine d set limit) (λ w. refl) calls in
        let n = most_of (brought d set limit) calls in
        let alike-by : (set' limit' : ℕ) → EndsSame (balance_set d set' limit') c' c → EndsAlike d set' limit' c' c =
        λ set' limit' ends a b x y. alike (set_fine d set' limit') (set_fine d set' limit') x y ends.same ends.steps in
        record {
          left = left;
          again = alike-by set limit (again n left.chip);
          anew = λ set' limit' fits. alike-by set' limit' (anew n left.chip set' limit' fits);
        }

  -- ---- on any wire: with the number 0 it has written the set
  module _ (two : set < 2 ^ 16) (w : Wired) (m : Matches d.link w.chip)
      (zero : number_of (on_chip (balance_set d set limit) w).answer ≡ 0) where
    abbrev over : List ℕ
    over = registers_for d.link.x set

    left : Leaves d set limit w (on_chip (balance_set d set limit) w)
    left = leaves d set limit w m

    written : Written d set limit (brought d set limit w.cuts)
    written = left.done zero

    all_new : (on_chip (balance_set d set limit) w).device.chip ≡ with_regs w.chip (put w.chip.regs 0x01 over)
    all_new =
        left.chip
        ∙ ap₂ (λ (n : ℕ) (l : List ℕ). with_regs w.chip (put w.chip.regs 0x01 (take n l))) written.all written.new
        ∙ ap (λ (l : List ℕ). with_regs w.chip (put w.chip.regs 0x01 l)) (take-length over)

    pub set_on_is : set_on d.link.x (on_chip (balance_set d set limit) w).device.chip ≡ set
    set_on_is =
        let many = length_bytes d set limit written.ok in
        let there : 0x01 + length over ≤ length w.chip.regs = omega (arith, few_bytes d set limit written.ok, m.size) in
        ap (set_on d.link.x) all_new
        ∙ ap (λ (n : ℕ). set_of (held 0x01 n (put w.chip.regs 0x01 over))) (sym many)
        ∙ ap set_of (held_put 0x01 over w.chip.regs there)
        ∙ back d.link.x set (sound_size d written.ok) two (keeps d.link.x set limit written.fits).on_device_lem

-- ---- whatever came before it
survives : (d : BQ769x0) (set limit : ℕ) → set < 2 ^ 16 → {c : Chip} {cuts : ℕ → Option ℕ} {call : Call (Answer Done)}
    → Run d set limit (on c cuts) call → Survives d set limit call c cuts
survives d set limit two {c} {cuts} {call} run = record {
  run = run;
  by_log = by_log (set_fine d set limit) run;
  set_on_is = λ m done.
      ap (set_on d.link.x) (chip_is (set_fine d set limit) run)
      ∙ set_on_is d set limit two (on c cuts) m (ap number_of (sym (gave_is (set_fine d set limit) run) ∙ done));
  recovers = λ {c₀} m calls. recovers d set limit c₀ m (one_more calls cuts call run);
}

-- so a call that keeps the promise of `balance_set`
pub demand_3 : (d : BQ769x0) (set limit : ℕ) → set < 2 ^ 16 → {call : Call (Answer Done)}
    → ran call.gave call.tape call.log' call.at' ≡ on_tape (balance_set d set limit) (bus_of call.tape call.log call.at)
    → Demand3 d set limit call
demand_3 d set limit two promise c cuts rest answers room =
    survives d set limit two (record { rest = rest; answers = answers; room = room; promise = promise })
