-- A status reset on the model chip, on a whole wire: the chip clears the flags, in both builds. With checks the answer
-- is done. Without them it is 5 with register 00, unless the status was 0 and no flag was asked for.
-- First the statement.
-- Assumes nothing.
use mathlib.Core.Path.{◌≡◌, refl, sym, ap, ◌∙◌}
use mathlib.Core.Bool.{Bool, true, false, ◌&&◌}
use mathlib.Core.List.{List, [], ◌∷◌}
use mathlib.Core.Option.{none}
use Prim.Native.Nat.{ℕ, zero, suc, ◌-◌, ◌/◌, ◌≤◌}
use native.Mathlib.Omega.{arith}
use lib.Bits.{bit_and, and_step, and_le_l, and_zero_r}
use lib.Dec.{eqb}
use lib.ListN.{get_or}
use lib.Seq.{get_or-set_same}
use borrow.Author.Tests.{ne_eqb}
use Rattle.units.specs.declared.flags.SysStat.{SysStat}
use Rattle.refusals.specs.Refusal.{Answer, value, refused}
use Rattle.bus.specs.Transfers.{read, Outcome, done}
use Rattle.bus.specs.Raw.{Done, send, wrote, compared, verified, ask_back, write_raw}
use Rattle.bq769x0.specs.Record.{is_sound}
use Rattle.bq769x0.specs.Registers.{soundly}
use Rattle.bq769x0.specs.declared.BQ769x0.{BQ769x0}
use Rattle.units.specs.Flags.{bit}
use Rattle.commands.specs.Commands.{sys_stat_reset}
use Rattle.chip.specs.Devices.{Reached, reached, on_device}
use Rattle.chip.specs.Chip.{arrives, stores, held, respond_cut}
use Rattle.chip.specs.OnChip.{Matches, uncut, next, on_wire, on_chip}
use Rattle.chip.specs.declared.Chip.{Chip}
use Rattle.chip.proofs.Devices.{went_on}
use Rattle.chip.proofs.Raws.{send_leaves}
use Rattle.chip.proofs.Shows.{plain_part}
use Rattle.model.specs.Reset.{reset_answer, flags_cleared}
use Rattle.bq769x0.proofs.Speaks.{link_sound}

abbrev pub StatusReset : Type 0
StatusReset =
    (d : BQ769x0) (c : Chip) (flags : SysStat)
    → is_sound d ≡ true
    → Matches d.link c
    → bit 6 flags.bits ≡ false
    → on_chip (sys_stat_reset d flags) (uncut c)
    ≡ reached (reset_answer d.link.check (get_or c.regs 0 0) flags.bits) (uncut (flags_cleared flags.bits c))

-- ---- flags that are what they leave of a status are none: bit by bit, a flag that is 1 leaves 0
halves : (s f : ℕ) → f ≡ s - bit_and s f → f / 2 ≡ s / 2 - bit_and (s / 2) (f / 2)
halves s f e = omega (arith, and_step s f, and_le_l (s / 2) (f / 2))

-- n bounds the flags
no_flag : (n s f : ℕ) → f ≤ n → f ≡ s - bit_and s f → f ≡ 0
no_flag zero s f h e = omega arith
no_flag (suc n) s f h e =
    omega (arith, and_step s f, and_le_l (s / 2) (f / 2), no_flag n (s / 2) (f / 2) (omega arith) (halves s f e))

some : (n : ℕ) → suc n ≡ 0 → ⊥
some n e = omega arith

turned : (s : ℕ) → eqb 0 s ≡ eqb s 0
turned zero = refl
turned (suc s) = ne_eqb 0 (suc s) (λ e. some s (sym e)) ∙ sym (ne_eqb (suc s) 0 (some s))

-- so the flags read back only where none was asked for and none stood
reads_back : (s f : ℕ) → eqb f (s - bit_and s f) ≡ (eqb f 0 && eqb s 0)
reads_back s zero =
    let all : s - 0 ≡ s = omega arith in
    rw (and_zero_r s, all) (turned s)
reads_back s (suc f) =
    ne_eqb (suc f) (s - bit_and s (suc f)) (λ e. some f (no_flag (suc f) s (suc f) (omega arith) e))
    ∙ rw (ne_eqb (suc f) 0 (some f))

-- ---- the write, and what is read back without checks
module _ (d : BQ769x0) (c : Chip) (flags : ℕ) (ok : is_sound d ≡ true) (m : Matches d.link c) where
  abbrev status : ℕ
  status = get_or c.regs 0 0

  abbrev after : Chip
  after = flags_cleared flags c

  -- 00 as it is then read
  abbrev cleared : List ℕ
  cleared = held 0 1 after.regs

  sent : on_chip (send d.link 0 (flags ∷ [])) (uncut c) ≡ reached (value tt) (uncut after)
  unfolding wrote stores
  sent = send_leaves d.link (link_sound d ok) (uncut c) m 0 (flags ∷ []) (omega arith) (omega arith) (omega arith)

  back : d.link.check ≡ false
      → on_chip (ask_back d.link.address 0 (flags ∷ [])) (uncut after)
      ≡ reached (compared 0 (flags ∷ []) cleared) (uncut after)
  unfolding ask_back on_device on_wire verified
  back e =
      let shown : respond_cut none after (read d.link.address 0 1) ≡ reached (done cleared) after =
      rw m.address (plain_part after 0 1 (sym m.check ∙ e) (omega arith) none) in
      ap (λ (r : Reached Chip Outcome). reached (verified 0 (flags ∷ []) r.answer) (next (uncut after) r.device))
      shown

  told : compared 0 (flags ∷ []) cleared ≡ reset_answer false status flags
  unfolding compared held arrives
  told =
      rw (get_or-set_same c.regs 0 (status - bit_and status flags) 0 (omega (arith, m.size)), reads_back status flags)

  by_check : (check : Bool) → d.link.check ≡ check
      → on_chip (write_raw d.link 0 (flags ∷ [])) (uncut c) ≡ reached (reset_answer check status flags) (uncut after)
  unfolding write_raw on_device
  by_check true e = went_on on_wire (send d.link 0 (flags ∷ [])) refused _ (uncut c) (uncut after) tt sent ∙ rw e
  by_check false e =
      went_on on_wire (send d.link 0 (flags ∷ [])) refused _ (uncut c) (uncut after) tt sent
      ∙ rw e (back e ∙ ap (λ (a : Answer Done). reached a (uncut after)) told)

pub status_reset : StatusReset
unfolding soundly
status_reset d c flags ok m known = simp (ok, known) (by_check d c flags.bits ok m d.link.check refl)
