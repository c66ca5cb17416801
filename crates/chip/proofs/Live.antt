-- A call on a live bus, made in passes, ends as it would on the device itself: the same answer, the same transfers in the log, and the
-- device left the same. A pass that comes to the fault uses its tape to the end, and its log ends in the transfer wanted next.
-- Assumes nothing.
use mathlib.Core.Path.{◌≡◌, refl, sym, ap, ap₂, subst, ◌∙◌}
use mathlib.Core.Bool.{Bool, true, false}
use mathlib.Core.List.{List, [], ◌∷◌, ◌++◌, map, get_last?, append_assoc, append-nil}
use mathlib.Core.Option.{some, bind, some-injective, none-ne-some}
use Prim.Native.Nat.{ℕ, zero, suc, ◌+◌, ◌≤◌, ◌<◌}
use native.Mathlib.Omega.{arith}
use lib.ListN.{length, take, drop, length-drop, length-append, drop_of_length-le}
use lib.Dec.{leb}
use borrow.Author.Tests.{leb-true, leb-false}
use Rattle.laws.specs.Choice.{when◌then◌else◌}
use Rattle.refusals.specs.Refusal.{no}
use Rattle.frames.specs.Put.{put}
use Rattle.frames.proofs.Put.{length_put, take_put, put_over}
use Rattle.fields.specs.Fields.{field}
use Rattle.bus.specs.Transfers.{Transfer, Outcome, fault, stopped, log_field, tape_field, wanted}
use Rattle.bus.specs.Transfers.{says, Bus, start, bus_of, moved, after, answered, outcome}
use Rattle.bus.specs.Programs.{Prog, ret, ask, Ran, on_tape}
use Rattle.bus.specs.Decoders.{Fitting}
use Rattle.bus.proofs.Decoders.{Short, AllShort, transfers_logged}
use Rattle.bus.specs.Shown.{Made, logged}
use Rattle.bus.proofs.Framed.{Room}
use Rattle.chip.specs.Devices.{Reached, reached, on_device, made_on, log_of, tape_of}
use Rattle.chip.specs.Live.{ends_in, Used, used_by, and_fault, ended, pass, CameToFault, wants_next, Passes, none_yet, one_more, Goes}
use Rattle.chip.proofs.Adequate.{moved_moved, room_first, rest_moved, room_moved, outcome_fits, after_fits, adequate}
use Rattle.chip.proofs.Asks.{Asks, nothing, this}
use Rattle.chip.proofs.Quits.{Over, over, Quits, ends, goes}

-- ---- past the tape's end a transfer is not made: 16 or 17, and nothing is logged
module _ (t : Transfer) (b : Bus) (end : length b.tape ≤ b.at.tape) where
  not_made : after t (outcome t b) b ≡ b
  unfolding outcome answered after says
  not_made = rw (drop_of_length-le b.tape end) (by_room (leb (b.at.log + length (log_field t)) (length b.log)))
    where
      by_room : (room : Bool) → after t (when room then stopped (no 16 []) else stopped (no 17 [])) b ≡ b
      by_room true = refl
      by_room false = refl

pub past_end : {A : Type 0} (p : Prog A) (b : Bus) → length b.tape ≤ b.at.tape → (on_tape p b).bus ≡ b
unfolding on_tape
past_end (ret a) b end = refl
past_end (ask t k) b end =
    ap (λ (x : Bus). (on_tape (k (outcome t b)) x).bus) (not_made t b end) ∙ past_end (k (outcome t b)) b end

fault_fits : (want : ℕ) → Fitting want (fault [])
fault_fits want = (omega arith, omega arith)

-- a tape of which nothing is left
all_used : (v l : List ℕ) (b : Bus) → drop b.at.tape b.tape ≡ v → length (moved v l b).tape ≤ (moved v l b).at.tape
unfolding moved
all_used v l b e =
    let rest = length-drop b.at.tape b.tape in
    let size = ap length e in
    omega (arith, rest, size)

-- a program that is over
left_off : {A : Type 0} {Off : A → Type 0} {p : Prog A} → Over Off p → (b : Bus) → Off (on_tape p b).answer
unfolding on_tape
left_off (over h) b = h

last_more : (t : Transfer) (ts : List Transfer) (u : Transfer) → get_last? ts ≡ some u → get_last? (t ∷ ts) ≡ some u
last_more t [] u e = absurd (none-ne-some _ e)
last_more t (x ∷ ts) u e = e

-- ---- what a pass is made of
module _ {S : Type 0} (move : S → Transfer → Reached S Outcome) where
  -- the device after the first n transfers, as far as there are any, and its answers to them
  unfoldable pub device_at : {A : Type 0} → ℕ → Prog A → S → S
  device_at zero p s = s
  device_at (suc n) (ret a) s = s
  device_at (suc n) (ask t k) s = device_at n (k (move s t).answer) (move s t).device

  unfoldable pub answers_of : {A : Type 0} → ℕ → Prog A → S → List ℕ
  answers_of zero p s = []
  answers_of (suc n) (ret a) s = []
  answers_of (suc n) (ask t k) s = tape_field (move s t).answer ++ answers_of n (k (move s t).answer) (move s t).device

  -- the tape of a pass: these answers, and a fault
  abbrev pub pass_tape : {A : Type 0} → ℕ → Prog A → S → List ℕ
  pass_tape n p s = answers_of n p s ++ tape_field (fault [])

  -- its log: these transfers, and the one that is wanted next
  unfoldable pub pass_log : {A : Type 0} → ℕ → Prog A → S → List ℕ
  pass_log n (ret a) s = []
  pass_log zero (ask t k) s = log_field t
  pass_log (suc n) (ask t k) s = log_field t ++ pass_log n (k (move s t).answer) (move s t).device

  -- ---- when no more is wanted
  all_answers : {A : Type 0} (n : ℕ) (p : Prog A) (s : S) → length (made_on move p s) ≤ n → answers_of n p s ≡ tape_of move p s
  unfolding made_on answers_of tape_of
  all_answers zero (ret a) s all = refl
  all_answers (suc n) (ret a) s all = refl
  all_answers zero (ask t k) s all = absurd (omega arith)
  all_answers (suc n) (ask t k) s all =
      let o = (move s t).answer in
      ap (◌++◌ (tape_field o)) (all_answers n (k o) (move s t).device (omega arith))

  at_end : {A : Type 0} (n : ℕ) (p : Prog A) (s : S) → length (made_on move p s) ≤ n
      → device_at n p s ≡ (on_device move p s).device
  unfolding made_on device_at on_device
  at_end zero (ret a) s all = refl
  at_end (suc n) (ret a) s all = refl
  at_end zero (ask t k) s all = absurd (omega arith)
  at_end (suc n) (ask t k) s all = at_end n (k (move s t).answer) (move s t).device (omega arith)

  -- ---- the transfer wanted next: the log ends in it, and with it tape and device are those of the next pass
  pass_made : {A : Type 0} (n : ℕ) (p : Prog A) (s : S) → pass_log n p s ≡ logged (take (suc n) (made_on move p s))
  unfolding made_on pass_log logged
  pass_made n (ret a) s = refl
  pass_made zero (ask t k) s = sym (append-nil (log_field t))
  pass_made (suc n) (ask t k) s = ap (◌++◌ (log_field t)) (pass_made n (k (move s t).answer) (move s t).device)

  pass_short : {A : Type 0} {p : Prog A} → Asks Short p → (n : ℕ) (s : S) → AllShort (take n (made_on move p s))
  unfolding made_on
  pass_short h zero s = tt
  pass_short nothing (suc n) s = tt
  pass_short (this {t = t} {k = k'} h k) (suc n) s = (h, pass_short {p = k' (move s t).answer} (k (move s t).answer) n (move s t).device)

  pass_within : {A : Type 0} (n : ℕ) (p : Prog A) (s : S) → length (pass_log n p s) ≤ length (log_of move p s)
  unfolding pass_log log_of
  pass_within n (ret a) s = omega arith
  pass_within zero (ask t k) s = rw length-append (omega arith)
  pass_within (suc n) (ask t k) s =
      let more = pass_within n (k (move s t).answer) (move s t).device in
      rw (length-append, length-append) (omega arith)

  -- the first n transfers and the one wanted next
  abbrev firsts : {A : Type 0} → ℕ → Prog A → S → List Transfer
  firsts n p s = map (λ (m : Made). m.0) (take (suc n) (made_on move p s))

  record Next {A : Type 0} (n : ℕ) (p : Prog A) (s : S) : Type 0 where
    transfer : Transfer
    last : get_last? (firsts n p s) ≡ some transfer
    answers : answers_of (suc n) p s ≡ answers_of n p s ++ tape_field (move (device_at n p s) transfer).answer
    device : device_at (suc n) p s ≡ (move (device_at n p s) transfer).device

  next : {A : Type 0} (n : ℕ) (p : Prog A) (s : S) → n < length (made_on move p s) → Next n p s
  unfolding made_on answers_of device_at
  next n (ret a) s more = absurd (omega arith)
  next zero (ask t k) s more = record { transfer = t; last = refl; answers = append-nil _; device = refl }
  next (suc n) (ask t k) s more =
      let o = (move s t).answer in
      let e = next n (k o) (move s t).device (omega arith) in
      record {
        transfer = e.transfer;
        last = last_more t (firsts n (k o) (move s t).device) e.transfer e.last;
        answers = ap (◌++◌ (tape_field o)) e.answers ∙ sym (append_assoc (tape_field o) _ _);
        device = e.device;
      }

  ends_in_is : {A : Type 0} {p : Prog A} → Asks Short p → (n : ℕ) (s : S) (e : Next n p s) → ends_in (pass_log n p s) ≡ some e.transfer
  unfolding ends_in bind
  ends_in_is {p = p} short n s e =
      let h = take (suc n) (made_on move p s) in
      rw (pass_made n p s, transfers_logged h (length (logged h)) (pass_short short (suc n) s) (omega arith)) e.last

  -- ---- a pass where one more transfer is wanted: tape and log, and how a program that leaves at a fault left off
  record Asked {A : Type 0} (Off : A → Type 0) (n : ℕ) (p : Prog A) (s : S) (b : Bus) : Type 0 where
    bus : (on_tape p b).bus ≡ moved (pass_tape n p s) (pass_log n p s) b
    off : Off (on_tape p b).answer

  module _ (honest : (s : S) (t : Transfer) → Fitting (wanted t) (move s t).answer) where
    pass_asks : {A : Type 0} {Off : A → Type 0} {p : Prog A} → Quits Off p → (n : ℕ) (s : S) (b : Bus) → n < length (made_on move p s)
        → drop b.at.tape b.tape ≡ pass_tape n p s → Room b (pass_log n p s)
        → Asked Off n p s b
    unfolding on_tape made_on answers_of pass_log
    pass_asks ends n s b more h room = absurd (omega arith)
    pass_asks {Off = Off} (goes {t} {k} on off) zero s b more h room =
        let v = tape_field (fault []) in
        let o : Outcome = fault [] in
        let is = outcome_fits t b [] room o (fault_fits (wanted t)) (h ∙ sym (append-nil v)) in
        let left = after_fits t b [] room o (fault_fits (wanted t)) in
        record {
          bus =
              ap (λ (x : Outcome). (on_tape (k x) (after t x b)).bus) is
              ∙ ap (λ (x : Bus). (on_tape (k o) x).bus) left
              ∙ past_end (k o) (moved v (log_field t) b) (all_used v (log_field t) b h);
          off = subst (λ (x : Outcome). Off (on_tape (k x) (after t x b)).answer) (sym is) (left_off (off []) (after t o b));
        }
    pass_asks {Off = Off} (goes {t} {k} on off) (suc n) s b more h room =
        let o = (move s t).answer in
        let s' = (move s t).device in
        let T = pass_tape n (k o) s' in
        let L = pass_log n (k o) s' in
        let join = append_assoc (tape_field o) (answers_of n (k o) s') (tape_field (fault [])) in
        let here = room_first (log_field t) L b room in
        let is = outcome_fits t b T here o (honest s t) (h ∙ join) in
        let left = after_fits t b T here o (honest s t) in
        let next_one = pass_asks (on o) n s' (moved (tape_field o) (log_field t) b) (omega arith)
        (rest_moved (tape_field o) (log_field t) b T (h ∙ join)) (room_moved (tape_field o) (log_field t) b L room) in
        record {
          bus =
              ap (λ (x : Outcome). (on_tape (k x) (after t x b)).bus) is
              ∙ ap (λ (x : Bus). (on_tape (k o) x).bus) left
              ∙ next_one.bus
              ∙ moved_moved (tape_field o) T (log_field t) L b here
              ∙ ap (λ (x : List ℕ). moved x (log_field t ++ L) b) (sym join);
          off =
              subst (λ (x : Outcome). Off (on_tape (k x) (after t x b)).answer) (sym is)
              (subst (λ (x : Bus). Off (on_tape (k o) x).answer) (sym left) next_one.off);
        }

    module _ {A : Type 0} {Off : A → Type 0} {p : Prog A} (short : Asks Short p) (quits : Quits Off p) (s : S) where
      -- ---- a pass over the answers to n transfers: one more is wanted, or none
      data PassAt (n : ℕ) (log : List ℕ) (r : Ran A) : Type 0 where
        asks : n < length (made_on move p s) → (x : Next n p s) → length (answers_of n p s) < r.bus.at.tape
            → r.bus.log ≡ put log 0 (pass_log n p s) → ends_in (take r.bus.at.log r.bus.log) ≡ some x.transfer
            → Off r.answer → PassAt n log r
        is_done : reached r (device_at n p s) ≡ ended move p log s → r.bus.at.tape ≡ length (answers_of n p s) → PassAt n log r

      pass_at : (n : ℕ) (log : List ℕ) → length (log_of move p s) ≤ length log
          → PassAt n log (on_tape p (bus_of (pass_tape n p s) log start))
      unfolding moved tape_field field
      pass_at n log room = by (leb (suc n) (length (made_on move p s))) refl
        where
          b : Bus
          b = bus_of (pass_tape n p s) log start

          on_tape_of : List ℕ → Reached S (Ran A)
          on_tape_of t =
              let b = bus_of (and_fault t) log start in
              let r = on_device move p s in
              reached (record { answer = r.answer; bus = moved (tape_of move p s) (log_of move p s) b }) r.device

          by : (more : Bool) → leb (suc n) (length (made_on move p s)) ≡ more → PassAt n log (on_tape p b)
          by true e =
              let more = leb-true (suc n) (length (made_on move p s)) e in
              let fits : 0 + length (pass_log n p s) ≤ length log = omega (arith, pass_within n p s) in
              let asked = pass_asks quits n s b more refl fits in
              let x = next n p s more in
              asks more x (rw (asked.bus, length-append) (omega arith)) (ap (λ (b : Bus). b.log) asked.bus)
              (rw (asked.bus, take_put log 0 (pass_log n p s) fits) (ends_in_is short n s x)) asked.off
          by false e =
              let all : length (made_on move p s) ≤ n = omega (arith, leb-false (suc n) (length (made_on move p s)) e) in
              let whole = all_answers n p s all in
              let on = (adequate move honest p s b (tape_field (fault [])) (ap and_fault whole) (omega arith)).ran in
              is_done (ap₂ reached on (at_end n p s all) ∙ ap on_tape_of whole)
              (omega (arith, ap (λ (r : Ran A). r.bus.at.tape) on, ap length whole))

      -- ---- where passes stand: n transfers are made
      module _ {O : Type 0} (given : Ran A → O) (used : O → Used) (faithful : (r : Ran A) → used (given r) ≡ used_by r)
          (log : List ℕ) (room : length (log_of move p s) ≤ length log) where
        data At : ℕ → S → List ℕ → List ℕ → Type 0 where
          at : (n : ℕ) {log' : List ℕ} → n ≤ length (made_on move p s) → length (log_of move p s) ≤ length log'
              → ended move p log' s ≡ ended move p log s → At n (device_at n p s) (answers_of n p s) log'

        ended_over : (n : ℕ) (log' : List ℕ) → length (log_of move p s) ≤ length log'
            → ended move p (put log' 0 (pass_log n p s)) s ≡ ended move p log' s
        unfolding moved
        ended_over n log' fits =
            rw (put_over log' 0 (pass_log n p s) (omega (arith, pass_within n p s)) (log_of move p s) (pass_within n p s))

        seen : (answers log' : List ℕ) {o : O} → o ≡ pass p given answers log'
            → used o ≡ used_by (on_tape p (bus_of (and_fault answers) log' start))
        seen answers log' is = ap used is ∙ faithful (on_tape p (bus_of (and_fault answers) log' start))

        onward : {n : ℕ} {s' : S} {answers log' : List ℕ} → At n s' answers log' → (o : O) → o ≡ pass p given answers log'
            → CameToFault used answers o → (t : Transfer) → wants_next used o ≡ some t
            → At (suc n) (move s' t).device (answers ++ tape_field (move s' t).answer) (used o).bytes
        onward (at n {log'} few fits same) o is past t wants = by (pass_at n log' fits)
          where
            used_is : used o ≡ used_by (on_tape p (bus_of (pass_tape n p s) log' start))
            used_is = seen (answers_of n p s) log' is

            by : PassAt n log' (on_tape p (bus_of (pass_tape n p s) log' start))
                → At (suc n) (move (device_at n p s) t).device (answers_of n p s ++ tape_field (move (device_at n p s) t).answer) (used o).bytes
            by (asks more x further bytes next off) =
                let L = pass_log n p s in
                let size = length_put log' 0 L (omega (arith, pass_within n p s)) in
                let fits' : length (log_of move p s) ≤ length (put log' 0 L) = omega (arith, size) in
                let it : t ≡ x.transfer =
                some-injective _ _ (sym wants ∙ ap (λ (u : Used). ends_in (take u.log u.bytes)) used_is ∙ next) in
                let log_is : (used o).bytes ≡ put log' 0 L = ap (λ (u : Used). u.bytes) used_is ∙ bytes in
                rw (it, sym x.device, sym x.answers, log_is)
                (at (suc n) more fits' (ended_over n log' fits ∙ same))
            by (is_done e within) = absurd (omega (arith, past, ap (λ (u : Used). u.tape) used_is, within))

        stands : {n : ℕ} {s' : S} {answers log' : List ℕ} → Passes move p given used s log n s' answers log' → At n s' answers log'
        unfolding device_at answers_of
        stands none_yet = at 0 (omega arith) room refl
        stands (one_more passes o is past t wants) = onward (stands passes) o is past t wants

        -- ---- the pass after them
        module _ (Left : O → Type 0) (leaves : (r : Ran A) → Off r.answer → Left (given r)) (most : ℕ)
            (enough : length (made_on move p s) < most) where
          next_pass : {n : ℕ} {s' : S} {answers log' : List ℕ} → At n s' answers log' → (o : O) → o ≡ pass p given answers log'
              → Goes move p given used Left most s log n s' answers o
          next_pass (at n {log'} few fits same) o is = by (pass_at n log' fits)
            where
              used_is : used o ≡ used_by (on_tape p (bus_of (pass_tape n p s) log' start))
              used_is = seen (answers_of n p s) log' is

              by : PassAt n log' (on_tape p (bus_of (pass_tape n p s) log' start))
                  → Goes move p given used Left most s log n (device_at n p s) (answers_of n p s) o
              by (asks more x further bytes next off) = record {
                few = omega (arith, few, enough);
                goes_on = λ past. record {
                  transfer = x.transfer;
                  wants = ap (λ (u : Used). ends_in (take u.log u.bytes)) used_is ∙ next;
                  off = subst Left (sym is) (leaves _ off);
                };
                ends = λ within. absurd (omega (arith, within, ap (λ (u : Used). u.tape) used_is, further));
              }
              by (is_done e within) = record {
                few = omega (arith, few, enough);
                goes_on = λ past. absurd (omega (arith, past, ap (λ (u : Used). u.tape) used_is, within));
                ends = λ h. (
                  is ∙ ap given (ap (λ (x : Reached S (Ran A)). x.answer) (e ∙ same)),
                  ap (λ (x : Reached S (Ran A)). x.device) (e ∙ same),
                );
              }

          -- on every device whose answers fit, with room in the log
          pub live : {n : ℕ} {s' : S} {answers log' : List ℕ} → Passes move p given used s log n s' answers log'
              → (o : O) → o ≡ pass p given answers log' → Goes move p given used Left most s log n s' answers o
          live passes = next_pass (stands passes)
