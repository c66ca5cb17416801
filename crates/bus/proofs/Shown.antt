-- What a run shows is what it did: the bytes that it added to the log, and the tape from where it began, read back as the transfers that it
-- made, in order, with their outcomes.
-- Assumes nothing.
use mathlib.Core.Path.{◌≡◌, refl, ap, subst, ◌∙◌}
use mathlib.Core.Logic.{◌⊎◌, inl, inr, ⊎_elim}
use mathlib.Core.Bool.{Bool, true, false, false≢true}
use mathlib.Core.List.{List, [], ◌∷◌, ◌++◌, map, append_assoc, append-nil}
use mathlib.Core.Option
use mathlib.Core.Option.{some}
use Prim.Native.Nat.{ℕ, ◌+◌, ◌≤◌}
use native.Mathlib.Omega.{arith}
use lib.ListN.{length, take, drop, drop_of_length-le, length-take}
use lib.Seq.{drop_at, drop-drop, length-take-le}
use Rattle.refusals.specs.Refusal.{no}
use Rattle.bus.specs.Transfers.{Transfer, Outcome, done, fault, stopped, Bus, tape_field, wanted, says}
use Rattle.bus.specs.Transfers.{moved, after, outcome}
use Rattle.bus.specs.Programs.{Prog, ret, ask, on_tape}
use Rattle.bus.specs.Decoders.{transfers_in}
use Rattle.bus.specs.Shown.{Made, with_tape, made_between, registers_read, registers_written, logged}
use Rattle.bus.proofs.Order.{by_room}
use Rattle.bus.proofs.Framed.{made, history, Framed, framed, log_now}
use Rattle.bus.proofs.Decoders.{AllShort, transfers_logged}

-- what was made is what the tape said
abbrev Said : Transfer → Bus → Outcome → Type 0
Said t b o = (says (wanted t) (drop b.at.tape b.tape) ≡ o) ⊎ (o ≡ stopped (no 17 []))

said : (t : Transfer) (b : Bus) → Said t b (outcome t b)
said t b = by_room t b (Said t b) (λ e. inl refl) (inr refl)

abbrev is_stopped : Outcome → Bool
is_stopped (done bytes) = false
is_stopped (fault bytes) = false
is_stopped (stopped r) = true

abbrev transfers : List Made → List Transfer
transfers h = map (λ m. m.0) h

module _ (t : Transfer) (b : Bus) (h : List Made) where
  one_more : (o : Outcome) → says (wanted t) (drop b.at.tape b.tape) ≡ o
      → with_tape (transfers h) (drop (b.at.tape + length (tape_field o)) b.tape) ≡ h
      → with_tape (t ∷ transfers h) (drop b.at.tape b.tape) ≡ (t, o) ∷ h
  unfolding with_tape
  one_more o e q =
      rw e (ap (λ (l : List Made). (t, o) ∷ l)
      (ap (with_tape (transfers h)) (drop-drop (length (tape_field o)) b.at.tape b.tape) ∙ q))

  one_shown : (o : Outcome) → outcome t b ≡ o
      → with_tape (transfers h) (drop (after t o b).at.tape (after t o b).tape) ≡ h
      → with_tape (transfers (made t o h)) (drop b.at.tape b.tape) ≡ made t o h
  unfolding made after moved
  one_shown (done bytes) e q =
      ⊎_elim (λ (s : says (wanted t) (drop b.at.tape b.tape) ≡ done bytes). one_more (done bytes) s q)
      (λ (s : done bytes ≡ stopped (no 17 [])). absurd (false≢true (ap is_stopped s))) (subst (Said t b) e (said t b))
  one_shown (fault bytes) e q =
      ⊎_elim (λ (s : says (wanted t) (drop b.at.tape b.tape) ≡ fault bytes). one_more (fault bytes) s q)
      (λ (s : fault bytes ≡ stopped (no 17 [])). absurd (false≢true (ap is_stopped s))) (subst (Said t b) e (said t b))
  one_shown (stopped r) e q = q

with_tape_lem : {A : Type 0} (p : Prog A) (b : Bus)
    → with_tape (transfers (history p b)) (drop b.at.tape b.tape) ≡ history p b
unfolding with_tape history
with_tape_lem (ret a) b = refl
with_tape_lem (ask t k) b = one_shown t b _ (outcome t b) refl (with_tape_lem (k (outcome t b)) (after t (outcome t b) b))

-- the bytes that were added to the log
added : {b b' : Bus} {h : List Made} → Framed b b' h → drop b.at.log (take b'.at.log b'.log) ≡ logged h
unfolding logged
added {b} {b'} {h} f =
    let n = b.at.log in
    let front : length (take n b.log) ≤ n = omega (arith, length-take n b.log) in
    ap (drop n) (log_now f)
    ∙ ⊎_elim
    (λ (e : h ≡ []). rw (e, append-nil) (drop_of_length-le (take n b.log) front))
    (λ (r : n + length (logged h) ≤ length b.log).
    drop_at (take n b.log) (logged h) n (length-take-le n b.log (omega arith)))
    f.room

pub shown_made : {A : Type 0} (p : Prog A) (b : Bus) → AllShort (history p b)
    → made_between b.tape (on_tape p b).bus.log b.at (on_tape p b).bus.at ≡ some (history p b)
unfolding made_between
shown_made p b short =
    let h = history p b in
    let on-log : transfers_in (length (logged h)) (logged h) ≡ some (transfers h) = transfers_logged h _ short (omega arith) in
    let tape = drop b.at.tape b.tape in
    ap (λ (l : List ℕ). Option.map (λ (ts : List Transfer). with_tape ts tape) (transfers_in (length l) l)) (added (framed p b))
    ∙ ap (Option.map (λ (ts : List Transfer). with_tape ts tape)) on-log
    ∙ ap some (with_tape_lem p b)

-- ---- of one part and then another
module _ (check : Bool) where
  pub reads_append : (h g : List Made) → registers_read check (h ++ g) ≡ registers_read check h ++ registers_read check g
  unfolding registers_read
  reads_append [] g = refl
  reads_append (m ∷ h) g = rw (reads_append h g, append_assoc)

  pub writes_append : (h g : List Made) → registers_written check (h ++ g) ≡ registers_written check h ++ registers_written check g
  unfolding registers_written
  writes_append [] g = refl
  writes_append (m ∷ h) g = rw (writes_append h g, append_assoc)
