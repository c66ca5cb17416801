-- Adequacy: on the tape that a device's answers make, whatever stands before and behind it, and given room in the log, a program does
-- what it does on the device. The log then has the fields of the transfers made, and both positions have moved past the fields.
-- Assumes nothing.
use mathlib.Core.Path.{◌≡◌, refl, sym, ap, ◌∙◌}
use mathlib.Core.List.{List, [], ◌∷◌, ◌++◌, append_assoc}
use Prim.Native.Nat.{ℕ, ◌+◌, ◌≤◌}
use native.Mathlib.Nat.{add-zero, add_assoc}
use native.Mathlib.Omega.{arith}
use lib.ListN.{length, drop, length-append}
use lib.Seq.{drop_at, drop-drop}
use borrow.Author.Tests.{le-leb}
use Rattle.frames.proofs.Put.{put_none, put_put, length_put}
use Rattle.bus.specs.Transfers.{Transfer, Outcome, done, fault, stopped, log_field, tape_field, wanted}
use Rattle.bus.specs.Transfers.{says, Bus, moved, after, answered, outcome}
use Rattle.bus.specs.Programs.{Prog, ret, ask, on_tape}
use Rattle.bus.specs.Decoders.{Fitting}
use Rattle.bus.proofs.Decoders.{says_tape}
use Rattle.bus.specs.Shown.{Made}
use Rattle.bus.proofs.Framed.{made, history, Room}
use Rattle.chip.specs.Devices.{Reached, on_device, made_on, log_of, tape_of}

-- ---- what is moved
moved_none : (b : Bus) → moved [] [] b ≡ b
unfolding moved
moved_none b = rw (put_none b.log b.at.log, add-zero, add-zero)

pub moved_moved : (t u l m : List ℕ) (b : Bus) → Room b l → moved u m (moved t l b) ≡ moved (t ++ u) (l ++ m) b
unfolding moved
moved_moved t u l m b room = rw (put_put b.log b.at.log l room m, length-append, length-append, add_assoc, add_assoc)

pub room_first : (l m : List ℕ) (b : Bus) → Room b (l ++ m) → Room b l
room_first l m b room = let all : b.at.log + (length l + length m) ≤ length b.log = rw length-append at room in omega arith

module _ (v l : List ℕ) (b : Bus) where
  pub rest_moved : (rest : List ℕ) → drop b.at.tape b.tape ≡ v ++ rest
      → drop (moved v l b).at.tape (moved v l b).tape ≡ rest
  unfolding moved
  rest_moved rest h =
      sym (drop-drop (length v) b.at.tape b.tape)
      ∙ ap (drop (length v)) h
      ∙ drop_at v rest (length v) refl

  pub room_moved : (m : List ℕ) → Room b (l ++ m) → Room (moved v l b) m
  unfolding moved
  room_moved m room =
      let all : b.at.log + (length l + length m) ≤ length b.log = rw length-append at room in
      rw (length_put b.log b.at.log l (room_first l m b room)) (omega arith)

-- ---- one transfer
module _ (t : Transfer) (b : Bus) (rest : List ℕ) (room : Room b (log_field t)) where
  pub outcome_fits : (o : Outcome) → Fitting (wanted t) o → drop b.at.tape b.tape ≡ tape_field o ++ rest
      → outcome t b ≡ o
  unfolding outcome answered
  outcome_fits o f h = rw (le-leb _ _ room) (ap (says (wanted t)) h ∙ says_tape (wanted t) o rest f)

  pub after_fits : (o : Outcome) → Fitting (wanted t) o → after t o b ≡ moved (tape_field o) (log_field t) b
  unfolding after
  after_fits (done bytes) f = refl
  after_fits (fault bytes) f = refl
  after_fits (stopped r) f = absurd f

made_fits : (t : Transfer) (o : Outcome) → Fitting (wanted t) o → (h : List Made) → made t o h ≡ (t, o) ∷ h
unfolding made
made_fits t (done bytes) f h = refl
made_fits t (fault bytes) f h = refl
made_fits t (stopped r) f h = absurd f

-- ---- every program, on every device whose answers fit the transfers
module _ {S : Type 0} (move : S → Transfer → Reached S Outcome) where
  -- on tape and log as on the device: the same answer, tape and log moved by the fields, and the same transfers made with the same
  -- outcomes
  pub record AsOn {A : Type 0} (p : Prog A) (s : S) (b : Bus) : Type 0 where
    pub ran : on_tape p b ≡ record { answer = (on_device move p s).answer; bus = moved (tape_of move p s) (log_of move p s) b }
    pub made : history p b ≡ made_on move p s

  pub adequate : ((s : S) (t : Transfer) → Fitting (wanted t) (move s t).answer)
      → {A : Type 0} (p : Prog A) (s : S) (b : Bus) (rest : List ℕ)
      → drop b.at.tape b.tape ≡ tape_of move p s ++ rest
      → Room b (log_of move p s)
      → AsOn p s b
  unfolding on_tape on_device history made_on tape_of log_of
  adequate honest (ret a) s b rest h room =
      record { ran = ap (λ (x : Bus). record { answer = a; bus = x }) (sym (moved_none b)); made = refl }
  adequate honest {A} (ask t k) s b rest h room =
      let o = (move s t).answer in
      let s' = (move s t).device in
      let T = tape_of move (k o) s' in
      let L = log_of move (k o) s' in
      let b' = moved (tape_field o) (log_field t) b in
      let here = room_first (log_field t) L b room in
      let e : drop b.at.tape b.tape ≡ tape_field o ++ (T ++ rest) = h ∙ append_assoc (tape_field o) T rest in
      let is = outcome_fits t b (T ++ rest) here o (honest s t) e in
      let then = after_fits t b rest here o (honest s t) in
      let left = rest_moved (tape_field o) (log_field t) b (T ++ rest) e in
      let more = adequate honest (k o) s' b' rest left (room_moved (tape_field o) (log_field t) b L room) in
      record {
        ran =
            ap (λ (x : Outcome). on_tape (k x) (after t x b)) is
            ∙ ap (on_tape (k o)) then
            ∙ more.ran
            ∙ ap (λ (x : Bus). record { answer = (on_device move (k o) s').answer; bus = x })
            (moved_moved (tape_field o) T (log_field t) L b here);
        made =
            ap (λ (x : Outcome). made t x (history (k x) (after t x b))) is
            ∙ ap (λ (x : Bus). made t o (history (k o) x)) then
            ∙ ap (made t o) more.made
            ∙ made_fits t o (honest s t) (made_on move (k o) s');
      }
