-- What every program leaves on every tape and log: the tape as it was, in the log one field for each transfer made, in
-- order and one behind the other, every other byte of the log as it was, and both positions moved past the fields.
-- Assumes nothing.
use mathlib.Core.Path.{◌≡◌, refl, sym, ◌∙◌}
use mathlib.Core.Logic.{◌⊎◌, inl, inr, ⊎_elim}
use mathlib.Core.List.{List, [], ◌∷◌, ◌++◌, append-nil}
use Prim.Native.Nat.{ℕ, ◌+◌, ◌≤◌}
use native.Mathlib.Nat.{add-zero, add_assoc}
use native.Mathlib.Omega.{arith}
use lib.ListN.{length, take, drop, length-append}
use borrow.Author.Tests.{leb-true}
use Rattle.frames.specs.Put.{put}
use Rattle.frames.proofs.Put.{put_none, length_put, put_put, take_before, take_put, drop_put}
use Rattle.bus.specs.Transfers.{Transfer, Outcome, done, fault, stopped, Bus}
use Rattle.bus.specs.Transfers.{log_field, tape_field, moved, after, outcome}
use Rattle.bus.specs.Programs.{Prog, ret, ask, Ran, on_tape}
use Rattle.bus.specs.Shown.{Made, logged, tape_fields}
use Rattle.bus.proofs.Order.{by_room}

-- a stopped transfer was not made
unfoldable pub made : Transfer → Outcome → List Made → List Made
made t (done bytes) h = (t, done bytes) ∷ h
made t (fault bytes) h = (t, fault bytes) ∷ h
made t (stopped r) h = h

-- the transfers that the program makes on this bus, in order
unfoldable pub history : {A : Type 0} → Prog A → Bus → List Made
history (ret a) b = []
history (ask t k) b = made t (outcome t b) (history (k (outcome t b)) (after t (outcome t b) b))

-- the log has room for these bytes
abbrev pub Room : Bus → List ℕ → Type 0
Room b bytes = b.at.log + length bytes ≤ length b.log

-- from b to b' by the transfers h and by nothing else
pub record Framed (b b' : Bus) (h : List Made) : Type 0 where
  pub tape : b'.tape ≡ b.tape
  pub log : b'.log ≡ put b.log b.at.log (logged h)
  pub tape_used_is : b'.at.tape ≡ b.at.tape + length (tape_fields h)
  pub log_used_is : b'.at.log ≡ b.at.log + length (logged h)
  -- nothing is logged past the log's end; a position past it may stay there
  pub room : (h ≡ []) ⊎ Room b (logged h)

-- ---- one transfer

-- it was made
abbrev Delivered : Outcome → Type 0
Delivered (done bytes) = Unit
Delivered (fault bytes) = Unit
Delivered (stopped r) = ⊥

-- so there was room for its field
room_made : (t : Transfer) (b : Bus) → Delivered (outcome t b) → Room b (log_field t)
room_made t b = by_room t b (λ o. Delivered o → Room b (log_field t)) (λ e d. leb-true _ _ e) (λ d. absurd d)

framed_none : (b : Bus) → Framed b b []
unfolding logged tape_fields
framed_none b = record {
  tape = refl;
  log = sym (put_none b.log b.at.log);
  tape_used_is = sym (add-zero _);
  log_used_is = sym (add-zero _);
  room = inl refl;
}

-- room for the first field, and then for the others
room_more : (n m : ℕ) (h : List Made) → n ≤ m → (h ≡ []) ⊎ (n + length (logged h) ≤ m) → n + length (logged h) ≤ m
unfolding logged
room_more n m h r (inl e) = rw e (omega arith)
room_more n m h r (inr q) = q

module _ (t : Transfer) (b b' : Bus) (h : List Made) where
  framed_made : (o : Outcome) → Room b (log_field t) → Framed (moved (tape_field o) (log_field t) b) b' h
      → Framed b b' ((t, o) ∷ h)
  unfolding logged tape_fields moved
  framed_made o r f =
      let q = room_more _ _ h (rw (length_put b.log b.at.log (log_field t) r) r) f.room in
      record {
        tape = f.tape;
        log = f.log ∙ put_put b.log b.at.log (log_field t) r (logged h);
        tape_used_is = f.tape_used_is ∙ rw (length-append, add_assoc);
        log_used_is = f.log_used_is ∙ rw (length-append, add_assoc);
        room = inr (rw (length-append, ← add_assoc) (rw (length_put b.log b.at.log (log_field t) r) at q));
      }

  framed_step : (o : Outcome) → (Delivered o → Room b (log_field t)) → Framed (after t o b) b' h
      → Framed b b' (made t o h)
  unfolding after made
  framed_step (done bytes) r f = framed_made (done bytes) (r tt) f
  framed_step (fault bytes) r f = framed_made (fault bytes) (r tt) f
  framed_step (stopped n) r f = f

-- ---- every program
pub framed : {A : Type 0} (p : Prog A) (b : Bus) → Framed b (on_tape p b).bus (history p b)
unfolding on_tape history
framed (ret a) b = framed_none b
framed (ask t k) b =
    framed_step t b _ _ (outcome t b) (room_made t b) (framed (k (outcome t b)) (after t (outcome t b) b))

-- ---- so of the log

module _ {b b' : Bus} {h : List Made} (f : Framed b b' h) where
  -- no transfer was made, or there was room for all
  either : (P : List ℕ → Type 0) → (h ≡ [] → P b.log)
      → (Room b (logged h) → P (put b.log b.at.log (logged h))) → P b'.log
  unfolding logged
  either P p q = rw f.log (⊎_elim (λ (e : h ≡ []). rw (e, put_none) (p e)) q f.room)

  pub log_size : length b'.log ≡ length b.log
  log_size = either (λ l. length l ≡ length b.log) (λ e. refl) (length_put _ _ _)

  -- what was logged before stays
  pub log_before : take b.at.log b'.log ≡ take b.at.log b.log
  log_before = either (λ l. take b.at.log l ≡ take b.at.log b.log) (λ e. refl) (take_before _ _ _)

  -- the fields follow it
  pub log_now : take b'.at.log b'.log ≡ take b.at.log b.log ++ logged h
  unfolding logged
  log_now =
      rw f.log_used_is
      (either (λ l. take (b.at.log + length (logged h)) l ≡ take b.at.log b.log ++ logged h)
      (λ e. rw (e, add-zero, append-nil)) (take_put _ _ _))

  -- and behind them nothing changes
  pub log_after : drop b'.at.log b'.log ≡ drop b'.at.log b.log
  log_after =
      let end = b.at.log + length (logged h) in
      rw f.log_used_is
      (either (λ l. drop end l ≡ drop end b.log)
      (λ e. refl) (λ r. rw (add-zero end) at (drop_put b.log b.at.log (logged h) r 0)))

-- ---- a run is determined by program, tape, log and positions: no clock, no chance, nothing kept elsewhere

pub record Same {A : Type 0} (x y : Ran A) : Type 0 where
  pub answer : x.answer ≡ y.answer
  pub tape : x.bus.tape ≡ y.bus.tape
  pub log : x.bus.log ≡ y.bus.log
  pub tape_used_is : x.bus.at.tape ≡ y.bus.at.tape
  pub log_used_is : x.bus.at.log ≡ y.bus.at.log

pub determined : {A : Type 0} (p : Prog A) (b : Bus) (x y : Ran A) → x ≡ on_tape p b → y ≡ on_tape p b → Same x y
determined p b x y e e' = record { answer = cc; tape = cc; log = cc; tape_used_is = cc; log_used_is = cc }
