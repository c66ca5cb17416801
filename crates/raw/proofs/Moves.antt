-- A transfer that was made, or not, from what the tape said to it: its outcome, and tape and log after it.
-- Assumes nothing.
use mathlib.Core.Path.{◌≡◌, refl, sym, ap, subst, ◌∙◌}
use mathlib.Core.Bool.{Bool, true, false}
use Prim.Native.Nat.{ℕ, suc, ◌+◌, ◌-◌, ◌≤◌}
use mathlib.Core.List.{List, []}
use native.Mathlib.Omega.{arith}
use Rattle.std.specs.Prelude.{Ok, Err}
use lib.ListN.{length, take, drop, length-drop}
use lib.Seq.{drop-drop, length-take-le}
use lib.Dec.{T, leb}
use borrow.Author.Tests.{leb-true, le-leb}
use Rattle.refusals.specs.Refusal.{Refusal, no, as_refusal}
use Rattle.refusals.specs.declared.Error.{Error}
use Rattle.frames.specs.Put.{put}
use Rattle.frames.proofs.Put.{length_put, take_front}
use Rattle.laws.specs.Choice.{when◌then◌else◌}
use Rattle.fields.specs.Fields.{field}
use Rattle.bus.specs.Transfers.{Transfer, read, write, Outcome, stopped, Bus, bus_of}
use Rattle.bus.specs.Transfers.{log_field, tape_field, wanted, moved, after, says, answered, outcome}
use Rattle.raw.specs.Inside.{Reply, made, whole, ended_as, outcome_of, Few, Heard, buffer_after, WentBy, ReadBy, WrittenBy}
use Rattle.raw.proofs.Heard.{few}

-- what a reply says that the transfer was made with
faulted : Reply → Bool
faulted (Ok m) = m.fault
faulted (Err e) = true

count_of : Reply → ℕ
count_of (Ok m) = m.len
count_of (Err e) = 0

-- what was delivered was not stopped
not_stopped : {X : Type 0} (f : Bool) (v : List ℕ) (r : Refusal) → ended_as f v ≡ stopped r → X
not_stopped true v r e = let z : ◌≡◌ {A = ℕ} 0 1 = cc in absurd (omega arith)
not_stopped false v r e = let z : ◌≡◌ {A = ℕ} 0 1 = cc in absurd (omega arith)

room_if : (f : Bool) (v : List ℕ) (o : Outcome) (p q : ℕ) (c : Bool) → leb p q ≡ c
    → ended_as f v ≡ (when c then o else stopped (no 17 [])) → p ≤ q
room_if f v o p q true e h = leb-true p q e
room_if f v o p q false e h = not_stopped f v (no 17 []) h

stored_made : (buf v : List ℕ) (f : Bool) → buffer_after buf (ended_as f v) ≡ put buf 0 v
stored_made buf v true = refl
stored_made buf v false = refl

-- a reply that says what becomes of this transfer on this bus
abbrev pub Replied : Transfer → Bus → Reply → Type 0
Replied t b r = Heard (wanted t) (drop b.at.tape b.tape) (outcome t b) r

-- so where the log has room and the tape says that all was done
pub well : (t : Transfer) (b : Bus) → b.at.log + length (log_field t) ≤ length b.log
    → Heard (wanted t) (drop b.at.tape b.tape) (says (wanted t) (drop b.at.tape b.tape)) (whole (wanted t))
    → Replied t b (whole (wanted t))
unfolding outcome answered
well t b room done = rw (le-leb _ _ room) done

module _ (t : Transfer) (b : Bus) where
  abbrev from : ℕ
  from = b.at.tape

  abbrev used : ℕ
  used = b.at.log

  -- ---- not made: tape, log and buffer as they were
  module _ (e : Error) (h : Replied t b (Err e)) where
    went_stopped : WentBy t (stopped (as_refusal e)) b b
    unfolding after
    went_stopped = record { went = h.said; next = ap (λ (o : Outcome). after t o b) h.said }

    pub read_stopped : (buf : List ℕ) → ReadBy t buf (Err e) buf b b
    read_stopped buf = record {
      moved = went_stopped;
      stored = ap (buffer_after buf) h.said;
      all = λ k q. let z : ◌≡◌ {A = ℕ} 0 1 = cc in absurd (omega arith);
    }

    pub written_stopped : WrittenBy t (Err e) b b
    written_stopped = went_stopped

  module _ (f : Bool) (n : ℕ) (h : Replied t b (made f n)) where
    -- the bytes delivered
    abbrev bytes : List ℕ
    bytes = take n (drop (from + 3) b.tape)

    pub room : used + length (log_field t) ≤ length b.log
    unfolding outcome answered
    room = room_if f (take n (drop 3 (drop from b.tape))) _ _ _ _ refl h.said

    pub there : 3 + n ≤ length b.tape - from
    there = rw length-drop at h.within.1

    is_bytes : take n (drop 3 (drop from b.tape)) ≡ bytes
    is_bytes = ap (take n) (drop-drop 3 from b.tape)

    pub at_most : n ≤ wanted t
    at_most = few (wanted t) f n h.within.0

    pub length_bytes : length bytes ≡ n
    length_bytes = length-take-le n (drop (from + 3) b.tape) (simp length-drop (omega (arith, there)))

    three : from + suc (suc (suc n)) ≡ from + 3 + n
    three = omega arith

    outcome_is : outcome t b ≡ ended_as f bytes
    outcome_is = sym h.said ∙ ap (ended_as f) is_bytes

    -- tape and log after it
    bus_after : (g : Bool)
        → bus_of b.tape (put b.log used (log_field t))
        (record { tape = from + 3 + n; log = used + length (log_field t) })
        ≡ after t (ended_as g bytes) b
    unfolding after moved tape_field field
    bus_after true = rw (length_bytes, three)
    bus_after false = rw (length_bytes, three)

    -- ---- made: whatever holds the bytes delivered in front, with the field in the log
    module _ (log : List ℕ) (end size : ℕ) (logged : log ≡ put b.log used (log_field t)) (is : size ≡ length (log_field t))
        (far : end ≡ used + size) where
      abbrev next : Bus
      next = bus_of b.tape log (record { tape = from + 3 + n; log = end })

      went_made : (held : List ℕ) → take n held ≡ bytes → WentBy t (outcome_of (made f n) held) b next
      went_made held e = record {
        went = ap (ended_as f) e ∙ sym outcome_is;
        next = rw (logged, far, is) (bus_after f ∙ ap (λ (o : Outcome). after t o b) (sym outcome_is));
      }

      front : (buf : List ℕ) → n ≤ length buf → take n (put buf 0 bytes) ≡ bytes
      front buf few =
          ap (λ (k : ℕ). take k (put buf 0 bytes)) (sym length_bytes) ∙ take_front buf bytes (omega (arith, length_bytes))

      none : wanted t ≡ 0 → take n [] ≡ bytes
      none w =
          let zero : n ≡ 0 = omega (arith, at_most) in
          rw zero

      exact : (count k : ℕ) → wanted t ≡ count → made f n ≡ whole k → k ≡ count
      unfolding faulted count_of
      exact count k w e = sym (ap count_of e) ∙ by_fault f h.within.0 (ap faulted e) ∙ w
        where
          by_fault : (g : Bool) → Few g n (wanted t) → g ≡ false → n ≡ wanted t
          by_fault true i q = absurd (subst T q tt)
          by_fault false i q = i

      pub read_by : (buf buf' : List ℕ) → wanted t ≡ length buf → buf' ≡ put buf 0 bytes
          → ReadBy t buf (made f n) buf' b next
      read_by buf buf' w e = record {
        moved = went_made buf' (ap (take n) e ∙ front buf (omega (arith, w, at_most)));
        stored = e ∙ sym (ap (buffer_after buf) outcome_is ∙ stored_made buf bytes f);
        all = λ k q. exact (length buf) k w q;
      }

      pub written_by : wanted t ≡ 0 → WrittenBy t (made f n) b next
      written_by w = went_made [] (none w)

-- ---- a write that was done, and what is asked next
module _ (address : ℕ) (frame : List ℕ) where
  -- what is needed is the length of the field
  pub need : 4 + length frame ≡ length (log_field (write address frame))
  unfolding log_field field
  need = omega arith

  -- and the log has room for it
  pub has_room : (b : Bus) → Heard 0 (drop b.at.tape b.tape) (outcome (write address frame) b) (whole 0) → b.at.log + (4 + length frame) ≤ length b.log
  unfolding wanted
  has_room b h = omega (arith, need, room (write address frame) b _ _ h)

  module _ (b b' : Bus) (by : WrittenBy (write address frame) (whole 0) b b') where
    next_is : b' ≡ bus_of b.tape (put b.log b.at.log (log_field (write address frame)))
        (record { tape = b.at.tape + 3; log = b.at.log + length (log_field (write address frame)) })
    unfolding after moved tape_field field
    next_is = by.next ∙ ap (λ (o : Outcome). after (write address frame) o b) (sym by.went)

    pub read_next : (reg count : ℕ) → b.at.log + (4 + length frame + 7) ≤ length b.log
        → Heard count (drop (b.at.tape + 3) b.tape) (says count (drop (b.at.tape + 3) b.tape)) (whole count)
        → Replied (read address reg count) b' (whole count)
    unfolding wanted log_field field
    read_next reg count room h =
        let fits = length_put b.log b.at.log (log_field (write address frame)) (omega (arith, need)) in
        subst (λ (x : Bus). Replied (read address reg count) x (whole count)) (sym next_is)
        (well (read address reg count) _ (omega (arith, need, fits)) h)
