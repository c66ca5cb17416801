-- What a read and a write of some registers show, whatever they are answered: an accepted read is one transfer, whose outcome is exactly the frame
-- of the bytes returned, and an accepted write shows these bytes and no other write; neither is refused with a plan's number.
-- Assumes nothing.
use mathlib.Core.Path.{◌≡◌, refl, sym, ap, subst, ◌∙◌}
use mathlib.Core.Logic.{◌⊎◌, inl, inr}
use mathlib.Core.Bool.{Bool, true, false, not, ◌&&◌, ◌||◌, and-eq-true_iff}
use mathlib.Core.List.{List, [], ◌∷◌, ◌++◌, append-nil}
use Prim.Native.Nat.{ℕ, suc, ◌+◌, ◌*◌, ◌≤◌}
use native.Mathlib.Omega.{arith}
use lib.Dec.{eqb, leb, ltb}
use lib.IntN.{pos}
use lib.ListN.{length, replicate, length-replicate}
use borrow.Author.Tests.{eq-eqb, eqb-true, leb-true, le-leb, lt-leb, not-true}
use Rattle.laws.specs.Choice.{when◌then◌else◌}
use Rattle.refusals.specs.Refusal.{Refusal, Answer, value, refused, refusal_in, answering, no}
use Rattle.refusals.proofs.Values.{refused_not}
use Rattle.frames.specs.Frames.{write_byte, read_byte, right, data_of, framed, read_frame, write_frame}
use Rattle.frames.specs.Put.{put}
use Rattle.frames.proofs.Checked.{right_checked, data_checked}
use Rattle.frames.proofs.Frames.{length_read_frame}
use Rattle.frames.proofs.Put.{put_all}
use Rattle.bus.specs.Transfers.{Transfer, write, read, wanted, Outcome, done, fault, stopped}
use Rattle.bus.specs.Programs.{Prog, ret, ask}
use Rattle.bus.specs.Raw.{Done, sound, refuses, Read, gives, plainly, received, where_right, checkedly}
use Rattle.bus.specs.Raw.{plain_read, ask_frame, checked_read, read_raw, read_bytes}
use Rattle.bus.specs.Raw.{wrote, ask_write, send, compared, verified, ask_back, write_raw}
use Rattle.bus.specs.Shown.{Made, Access, access, data_in, got_by, sent_by, registers_read, registers_written, first_of}
use Rattle.bus.specs.declared.link.Link.{Link}
use Rattle.bus.proofs.Framed.{made}
use Rattle.bus.proofs.Reading.{on_bus, read_by, only_frame}
use Rattle.bus.proofs.Shown.{reads_append, writes_append}
use Rattle.bus.proofs.Sized.{Sized}
use Rattle.bus.proofs.Throughout.{throughout, throughout_bind, throughout_call, throughout_if}

-- the numbers that transfers are refused with are none of a plan's, 6, 7 and 8, and none over 21
abbrev pub OfBus : Refusal → Type 0
OfBus r = not (leb 6 r.number && leb r.number 8) && leb r.number 21 ≡ true

pub not_planned : (r : Refusal) → OfBus r → leb 6 r.number && leb r.number 8 ≡ false
not_planned r e = not-true (leb 6 r.number && leb r.number 8) ((and-eq-true_iff _ (leb r.number 21)).0 e).0

pub up_to_21 : (r : Refusal) → OfBus r → r.number ≤ 21
up_to_21 r e = leb-true r.number 21 ((and-eq-true_iff (not (leb 6 r.number && leb r.number 8)) _).0 e).1

same_refusal : {A : Type 0} {r x : Refusal} → ◌≡◌ {A = Answer A} (refused r) (refused x) → r ≡ x
same_refusal {A} e = ap (refusal_in {A = A}) e

-- 15, 16 and 17
of_stop : (r : Refusal) → leb 15 r.number && leb r.number 17 ≡ true → OfBus r
of_stop r h =
    let n = r.number in
    let range = (and-eq-true_iff (leb 15 n) (leb n 17)).0 h in
    let low = leb-true 15 n range.0 in
    let high = leb-true n 17 range.1 in
    rw (le-leb 6 n (omega arith), lt-leb n 8 (omega arith), le-leb n 21 (omega arith))

-- ---- a read

-- it is refused ahead of its transfer, or is one transfer
data ReadForm (check : Bool) (address reg : ℕ) (buf : List ℕ) : Prog Read → Type 0 where
  turned : (n : ℕ) → OfBus (no n []) → ReadForm check address reg buf (ret (gives (refuses n) buf))
  goes : ReadForm check address reg buf
      (ask (read address reg (on_bus check (length buf))) (λ o. ret (read_by check address buf o)))

module _ (s : Link) (reg : ℕ) (buf : List ℕ) (some : 1 ≤ length buf) where
  abbrev Form : Bool → Prog Read → Type 0
  Form check p = ReadForm check s.address reg buf p

  form_if : (check t : Bool) (p q : Prog Read) → (t ≡ true → Form check p) → (t ≡ false → Form check q)
      → Form check (when t then p else q)
  form_if check true p q h k = h refl
  form_if check false p q h k = k refl

  by_check : (check : Bool) → Form check (when check then checked_read s reg buf else plain_read s reg buf)
  unfolding checked_read plain_read ask_frame
  by_check true =
      form_if true (ltb (2 * s.x) (length buf)) _ _ (λ e. turned 3 refl)
      (λ e. form_if true (eqb (length buf) 0) _ _ (λ e. absurd (omega (arith, eqb-true (length buf) 0 e)))
      (λ e. form_if true (ltb 256 (reg + length buf)) _ _ (λ e. turned 14 refl) (λ e. goes)))
  by_check false = form_if false (ltb 256 (reg + length buf)) _ _ (λ e. turned 14 refl) (λ e. goes)

  read_form : Form s.check (read_raw s reg buf)
  unfolding read_raw
  read_form = form_if s.check (not (sound s)) _ _ (λ e. turned 9 refl) (λ e. by_check s.check)

-- nothing was written, and nothing was read
pub record Silent (check : Bool) (h : List Made) : Type 0 where
  pub unwritten : registers_written check h ≡ []
  pub unread : (address reg : ℕ) → first_of address reg (registers_read check h) ≡ []

-- an accepted read of n registers
abbrev pub accepted : Bool → ℕ → ℕ → ℕ → List ℕ → Made
accepted check address reg n bytes = (read address reg (on_bus check n), done (read_frame check address bytes))

abbrev pub ReadSeen : Bool → ℕ → ℕ → ℕ → Answer (List ℕ) → List Made → Type 0
ReadSeen check address reg n (value bytes) h =
    (h ≡ accepted check address reg n bytes ∷ []) × (length bytes ≡ n)
ReadSeen check address reg n (refused r) h = Silent check h × OfBus r

nothing_made : (check : Bool) → Silent check []
unfolding registers_written registers_read
nothing_made check = record { unwritten = refl; unread = λ address reg. refl }

fault_made : (check : Bool) (address reg n : ℕ) (bytes : List ℕ) → Silent check ((read address reg n, fault bytes) ∷ [])
unfolding registers_written registers_read sent_by got_by
fault_made check address reg n bytes = record { unwritten = refl; unread = λ a r. refl }

either_none : (t : Bool) → ◌≡◌ {A = List ℕ} (when t then [] else []) []
either_none true = refl
either_none false = refl

wrong_made : (address reg n : ℕ) (bytes : List ℕ) → right (read_byte address ∷ []) bytes ≡ false
    → Silent true ((read address reg n, done bytes) ∷ [])
unfolding registers_written registers_read sent_by got_by data_in
wrong_made address reg n bytes e = record {
  unwritten = refl;
  unread = λ a r. rw e (either_none (eqb address a && eqb reg r));
}

module _ (address reg : ℕ) (buf : List ℕ) where
  abbrev asked : Bool → Transfer
  asked check = read address reg (on_bus check (length buf))

  -- an answer by a test, refused with one number or with another
  by_test : (a b : Refusal) (t : Bool) {r : Refusal} → OfBus a → OfBus b
      → (when t then gives (refused a) buf else gives (refused b) buf).answer ≡ refused r → OfBus r
  by_test a b true p q e = subst OfBus (same_refusal e) p
  by_test a b false p q e = subst OfBus (same_refusal e) q

  wrong_only : (bytes : List ℕ) (t : Bool) → right (read_byte address ∷ []) bytes ≡ t → {r : Refusal}
      → (when t then gives (value tt) (put buf 0 (data_of bytes)) else gives (refuses 1) buf).answer ≡ refused r
      → Silent true ((asked true, done bytes) ∷ []) × OfBus r
  wrong_only bytes true e q = refused_not (sym q)
  wrong_only bytes false e q = (wrong_made address reg _ bytes e, subst OfBus (same_refusal q) refl)

  quiet : (check : Bool) (o : Outcome) → Sized (on_bus check (length buf)) o → {r : Refusal}
      → (read_by check address buf o).answer ≡ refused r
      → Silent check (made (asked check) o []) × OfBus r
  unfolding checkedly plainly received where_right made
  quiet true (done bytes) h q =
      let all = put_all (replicate (2 * length buf) 0) bytes
      (omega (arith, length-replicate {A = ℕ} (2 * length buf) 0)) in
      wrong_only bytes (right (read_byte address ∷ []) bytes) refl (rw all at q)
  quiet true (fault bytes) h q =
      (fault_made true address reg _ bytes, by_test (no 2 []) (no 1 []) (right (read_byte address ∷ []) _) refl refl q)
  quiet true (stopped x) h q = (nothing_made true, subst OfBus (same_refusal q) (of_stop x h))
  quiet false (done bytes) h q = refused_not (sym q)
  quiet false (fault bytes) h q = (fault_made false address reg _ bytes, subst OfBus (same_refusal q) refl)
  quiet false (stopped x) h q = (nothing_made false, subst OfBus (same_refusal q) (of_stop x h))

  same_size : (check : Bool) (bytes : List ℕ) → length (read_frame check address bytes) ≡ on_bus check (length buf)
      → length bytes ≡ length buf
  same_size true bytes e = omega (arith, length_read_frame true address bytes)
  same_size false bytes e = omega (arith, length_read_frame false address bytes)

  seen : (check : Bool) (o : Outcome) → Sized (on_bus check (length buf)) o
      → (y : Answer Done) → (read_by check address buf o).answer ≡ y
      → ReadSeen check address reg (length buf) (answering y (read_by check address buf o).bytes) (made (asked check) o [])
  unfolding made
  seen check o h (value x) e =
      let is = only_frame check address buf o h e in
      (ap (λ (z : Outcome). made (asked check) z []) is, same_size check _ (subst (Sized (on_bus check (length buf))) is h))
  seen check o h (refused r) e = quiet check o h e

-- of a read into a caller's bytes, what it answers and they are then
abbrev pub read_answer : Read → Answer (List ℕ)
read_answer r = answering r.answer r.bytes

module _ (s : Link) (reg : ℕ) where
  by_form : (buf : List ℕ) (p : Prog Read) → ReadForm s.check s.address reg buf p
      → throughout (λ r h. ReadSeen s.check s.address reg (length buf) (read_answer r) h) p
  unfolding throughout wanted
  by_form buf p (turned k e) = (nothing_made s.check, e)
  by_form buf p goes = λ o h. seen s.address reg buf s.check o h (read_by s.check s.address buf o).answer refl

  pub raw_seen : (buf : List ℕ) → 1 ≤ length buf
      → throughout (λ r h. ReadSeen s.check s.address reg (length buf) (read_answer r) h) (read_raw s reg buf)
  raw_seen buf some = by_form buf (read_raw s reg buf) (read_form s reg buf some)

  pub read_seen : (n : ℕ) → 1 ≤ n → throughout (ReadSeen s.check s.address reg n) (read_bytes s reg n)
  unfolding read_bytes throughout
  read_seen n few =
      let size = length-replicate {A = ℕ} n 0 in
      throughout_bind (λ r. ret (read_answer r)) (read_raw s reg (replicate n 0)) (ReadSeen s.check s.address reg n)
      (λ r h. ReadSeen s.check s.address reg (length (replicate {A = ℕ} n 0)) (read_answer r) h)
      (raw_seen (replicate n 0) (omega (arith, size)))
      (λ r h q. subst (ReadSeen s.check s.address reg n (read_answer r)) (sym (append-nil h))
      (subst (λ (k : ℕ). ReadSeen s.check s.address reg k (read_answer r) h) size q))

-- what a frame that was made of bytes carries is these bytes
carried_framed : (check : Bool) (before bytes : List ℕ) → data_in check before (framed check before bytes) ≡ bytes
unfolding data_in framed
carried_framed false before bytes = refl
carried_framed true before bytes = rw (right_checked before bytes, data_checked before bytes)

-- of what was read, a register is found where it stands first, and another one behind it
pub found : (address reg : ℕ) (bytes : List ℕ) (more : List Access) → first_of address reg (access address reg bytes ∷ more) ≡ bytes
found address reg bytes more = rw (eq-eqb address address refl, eq-eqb reg reg refl)

pub passed : (address another reg other : ℕ) (bytes : List ℕ) (more : List Access) → eqb reg other ≡ false
    → first_of another other (access address reg bytes ∷ more) ≡ first_of another other more
passed address another reg other bytes more e = rw e (by (eqb address another))
  where
    by : (t : Bool) → (when t && false then bytes else first_of another other more) ≡ first_of another other more
    by true = refl
    by false = refl

-- among what was read and written
module _ (check : Bool) (address reg n : ℕ) (bytes : List ℕ) (h : List Made) where
  pub got : registers_read check (accepted check address reg n bytes ∷ h) ≡ access address reg bytes ∷ registers_read check h
  unfolding registers_read got_by read_frame
  got = ap (λ (l : List ℕ). access address reg l ∷ registers_read check h) (carried_framed check (read_byte address ∷ []) bytes)

  pub unsent : registers_written check (accepted check address reg n bytes ∷ h) ≡ registers_written check h
  unfolding registers_written sent_by
  unsent = refl

-- ---- a write

data SendForm (s : Link) (reg : ℕ) (bytes : List ℕ) : Prog (Answer Done) → Type 0 where
  turned_off : (n : ℕ) → OfBus (no n []) → SendForm s reg bytes (ret (refuses n))
  sent : SendForm s reg bytes (ask (write s.address (write_frame s.check s.address reg bytes)) (λ o. ret (wrote o)))

module _ (s : Link) (reg : ℕ) (bytes : List ℕ) where
  -- the bytes, written
  abbrev these : List Access
  these = access s.address reg bytes ∷ []

  -- no other register was read
  abbrev pub Elsewhere : List Made → Type 0
  Elsewhere h = (address other : ℕ) (more : List Access) → eqb reg other ≡ false
      → first_of address other (registers_read s.check h ++ more) ≡ first_of address other more

  abbrev pub WriteSeen : Answer Done → List Made → Type 0
  WriteSeen (value x) h = (registers_written s.check h ≡ these) × Elsewhere h
  WriteSeen (refused r) h = ((registers_written s.check h ≡ []) ⊎ (registers_written s.check h ≡ these)) × Elsewhere h × OfBus r

  abbrev SendSeen : Answer Done → List Made → Type 0
  SendSeen (value x) h = (registers_written s.check h ≡ these) × (registers_read s.check h ≡ [])
  SendSeen (refused r) h = ((registers_written s.check h ≡ []) ⊎ (registers_written s.check h ≡ these))
      × (registers_read s.check h ≡ []) × OfBus r

  one_write : (o : Outcome) → registers_written s.check ((write s.address (write_frame s.check s.address reg bytes), o) ∷ []) ≡ these
  unfolding registers_written sent_by write_frame
  one_write o =
      ap (λ (l : List ℕ). access s.address reg l ∷ []) (carried_framed s.check (write_byte s.address ∷ reg ∷ []) bytes)

  by_outcome : (o : Outcome) → Sized 0 o
      → SendSeen (wrote o) (made (write s.address (write_frame s.check s.address reg bytes)) o [])
  unfolding wrote made registers_read got_by registers_written
  by_outcome (done x) h = (one_write (done x), refl)
  by_outcome (fault x) h = (inr (one_write (fault x)), refl, refl)
  by_outcome (stopped r) h = (inl refl, refl, of_stop r h)

  module _ (some : 1 ≤ length bytes) where
    send_if : (t : Bool) (p q : Prog (Answer Done)) → (t ≡ true → SendForm s reg bytes p) → (t ≡ false → SendForm s reg bytes q)
        → SendForm s reg bytes (when t then p else q)
    send_if true p q h k = h refl
    send_if false p q h k = k refl

    send_form : SendForm s reg bytes (send s reg bytes)
    unfolding send ask_write
    send_form =
        send_if (not (sound s)) _ _ (λ e. turned_off 9 refl)
        (λ e. send_if (ltb 8 (length bytes)) _ _ (λ e. turned_off 3 refl)
        (λ e. send_if (eqb (length bytes) 0) _ _ (λ e. absurd (omega (arith, eqb-true (length bytes) 0 e)))
        (λ e. send_if (ltb 256 (reg + length bytes)) _ _ (λ e. turned_off 14 refl) (λ e. sent))))

    sent_seen : (p : Prog (Answer Done)) → SendForm s reg bytes p → throughout SendSeen p
    unfolding throughout wanted registers_written registers_read
    sent_seen p (turned_off n e) = (inl refl, refl, e)
    sent_seen p sent = by_outcome

    -- read back: nothing more is written, and this register alone is read
    module _ (h g : List Made) (q : SendSeen (value tt) h) (unwritten : registers_written s.check g ≡ []) (e : Elsewhere g) where
      then_writes : registers_written s.check (h ++ g) ≡ these
      then_writes = writes_append s.check h g ∙ rw (q.0, unwritten)

      then_elsewhere : Elsewhere (h ++ g)
      then_elsewhere a r more other = rw (reads_append s.check h g, q.1) (e a r more other)

      compared_seen : (from : ℕ) (here back : List ℕ) → WriteSeen (compared from here back) (h ++ g)
      unfolding compared
      compared_seen from [] back = (then_writes, then_elsewhere)
      compared_seen from (x ∷ here) [] = (then_writes, then_elsewhere)
      compared_seen from (x ∷ here) (y ∷ back) = by (eqb x y) (compared_seen (suc from) here back)
        where
          by : (t : Bool) → WriteSeen (compared (suc from) here back) (h ++ g)
              → WriteSeen (when t then compared (suc from) here back else refused (no 5 (pos from ∷ []))) (h ++ g)
          by true q = q
          by false q = (inr then_writes, then_elsewhere, refl)

      refused_seen : (r : Refusal) → OfBus r → WriteSeen (refused r) (h ++ g)
      refused_seen r k = (inr then_writes, then_elsewhere, k)

    back_seen : (h : List Made) → SendSeen (value tt) h
        → throughout (λ y g. WriteSeen y (h ++ g)) (ask_back s.address reg bytes)
    unfolding ask_back throughout wanted verified made registers_written sent_by registers_read got_by
    back_seen h q = λ o sized. by o sized
      where
        t : Transfer
        t = read s.address reg (length bytes)

        by : (o : Outcome) → Sized (length bytes) o → WriteSeen (verified reg bytes o) (h ++ made t o [])
        by (done back) sized = compared_seen h ((t, done back) ∷ []) q refl (λ a r more e. passed s.address a reg r _ more e) reg bytes back
        by (fault back) sized = refused_seen h ((t, fault back) ∷ []) q refl (λ a r more e. refl) (no 2 []) refl
        by (stopped x) sized = refused_seen h [] q refl (λ a r more e. refl) x (of_stop x sized)

    done_seen : (h : List Made) → SendSeen (value tt) h → WriteSeen (value tt) (h ++ [])
    unfolding registers_written registers_read
    done_seen h q = (then_writes h [] q refl (λ a r more e. refl), then_elsewhere h [] q refl (λ a r more e. refl))

    pub write_seen : throughout WriteSeen (write_raw s reg bytes)
    unfolding write_raw throughout
    write_seen =
        throughout_call WriteSeen SendSeen (send s reg bytes) refused _ (sent_seen (send s reg bytes) send_form)
        (λ r h q. (q.0, (λ a o more e. ap (λ (l : List Access). first_of a o (l ++ more)) q.1), q.2))
        (λ x h q. throughout_if (λ y g. WriteSeen y (h ++ g)) (s.check || eqb (length bytes) 0) _ _
        (λ e. done_seen h q) (λ e. back_seen h q))
