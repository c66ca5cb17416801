-- What a reader will look for of reads that fault, of right frames, and of reads that are accepted.
-- Assumes nothing.
use mathlib.Core.Path.{◌≡◌, refl, sym, ap, ◌∙◌}
use mathlib.Core.Bool.{Bool, true, false}
use Prim.Native.Nat.{ℕ, ◌+◌, ◌*◌, ◌≤◌}
use mathlib.Core.List.{List, [], ◌∷◌}
use native.Mathlib.Omega.{arith}
use lib.ListN.{length, replicate, length-replicate}
use borrow.Author.Tests.{le-ltb}
use Rattle.laws.specs.Choice.{when◌then◌else◌}
use Rattle.refusals.specs.Refusal.{value}
use Rattle.refusals.proofs.Values.{refused_not}
use Rattle.frames.specs.Frames.{read_byte, checked, right, data_of, read_frame, framed}
use Rattle.frames.specs.Put.{put}
use Rattle.frames.proofs.Checked.{right_checked, data_checked, length_checked, checked_data, length_data}
use Rattle.frames.proofs.Nothing.{zeros}
use Rattle.frames.proofs.Put.{put_none, put_all}
use Rattle.bus.specs.Transfers.{read, Outcome, done, fault, stopped, Bus, outcome}
use Rattle.bus.specs.Programs.{Ran, on_tape}
use Rattle.bus.specs.Raw.{sound, refuses, Read, gives, plainly, received, where_right, checkedly}
use Rattle.bus.specs.Raw.{plain_read, ask_frame, read_raw}
use Rattle.bus.specs.declared.link.Link.{Link}
use Rattle.bus.proofs.Raws.{checked_goes, read_checked, read_plain}
use Rattle.bus.proofs.Sized.{Sized}

module _ (s : Link) (reg : ℕ) (buf : List ℕ) (b : Bus) (ok : sound s ≡ true) (room : reg + length buf ≤ 256) where
  module _ (c : s.check ≡ true) (some : 1 ≤ length buf) (most : length buf ≤ 2 * s.x) where
    by_outcome : {o : Outcome} → outcome (read s.address reg (2 * length buf)) b ≡ o
        → (on_tape (read_raw s reg buf) b).answer ≡ checkedly s.address buf o
    unfolding ask_frame on_tape
    by_outcome o =
        ap (λ (r : Ran Read). r.answer)
        (sym (checked_goes s reg buf b most (λ z. omega arith) room ∙ read_checked s reg buf b ok c))
        ∙ ap (checkedly s.address buf) o

    -- with checks, 1 to 2X bytes, a fault with none delivered:
    -- number 1, whatever the address, and the caller's bytes as they were
    pub nothing_delivered : outcome (read s.address reg (2 * length buf)) b ≡ fault []
        → (on_tape (read_raw s reg buf) b).answer ≡ gives (refuses 1) buf
    unfolding checkedly received where_right
    nothing_delivered o = by_outcome o ∙ rw (put_none, zeros s.address (length buf) some)

    -- with checks, what a right frame carries is what comes back
    pub comes_back : (bytes : List ℕ) → length bytes ≡ length buf
        → outcome (read s.address reg (2 * length buf)) b ≡ done (read_frame true s.address bytes)
        → (on_tape (read_raw s reg buf) b).answer ≡ gives (value tt) bytes
    unfolding checkedly received where_right read_frame framed
    comes_back bytes same o =
        let before = read_byte s.address ∷ [] in
        let all : put (replicate (2 * length buf) 0) 0 (checked before bytes) ≡ checked before bytes =
        put_all _ _ (omega (arith, length-replicate {A = ℕ} (2 * length buf) 0, length_checked before bytes)) in
        by_outcome o
        ∙ rw (all, right_checked before bytes, data_checked before bytes, put_all buf bytes (omega (arith, same)))

  -- without checks, a fault has stored just the bytes delivered
  pub delivered_stored : s.check ≡ false → (bytes : List ℕ)
      → outcome (read s.address reg (length buf)) b ≡ fault bytes
      → (on_tape (read_raw s reg buf) b).answer ≡ gives (refuses 2) (put buf 0 bytes)
  unfolding plain_read plainly on_tape
  delivered_stored c bytes o =
      ap (λ (r : Ran Read). r.answer) (sym (read_plain s reg buf b ok c))
      ∙ rw (le-ltb _ _ room) (ap (plainly buf) o)

-- ---- an accepted read, in either build: the tape held exactly the frame of the bytes returned

-- the bytes on the bus for n bytes of data
abbrev pub on_bus : Bool → ℕ → ℕ
on_bus true n = 2 * n
on_bus false n = n

-- what a read comes to, by its one transfer
abbrev pub read_by : Bool → ℕ → List ℕ → Outcome → Read
read_by true address buf o = checkedly address buf o
read_by false address buf o = plainly buf o

-- where a test holds the read is refused, and so it does not hold
by_frame : (address : ℕ) (buf frame : List ℕ) → length frame ≡ 2 * length buf
    → (t : Bool) → right (read_byte address ∷ []) frame ≡ t
    → (when t then gives (value tt) (put buf 0 (data_of frame)) else gives (refuses 1) buf).answer ≡ value tt
    → done frame ≡ done (read_frame true address
    (when t then gives (value tt) (put buf 0 (data_of frame)) else gives (refuses 1) buf).bytes)
unfolding read_frame framed
by_frame address buf frame size true e q =
    ap done
    (checked_data _ frame e
    ∙ ap (checked (read_byte address ∷ [])) (sym (put_all buf (data_of frame) (omega (arith, length_data frame)))))
by_frame address buf frame size false e q = refused_not q

never_both : (t : Bool) (n : ℕ) (buf : List ℕ) {X : Type 0}
    → (when t then gives (refuses n) buf else gives (refuses 1) buf).answer ≡ value tt → X
never_both true n buf e = refused_not e
never_both false n buf e = refused_not e

pub only_frame : (check : Bool) (address : ℕ) (buf : List ℕ) (o : Outcome) → Sized (on_bus check (length buf)) o
    → (read_by check address buf o).answer ≡ value tt
    → o ≡ done (read_frame check address (read_by check address buf o).bytes)
unfolding checkedly plainly received where_right read_frame framed
only_frame true address buf (done bytes) h e =
    let all = put_all (replicate (2 * length buf) 0) bytes
    (omega (arith, length-replicate {A = ℕ} (2 * length buf) 0)) in
    rw all (by_frame address buf bytes h (right (read_byte address ∷ []) bytes) refl (rw all at e))
only_frame true address buf (fault bytes) h e = never_both (right (read_byte address ∷ []) _) 2 buf e
only_frame true address buf (stopped r) h e = refused_not e
only_frame false address buf (done bytes) h e = ap done (sym (put_all buf bytes (omega arith)))
only_frame false address buf (fault bytes) h e = refused_not e
only_frame false address buf (stopped r) h e = refused_not e
