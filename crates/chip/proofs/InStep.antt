-- Two programs in step, each on a chip of its own: they log the same, and use as much of their tapes. And so a read, or a write, on two
-- whole wires, whatever the two chips hold.
-- Assumes nothing.
use mathlib.Core.Path.{◌≡◌, refl, sym, ap, ap₂, subst, subst₂, ◌∙◌}
use mathlib.Core.Bool.{Bool, true, false, cond, ◌||◌}
use mathlib.Core.List.{List, ◌++◌, append_assoc}
use mathlib.Core.Option.{none}
use Prim.Native.Nat.{ℕ, ◌+◌, ◌*◌, ◌≤◌, ◌<◌}
use native.Mathlib.Omega.{arith}
use lib.Dec.{eqb}
use lib.ListN.{length, replicate, length-append, length-replicate}
use borrow.Author.Tests.{ne_eqb}
use Rattle.refusals.specs.Refusal.{Refusal, Answer, value, refused}
use Rattle.frames.specs.Frames.{write_frame}
use Rattle.frames.specs.Put.{put}
use Rattle.frames.proofs.Frames.{length_read_frame}
use Rattle.laws.specs.Choice.{when◌then◌else◌}
use Rattle.fields.specs.Fields.{field}
use Rattle.bus.specs.Transfers.{Transfer, read, write, Outcome, tape_field}
use Rattle.bus.specs.Programs.{Prog, ret, ask, bind, proceed, ◌or_leave◌, ◌>>=◌}
use Rattle.bus.specs.Raw.{Read, Done, sound, wrote, verified, send, ask_back, read_bytes, write_raw}
use Rattle.bus.specs.declared.link.Link.{Link}
use Rattle.chip.specs.Devices.{Reached, reached, on_device, log_of, tape_of}
use Rattle.chip.specs.Chip.{with_regs, held}
use Rattle.chip.specs.OnChip.{Matches, Wired, uncut, on_wire, on_chip}
use Rattle.chip.specs.declared.Chip.{Chip}
use Rattle.chip.proofs.FirstPart.{first_part}
use Rattle.chip.proofs.Logs.{log_bind}
use Rattle.chip.proofs.Raws.{one_read, one_write, sent}
use Rattle.chip.proofs.Shows.{length_held, read_part, plain_part}

pub record InStep {A B : Type 0} (p : Prog A) (w : Wired) (q : Prog B) (w' : Wired) : Type 0 where
  pub log : log_of on_wire p w ≡ log_of on_wire q w'
  pub tape : length (tape_of on_wire p w) ≡ length (tape_of on_wire q w')

-- ---- one program after another
tape_bind : {A B : Type 0} (p : Prog A) (f : A → Prog B) (w : Wired)
    → tape_of on_wire (bind p f) w ≡ tape_of on_wire p w ++ tape_of on_wire (f (on_chip p w).answer) (on_chip p w).device
unfolding tape_of bind on_device
tape_bind (ret a) f w = refl
tape_bind (ask t k) f w =
    ap (◌++◌ (tape_field (on_wire w t).answer)) (tape_bind (k (on_wire w t).answer) f (on_wire w t).device)
    ∙ sym (append_assoc (tape_field (on_wire w t).answer) _ _)

module _ {A B : Type 0} where
  pub step_ret : (a : A) (b : B) (w w' : Wired) → InStep (ret a) w (ret b) w'
  unfolding log_of tape_of
  step_ret a b w w' = record { log = refl; tape = refl }

  step_one : (t : Transfer) (f : Outcome → A) (g : Outcome → B) (w w' : Wired)
      → length (tape_field (on_wire w t).answer) ≡ length (tape_field (on_wire w' t).answer)
      → InStep (ask t (λ o. ret (f o))) w (ask t (λ o. ret (g o))) w'
  unfolding log_of tape_of
  step_one t f g w w' e = record { log = refl; tape = rw (length-append, length-append) (omega arith) }

module _ {A B C D : Type 0} where
  pub step_bind : {p : Prog A} {q : Prog B} (f : A → Prog C) (g : B → Prog D) {w w' : Wired} → InStep p w q w'
      → InStep (f (on_chip p w).answer) (on_chip p w).device (g (on_chip q w').answer) (on_chip q w').device
      → InStep (bind p f) w (bind q g) w'
  step_bind {p} {q} f g {w} {w'} h k = record {
    log = log_bind on_wire p f w ∙ ap₂ ◌++◌ h.log k.log ∙ sym (log_bind on_wire q g w');
    tape = rw (tape_bind p f w, tape_bind q g w', length-append, length-append) (omega (arith, h.tape, k.tape));
  }

  -- the same where it is known what both come to
  pub step_stage : {p : Prog A} {q : Prog B} (f : A → Prog C) (g : B → Prog D) {w w' v v' : Wired} {a : A} {b : B}
      → on_chip p w ≡ reached a v → on_chip q w' ≡ reached b v'
      → InStep p w q w' → InStep (f a) v (g b) v' → InStep (bind p f) w (bind q g) w'
  step_stage {p} {q} f g {w} {w'} e e' h k =
      step_bind f g h
      (subst₂ (λ (r : Reached Wired A) (s : Reached Wired B). InStep (f r.answer) r.device (g s.answer) s.device)
      (sym e) (sym e') k)

-- of a `do`: both calls give a value
pub step_call : {A B C D : Type 0} {p : Prog (Answer A)} {q : Prog (Answer B)}
    (leave : Refusal → C) (f : A → Prog C) (leave' : Refusal → D) (g : B → Prog D)
    → {w w' v v' : Wired} {a : A} {b : B} → on_chip p w ≡ reached (value a) v → on_chip q w' ≡ reached (value b) v'
    → InStep p w q w' → InStep (f a) v (g b) v' → InStep ((p or_leave leave) >>= f) w ((q or_leave leave') >>= g) w'
unfolding ◌>>=◌ proceed
step_call leave f leave' g e e' h k = step_stage (proceed leave f) (proceed leave' g) e e' h k

-- or both refuse
pub step_off : {A B C D : Type 0} {p : Prog (Answer A)} {q : Prog (Answer B)}
    (leave : Refusal → C) (f : A → Prog C) (leave' : Refusal → D) (g : B → Prog D)
    → {w w' v v' : Wired} {r r' : Refusal} → on_chip p w ≡ reached (refused r) v → on_chip q w' ≡ reached (refused r') v'
    → InStep p w q w' → InStep ((p or_leave leave) >>= f) w ((q or_leave leave') >>= g) w'
unfolding ◌>>=◌ proceed
step_off leave f leave' g e e' h = step_stage (proceed leave f) (proceed leave' g) e e' h (step_ret _ _ _ _)

-- ---- on two chips of one link
module _ (link : Link) (ok : sound link ≡ true) (c c' : Chip) (m : Matches link c) (m' : Matches link c') (reg : ℕ) where
  -- ---- a read
  module _ (n : ℕ) (room : reg + n ≤ 256) (few : 1 ≤ n) (most : n ≤ 2 * link.x) where
    frame_size : (x : Chip) → Matches link x
        → length (tape_field (on_wire (uncut x) (read link.address reg (cond link.check 2 1 * n))).answer)
        ≡ 3 + cond link.check 2 1 * n
    unfolding on_wire tape_field field
    frame_size x k =
        let size =
        length_read_frame x.check x.address (held reg n x.regs)
        ∙ ap (λ (j : ℕ). cond x.check 2 1 * j) (length_held reg n x.regs) in
        rw (k.address, k.check, read_part x reg n room none) (omega (arith, size))

    pub step_read : InStep (read_bytes link reg n) (uncut c) (read_bytes link reg n) (uncut c')
    unfolding read_bytes
    step_read =
        let size : length {A = ℕ} (replicate n 0) ≡ n = length-replicate n 0 in
        let one = one_read link ok link.check refl reg (replicate n 0) (rw size room) (rw size few) (rw size most) in
        let same = frame_size c m ∙ sym (frame_size c' m') in
        step_bind _ _
        (subst (λ (p : Prog Read). InStep p (uncut c) p (uncut c')) (sym one)
        (step_one (read link.address reg (cond link.check 2 1 * length (replicate n 0))) _ _ (uncut c) (uncut c') (rw size same)))
        (step_ret _ _ _ _)

  -- ---- a write
  module _ (bytes : List ℕ) (other : 0 < reg) (room : reg + length bytes ≤ 256) (few : 1 ≤ length bytes) (most : length bytes ≤ 8) where
    abbrev frame : Transfer
    frame = write link.address (write_frame link.check link.address reg bytes)

    sent_size : (x : Chip) → Matches link x → length (tape_field (on_wire (uncut x) frame).answer) ≡ 3
    unfolding on_wire tape_field field
    sent_size x k = rw (k.address, k.check, first_part x reg bytes room other k.size none) refl

    step_send : InStep (send link reg bytes) (uncut c) (send link reg bytes) (uncut c')
    step_send =
        subst (λ (p : Prog (Answer Done)). InStep p (uncut c) p (uncut c')) (sym (one_write link ok reg bytes room few most))
        (step_one frame wrote wrote (uncut c) (uncut c') (sent_size c m ∙ sym (sent_size c' m')))

    -- the chip with the bytes, and without checks how they are read back from it
    abbrev new : Chip → Chip
    new x = with_regs x (put x.regs reg bytes)

    back_size : link.check ≡ false → (x : Chip) → Matches link x
        → length (tape_field (on_wire (uncut (new x)) (read link.address reg (length bytes))).answer) ≡ 3 + length bytes
    unfolding on_wire tape_field field
    back_size plain x k =
        rw (k.address, plain_part (new x) reg (length bytes) (sym k.check ∙ plain) room none)
        (omega (arith, length_held reg (length bytes) (put x.regs reg bytes)))

    step_back : (check : Bool) → link.check ≡ check
        → InStep (when check || eqb (length bytes) 0 then ret (value tt) else ask_back link.address reg bytes) (uncut (new c))
        (when check || eqb (length bytes) 0 then ret (value tt) else ask_back link.address reg bytes) (uncut (new c'))
    unfolding ask_back
    step_back true e = step_ret _ _ _ _
    step_back false e =
        rw (ne_eqb (length bytes) 0 (λ z. omega arith))
        (step_one (read link.address reg (length bytes)) (verified reg bytes) (verified reg bytes) (uncut (new c)) (uncut (new c'))
        (back_size e c m ∙ sym (back_size e c' m')))

    pub step_write : InStep (write_raw link reg bytes) (uncut c) (write_raw link reg bytes) (uncut c')
    unfolding write_raw
    step_write =
        step_call refused _ refused _
        (sent link ok (uncut c) m reg bytes other room few most refl) (sent link ok (uncut c') m' reg bytes other room few most refl)
        step_send (step_back link.check refl)
