-- The bus's calls on any wire: a read leaves the chip as it was and gives exactly its registers, or where it is cut a refusal; a write
-- leaves a first part of its bytes new, and gives the number 0 only with all of them. And of a `do` on any wire, what holds after its first call.
-- Assumes nothing.
use mathlib.Core.Path.{◌≡◌, refl, sym, ap, subst, ◌∙◌}
use mathlib.Core.Bool.{Bool, true, false}
use mathlib.Core.List.{List}
use mathlib.Core.Option.{Option, none, some}
use Prim.Native.Nat.{ℕ, ◌+◌, ◌*◌, ◌≤◌, ◌<◌}
use native.Mathlib.Omega.{arith}
use lib.ListN.{length, take, replicate, length-replicate}
use Rattle.refusals.specs.Refusal.{Refusal, Answer, value, refused, answering, number_of}
use Rattle.refusals.proofs.Values.{refused_not, same_value}
use Rattle.frames.specs.Frames.{right, read_frame}
use Rattle.frames.specs.Put.{put}
use Rattle.laws.specs.Choice.{when◌then◌else◌}
use Rattle.bus.specs.Transfers.{fault}
use Rattle.bus.specs.Programs.{Prog, ret, ◌or_leave◌, ◌>>=◌}
use Rattle.bus.specs.Raw.{Done, Read, sound, gives, refuses, plainly, where_right, checkedly, read_raw, read_bytes, write_raw}
use Rattle.bus.specs.declared.link.Link.{Link}
use Rattle.chip.specs.Devices.{Reached, reached, on_device}
use Rattle.chip.specs.Chip.{with_regs, new_bytes, held}
use Rattle.chip.specs.OnChip.{Matches, Wired, next, on_wire, on_chip}
use Rattle.chip.proofs.Devices.{device_bind, went_on, went_off}
use Rattle.chip.proofs.Shows.{length_held, delivers}
use Rattle.chip.proofs.Raws.{judged, judged_right, reads, write_cut, write_leaves}

-- ---- a read
cut_refused : (check : Bool) (address : ℕ) (buf bytes : List ℕ)
    → (r : Refusal) × ((judged check address buf (fault bytes)).answer ≡ refused r)
unfolding plainly checkedly where_right
cut_refused false address buf bytes = (_, refl)
cut_refused true address buf bytes = by (right _ _)
  where
    by : (yes : Bool)
        → (r : Refusal) × ((when yes then gives (refuses 2) buf else gives (refuses 1) buf).answer ≡ refused r)
    by true = (_, refl)
    by false = (_, refl)

module _ (link : Link) (ok : sound link ≡ true) (w : Wired) (m : Matches link w.chip) (reg : ℕ) where
  module _ (n : ℕ) (room : reg + n ≤ 256) (few : 1 ≤ n) (most : n ≤ 2 * link.x) where
    -- the frame of k registers, and what is given of it, cut or not
    abbrev frame : ℕ → List ℕ
    frame k = read_frame link.check link.address (held reg k w.chip.regs)

    abbrev given : ℕ → Option ℕ → Read
    given k cut = judged link.check link.address (replicate n 0) (delivers cut (frame k))

    abbrev answer : Read → Answer (List ℕ)
    answer r = answering r.answer r.bytes

    read_gives : on_chip (read_bytes link reg n) w ≡ reached (answer (given n (w.cuts 0))) (next w w.chip)
    unfolding read_bytes on_device
    read_gives =
        let size : length {A = ℕ} (replicate n 0) ≡ n = length-replicate n 0 in
        let bytes : List ℕ = replicate n 0 in
        device_bind on_wire (read_raw link reg bytes) _ w
        ∙ ap (λ (r : Reached Wired Read). reached (answer r.answer) r.device)
        (reads link ok w m reg bytes (rw size room) (rw size few) (rw size most)
        ∙ ap (λ (k : ℕ). reached (given k (w.cuts 0)) (next w w.chip)) size)

    -- it is whole, or cut
    pub read_whole : w.cuts 0 ≡ none → on_chip (read_bytes link reg n) w ≡ reached (value (held reg n w.chip.regs)) (next w w.chip)
    read_whole e =
        let same = length_held reg n w.chip.regs ∙ sym (length-replicate {A = ℕ} n 0) in
        let right = judged_right link.check link.address (replicate n 0) (held reg n w.chip.regs) same in
        read_gives
        ∙ ap (λ (cut : Option ℕ). reached (answer (given n cut)) (next w w.chip)) e
        ∙ ap (λ (r : Read). reached (answer r) (next w w.chip)) right

    pub read_broken : (j : ℕ) → w.cuts 0 ≡ some j
        → (r : Refusal) × (on_chip (read_bytes link reg n) w ≡ reached (refused r) (next w w.chip))
    read_broken j e =
        let off = cut_refused link.check link.address (replicate n 0) (take j (frame n)) in (
          off.0,
          read_gives
              ∙ ap (λ (cut : Option ℕ). reached (answer (given n cut)) (next w w.chip)) e
              ∙ ap (λ (a : Answer Done). reached (answering a (given n (some j)).bytes) (next w w.chip)) off.1,
        )

    abbrev Exactly : Reached Wired (Answer (List ℕ)) → Type 0
    Exactly r = (r.device.chip ≡ w.chip) × ((bytes : List ℕ) → r.answer ≡ value bytes → bytes ≡ held reg n w.chip.regs)

    pub read_any : Exactly (on_chip (read_bytes link reg n) w)
    read_any = by (w.cuts 0) refl
      where
        by : (cut : Option ℕ) → w.cuts 0 ≡ cut → Exactly (on_chip (read_bytes link reg n) w)
        by none e = subst Exactly (sym (read_whole e)) (refl, λ bytes q. sym (same_value q))
        by (some j) e = let off = read_broken j e in subst Exactly (sym off.1) (refl, λ bytes q. refused_not q)

  -- ---- a write
  module _ (bytes : List ℕ) (other : 0 < reg) (room : reg + length bytes ≤ 256)
      (few : 1 ≤ length bytes) (most : length bytes ≤ 8) where
    all_done : (cut : Option ℕ) → w.cuts 0 ≡ cut → number_of (on_chip (write_raw link reg bytes) w).answer ≡ 0
        → new_bytes link.check cut bytes ≡ length bytes
    all_done none e zero = refl
    all_done (some j) e zero =
        let off = write_cut link ok w m reg bytes other room few most j e in
        absurd (omega (arith, ap (λ (r : Reached Wired (Answer Done)). number_of r.answer) off, zero))

    pub write_any : ((on_chip (write_raw link reg bytes) w).device.chip
        ≡ with_regs w.chip (put w.chip.regs reg (take (new_bytes link.check (w.cuts 0) bytes) bytes)))
        × (number_of (on_chip (write_raw link reg bytes) w).answer ≡ 0 → new_bytes link.check (w.cuts 0) bytes ≡ length bytes)
    write_any = (write_leaves link ok w m reg bytes other room few most, all_done (w.cuts 0) refl)

-- ---- a `do`
module _ {A B : Type 0} (Q : Reached Wired B → Type 0) (leave : Refusal → B) (f : A → Prog B) where
  pub through : (p : Prog (Answer A)) (w : Wired)
      → ((r : Refusal) → (on_chip p w).answer ≡ refused r → Q (reached (leave r) (on_chip p w).device))
      → ((a : A) → (on_chip p w).answer ≡ value a → Q (on_chip (f a) (on_chip p w).device))
      → Q (on_chip ((p or_leave leave) >>= f) w)
  through p w off on = by (on_chip p w).answer refl
    where
      known : {y : Answer A} → (on_chip p w).answer ≡ y → on_chip p w ≡ reached y (on_chip p w).device
      known e = ap (λ (z : Answer A). reached z (on_chip p w).device) e

      by : (y : Answer A) → (on_chip p w).answer ≡ y → Q (on_chip ((p or_leave leave) >>= f) w)
      by (value a) e = subst Q (sym (went_on on_wire p leave f w (on_chip p w).device a (known e))) (on a e)
      by (refused r) e = subst Q (sym (went_off on_wire p leave f w (on_chip p w).device r (known e))) (off r e)

  -- the same where the call makes no transfer
  pub through_ret : (y : Answer A) (w : Wired)
      → ((r : Refusal) → y ≡ refused r → Q (reached (leave r) w))
      → ((a : A) → y ≡ value a → Q (on_chip (f a) w))
      → Q (on_chip ((ret y or_leave leave) >>= f) w)
  unfolding on_device
  through_ret y w off on = through (ret y) w off on
