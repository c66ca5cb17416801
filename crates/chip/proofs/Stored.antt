-- The bytes that a write has stored: of a right frame, cut or not, a first part of its data; and each in its register.
-- Assumes nothing.
use mathlib.Core.Path.{◌≡◌, refl, sym, ap, ◌∙◌}
use mathlib.Core.Bool.{Bool, true, false}
use mathlib.Core.List.{List, [], ◌∷◌, ◌++◌}
use Prim.Native.Nat.{ℕ, zero, suc, ◌+◌, ◌/◌, ◌≤◌, ◌<◌, min}
use native.Mathlib.Nat.{zero-min, min-zero, suc-min-suc}
use native.Mathlib.Numerals.{add-one}
use native.Mathlib.Omega.{arith}
use lib.ListN.{length, take, set, length-set}
use lib.Seq.{take-nil, take-length}
use borrow.Author.Tests.{eq-eqb}
use Rattle.check_byte.specs.CheckByte.{check_byte}
use Rattle.frames.specs.Frames.{checked, framed}
use Rattle.frames.specs.Put.{put}
use Rattle.frames.proofs.Checked.{length_checked}
use Rattle.frames.proofs.Put.{put_none, put_more}
use Rattle.chip.specs.Chip.{begun, complete, arrives, stores, agreed, accepted}

-- ---- the bytes that a right frame has stored
agreed_cut : (before bytes : List ℕ) (j : ℕ) → agreed before (take j (checked before bytes)) ≡ take (j / 2) bytes
unfolding agreed checked
agreed_cut before [] j = ap (agreed before) (take-nil j) ∙ sym (take-nil (j / 2))
agreed_cut before (x ∷ bytes) zero = refl
agreed_cut before (x ∷ bytes) (suc zero) = refl
agreed_cut before (x ∷ bytes) (suc (suc j)) =
    let half : suc (suc j) / 2 ≡ suc (j / 2) = omega arith in
    let c = check_byte (before ++ x ∷ []) in
    rw (eq-eqb c c refl, half, agreed_cut [] bytes j)

accepted_cut : (check : Bool) (before bytes : List ℕ) (j : ℕ)
    → accepted check before (take j (framed check before bytes)) ≡ take (complete check j) bytes
unfolding accepted framed complete
accepted_cut true before bytes j = agreed_cut before bytes j
accepted_cut false before bytes j = refl

pub complete_frame : (check : Bool) (before bytes : List ℕ)
    → complete check (length (framed check before bytes)) ≡ length bytes
unfolding complete framed
complete_frame true before bytes = omega (arith, length_checked before bytes)
complete_frame false before bytes = refl

pub begun_frame : (check : Bool) (before bytes : List ℕ)
    → begun check (length (framed check before bytes)) ≡ length bytes
unfolding begun framed
begun_frame true before bytes = omega (arith, length_checked before bytes)
begun_frame false before bytes = refl

pub accepted_all : (check : Bool) (before bytes : List ℕ) → accepted check before (framed check before bytes) ≡ bytes
accepted_all check before bytes =
    let f = framed check before bytes in
    ap (accepted check before) (sym (take-length f))
    ∙ accepted_cut check before bytes (length f)
    ∙ ap (λ (k : ℕ). take k bytes) (complete_frame check before bytes)
    ∙ take-length bytes

-- ---- stored from a register other than status
pub arrives_set : (r x : ℕ) (regs : List ℕ) → 0 < r → arrives r x regs ≡ set regs r x
unfolding arrives
arrives_set zero x regs h = absurd (omega arith)
arrives_set (suc r) x regs h = refl

pub stores_put : (r : ℕ) (bytes regs : List ℕ) → 0 < r → r + length bytes ≤ length regs
    → stores r bytes regs ≡ put regs r bytes
unfolding stores
stores_put r [] regs h room = sym (put_none regs r)
stores_put r (x ∷ bytes) regs h room =
    rw (arrives_set r x regs h)
    (stores_put (suc r) bytes (set regs r x) (omega arith) (simp length-set (omega arith))
    ∙ sym (put_more regs r x bytes (omega arith) ∙ ap (λ (k : ℕ). put (set regs r x) k bytes) (add-one r)))

take_min : (k : ℕ) (l : List ℕ) → take (min k (length l)) l ≡ take k l
take_min zero l = ap (λ (n : ℕ). take n l) (zero-min (length l))
take_min (suc k) [] = ap (λ (n : ℕ). take {A = ℕ} n []) (min-zero (suc k))
take_min (suc k) (x ∷ l) = ap (λ (n : ℕ). take n (x ∷ l)) (suc-min-suc k (length l)) ∙ ap (◌∷◌ x) (take_min k l)

pub none_complete : (check : Bool) → complete check 0 ≡ 0
unfolding complete
none_complete true = refl
none_complete false = refl

-- data as it goes over the bus, as many bytes of it stored as the cut says
pub stored_bytes : (check : Bool) (before bytes : List ℕ) (j : ℕ)
    → accepted check before (take j (framed check before bytes)) ≡ take (min (complete check j) (length bytes)) bytes
stored_bytes check before bytes j = accepted_cut check before bytes j ∙ sym (take_min (complete check j) bytes)
