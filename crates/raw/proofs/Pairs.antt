-- A frame pair by pair: a byte and its check byte.
-- Assumes nothing.
use mathlib.Core.Path.{◌≡◌, refl, sym, ap, ◌∙◌}
use mathlib.Core.Bool.{Bool, true, false, ◌&&◌, and_assoc}
use Prim.Native.Nat.{ℕ, ◌+◌, ◌*◌, ◌≤◌, ◌<◌}
use mathlib.Core.List.{List, [], ◌∷◌, ◌++◌}
use native.Mathlib.Omega.{arith}
use lib.ListN.{length, get_or, drop, set, drop_of_length-le}
use lib.Dec.{eqb}
use Rattle.check_byte.specs.CheckByte.{check_byte}
use Rattle.frames.specs.Frames.{right, data_of}
use Rattle.frames.specs.Put.{put}
use Rattle.frames.proofs.Put.{put_none, put_more}
use Rattle.frames.proofs.Steps.{next}

module _ (frame : List ℕ) (i : ℕ) (there : 2 * i + 1 < length frame) where
  apart : drop (2 * i) frame ≡ get_or frame (2 * i) 0 ∷ get_or frame (2 * i + 1) 0 ∷ drop (2 * (i + 1)) frame
  apart =
      let after : 2 * i + 1 + 1 ≡ 2 * (i + 1) = omega arith in
      next frame (2 * i) (omega arith)
      ∙ ap (λ (l : List ℕ). get_or frame (2 * i) 0 ∷ l)
      (next frame (2 * i + 1) there ∙ ap (λ (j : ℕ). get_or frame (2 * i + 1) 0 ∷ drop j frame) after)

  -- a pair is tested, and then the rest
  pub tested : (before : List ℕ) (c : ℕ) → c ≡ check_byte (before ++ get_or frame (2 * i) 0 ∷ [])
      → right before (drop (2 * i) frame) ≡ (eqb (get_or frame (2 * i + 1) 0) c && right [] (drop (2 * (i + 1)) frame))
  unfolding right
  tested before c e =
      ap (right before) apart
      ∙ ap (λ (k : ℕ). eqb (get_or frame (2 * i + 1) 0) k && right [] (drop (2 * (i + 1)) frame)) (sym e)

  pub tested_next : (all so : Bool) (c : ℕ) → c ≡ check_byte (get_or frame (2 * i) 0 ∷ []) → all ≡ (so && right [] (drop (2 * i) frame))
      → all ≡ ((so && eqb (get_or frame (2 * i + 1) 0) c) && right [] (drop (2 * (i + 1)) frame))
  tested_next all so c e is = is ∙ ap (λ (b : Bool). so && b) (tested [] c e) ∙ sym (and_assoc so _ _)

  -- a byte is stored, and then the rest
  pub carried : (bytes : List ℕ) → i < length bytes
      → put bytes i (data_of (drop (2 * i) frame))
      ≡ put (set bytes i (get_or frame (2 * i) 0)) (i + 1) (data_of (drop (2 * (i + 1)) frame))
  unfolding data_of
  carried bytes room = ap (λ (l : List ℕ). put bytes i (data_of l)) apart ∙ put_more bytes i _ _ room

module _ (frame : List ℕ) (n : ℕ) (size : length frame ≤ 2 * n) where
  and_true : (b : Bool) → b && true ≡ b
  and_true true = refl
  and_true false = refl

  pub tested_all : (so : Bool) → (so && right [] (drop (2 * n) frame)) ≡ so
  unfolding right
  tested_all so = ap (λ (l : List ℕ). so && right [] l) (drop_of_length-le frame size) ∙ and_true so

  pub carried_all : (bytes : List ℕ) → put bytes n (data_of (drop (2 * n) frame)) ≡ bytes
  unfolding data_of
  carried_all bytes = ap (λ (l : List ℕ). put bytes n (data_of l)) (drop_of_length-le frame size) ∙ put_none bytes n
