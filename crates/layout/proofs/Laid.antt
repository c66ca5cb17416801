-- Numbers put one after the other: seven are the 36 bytes.
-- Assumes nothing.
use mathlib.Core.Path.{◌≡◌, ap, ◌∙◌}
use mathlib.Core.List.{List, ◌++◌}
use Prim.Native.Nat.{ℕ, ◌+◌, ◌≤◌}
use native.Mathlib.Omega.{arith}
use lib.ListN.{length}
use Rattle.frames.specs.Put.{put}
use Rattle.frames.proofs.Put.{put_put, put_all}
use Rattle.plan.specs.declared.answer.InitNumbers.{InitNumbers}
use Rattle.numbers.specs.Numbers.{four, eight}
use Rattle.bus.specs.declared.Cursor.{Cursor}
use Rattle.layout.specs.Layout.{laid}

-- one more after what was put
next : (l v w : List ℕ) (at : ℕ) → at + length v ≤ length l → {m m' : List ℕ} → m ≡ put l at v
    → m' ≡ put m (at + length v) w → m' ≡ put l at (v ++ w)
next l v w at room e e' = e' ∙ ap (λ (x : List ℕ). put x (at + length v) w) e ∙ put_put l at v room w

module _ (l : List ℕ) (at : Cursor) (f : InitNumbers) (size : length l ≡ 36) where
  room : (n : ℕ) → n ≤ 36 → 0 + n ≤ length l
  room n h = rw size (omega arith)

  pub laid_is : {a b c d e g h : List ℕ}
      → a ≡ put l 0 (eight at.tape)
      → b ≡ put a 8 (eight at.log)
      → c ≡ put b 16 (four f.0)
      → d ≡ put c 20 (four f.1)
      → e ≡ put d 24 (four f.2)
      → g ≡ put e 28 (four f.3)
      → h ≡ put g 32 (four f.4)
      → h ≡ laid at f
  unfolding laid eight four
  laid_is ea eb ec ed ee eg eh =
      let v1 = eight at.tape in
      let v2 = v1 ++ eight at.log in
      let v3 = v2 ++ four f.0 in
      let v4 = v3 ++ four f.1 in
      let v5 = v4 ++ four f.2 in
      let v6 = v5 ++ four f.3 in
      let fb = next l v1 (eight at.log) 0 (room 8 (omega arith)) ea eb in
      let fc = next l v2 (four f.0) 0 (room 16 (omega arith)) fb ec in
      let fd = next l v3 (four f.1) 0 (room 20 (omega arith)) fc ed in
      let fe = next l v4 (four f.2) 0 (room 24 (omega arith)) fd ee in
      let fg = next l v5 (four f.3) 0 (room 28 (omega arith)) fe eg in
      let fh = next l v6 (four f.4) 0 (room 32 (omega arith)) fg eh in
      fh ∙ put_all l (v6 ++ four f.4) (rw size (omega arith))
