-- What the tape says to a transfer, by what stands at the head of its rest.
-- Assumes nothing.
use mathlib.Core.Path.{◌≡◌, refl, sym, ap, subst, ◌∙◌}
use mathlib.Core.Bool.{Bool, true, false, ◌&&◌}
use Prim.Native.Nat.{ℕ, suc, ◌+◌, ◌-◌, ◌≤◌, ◌<◌}
use mathlib.Core.List.{List, [], ◌∷◌}
use Rattle.std.specs.Prelude.{Err}
use native.Mathlib.Omega.{arith}
use native.Mathlib.Nat.{add-zero}
use lib.ListN.{length, take, drop, get_or, length-drop}
use Rattle.std.proofs.lemmas.List.{get_or-drop}
use lib.Seq.{drop-cons, length-take-le}
use lib.Dec.{T, eqb, leb, eqb→eq, leb→le}
use borrow.Author.Tests.{le-leb, lt-leb}
use Rattle.laws.proofs.Tests.{both_right}
use Rattle.numbers.specs.Numbers.{word}
use Rattle.refusals.specs.Refusal.{no, as_refusal}
use Rattle.refusals.specs.declared.Error.{Error}
use Rattle.refusals.specs.declared.Error.TheVariants as E
use Rattle.laws.specs.Choice.{when◌then◌else◌}
use Rattle.fields.specs.Fields.{unfield}
use Rattle.bus.specs.Transfers.{Outcome, done, fault, stopped, untape, says}
use Rattle.bus.proofs.Order.{ended}
use Rattle.raw.specs.Inside.{made, whole, judged, outcome_of, Few, Within, Heard}

-- ---- a reply within its bounds
pub few : (want : ℕ) (f : Bool) (n : ℕ) → Few f n want → n ≤ want
few want true n h = h
few want false n h = omega (arith, h)

-- ---- 15
pub says_short : (want : ℕ) (l : List ℕ) → 0 < length l → length l < 3 → says want l ≡ stopped (no 15 [])
unfolding says unfield untape
says_short want [] h k = absurd (omega arith)
says_short want (a ∷ []) h k = refl
says_short want (a ∷ b ∷ []) h k = refl
says_short want (a ∷ b ∷ c ∷ l) h k = absurd (omega arith)

module _ (want tag high low : ℕ) (bytes : List ℕ) where
  abbrev len : ℕ
  len = word high low

  says_cut : length bytes < len → says want (tag ∷ high ∷ low ∷ bytes) ≡ stopped (no 15 [])
  unfolding says unfield untape
  says_cut h = rw (lt-leb _ _ h)

  -- ---- a whole field
  is_done : Bool
  is_done = eqb tag 0x01 && eqb len want

  is_fault : Bool
  is_fault = eqb tag 0x02 && leb len want

  by_tag : (v : List ℕ) → take len bytes ≡ v → (a b : Bool)
      → outcome_of (when a then made false len else when b then made true len else Err E.BadTape) bytes
      ≡ (when a then done v else when b then fault v else stopped (no 15 []))
  by_tag v e true b = ap done e
  by_tag v e false true = ap fault e
  by_tag v e false false = refl

  within : len ≤ length bytes → (a b : Bool) → (T a → T is_done) → (T b → T is_fault)
      → Within want (suc (suc (suc (length bytes))))
      (when a then made false len else when b then made true len else Err E.BadTape)
  unfolding is_done is_fault
  within h true b d f =
      (eqb→eq len want (both_right (eqb tag 0x01) (eqb len want) (d tt)), omega arith)
  within h false true d f =
      (leb→le len want (both_right (eqb tag 0x02) (leb len want) (f tt)), omega arith)
  within h false false d f = tt

  says_whole : len ≤ length bytes
      → Heard want (tag ∷ high ∷ low ∷ bytes) (says want (tag ∷ high ∷ low ∷ bytes)) (judged want tag len)
  unfolding says unfield untape is_done is_fault
  says_whole h =
      record {
        said = rw (le-leb _ _ h, length-take-le len bytes h) (by_tag (take len bytes) refl is_done is_fault);
        within = within h is_done is_fault (λ t. t) (λ t. t);
      }

-- ---- the same of any bytes
module _ (want : ℕ) (bytes : List ℕ) where
  abbrev said_len : ℕ
  said_len = word (get_or bytes 1 0) (get_or bytes 2 0)

  head : 3 ≤ length bytes → bytes ≡ get_or bytes 0 0 ∷ get_or bytes 1 0 ∷ get_or bytes 2 0 ∷ drop 3 bytes
  head h =
      let h0 : 0 < length bytes = omega arith in
      let h1 : 1 < length bytes = omega arith in
      let h2 : 2 < length bytes = omega arith in
      drop-cons bytes 0 0 h0
      ∙ ap (λ (l : List ℕ). get_or bytes 0 0 ∷ l) (drop-cons bytes 1 0 h1)
      ∙ ap (λ (l : List ℕ). get_or bytes 0 0 ∷ get_or bytes 1 0 ∷ l) (drop-cons bytes 2 0 h2)

  pub none_left : length bytes ≡ 0 → says want bytes ≡ stopped (no 16 [])
  none_left h = ended want bytes h

  pub cut : 3 ≤ length bytes → length bytes - 3 < said_len → says want bytes ≡ stopped (no 15 [])
  cut h k = ap (says want) (head h) ∙ says_cut want (get_or bytes 0 0) _ _ (drop 3 bytes) (simp length-drop (omega arith))

  pub judged_whole : 3 ≤ length bytes → said_len ≤ length bytes - 3
      → Heard want bytes (says want bytes) (judged want (get_or bytes 0 0) said_len)
  judged_whole h k =
      subst (λ (l : List ℕ). Heard want l (says want l) (judged want (get_or bytes 0 0) said_len)) (sym (head h))
      (says_whole want (get_or bytes 0 0) _ _ (drop 3 bytes) (simp length-drop (omega arith)))

-- ---- and on a tape, from a position on: a field that is whole, and says that all was done
pub at_done : (want at : ℕ) (l : List ℕ) (told_len : ℕ) → told_len ≡ word (get_or l (at + 1) 0) (get_or l (at + 2) 0) → want + 3 + at ≤ length l
    → eqb (get_or l at 0) 0x01 && eqb told_len want ≡ true
    → Heard want (drop at l) (says want (drop at l)) (whole want)
at_done want at l told_len is h e =
    let bytes = drop at l in
    let all : told_len ≡ want = eqb→eq told_len want (both_right (eqb (get_or l at 0) 0x01) (eqb told_len want) (subst T (sym e) tt)) in
    let told : judged want (get_or l at 0) told_len ≡ whole want = rw e (ap whole all) in
    let there : word (get_or bytes 1 0) (get_or bytes 2 0) ≡ told_len = rw (get_or-drop at l 1 0, get_or-drop at l 2 0) (sym is) in
    subst (Heard want bytes (says want bytes))
    (ap (λ (t : ℕ). judged want t (word (get_or bytes 1 0) (get_or bytes 2 0))) (get_or-drop at l 0 0 ∙ ap (λ (j : ℕ). get_or l j 0) (add-zero at)) ∙ ap (judged want (get_or l at 0)) there ∙ told)
    (judged_whole want bytes (simp length-drop (omega arith)) (simp length-drop (omega (arith, there, all))))

-- a reply that stops, from the number that the tape's rest, or the log's room, gives
pub stops : (want : ℕ) (rest : List ℕ) (answer : Outcome) (e : Error) → answer ≡ stopped (as_refusal e)
    → Heard want rest answer (Err e)
stops want rest answer e said = record { said = sym said; within = tt }
