-- The numbers of a set's rules: each is given exactly where its rule is broken and those ahead of it are kept.
-- Assumes nothing.
use mathlib.Core.Path.{◌≡◌, refl, sym, ap, subst, ◌∙◌}
use mathlib.Core.Bool.{Bool, true, false, true≢false}
use mathlib.Core.List.{[]}
use Prim.Native.Nat.{ℕ, ◌^◌, ◌≤◌, ◌<◌}
use native.Mathlib.Omega.{arith}
use lib.Count.{ones}
use lib.Dec.{ltb}
use borrow.Author.Tests.{ltb-true, ltb-false}
use Rattle.refusals.specs.Refusal.{Refusal, Answer, value, refused, no, number_of, refused_if}
use Rattle.refusals.proofs.Values.{refused_not, NumberedFrom, from_if, from_value}
use Rattle.cellbal.specs.Rules.{not_on_device, neighbours, too_many, allowed}
use Rattle.cellbal.specs.Broken.{OffDevice, Beside, Exactly}
use Rattle.cellbal.proofs.Rules.{off_device, beside, not_on_device_is, are_neighbours}

-- ---- an allowed set breaks no rule
pub record Keeps (x set limit : ℕ) : Type 0 where
  pub on_device_lem : not_on_device x set ≡ false
  pub apart : neighbours set ≡ false
  pub few : too_many limit set ≡ false

pub keeps : (x set limit : ℕ) → allowed x set limit ≡ value tt → Keeps x set limit
unfolding allowed
keeps x set limit e = by (not_on_device x set) (neighbours set) (too_many limit set) refl refl refl e
  where
    by : (a b c : Bool) → not_on_device x set ≡ a → neighbours set ≡ b → too_many limit set ≡ c
        → refused_if a 22 (refused_if b 23 (refused_if c 24 (value (tt {0})))) ≡ value (tt {0}) → Keeps x set limit
    by true b c p q r e = refused_not e
    by false true c p q r e = refused_not e
    by false false true p q r e = refused_not e
    by false false false p q r e = record { on_device_lem = p; apart = q; few = r }

-- one that is not is refused with 22 or more
pub numbered : (x set limit : ℕ) → NumberedFrom 22 (allowed x set limit)
unfolding allowed
numbered x set limit =
    from_if 22 (not_on_device x set) 22 _ (omega arith)
    (from_if 22 (neighbours set) 23 _ (omega arith)
    (from_if 22 (too_many limit set) 24 _ (omega arith) (from_value 22 tt)))

-- ---- the numbers, where what comes after the rules is refused with none over 21
module _ (x set limit : ℕ) (two : set < 2 ^ 16) where
  other : {n : ℕ} {y : Answer (Unit {0})} (k : ℕ) → y ≡ refused (no n []) → (n ≡ k → ⊥) → y ≡ refused (no k []) → ⊥
  other k e different f = different (ap number_of (sym e ∙ f))

  low : {y : Answer (Unit {0})} (k : ℕ) → number_of y ≤ 21 → 21 < k → y ≡ refused (no k []) → ⊥
  low k few over f = omega (arith, ap number_of f)

  none_off : not_on_device x set ≡ false → OffDevice x set → ⊥
  none_off e off = true≢false (sym (not_on_device_is set two x off) ∙ e)

  none_beside : neighbours set ≡ false → Beside set → ⊥
  none_beside e b = true≢false (sym (are_neighbours set two b) ∙ e)

  by_tests : (a b c : Bool) → not_on_device x set ≡ a → neighbours set ≡ b → ltb limit (ones set) ≡ c
      → (z : Answer (Unit {0})) → number_of z ≤ 21 → Exactly x set limit (refused_if a 22 (refused_if b 23 (refused_if c 24 z)))
  by_tests true b c p q r z few = record {
    off = (λ e. off_device set x p, λ off. refl);
    beside = (λ e. absurd (other 23 refl (λ n. omega arith) e), λ h. absurd (h.0 (off_device set x p)));
    many = (λ e. absurd (other 24 refl (λ n. omega arith) e), λ h. absurd (h.0 (off_device set x p)));
  }
  by_tests false true c p q r z few = record {
    off = (λ e. absurd (other 22 refl (λ n. omega arith) e), λ off. absurd (none_off p off));
    beside = (λ e. (none_off p, beside set q), λ h. refl);
    many = (λ e. absurd (other 24 refl (λ n. omega arith) e), λ h. absurd (h.1 (beside set q)));
  }
  by_tests false false true p q r z few = record {
    off = (λ e. absurd (other 22 refl (λ n. omega arith) e), λ off. absurd (none_off p off));
    beside = (λ e. absurd (other 23 refl (λ n. omega arith) e), λ h. absurd (none_beside q h.1));
    many = (λ e. (none_off p, none_beside q, ltb-true limit (ones set) r), λ h. refl);
  }
  by_tests false false false p q r z few = record {
    off = (λ e. absurd (low 22 few (omega arith) e), λ off. absurd (none_off p off));
    beside = (λ e. absurd (low 23 few (omega arith) e), λ h. absurd (none_beside q h.1));
    many = (λ e. absurd (low 24 few (omega arith) e), λ h. absurd (omega (arith, ltb-false limit (ones set) r, h.2)));
  }

  -- refused by the rules
  pub broken_exactly : (r : Refusal) → allowed x set limit ≡ refused r → Exactly x set limit (refused r)
  unfolding allowed too_many
  broken_exactly r e =
      subst (Exactly x set limit) e
      (by_tests (not_on_device x set) (neighbours set) (ltb limit (ones set)) refl refl refl (value tt) (omega arith))

  -- or not
  pub kept_exactly : allowed x set limit ≡ value tt → (y : Answer (Unit {0})) → number_of y ≤ 21 → Exactly x set limit y
  unfolding too_many
  kept_exactly e y few =
      let kept = keeps x set limit e in
      by_tests false false false kept.on_device_lem kept.apart kept.few y few
