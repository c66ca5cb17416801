-- When the model chip answers a transfer, and what it then does.
-- Assumes nothing.
use mathlib.Core.Path.{◌≡◌, refl, sym, ◌∙◌}
use mathlib.Core.Bool.{Bool, true, false, and-eq-true_iff}
use mathlib.Core.List.{List, [], ◌∷◌}
use mathlib.Core.Option.{Option}
use Prim.Native.Nat.{ℕ, zero, suc, ◌+◌, ◌≤◌}
use native.Mathlib.Omega.{arith}
use lib.ListN.{length, take, length-take}
use lib.Dec.{eqb, leb}
use borrow.Author.Tests.{eq-eqb, le-leb, leb-true}
use Rattle.bus.specs.Transfers.{Transfer, write, read, fault}
use Rattle.chip.specs.Devices.{reached}
use Rattle.chip.specs.Chip.{begun, answers, carried, respond_cut}
use Rattle.chip.specs.declared.Chip.{Chip}

module _ (c : Chip) (r : ℕ) where
  -- at its own address, all but those that would pass register FF
  pub own_read : (n : ℕ) → answers c (read c.address r n) ≡ leb (r + begun c.check n) 256
  unfolding answers
  own_read n = rw (eq-eqb c.address c.address refl)

  pub own_write : (bytes : List ℕ) → answers c (write c.address (r ∷ bytes)) ≡ leb (r + begun c.check (length bytes)) 256
  unfolding answers
  own_write bytes = rw (eq-eqb c.address c.address refl)

  pub answers_read : (n : ℕ) → r + begun c.check n ≤ 256 → answers c (read c.address r n) ≡ true
  answers_read n h = own_read n ∙ le-leb (r + begun c.check n) 256 h

  pub answers_write : (bytes : List ℕ) → r + begun c.check (length bytes) ≤ 256 → answers c (write c.address (r ∷ bytes)) ≡ true
  answers_write bytes h = own_write bytes ∙ le-leb (r + begun c.check (length bytes)) 256 h

  pub read_within : (a n : ℕ) → answers c (read a r n) ≡ true → r + begun c.check n ≤ 256
  unfolding answers
  read_within a n h =
      leb-true (r + begun c.check n) 256
      ((and-eq-true_iff (eqb a c.address) (leb (r + begun c.check n) 256)).0 h).1

  pub write_within : (bytes : List ℕ) → answers c (write c.address (r ∷ bytes)) ≡ true → r + begun c.check (length bytes) ≤ 256
  write_within bytes h = leb-true (r + begun c.check (length bytes)) 256 (sym (own_write bytes) ∙ h)

pub own_empty : (c : Chip) → answers c (write c.address []) ≡ true
unfolding answers
own_empty c = eq-eqb c.address c.address refl

-- a first part of a write begins no more data bytes than the whole, and is answered where the whole is
pub begun_take : (check : Bool) (j : ℕ) (bytes : List ℕ) → begun check (length (take j bytes)) ≤ begun check (length bytes)
unfolding begun
begun_take true j bytes = let part = length-take j bytes in omega arith
begun_take false j bytes = let part = length-take j bytes in omega arith

pub answers_part : (c : Chip) (j : ℕ) (bytes : List ℕ) → answers c (write c.address bytes) ≡ true
    → answers c (write c.address (take j bytes)) ≡ true
answers_part c zero bytes h = own_empty c
answers_part c (suc j) [] h = own_empty c
answers_part c (suc j) (r ∷ bytes) h =
    answers_write c r (take j bytes) (omega (arith, write_within c r bytes h, begun_take c.check j bytes))

module _ (cut : Option ℕ) (c : Chip) (t : Transfer) where
  pub responds : answers c t ≡ true → respond_cut cut c t ≡ carried cut c t
  unfolding respond_cut
  responds h = rw h

  pub unanswered : answers c t ≡ false → respond_cut cut c t ≡ reached (fault []) c
  unfolding respond_cut
  unanswered h = rw h
