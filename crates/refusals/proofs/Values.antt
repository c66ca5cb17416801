-- An answer's value: it is no refusal, and two equal ones hold one thing. And from which number on an answer refuses.
-- Assumes nothing.
use mathlib.Core.Path.{◌≡◌, sym, ap}
use mathlib.Core.Bool.{Bool, true, false, false≢true}
use Prim.Native.Nat.{ℕ, ◌≤◌}
use native.Mathlib.Omega.{arith}
use Rattle.refusals.specs.Refusal.{Answer, value, refused, Refusal, number_of, refused_if}

abbrev is_value : {A : Type 0} → Answer A → Bool
is_value (value a) = true
is_value (refused r) = false

abbrev value_or : {A : Type 0} → A → Answer A → A
value_or none (value a) = a
value_or none (refused r) = none

pub refused_not : {A X : Type 0} {r : Refusal} {a : A} → refused r ≡ value a → X
refused_not e = absurd (false≢true (ap is_value e))

pub same_value : {A : Type 0} {a b : A} → value a ≡ value b → a ≡ b
same_value {a = a} e = ap (value_or a) e

abbrev pub NumberedFrom : {A : Type 0} → ℕ → Answer A → Type 0
NumberedFrom least answer = (r : Refusal) → answer ≡ refused r → least ≤ r.number

pub from_value : {A : Type 0} (least : ℕ) (a : A) → NumberedFrom least (value a)
from_value least a r e = refused_not (sym e)

pub from_if : {A : Type 0} (least : ℕ) (test : Bool) (n : ℕ) (answer : Answer A) → least ≤ n → NumberedFrom least answer
    → NumberedFrom least (refused_if test n answer)
from_if least true n answer h rest r e = omega (arith, ap number_of e)
from_if least false n answer h rest r e = rest r e
