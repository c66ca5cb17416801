-- Of every device and every count that it allows: the list of inputs and the question which cell sits on an input undo each other, no input comes
-- twice, and no shorted one at all; for the definitions, and by the promises for what the code answers.
-- Assumes nothing.
use mathlib.Core.Path.{◌≡◌, refl, sym, ap, ◌∙◌}
use mathlib.Core.Bool.{Bool, true, false, true≢false, false≢true, ◌||◌}
use mathlib.Core.List.{List, []}
use Prim.Native.Nat.{ℕ, suc, ◌+◌, ◌-◌, ◌≤◌, ◌<◌}
use Rattle.std.specs.Prelude.{Result, Ok, Err}
use native.Mathlib.Omega.{arith}
use lib.Dec.{T, eqb, ltb}
use lib.ListN.{length, get_or}
use borrow.Author.Tests.{lt-ltb, ltb-true, ltb-false, ne_eqb}
use Rattle.laws.proofs.Tests.{is_true, all_below, below, agree, agreeing}
use Rattle.refusals.specs.Refusal.{Answer, value, refused, no}
use Rattle.refusals.specs.declared.Error.{Error}
use Rattle.refusals.specs.declared.Error.TheVariants as E
use Rattle.sizes.specs.Sizes.{is_size, is_count}
use Rattle.wiring.specs.Packs.{of_pack}
use Rattle.wiring.specs.Tables.{fitted}
use Rattle.wiring.specs.Questions.{inputs_for, cell_from, cell_on, as_cell_answer, as_inputs, fifteen, listed}
use Rattle.wiring.specs.Blocks.{shorted, bare}
use Rattle.wiring.proofs.Agree.{cell_agree, inputs_agree}
use Rattle.wiring.proofs.Found.{finds, found, either}
use Rattle.wiring.proofs.Packs.{of_pack_lem}
use Rattle.wiring.proofs.Rows.{as_many, row_rises, row_within, row_order, row_at}
use Rattle.sizes.proofs.Sizes.{at_most_15, of_a_device}

-- the input of the cell at a place, from 0
abbrev pub input_at : ℕ → ℕ → ℕ → ℕ
input_at x n k = get_or (fitted x n) k 0

pub record Wired (x n : ℕ) : Type 0 where
  -- as many inputs as cells, the bottom of the pack first
  pub listed : inputs_for x n ≡ value (fitted x n)
  pub count : length (fitted x n) ≡ n
  pub rises : (j k : ℕ) → j < k → k < n → input_at x n j < input_at x n k
  pub once : (j k : ℕ) → j < n → k < n → input_at x n j ≡ input_at x n k → j ≡ k
  -- the two questions undo each other
  pub there : (k : ℕ) → k < n → cell_on x n (input_at x n k) ≡ value (suc k)
  pub back : (input cell : ℕ) → cell_on x n input ≡ value cell → (1 ≤ cell) × (cell ≤ n) × (input_at x n (cell - 1) ≡ input)
  -- 21 just for an input that carries no cell
  pub bare_21 : (input : ℕ) → bare x n input ≡ true → cell_on x n input ≡ refused (no 21 [])
  pub else_cell : (input : ℕ) → bare x n input ≡ false → (cell : ℕ) × (cell_on x n input ≡ value cell)
  -- and no shorted one does
  pub unshorted : (k : ℕ) → k < n → shorted x n (input_at x n k) ≡ false

-- ---- 21, and else a cell
abbrev is_none : Answer ℕ → Bool
is_none (value cell) = false
is_none (refused r) = true

is_21 : (l : List ℕ) (s input : ℕ) → is_none (cell_from s l input) ≡ true → cell_from s l input ≡ refused (no 21 [])
is_21 = either (λ a. is_none a ≡ true → a ≡ refused (no 21 [])) (λ cell e. absurd (false≢true e)) (λ e. refl)

is_cell : (l : List ℕ) (s input : ℕ) → is_none (cell_from s l input) ≡ false → (cell : ℕ) × (cell_from s l input ≡ value cell)
is_cell = either (λ a. is_none a ≡ false → (cell : ℕ) × (a ≡ value cell)) (λ cell e. (cell, refl)) (λ e. absurd (true≢false e))

last_false : (a b c : Bool) → (a || b || c) ≡ false → c ≡ false
last_false false false c e = e
last_false false true c e = absurd (true≢false e)
last_false true b c e = absurd (true≢false e)

module _ (x n : ℕ) (pack : T (is_count x n)) where
  asked : {A : Type 0} (a : Answer A) → of_pack x n a ≡ a
  asked a = rw (is_true (is_size x) (of_a_device x n pack), is_true (is_count x n) pack)

  cell_is : (input : ℕ) → cell_on x n input ≡ cell_from 1 (fitted x n) input
  unfolding cell_on
  cell_is input = asked _

  forth : (k : ℕ) → k < n → cell_on x n (input_at x n k) ≡ value (suc k)
  forth k h =
      let place : 1 + k ≡ suc k = omega arith in
      cell_is (input_at x n k) ∙ finds 0 x (fitted x n) (row_rises x n pack) 1 k (rw (as_many x n pack) h) ∙ ap value place

  stands : (input cell : ℕ) → cell_from 1 (fitted x n) input ≡ value cell → (1 ≤ cell) × (cell ≤ n) × (input_at x n (cell - 1) ≡ input)
  stands input cell e =
      let at = found (fitted x n) 1 input cell e in
      let most = rw (as_many x n pack) at at.1 in
      (at.0, omega arith, at.2)

  -- ---- which inputs carry no cell: those of a device are tried, and no list has one above
  none_on_device : (input : ℕ) → input < 16 → is_none (cell_from 1 (fitted x n) input) ≡ bare x n input
  unfolding fitted bare shorted
  none_on_device input h =
      agreeing (is_none (cell_from 1 (fitted x n) input)) (bare x n input)
      (below 16 (λ i. agree (is_none (cell_from 1 (fitted x n) i)) (bare x n i))
      (of_pack_lem (λ y m. all_below 16 λ i. agree (is_none (cell_from 1 (fitted y m) i)) (bare y m i)) tt x n pack) input h)

  none_above : (input : ℕ) → 16 ≤ input → is_none (cell_from 1 (fitted x n) input) ≡ bare x n input
  unfolding bare
  none_above input h =
      let most = at_most_15 x n pack in
      rw (ne_eqb input 0 (λ e. omega arith), lt-ltb x input (omega arith)) (by_answer (cell_from 1 (fitted x n) input) refl)
    where
      by_answer : (a : Answer ℕ) → cell_from 1 (fitted x n) input ≡ a → is_none a ≡ true
      by_answer (refused r) e = refl
      by_answer (value cell) e =
          let at = stands input cell e in
          let most = at_most_15 x n pack in
          absurd (omega (arith, row_within x n pack (cell - 1) (omega arith)))

  none_is : (input : ℕ) → is_none (cell_from 1 (fitted x n) input) ≡ bare x n input
  none_is input = by_test (ltb input 16) refl
    where
      by_test : (t : Bool) → ltb input 16 ≡ t → is_none (cell_from 1 (fitted x n) input) ≡ bare x n input
      by_test true e = none_on_device input (ltb-true input 16 e)
      by_test false e = none_above input (ltb-false input 16 e)

  carried : (k : ℕ) → k < n → shorted x n (input_at x n k) ≡ false
  unfolding bare
  carried k h =
      let input = input_at x n k in
      last_false (eqb input 0) (ltb x input) (shorted x n input)
      (sym (none_is input) ∙ ap is_none (sym (cell_is input) ∙ forth k h))

  apart : (j k : ℕ) → j < n → k < n → input_at x n j ≡ input_at x n k → j ≡ k
  apart j k hj hk e =
      let same = sym (forth j hj) ∙ ap (cell_on x n) e ∙ forth k hk in
      let cells : suc j ≡ suc k = cc in
      omega arith

  pub every_pack_is : Wired x n
  unfolding inputs_for
  every_pack_is = record {
    listed = asked (value (fitted x n));
    count = as_many x n pack;
    rises = row_order x n pack;
    once = apart;
    there = forth;
    back = λ input cell e. stands input cell (sym (cell_is input) ∙ e);
    bare_21 = λ input e. cell_is input ∙ is_21 (fitted x n) 1 input (none_is input ∙ e);
    else_cell = λ input e. let given = is_cell (fitted x n) 1 input (none_is input ∙ e) in (given.0, cell_is input ∙ given.1);
    unshorted = carried;
  }

-- ---- so do the code's answers, by their promises
module _ (x n : ℕ) (pack : T (is_count x n)) (r : Result (List ℕ) Error) (listing : as_inputs r ≡ listed (inputs_for x n)) where
  pub listed_all : r ≡ Ok (fifteen (fitted x n))
  listed_all = inputs_agree r (Ok (fifteen (fitted x n))) (listing ∙ ap listed (every_pack_is x n pack).listed)

  module _ (inputs : List ℕ) (given : r ≡ Ok inputs) where
    listed_at : (k : ℕ) → k < n → get_or inputs k 0 ≡ input_at x n k
    listed_at k h =
        let shown : inputs ≡ fifteen (fitted x n) = cc (sym given ∙ listed_all) in
        ap (λ (l : List ℕ). get_or l k 0) shown ∙ row_at x n pack k h

    pub listed_rises : (j k : ℕ) → j < k → k < n → get_or inputs j 0 < get_or inputs k 0
    listed_rises j k less h = rw (listed_at j (omega arith), listed_at k h) ((every_pack_is x n pack).rises j k less h)

    pub listed_once : (j k : ℕ) → j < n → k < n → get_or inputs j 0 ≡ get_or inputs k 0 → j ≡ k
    listed_once j k hj hk e = (every_pack_is x n pack).once j k hj hk (sym (listed_at j hj) ∙ e ∙ listed_at k hk)

    pub listed_unshorted : (k : ℕ) → k < n → shorted x n (get_or inputs k 0) ≡ false
    listed_unshorted k h = ap (shorted x n) (listed_at k h) ∙ (every_pack_is x n pack).unshorted k h

    pub cell_of_listed : (k : ℕ) → k < n → (a : Result ℕ Error) → as_cell_answer a ≡ cell_on x n (get_or inputs k 0) → a ≡ Ok (suc k)
    cell_of_listed k h a e = cell_agree a (Ok (suc k)) (e ∙ ap (cell_on x n) (listed_at k h) ∙ (every_pack_is x n pack).there k h)

    pub listed_of_cell : (input cell : ℕ) → as_cell_answer (Ok cell) ≡ cell_on x n input → get_or inputs (cell - 1) 0 ≡ input
    listed_of_cell input cell e =
        let at = (every_pack_is x n pack).back input cell (sym e) in
        listed_at (cell - 1) (omega arith) ∙ at.2

module _ (x n : ℕ) (pack : T (is_count x n)) (input : ℕ) (a : Result ℕ Error) (answered : as_cell_answer a ≡ cell_on x n input) where
  pub bare_refused : bare x n input ≡ true → a ≡ Err E.NoSuchInput
  bare_refused e = cell_agree a (Err E.NoSuchInput) (answered ∙ (every_pack_is x n pack).bare_21 input e)

  pub else_answered : bare x n input ≡ false → (cell : ℕ) × (a ≡ Ok cell)
  else_answered e =
      let given = (every_pack_is x n pack).else_cell input e in
      (given.0, cell_agree a (Ok given.0) (answered ∙ given.1))
