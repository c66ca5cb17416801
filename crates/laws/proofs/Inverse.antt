-- A function with a left inverse is one to one: how two outcomes that meet one promise are shown to agree.
-- Assumes nothing.
use mathlib.Core.Path.{◌≡◌, sym, ap, ◌∙◌}

pub one_to_one : {A B : Type 0} (f : A → B) (back : B → A) → ((a : A) → back (f a) ≡ a) → (a b : A) → f a ≡ f b → a ≡ b
one_to_one f back undone a b same = sym (undone a) ∙ ap back same ∙ undone b
