-- Each stop is what the tape's rest says where it is so long; a whole field is judged.
-- Assumes nothing.
use Rattle.std.proofs.Common.{ℕ, List, ◌≡◌, ◌-◌, length, take, drop, arith, length-drop, length-take, sym, ap, ◌∙◌}
use Rattle.std.proofs.lemmas.List.{drop_min}
use Prim.Native.Nat.{min}
use lib.Seq.{take_all}
use Rattle.raw.proofs.Heard.{stops, none_left, says_short, cut, judged_whole}
use Rattle.raw.proofs.transfer.hear.Goals as goal

-- the rest of the tape, as the code has it
abbrev rest : List ℕ → ℕ → List ℕ
rest tape from = take (length tape - from) (drop from tape)

rest_is : (at from : ℕ) (tape : List ℕ) → from ≡ min at (length tape) → drop at tape ≡ rest tape from
rest_is at from tape e =
    sym (take_all (length tape - from) (drop from tape) (omega (arith, length-drop from tape))
    ∙ ap (λ (n : ℕ). drop n tape) e
    ∙ drop_min at tape)

-- the bytes after a field's head
value_size : (bytes : List ℕ) → length (take (length bytes - 3) (drop 3 bytes)) ≡ length bytes - 3
value_size bytes = omega (arith, length-drop 3 bytes, length-take (length bytes - 3) (drop 3 bytes))

pub returns-in-empty : goal.returns-in-empty
returns-in-empty c =
    let a = c.args in
    rw (rest_is a.at _ a.tape.now c.min.ensures) (stops _ _ _ _ (none_left a.want (rest a.tape.now c.min.result) (omega (arith, c.in-empty.len_below))))

pub returns-in_default : goal.returns-in_default
returns-in_default c =
    let a = c.args in
    let l = c.in_default in
    rw (rest_is a.at _ a.tape.now c.min.ensures)
    (stops _ _ _ _ (says_short a.want (rest a.tape.now c.min.result) (omega (arith, l.len_at_least)) l.len_below))

pub returns-then-value-len : goal.returns-then-value-len
returns-then-value-len c =
    let a = c.args in
    let bytes = rest a.tape.now c.min.result in
    rw (rest_is a.at _ a.tape.now c.min.ensures)
    (stops _ _ _ _ (cut a.want bytes c.in-len3-up.len_at_least (omega (arith, c.if-value-len.true, c.be_u16-len.ensures, value_size bytes))))

pub returns-else-value-len : goal.returns-else-value-len
returns-else-value-len c =
    let a = c.args in
    let bytes = rest a.tape.now c.min.result in
    let len = c.be_u16-len.ensures in
    rw (rest_is a.at _ a.tape.now c.min.ensures, c.judge.ensures, len)
    (judged_whole a.want bytes c.in-len3-up.len_at_least (omega (arith, c.if-value-len.false, len, value_size bytes)))
