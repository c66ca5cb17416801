-- `calls::field_at` meets its contract: by the bytes that it takes from `at` on. Assumes nothing.
use Rattle.std.proofs.Common.{◌-◌, drop, length, sym, arith, length-drop, length-take}
use Rattle.calls.proofs.Steps.{from_there, cut, whole}
use Rattle.calls.proofs.field_at.Goals as goal

pub returns-then-rest-len-clause-field : goal.returns-then-rest-len-clause-field
returns-then-rest-len-clause-field c =
    let bytes = c.in-Some-len3-up.field-0.now in
    let is = from_there c.args.at c.args.input.now bytes c.in-Some-len3-up.ensures.lookup.0.2 in
    let len = c.be_u16-len.ensures in
    rw (sym is) (sym (cut _ bytes (omega (arith, len, length-drop 3 bytes, length-take (length bytes - 3) (drop 3 bytes)))))

pub returns-clause-field : goal.returns-clause-field
returns-clause-field c =
    let bytes = c.in-Some-len3-up.field-0.now in
    let is = from_there c.args.at c.args.input.now bytes c.in-Some-len3-up.ensures.lookup.0.2 in
    let len = c.be_u16-len.ensures in
    rw (len, sym is)
    (sym (whole _ bytes (omega (arith, len, length-drop 3 bytes, length-take (length bytes - 3) (drop 3 bytes)))))
