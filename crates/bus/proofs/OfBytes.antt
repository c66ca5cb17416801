-- Of a tape that is of bytes, each transfer is answered with bytes.
-- Assumes nothing.
use mathlib.Core.Path.{sym, subst}
use mathlib.Core.Bool.{Bool, true, false, ◌&&◌}
use mathlib.Core.List.{List, [], ◌∷◌}
use mathlib.Core.Option.{none, some}
use Prim.Native.Nat.{ℕ, zero, suc}
use lib.ListN.{length, take, drop}
use lib.Dec.{eqb, leb}
use Rattle.check_byte.specs.CheckByte.{Bytes}
use Rattle.laws.specs.Choice.{when◌then◌else◌}
use Rattle.numbers.specs.Numbers.{word}
use Rattle.refusals.specs.Refusal.{no}
use Rattle.fields.specs.Fields.{unfield}
use Rattle.bus.specs.Transfers.{Transfer, Outcome, done, fault, stopped, Bus, wanted, untape, says, after, outcome}
use Rattle.bus.specs.Programs.{Prog, ret, ask}
use Rattle.bus.specs.Shown.{Made}
use Rattle.bus.proofs.Framed.{made, history}
use Rattle.bus.proofs.Order.{by_room}
use Rattle.bus.proofs.Programs.{tape_after}

abbrev pub OfBytes : Outcome → Type 0
OfBytes (done bytes) = Bytes bytes
OfBytes (fault bytes) = Bytes bytes
OfBytes (stopped r) = Unit

abbrev pub AllBytes : List Made → Type 0
AllBytes [] = Unit
AllBytes (m ∷ h) = OfBytes m.1 × AllBytes h

pub take_bytes : (n : ℕ) (l : List ℕ) → Bytes l → Bytes (take n l)
take_bytes zero l h = tt
take_bytes (suc n) [] h = tt
take_bytes (suc n) (x ∷ l) h = (h.0, take_bytes n l h.1)

pub drop_bytes : (n : ℕ) (l : List ℕ) → Bytes l → Bytes (drop n l)
drop_bytes zero l h = h
drop_bytes (suc n) [] h = tt
drop_bytes (suc n) (x ∷ l) h = drop_bytes n l h.1

by_tests : (v : List ℕ) (a b : Bool) → Bytes v → OfBytes (when a then done v else when b then fault v else stopped (no 15 []))
by_tests v true b h = h
by_tests v false true h = h
by_tests v false false h = tt

by_length : (n tag size : ℕ) (l : List ℕ) (t : Bool) → Bytes l
    → OfBytes (untape n (when t then some (record { tag = tag; value = take size l; rest = drop size l }) else none))
unfolding untape
by_length n tag size l true h =
    by_tests (take size l) (eqb tag 0x01 && eqb (length (take size l)) n) (eqb tag 0x02 && leb (length (take size l)) n) (take_bytes size l h)
by_length n tag size l false h = tt

said : (n : ℕ) (l : List ℕ) → Bytes l → OfBytes (says n l)
unfolding says unfield untape
said n [] h = tt
said n (tag ∷ []) h = tt
said n (tag ∷ high ∷ []) h = tt
said n (tag ∷ high ∷ low ∷ l) h = by_length n tag (word high low) l (leb (word high low) (length l)) h.1.1.1

one_made : (t : Transfer) (o : Outcome) (h : List Made) → OfBytes o → AllBytes h → AllBytes (made t o h)
unfolding made
one_made t (done bytes) h b k = (b, k)
one_made t (fault bytes) h b k = (b, k)
one_made t (stopped r) h b k = k

pub all_bytes : {A : Type 0} (p : Prog A) (b : Bus) → Bytes b.tape → AllBytes (history p b)
unfolding history
all_bytes (ret a) b h = tt
all_bytes (ask t k) b h =
    let o = outcome t b in
    one_made t o _ (by_room t b OfBytes (λ e. said (wanted t) (drop b.at.tape b.tape) (drop_bytes b.at.tape b.tape h)) tt)
    (all_bytes (k o) (after t o b) (subst Bytes (sym (tape_after t o b)) h))
