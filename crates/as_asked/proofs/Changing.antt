-- Demand 2 of the register commands, of what their transfers show, whatever they are answered, the bytes being bytes.
-- Assumes nothing.
use mathlib.Core.Path.{◌≡◌, refl, sym, ap, subst, ◌∙◌}
use mathlib.Core.Logic.{◌⊎◌, ⊎_elim}
use mathlib.Core.Bool.{Bool}
use mathlib.Core.List.{List, [], ◌∷◌, ◌++◌, map, append-nil, append_assoc, map-append}
use mathlib.Core.Option.{Option, none, some}
use Prim.Native.Nat.{ℕ, suc, ◌≤◌, ◌<◌}
use native.Mathlib.Omega.{arith}
use lib.Dec.{T}
use lib.ListN.{length, get_or, take}
use Rattle.laws.proofs.Tests.{all_below, below}
use Rattle.refusals.specs.Refusal.{Refusal, Answer, value, refused}
use Rattle.refusals.proofs.Values.{refused_not}
use Rattle.bus.specs.Programs.{ret, ◌or_leave◌, ◌>>=◌}
use Rattle.bus.specs.Raw.{Done, read_bytes, write_raw}
use Rattle.bus.specs.Shown.{Made, Access, access, registers_written}
use Rattle.bus.specs.declared.link.Link.{Link}
use Rattle.bus.proofs.Exchanges.{ReadSeen, WriteSeen, unsent, read_seen, write_seen}
use Rattle.bus.proofs.OfBytes.{AllBytes}
use Rattle.bus.proofs.Shown.{writes_append}
use Rattle.bus.proofs.Throughout.{throughout, throughout_call, throughout_weaken}
use Rattle.commands.specs.Registers.{read_register, writing, changing}
use Rattle.as_asked.specs.Seen.{read_from}
use Rattle.as_asked.specs.Commands.{wrote_byte, Changes, untouched, stands, changed, Becomes}
use Rattle.as_asked.proofs.Bytes.{data_bytes, one_byte}
use Rattle.as_asked.proofs.Calibration.{of, given_here}

-- ---- registers read, and a value made of their bytes: accepted, it is of the one transfer; refused, nothing was written
module _ (link : Link) (reg : ℕ) where
  pub made_seen : {A : Type 0} (n : ℕ) (least : 1 ≤ n) (f : List ℕ → A) (P : Answer A → List Made → Type 0)
      → ((bytes : List ℕ) → length bytes ≡ n → P (value (f bytes)) (of link reg n bytes ∷ []))
      → ((r : Refusal) (h : List Made) → registers_written link.check h ≡ [] → P (refused r) h)
      → throughout P ((read_bytes link reg n or_leave refused) >>= λ bytes. ret (value (f bytes)))
  unfolding throughout
  made_seen n least f P given refusing =
      throughout_call P (ReadSeen link.check link.address reg n) (read_bytes link reg n) refused _ (read_seen link reg n least)
      (λ r h q. refusing r h q.0.unwritten)
      (λ bytes h q. subst (P (value (f bytes))) (sym (append-nil h ∙ q.0)) (given bytes q.1))

  abbrev ByteSeen : Answer ℕ → List Made → Type 0
  ByteSeen (value byte) h = h ≡ of link reg 1 (byte ∷ []) ∷ []
  ByteSeen (refused r) h = registers_written link.check h ≡ []

  byte_seen : throughout ByteSeen (read_register link reg)
  unfolding read_register
  byte_seen =
      made_seen 1 (omega arith) (λ bytes. get_or bytes 0 0) ByteSeen
      (λ bytes one. ap (λ (l : List ℕ). of link reg 1 l ∷ []) (one_byte bytes one))
      (λ r h unwritten. unwritten)

-- ---- and changed; `same` tests two tables
module _ {Table : Type 0} (same : Table → Table → Bool) (table : ℕ → Table) (asked : Table → Table) where
  -- nothing to write where it is as asked, and else a byte that is
  abbrev right : Option ℕ → ℕ → Bool
  right none was = same (table was) (asked (table was))
  right (some now) was = same (table now) (asked (table was))

  -- so of every byte
  abbrev pub Rightly : (ℕ → Option ℕ) → Type 0
  Rightly change = T (all_below 256 (λ n. right (change n) n))

module _ {Table : Type 0} (same : Table → Table → Bool) (same_is : (x y : Table) → T (same x y) → x ≡ y)
    (table : ℕ → Table) (asked : Table → Table) (link : Link) (reg : ℕ) (change : ℕ → Option ℕ) where
  abbrev Holds : Answer Done → List Made → Type 0
  Holds y h = AllBytes h → Changes table asked link reg h y

  module _ (all : Rightly same table asked change) (was : ℕ) where
    abbrev first : Made
    first = of link reg 1 (was ∷ [])

    module _ (h : List Made) where
      small : AllBytes (first ∷ h) → was < 256
      small ok = (data_bytes link.check link.address (was ∷ []) ok.0).0

      is_right : (o : Option ℕ) → change was ≡ o → AllBytes (first ∷ h) → T (right same table asked o was)
      is_right o e ok =
          subst (λ (o : Option ℕ). T (right same table asked o was)) e
          (below 256 (λ n. right same table asked (change n) n) all was (small ok))

      is_given : read_from link (first ∷ h) reg ≡ was ∷ []
      is_given = given_here link reg 1 (was ∷ []) h

      then_writes : registers_written link.check (first ∷ h) ≡ registers_written link.check h
      then_writes = unsent link.check link.address reg _ (was ∷ []) h

    by_write : (now : ℕ) → change was ≡ some now → (y : Answer Done) (h : List Made) → WriteSeen link reg (now ∷ []) y h → Holds y (first ∷ h)
    by_write now e (value x) h q ok =
        changed was now (is_given h) (same_is _ _ (is_right h (some now) e ok)) (then_writes h ∙ q.0) (value tt)
    by_write now e (refused r) h q ok =
        ⊎_elim (λ (w : registers_written link.check h ≡ []). untouched r (then_writes h ∙ w))
        (λ (w : registers_written link.check h ≡ wrote_byte link reg now).
        changed was now (is_given h) (same_is _ _ (is_right h (some now) e ok)) (then_writes h ∙ w) (refused r))
        q.0

    by_change : (o : Option ℕ) → change was ≡ o → throughout (λ y h. Holds y (first ∷ h)) (writing link reg o)
    unfolding writing throughout registers_written
    by_change none e = λ ok. stands was (is_given []) (same_is _ _ (is_right [] none e ok)) (then_writes [])
    by_change (some now) e =
        throughout_weaken (λ y h. Holds y (first ∷ h)) (WriteSeen link reg (now ∷ [])) (write_raw link reg (now ∷ [])) (by_write now e)
        (write_seen link reg (now ∷ []) (omega arith))

  pub changing_seen : Rightly same table asked change → throughout Holds (changing link reg change)
  unfolding changing
  changing_seen all =
      throughout_call Holds (ByteSeen link reg) (read_register link reg) refused _ (byte_seen link reg)
      (λ r h q ok. untouched r q)
      (λ was h q. subst (λ (x : List Made). throughout (λ y g. Holds y (x ++ g)) (writing link reg (change was))) (sym q)
      (by_change all was (change was) refl))

-- ---- a register written whole
module _ (link : Link) (reg : ℕ) {Table : Type 0} (table : ℕ → Table) where
  abbrev put : ℕ → Access
  put byte = access link.address reg (byte ∷ [])

  abbrev Of : List ℕ → List Made → Answer Done → Type 0
  Of bytes h y = Becomes table (map table bytes) link reg h y

  -- so many of the bytes were written
  turn : (bytes : List ℕ) (n : ℕ) {h : List Made} {y : Answer Done} → registers_written link.check h ≡ map put (take n bytes)
      → (y ≡ value tt → take n bytes ≡ bytes) → Of bytes h y
  turn bytes n w all = record { bytes = bytes; tables = refl; count = n; written = w; all = all }

  pub nothing_put : (bytes : List ℕ) (r : Refusal) → Of bytes [] (refused r)
  unfolding registers_written
  nothing_put bytes r = turn bytes 0 refl (λ e. refused_not e)

  one_turn : (byte : ℕ) (y : Answer Done) (h : List Made) → WriteSeen link reg (byte ∷ []) y h → Of (byte ∷ []) h y
  one_turn byte (value x) h q = turn (byte ∷ []) 1 q.0 (λ e. refl)
  one_turn byte (refused r) h q =
      ⊎_elim (λ (w : registers_written link.check h ≡ []). turn (byte ∷ []) 0 w (λ e. refused_not e))
      (λ (w : registers_written link.check h ≡ put byte ∷ []). turn (byte ∷ []) 1 w (λ e. refused_not e)) q.0

  pub one_seen : (byte : ℕ) → throughout (λ y h. AllBytes h → Of (byte ∷ []) h y) (write_raw link reg (byte ∷ []))
  one_seen byte =
      throughout_weaken _ (WriteSeen link reg (byte ∷ [])) (write_raw link reg (byte ∷ [])) (λ y h q ok. one_turn byte y h q)
      (write_seen link reg (byte ∷ []) (omega arith))

  -- three, one after the other
  module _ (a b c : ℕ) where
    abbrev abc : List ℕ
    abc = a ∷ b ∷ c ∷ []

    -- those before it, and then this one or not
    then_one : (n byte : ℕ) (before : List ℕ) (h g : List Made) (r : Refusal)
        → registers_written link.check h ≡ map put before → take n abc ≡ before → take (suc n) abc ≡ before ++ byte ∷ []
        → (registers_written link.check g ≡ []) ⊎ (registers_written link.check g ≡ put byte ∷ []) → Of abc (h ++ g) (refused r)
    then_one n byte before h g r w here more q =
        ⊎_elim
        (λ (v : registers_written link.check g ≡ []). turn abc n
        (writes_append link.check h g ∙ rw (w, v, append-nil) (ap (map put) (sym here))) (λ e. refused_not e))
        (λ (v : registers_written link.check g ≡ put byte ∷ []). turn abc (suc n)
        (writes_append link.check h g ∙ rw (w, v) (sym (map-append put before (byte ∷ [])) ∙ ap (map put) (sym more)))
        (λ e. refused_not e))
        q

    abbrev Turns : Answer Done → List Made → Type 0
    Turns y h = AllBytes h → Of abc h y

    module _ (h g : List Made) (first : registers_written link.check h ≡ put a ∷ []) (second : registers_written link.check g ≡ put b ∷ []) where
      two_put : registers_written link.check (h ++ g) ≡ put a ∷ put b ∷ []
      two_put = writes_append link.check h g ∙ rw (first, second)

      last_turn : (y : Answer Done) (l : List Made) → WriteSeen link reg (c ∷ []) y l → Turns y (h ++ (g ++ l))
      last_turn (value x) l q ok =
          turn abc 3
          (ap (registers_written link.check) (sym (append_assoc h g l)) ∙ writes_append link.check (h ++ g) l ∙ rw (two_put, q.0))
          (λ e. refl)
      last_turn (refused r) l q ok =
          subst (λ (k : List Made). Of abc k (refused r)) (append_assoc h g l)
          (then_one 2 c (a ∷ b ∷ []) (h ++ g) l r two_put refl refl q.0)

    pub three_seen : throughout Turns (
        (write_raw link reg (a ∷ []) or_leave refused) >>= λ _.
        (write_raw link reg (b ∷ []) or_leave refused) >>= λ _.
        write_raw link reg (c ∷ []))
    unfolding registers_written
    three_seen =
        throughout_call Turns (WriteSeen link reg (a ∷ [])) (write_raw link reg (a ∷ [])) refused _ (write_seen link reg (a ∷ []) (omega arith))
        (λ r h q ok. then_one 0 a [] [] h r refl refl refl q.0)
        (λ x h q. throughout_call (λ y g. Turns y (h ++ g)) (WriteSeen link reg (b ∷ [])) (write_raw link reg (b ∷ [])) refused _
        (write_seen link reg (b ∷ []) (omega arith))
        (λ r g k ok. then_one 1 b (a ∷ []) h g r q.0 refl refl k.0)
        (λ z g k. throughout_weaken (λ y l. Turns y (h ++ (g ++ l))) (WriteSeen link reg (c ∷ [])) (write_raw link reg (c ∷ []))
        (last_turn h g q.0 k.0) (write_seen link reg (c ∷ []) (omega arith))))
