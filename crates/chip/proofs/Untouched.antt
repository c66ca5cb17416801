-- A register that no write of a program reaches is as it was, wherever the wire is cut; and no transfer changes the chip's address, its check
-- setting or the count of its registers.
-- Assumes nothing.
use mathlib.Core.Path.{◌≡◌, refl, sym, ◌∙◌, subst}
use mathlib.Core.Bool.{Bool, true, false}
use mathlib.Core.List.{List, [], ◌∷◌, ◌++◌}
use mathlib.Core.Option.{Option, none, some}
use Prim.Native.Nat.{ℕ, zero, suc, ◌+◌, ◌*◌, ◌≤◌, ◌<◌}
use native.Mathlib.Omega.{arith}
use lib.ListN.{length, take, get_or, length-set}
use lib.Seq.{get_or-set_other}
use lib.Dec.{eqb}
use Rattle.check_byte.specs.CheckByte.{check_byte}
use Rattle.frames.specs.Frames.{write_byte, write_frame}
use Rattle.laws.specs.Choice.{when◌then◌else◌}
use Rattle.bus.specs.Transfers.{Transfer, write, read, fault}
use Rattle.bus.specs.Programs.{Prog}
use Rattle.bus.specs.Raw.{read_bytes, write_raw}
use Rattle.bus.specs.declared.link.Link.{Link}
use Rattle.chip.specs.Devices.{reached}
use Rattle.chip.specs.Chip.{begun, arrives, stores, agreed, accepted, stored_of, written, answers, carried, respond_cut}
use Rattle.chip.specs.OnChip.{Matches, Wired, on_wire, on_chip}
use Rattle.chip.specs.declared.Chip.{Chip}
use Rattle.chip.proofs.Answers.{begun_take}
use Rattle.chip.proofs.Asks.{Asks, asks_bytes, asks_write, keeps, kept}
use Rattle.chip.proofs.Stored.{begun_frame}

-- a write that, with this check setting, does not reach register i
abbrev pub Spares : Bool → ℕ → Transfer → Type 0
Spares check i (read a r n) = Unit {0}
Spares check i (write a []) = Unit {0}
Spares check i (write a (r ∷ bytes)) = r ≤ i → i < r + begun check (length bytes) → ⊥

-- ---- what is stored
arrives_other : (r i x : ℕ) (regs : List ℕ) → (i ≡ r → ⊥) → get_or (arrives r x regs) i 0 ≡ get_or regs i 0
unfolding arrives
arrives_other zero i x regs h = get_or-set_other regs 0 i _ 0 h
arrives_other (suc r) i x regs h = get_or-set_other regs (suc r) i _ 0 h

stores_other : (i r : ℕ) (bytes regs : List ℕ) → (r ≤ i → i < r + length bytes → ⊥)
    → get_or (stores r bytes regs) i 0 ≡ get_or regs i 0
unfolding stores
stores_other i r [] regs h = refl
stores_other i r (x ∷ bytes) regs h =
    stores_other i (suc r) bytes (arrives r x regs) (λ a b. h (omega arith) (omega arith))
    ∙ arrives_other r i x regs (λ e. h (omega arith) (omega arith))

length_arrives : (r x : ℕ) (regs : List ℕ) → length (arrives r x regs) ≡ length regs
unfolding arrives
length_arrives zero x regs = length-set regs 0 _
length_arrives (suc r) x regs = length-set regs (suc r) x

pub length_stores : (r : ℕ) (bytes regs : List ℕ) → length (stores r bytes regs) ≡ length regs
unfolding stores
length_stores r [] regs = refl
length_stores r (x ∷ bytes) regs = length_stores (suc r) bytes (arrives r x regs) ∙ length_arrives r x regs

if_few : (x : ℕ) (more rest : List ℕ) (yes : Bool) → 2 * length more ≤ length rest
    → 2 * length (when yes then x ∷ more else []) ≤ suc (suc (length rest))
if_few x more rest true h = omega arith
if_few x more rest false h = omega arith

agreed_few : (before bytes : List ℕ) → 2 * length (agreed before bytes) ≤ length bytes
unfolding agreed
agreed_few before [] = omega arith
agreed_few before (x ∷ []) = omega arith
agreed_few before (x ∷ c ∷ rest) =
    if_few x (agreed [] rest) rest (eqb c (check_byte (before ++ x ∷ []))) (agreed_few [] rest)

accepted_few : (check : Bool) (before bytes : List ℕ) → length (accepted check before bytes) ≤ begun check (length bytes)
unfolding accepted begun
accepted_few true before bytes = omega (arith, agreed_few before bytes)
accepted_few false before bytes = omega arith

-- a first part of a write reaches no more than the whole
spares_part : (check : Bool) (i a j : ℕ) (bytes : List ℕ) → Spares check i (write a bytes)
    → Spares check i (write a (take j bytes))
spares_part check i a zero bytes h = tt
spares_part check i a (suc j) [] h = tt
spares_part check i a (suc j) (r ∷ bytes) h = λ p q. h p (omega (arith, begun_take check j bytes))

module _ (i : ℕ) (c : Chip) where
  written_other : (a : ℕ) (bytes : List ℕ) → Spares c.check i (write a bytes)
      → get_or (written c bytes).regs i 0 ≡ get_or c.regs i 0
  unfolding written stored_of
  written_other a [] h = refl
  written_other a (r ∷ bytes) h =
      stores_other i r _ c.regs
      (λ p q. h p (omega (arith, accepted_few c.check (write_byte c.address ∷ r ∷ []) bytes)))

  carried_other : (cut : Option ℕ) (t : Transfer) → Spares c.check i t
      → get_or (carried cut c t).device.regs i 0 ≡ get_or c.regs i 0
  unfolding carried
  carried_other none (write a bytes) h = written_other a bytes h
  carried_other (some j) (write a bytes) h = written_other a (take j bytes) (spares_part c.check i a j bytes h)
  carried_other none (read a r n) h = refl
  carried_other (some j) (read a r n) h = refl

  if_other : (cut : Option ℕ) (t : Transfer) (yes : Bool) → Spares c.check i t
      → get_or (when yes then carried cut c t else reached (fault []) c).device.regs i 0 ≡ get_or c.regs i 0
  if_other cut t true h = carried_other cut t h
  if_other cut t false h = refl

-- ---- what no transfer changes
pub record SameKind (c d : Chip) : Type 0 where
  pub address : d.address ≡ c.address
  pub check : d.check ≡ c.check
  pub size : length d.regs ≡ length c.regs

module _ (c : Chip) where
  same_kind : SameKind c c
  same_kind = record { address = refl; check = refl; size = refl }

  written_kind : (bytes : List ℕ) → SameKind c (written c bytes)
  unfolding written
  written_kind [] = same_kind
  written_kind (r ∷ bytes) = record { address = refl; check = refl; size = length_stores r (stored_of c r bytes) c.regs }

  carried_kind : (cut : Option ℕ) (t : Transfer) → SameKind c (carried cut c t).device
  unfolding carried
  carried_kind none (write a bytes) = written_kind bytes
  carried_kind (some j) (write a bytes) = written_kind (take j bytes)
  carried_kind none (read a r n) = same_kind
  carried_kind (some j) (read a r n) = same_kind

  if_kind : (cut : Option ℕ) (t : Transfer) (yes : Bool)
      → SameKind c (when yes then carried cut c t else reached (fault []) c).device
  if_kind cut t true = carried_kind cut t
  if_kind cut t false = same_kind

both_kinds : {a b c : Chip} → SameKind a b → SameKind b c → SameKind a c
both_kinds k l = record { address = l.address ∙ k.address; check = l.check ∙ k.check; size = l.size ∙ k.size }

-- no read changes it
pub read_keeps : (cut : Option ℕ) (c : Chip) (a r n : ℕ) → (respond_cut cut c (read a r n)).device ≡ c
unfolding respond_cut carried
read_keeps cut c a r n = by (answers c (read a r n)) cut
  where
    by : (yes : Bool) (cut : Option ℕ) → (when yes then carried cut c (read a r n) else reached (fault []) c).device ≡ c
    by true none = refl
    by true (some j) = refl
    by false cut = refl

-- ---- one transfer on a wire
module _ (w : Wired) (t : Transfer) where
  wire_kind : SameKind w.chip (on_wire w t).device.chip
  unfolding on_wire respond_cut
  wire_kind = if_kind w.chip (w.cuts 0) t (answers w.chip t)

  wire_other : (i : ℕ) → Spares w.chip.check i t
      → get_or (on_wire w t).device.chip.regs i 0 ≡ get_or w.chip.regs i 0
  unfolding on_wire respond_cut
  wire_other i h = if_other i w.chip (w.cuts 0) t (answers w.chip t) h

-- ---- every program on every wire
pub kind_kept : {A : Type 0} (p : Prog A) (w : Wired) → SameKind w.chip (on_chip p w).device.chip
kind_kept p w =
    keeps on_wire (λ v. SameKind w.chip v.chip) (λ v t k. both_kinds k (wire_kind v t)) p w (same_kind w.chip)

pub untouched : {A : Type 0} (p : Prog A) (i : ℕ) (w : Wired) {check : Bool}
    → w.chip.check ≡ check → Asks (Spares check i) p
    → get_or (on_chip p w).device.chip.regs i 0 ≡ get_or w.chip.regs i 0
untouched p i w {check} same h =
    (kept on_wire (λ v. (v.chip.check ≡ check) × (get_or v.chip.regs i 0 ≡ get_or w.chip.regs i 0))
    (λ v t spared e. (
      (wire_kind v t).check ∙ e.0,
      wire_other v t i (subst (λ (b : Bool). Spares b i t) (sym e.0) spared) ∙ e.1,
    ))
    h w (same, refl)).1

-- so a link goes on speaking to its chip
pub matches_kept : {A : Type 0} (link : Link) (p : Prog A) (w : Wired) → Matches link w.chip
    → Matches link (on_chip p w).device.chip
matches_kept link p w m =
    let k = kind_kept p w in
    record { address = m.address ∙ sym k.address; check = m.check ∙ sym k.check; size = k.size ∙ m.size }

-- ---- the bus's calls
module _ (link : Link) (i reg : ℕ) where
  pub read_spares : (n : ℕ) → Asks (Spares link.check i) (read_bytes link reg n)
  read_spares n = asks_bytes link reg n (λ k h. tt)

  pub write_spares : (bytes : List ℕ) → (reg ≤ i → i < reg + length bytes → ⊥)
      → Asks (Spares link.check i) (write_raw link reg bytes)
  unfolding write_frame
  write_spares bytes h =
      asks_write link reg bytes
      (λ few p q. h p (omega (arith, begun_frame link.check (write_byte link.address ∷ reg ∷ []) bytes)))
      (λ few. tt)
