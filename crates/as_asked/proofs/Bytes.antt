-- Bytes among a run's transfers, and rules of the register tables that are computed for every byte.
-- Assumes nothing.
use mathlib.Core.Path.{◌≡◌, refl}
use mathlib.Core.Bool.{Bool, true, false, ◌&&◌}
use mathlib.Core.List.{List, [], ◌∷◌, ◌++◌}
use Prim.Native.Nat.{ℕ, ◌<◌}
use native.Mathlib.Omega.{arith}
use lib.Bits.{bit_or}
use lib.Dec.{T, eqb, eqb→eq}
use lib.ListN.{length, get_or}
use Rattle.laws.proofs.Tests.{below, both_left, both_right}
use Rattle.check_byte.specs.CheckByte.{Bytes}
use Rattle.frames.specs.Frames.{read_byte, checked, read_frame, framed}
use Rattle.bus.specs.Shown.{Made}
use Rattle.bus.proofs.OfBytes.{AllBytes}
use Rattle.as_asked.specs.Tables.{Table04, Table05, table05, counting}

-- ---- bytes
checked_bytes : (before bytes : List ℕ) → Bytes (checked before bytes) → Bytes bytes
unfolding checked
checked_bytes before [] h = tt
checked_bytes before (x ∷ bytes) h = (h.0, checked_bytes [] bytes h.1.1)

pub data_bytes : (check : Bool) (address : ℕ) (bytes : List ℕ) → Bytes (read_frame check address bytes) → Bytes bytes
unfolding read_frame framed
data_bytes false address bytes h = h
data_bytes true address bytes h = checked_bytes (read_byte address ∷ []) bytes h

pub behind_bytes : (h g : List Made) → AllBytes (h ++ g) → AllBytes g
behind_bytes [] g ok = ok
behind_bytes (m ∷ h) g ok = behind_bytes h g ok.1

pub two_bytes : (l : List ℕ) → length l ≡ 2 → l ≡ get_or l 0 0 ∷ get_or l 1 0 ∷ []
two_bytes [] e = absurd (omega arith)
two_bytes (x ∷ []) e = absurd (omega arith)
two_bytes (x ∷ y ∷ []) e = refl
two_bytes (x ∷ y ∷ z ∷ l) e = absurd (omega arith)

pub one_byte : (l : List ℕ) → length l ≡ 1 → l ≡ get_or l 0 0 ∷ []
one_byte [] e = absurd (omega arith)
one_byte (x ∷ []) e = refl
one_byte (x ∷ y ∷ l) e = absurd (omega arith)

-- ---- tables that have the same in each field are one, and a rule of them is computed for every byte
head : (a b : ℕ) (rest : Bool) → T (eqb a b && rest) → (a ≡ b) × T rest
head a b rest t = (eqb→eq a b (both_left (eqb a b) rest t), both_right (eqb a b) rest t)

module _ (x y : Table05) where
  abbrev pub same05 : Bool
  same05 =
      eqb x.delay_dis y.delay_dis
      && (eqb x.cc_en y.cc_en
      && (eqb x.cc_oneshot y.cc_oneshot
      && (eqb x.reserved42 y.reserved42
      && (eqb x.dsg_on y.dsg_on
      && eqb x.chg_on y.chg_on))))

  pub same05_is : T same05 → x ≡ y
  same05_is t =
      let p = head x.delay_dis y.delay_dis _ t in
      let q = head x.cc_en y.cc_en _ p.1 in
      let r = head x.cc_oneshot y.cc_oneshot _ q.1 in
      let s = head x.reserved42 y.reserved42 _ r.1 in
      let u = head x.dsg_on y.dsg_on _ s.1 in
      let last = eqb→eq x.chg_on y.chg_on u.1 in
      λ i.
      record {
        delay_dis = p.0 i;
        cc_en = q.0 i;
        cc_oneshot = r.0 i;
        reserved42 = s.0 i;
        dsg_on = u.0 i;
        chg_on = last i;
      }

module _ (x y : Table04) where
  abbrev pub same04 : Bool
  same04 =
      eqb x.load_present y.load_present
      && (eqb x.reserved65 y.reserved65
      && (eqb x.adc_en y.adc_en
      && (eqb x.temp_sel y.temp_sel
      && (eqb x.reserved2 y.reserved2
      && (eqb x.shut_a y.shut_a
      && eqb x.shut_b y.shut_b)))))

  pub same04_is : T same04 → x ≡ y
  same04_is t =
      let p = head x.load_present y.load_present _ t in
      let q = head x.reserved65 y.reserved65 _ p.1 in
      let r = head x.adc_en y.adc_en _ q.1 in
      let s = head x.temp_sel y.temp_sel _ r.1 in
      let u = head x.reserved2 y.reserved2 _ s.1 in
      let v = head x.shut_a y.shut_a _ u.1 in
      let last = eqb→eq x.shut_b y.shut_b v.1 in
      λ i.
      record {
        load_present = p.0 i;
        reserved65 = q.0 i;
        adc_en = r.0 i;
        temp_sel = s.0 i;
        reserved2 = u.0 i;
        shut_a = v.0 i;
        shut_b = last i;
      }

-- 05: bit 6 set is the counter on
pub counter_on : (was : ℕ) → was < 256 → table05 (bit_or was 64) ≡ counting (table05 was)
counter_on was h =
    same05_is _ _ (below 256 (λ n. same05 (table05 (bit_or n 64)) (counting (table05 n))) tt was h)
