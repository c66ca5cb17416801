-- What the code's answer to a log field is made of: the transfer that the field is, a field put on the tape where there is room for it, and
-- the bytes of a read in it.
-- Assumes nothing.
use mathlib.Core.Path.{◌≡◌, refl, sym, ap, ◌∙◌}
use mathlib.Core.Bool.{Bool, true, false, ◌&&◌, and-false, false≢true, and-eq-true_iff}
use mathlib.Core.List.{List, [], ◌∷◌}
use mathlib.Core.Option.{Option, none, some, bind}
use Prim.Native.Nat.{ℕ, suc, ◌+◌, ◌-◌, ◌/◌, ◌%◌, ◌≤◌, ◌<◌, min}
use native.Mathlib.Numerals.{add-one, add-two}
use native.Mathlib.Omega.{arith}
use lib.ListN.{length, take, drop, get_or, set, length-drop}
use lib.Seq.{take_all, take-length, drop-length}
use lib.Dec.{eqb, leb}
use borrow.Author.Tests.{le-leb, lt-leb, leb-true, leb-false, eq-eqb, ne_eqb, eqb-true, eqb-false}
use Rattle.std.specs.Prelude.{unwrap_or, Some, None}
use Rattle.std.specs.Prelude as code
use Rattle.frames.specs.Put.{put}
use Rattle.frames.proofs.Put.{put_put, sets_put}
use Rattle.laws.specs.Choice.{when◌then◌else◌}
use Rattle.numbers.specs.Numbers.{word}
use Rattle.bus.specs.Decoders.{unlog}
use Rattle.fields.specs.Fields.{field, unfield}
use Rattle.bus.specs.Transfers.{Transfer, write, read, done, fault, tape_field}
use Rattle.fields.proofs.Fields.{field_of}
use Rattle.chip.specs.Answering.{transfer_of, answered_with, tells, answer_on}
use Rattle.chip.specs.Inside.{saying, told}
use Rattle.chip.specs.Devices.{reached}
use Rattle.chip.specs.Chip.{begun, answers, shows, carried, respond_cut}
use Rattle.chip.specs.declared.Chip.{Chip}
use Rattle.chip.proofs.Answers.{responds, unanswered}
use Rattle.chip.proofs.Shows.{length_shows}

-- ---- a field on the tape
abbrev tag : Bool → ℕ
tag good = when good then 0x01 else 0x02

said : (good : Bool) (v : List ℕ) → tape_field (saying good v) ≡ field (tag good) v
unfolding tape_field
said true v = refl
said false v = refl

-- a head of three bytes, and then the value
put_head : (l : List ℕ) (at a b c : ℕ) (v : List ℕ) → at + (3 + length v) ≤ length l
    → put (set (set (set l at a) (at + 1) b) (at + 2) c) (at + 3) v ≡ put l at (a ∷ b ∷ c ∷ v)
put_head l at a b c v room =
    let head : List ℕ = a ∷ b ∷ c ∷ [] in
    let r : at + length head ≤ length l = omega arith in
    rw (add-one, add-two) (ap (λ (m : List ℕ). put m (at + 3) v) (sets_put l at head r) ∙ put_put l at head r v)

module _ (c d : Chip) (good : Bool) (v tape : List ℕ) (end : ℕ) where
  abbrev f : List ℕ
  f = field (tag good) v

  tells_is : tells c (reached (saying good v) d) tape end
      ≡ (when leb (end + length f) (length tape) then (put tape end f, answered_with d (end + length f)) else (tape, answered_with c end))
  unfolding tells
  tells_is = rw (said good v)

  size : length f ≡ 3 + length v
  unfolding field
  size = omega arith

  pub no_room : length tape < end + (3 + length v) → (tape, answered_with c end) ≡ tells c (reached (saying good v) d) tape end
  no_room h = sym (tells_is ∙ rw (lt-leb (end + length f) (length tape) (omega (arith, size))))

  -- by the stores that the code makes: the head, and then the value
  pub with_room : end + (3 + length v) ≤ length tape → (n : ℕ) → length v ≡ n → (t : ℕ) → t ≡ tag good
      → (filled : List ℕ)
      → filled ≡ put (set (set (set tape end t) (end + 1) (n / 256 % 256)) (end + 2) (n % 256)) (end + 3) v
      → (filled, answered_with d (end + 3 + n)) ≡ tells c (reached (saying good v) d) tape end
  unfolding field
  with_room h n long t is filled e =
      let to : end + 3 + length v ≡ end + length f = omega (arith, size) in
      let put_is : filled ≡ put tape end f = e ∙ rw (is, ← long) (put_head tape end _ _ _ v h) in
      rw (put_is, ← long, to) (sym (tells_is ∙ rw (le-leb (end + length f) (length tape) (omega (arith, size)))))

pub few_begun : (check : Bool) (r n : ℕ) → r + begun check n ≤ 256 → n ≤ 512
unfolding begun
few_begun true r n h = omega arith
few_begun false r n h = omega arith

-- a reply with no bytes starts no register
pub begun_none : (check : Bool) → 0 + begun check 0 ≤ 256
unfolding begun
begun_none true = omega arith
begun_none false = omega arith

-- where there was no room, as where there was one
pub unwrapped : (c : Chip) (end : ℕ) (o : code.Option ℕ) → answered_with c (unwrap_or o end) ≡ told c c end o
unwrapped c end None = refl
unwrapped c end (Some n) = refl

-- ---- a transfer to another address
module _ (cut : Option ℕ) (c : Chip) (a : ℕ) (other : a ≡ c.address → ⊥) where
  pub write_elsewhere : (bytes : List ℕ) → reached (saying false []) c ≡ respond_cut cut c (write a bytes)
  unfolding answers
  write_elsewhere [] = sym (unanswered cut c (write a []) (ne_eqb a c.address other))
  write_elsewhere (r ∷ bytes) = sym (unanswered cut c (write a (r ∷ bytes)) (rw (ne_eqb a c.address other)))

-- ---- a read
module _ (c : Chip) (a r n : ℕ) where
  abbrev asked : Transfer
  asked = read a r n

  -- it is answered at the chip's address, where it passes no register FF
  pub read_away : (cut : Option ℕ) → (a ≡ c.address → ⊥) → reached (saying false []) c ≡ respond_cut cut c asked
  unfolding answers
  read_away cut away = sym (unanswered cut c asked (rw (ne_eqb a c.address away)))

  pub read_past_end : (cut : Option ℕ) → leb (r + begun c.check n) 256 ≡ false → reached (saying false []) c ≡ respond_cut cut c asked
  unfolding answers
  read_past_end cut past = sym (unanswered cut c asked (rw past (and-false (eqb a c.address))))

  pub read_here : a ≡ c.address → leb (r + begun c.check n) 256 ≡ true → answers c asked ≡ true
  unfolding answers
  read_here own within = rw (eq-eqb a c.address own, within)

  all : (k : ℕ) → n ≤ k → take k (shows c r n) ≡ shows c r n
  all k h = take_all k (shows c r n) (omega (arith, length_shows c r n))

  module _ (there : answers c asked ≡ true) where
    pub read_whole : reached (saying true (take n (shows c r n))) c ≡ respond_cut none c asked
    unfolding carried
    read_whole = ap (λ (v : List ℕ). reached (done v) c) (all n (omega arith)) ∙ sym (responds none c asked there)

    pub read_cut : (k : ℕ) → reached (saying false (take (min n k) (shows c r n))) c ≡ respond_cut (some k) c asked
    unfolding carried
    read_cut k =
        ap (λ (v : List ℕ). reached (fault v) c) (by (leb n k) refl) ∙ sym (responds (some k) c asked there)
      where
        by : (t : Bool) → leb n k ≡ t → take (min n k) (shows c r n) ≡ take k (shows c r n)
        by true e =
            let few = leb-true n k e in
            let least : min n k ≡ n = omega arith in
            rw least (all n (omega arith) ∙ sym (all k few))
        by false e =
            let many = leb-false n k e in
            let least : min n k ≡ k = omega arith in
            rw least

-- ---- the transfer that a log field is
module _ (t high low : ℕ) (v : List ℕ) where
  whole : word high low ≡ length v → transfer_of (t ∷ high ∷ low ∷ v) ≡ unlog (field_of t v [])
  unfolding transfer_of unfield bind
  whole e =
      let few : length v ≤ length v = omega arith in
      rw (e, le-leb (length v) (length v) few, take-length v, drop-length v)

  broken : (word high low ≡ length v → ⊥) → transfer_of (t ∷ high ∷ low ∷ v) ≡ none
  unfolding transfer_of unfield bind
  broken n = by (leb (word high low) (length v)) refl
    where
      by : (yes : Bool) → leb (word high low) (length v) ≡ yes
          → bind (when yes then some (field_of t (take (word high low) v) (drop (word high low) v)) else none)
          (λ f. when eqb (length f.rest) 0 then unlog f else none) ≡ none
      by true e =
          let fits = leb-true (word high low) (length v) e in
          let more : length (drop (word high low) v) ≡ 0 → ⊥ = λ z. n (omega (arith, length-drop (word high low) v)) in
          rw (ne_eqb (length (drop (word high low) v)) 0 more)
      by false e = refl

-- with no value it is none
unlog_empty : (t : ℕ) → unlog (field_of t [] []) ≡ none
unfolding unlog
unlog_empty t = by (eqb t 0x11) (eqb t 0x12) _ _
  where
    by : (w r : Bool) (a b : Transfer) → (when w && false then some a else when r && false then some b else none) ≡ none
    by true true a b = refl
    by true false a b = refl
    by false true a b = refl
    by false false a b = refl

-- whether bytes are one field with a value, as the code tests it
abbrev pub one_field : List ℕ → Bool
one_field l = leb 4 (length l) && eqb (word (get_or l 1 0) (get_or l 2 0)) (length l - 3)

pub short : (l : List ℕ) → length l < 4 → one_field l ≡ false
short l h = rw (lt-leb 4 (length l) h)

module _ (t high low x : ℕ) (v : List ℕ) where
  abbrev bytes : List ℕ
  bytes = t ∷ high ∷ low ∷ x ∷ v

  sized : one_field bytes ≡ eqb (word high low) (suc (length v))
  sized =
      let rest : length bytes - 3 ≡ suc (length v) = omega arith in
      rw (le-leb 4 (length bytes) (omega arith), rest)

  long_broken : one_field bytes ≡ false → transfer_of bytes ≡ none
  long_broken e = broken t high low (x ∷ v) (eqb-false (word high low) (suc (length v)) (sym sized ∙ e))

  long_whole : one_field bytes ≡ true → transfer_of bytes ≡ unlog (field_of t (x ∷ v) [])
  long_whole e = whole t high low (x ∷ v) (eqb-true (word high low) (suc (length v)) (sym sized ∙ e))

  is_write : t ≡ 0x11 → unlog (field_of t (x ∷ v) []) ≡ some (write x (take (length bytes - 4) v))
  unfolding unlog
  is_write e =
      let rest : length bytes - 4 ≡ length v = omega arith in
      rw (e, le-leb 1 (suc (length v)) (omega arith), rest, take-length v)

  is_read : t ≡ 0x12 → length v ≡ 3
      → unlog (field_of t (x ∷ v) []) ≡ some (read x (get_or v 0 0) (word (get_or v 1 0) (get_or v 2 0)))
  unfolding unlog
  is_read e size = rw (e, size)

  is_other : (t ≡ 0x11 → ⊥) → (t ≡ 0x12 → length bytes ≡ 7 → ⊥) → unlog (field_of t (x ∷ v) []) ≡ none
  unfolding unlog
  is_other other short = rw (ne_eqb t 0x11 other) (by (eqb t 0x12) (eqb (suc (length v)) 4) refl refl)
    where
      by : (r n : Bool) → eqb t 0x12 ≡ r → eqb (suc (length v)) 4 ≡ n
          → (when r && n then some (read x (get_or v 0 0) (word (get_or v 1 0) (get_or v 2 0))) else none) ≡ none
      by false n e f = refl
      by true false e f = refl
      by true true e f =
          let four = eqb-true (suc (length v)) 4 f in
          absurd (short (eqb-true t 0x12 e) (omega arith))

pub at_least : (l : List ℕ) → one_field l ≡ true → 4 ≤ length l
at_least l e = leb-true 4 (length l) ((and-eq-true_iff (leb 4 (length l)) _).0 e).0

pub no_field : (l : List ℕ) → one_field l ≡ false → transfer_of l ≡ none
unfolding transfer_of unfield bind
no_field [] e = refl
no_field (t ∷ []) e = refl
no_field (t ∷ high ∷ []) e = refl
no_field (t ∷ high ∷ low ∷ []) e = by (eqb (word high low) 0) refl
  where
    by : (none_left : Bool) → eqb (word high low) 0 ≡ none_left → transfer_of (t ∷ high ∷ low ∷ []) ≡ none
    by true z = whole t high low [] (eqb-true (word high low) 0 z) ∙ unlog_empty t
    by false z = broken t high low [] (eqb-false (word high low) 0 z)
no_field (t ∷ high ∷ low ∷ x ∷ v) e = long_broken t high low x v e

module _ (P : List ℕ → Type 0) (long : (t high low x : ℕ) (v : List ℕ) → one_field (t ∷ high ∷ low ∷ x ∷ v) ≡ true
    → P (t ∷ high ∷ low ∷ x ∷ v)) where
  by_value : (l : List ℕ) → one_field l ≡ true → P l
  by_value [] e = absurd (false≢true (sym (short [] (omega arith)) ∙ e))
  by_value (t ∷ []) e = absurd (false≢true (sym (short (t ∷ []) (omega arith)) ∙ e))
  by_value (t ∷ high ∷ []) e = absurd (false≢true (sym (short (t ∷ high ∷ []) (omega arith)) ∙ e))
  by_value (t ∷ high ∷ low ∷ []) e = absurd (false≢true (sym (short (t ∷ high ∷ low ∷ []) (omega arith)) ∙ e))
  by_value (t ∷ high ∷ low ∷ x ∷ v) e = long t high low x v e

-- a field of tag 11 is a write, one of tag 12 with four bytes a read, and no other is a transfer
pub write_field : (l : List ℕ) → one_field l ≡ true → get_or l 0 0 ≡ 0x11
    → transfer_of l ≡ some (write (get_or l 3 0) (take (length l - 4) (drop 4 l)))
write_field =
    by_value (λ l. get_or l 0 0 ≡ 0x11 → transfer_of l ≡ some (write (get_or l 3 0) (take (length l - 4) (drop 4 l))))
    (λ t high low x v e tag. long_whole t high low x v e ∙ is_write t high low x v tag)

pub read_field : (l : List ℕ) → one_field l ≡ true → get_or l 0 0 ≡ 0x12 → length l ≡ 7
    → transfer_of l ≡ some (read (get_or l 3 0) (get_or l 4 0) (word (get_or l 5 0) (get_or l 6 0)))
read_field =
    by_value
    (λ l. get_or l 0 0 ≡ 0x12 → length l ≡ 7
    → transfer_of l ≡ some (read (get_or l 3 0) (get_or l 4 0) (word (get_or l 5 0) (get_or l 6 0))))
    (λ t high low x v e tag size. long_whole t high low x v e ∙ is_read t high low x v tag (omega arith))

pub other_field : (l : List ℕ) → one_field l ≡ true → (get_or l 0 0 ≡ 0x11 → ⊥) → (get_or l 0 0 ≡ 0x12 → length l ≡ 7 → ⊥)
    → transfer_of l ≡ none
other_field =
    by_value
    (λ l. (get_or l 0 0 ≡ 0x11 → ⊥) → (get_or l 0 0 ≡ 0x12 → length l ≡ 7 → ⊥) → transfer_of l ≡ none)
    (λ t high low x v e other short. long_whole t high low x v e ∙ is_other t high low x v other short)

-- ---- the answer, by the transfer
module _ (cut : Option ℕ) (c : Chip) (l tape : List ℕ) (end : ℕ) where
  pub answer_none : transfer_of l ≡ none → (tape, answered_with c end) ≡ answer_on cut c l tape end
  unfolding answer_on
  answer_none e = rw e

  pub answer_some : (t : Transfer) → transfer_of l ≡ some t → tells c (respond_cut cut c t) tape end ≡ answer_on cut c l tape end
  unfolding answer_on
  answer_some t e = rw e
