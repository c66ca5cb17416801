-- What a program that quits at a fault leaves on the chip, wherever the wire is cut: what its own log leaves there, the last field cut
-- where the wire was.
-- Assumes nothing.
use mathlib.Core.Path.{◌≡◌, refl, sym, ap, ◌∙◌}
use mathlib.Core.Bool.{Bool, true, false}
use mathlib.Core.List.{List, [], ◌∷◌, ◌++◌, map}
use mathlib.Core.Option.{Option, none, some}
use Prim.Native.Nat.{ℕ, suc, ◌-◌, ◌≤◌, ◌<◌}
use native.Mathlib.Omega.{arith}
use lib.ListN.{length}
use Rattle.frames.specs.Frames.{write_frame}
use Rattle.frames.proofs.Frames.{length_write_frame}
use Rattle.laws.specs.Choice.{when◌then◌else◌}
use Rattle.bus.specs.Transfers.{Transfer, write, read, Outcome, done, fault, stopped, log_field, tape_field, wanted}
use Rattle.bus.specs.Programs.{Prog, ret, ask}
use Rattle.bus.specs.Raw.{read_bytes, write_raw}
use Rattle.bus.specs.declared.link.Link.{Link}
use Rattle.bus.specs.Decoders.{transfers_in}
use Rattle.bus.specs.Decoders.{Fitting}
use Rattle.bus.proofs.Decoders.{Short, AllShort, transfers_logged}
use Rattle.bus.specs.Shown.{Made, logged, tape_fields}
use Rattle.chip.specs.Devices.{Reached, reached, on_device, made_on, log_of, tape_of}
use Rattle.chip.specs.Chip.{answers, carried, respond, respond_cut}
use Rattle.chip.specs.OnChip.{Wired, on_wire, on_chip, fed}
use Rattle.chip.specs.declared.Chip.{Chip}
use Rattle.chip.proofs.Asks.{Asks, nothing, this, asks_bytes, asks_write}
use Rattle.chip.proofs.Honest.{chip_honest}
use Rattle.chip.proofs.Quits.{Over, over, Quits, ends, goes}

abbrev pub transfers_of : {A : Type 0} → Prog A → Wired → List Transfer
transfers_of p w = map (λ (m : Made). m.0) (made_on on_wire p w)

-- ---- log and tape of a device are the fields of the transfers made on it
module _ {S : Type 0} (move : S → Transfer → Reached S Outcome) where
  pub log_made : {A : Type 0} (p : Prog A) (s : S) → log_of move p s ≡ logged (made_on move p s)
  unfolding log_of made_on logged
  log_made (ret a) s = refl
  log_made (ask t k) s = ap (◌++◌ (log_field t)) (log_made (k (move s t).answer) (move s t).device)

  pub tape_made : {A : Type 0} (p : Prog A) (s : S) → tape_of move p s ≡ tape_fields (made_on move p s)
  unfolding tape_of made_on tape_fields
  tape_made (ret a) s = refl
  tape_made (ask t k) s =
      ap (◌++◌ (tape_field (move s t).answer)) (tape_made (k (move s t).answer) (move s t).device)

  all_short : {A : Type 0} {p : Prog A} → Asks Short p → (s : S) → AllShort (made_on move p s)
  unfolding made_on
  all_short nothing s = tt
  all_short (this {t = t} h k) s = (h, all_short (k (move s t).answer) (move s t).device)

-- the log reads back as the transfers made
pub log_decodes : {A : Type 0} (p : Prog A) (w : Wired) → Asks Short p
    → transfers_in (length (log_of on_wire p w)) (log_of on_wire p w) ≡ some (transfers_of p w)
log_decodes p w h =
    rw (log_made on_wire p w) (transfers_logged (made_on on_wire p w) _ (all_short on_wire h w) (omega arith))

-- ---- one transfer that is done was not cut
cut_never : (j : ℕ) (c : Chip) (t : Transfer) (yes : Bool) (bytes : List ℕ)
    → (when yes then carried (some j) c t else reached (fault []) c).answer ≡ done bytes → ⊥
unfolding carried
cut_never j c (write a b) true bytes e = let z : ◌≡◌ {A = ℕ} 0 1 = cc in omega arith
cut_never j c (read a r n) true bytes e = let z : ◌≡◌ {A = ℕ} 0 1 = cc in omega arith
cut_never j c t false bytes e = let z : ◌≡◌ {A = ℕ} 0 1 = cc in omega arith

done_whole : (cut : Option ℕ) (c : Chip) (t : Transfer) (bytes : List ℕ) → (respond_cut cut c t).answer ≡ done bytes
    → (respond_cut cut c t).device ≡ (respond c t).device
unfolding respond_cut
done_whole none c t bytes e = refl
done_whole (some j) c t bytes e = absurd (cut_never j c t (answers c t) bytes e)

-- ---- the transfers of a log, one after the other
module _ (cut : Option ℕ) (c : Chip) (t : Transfer) where
  fed_one : fed cut (t ∷ []) c ≡ (respond_cut cut c t).device
  unfolding fed
  fed_one = refl

  fed_more : (u : Transfer) (ts : List Transfer) → fed cut (t ∷ u ∷ ts) c ≡ fed cut (u ∷ ts) (respond c t).device
  unfolding fed
  fed_more u ts = refl

fed_none : (cut : Option ℕ) (c : Chip) → fed cut [] c ≡ c
unfolding fed
fed_none cut c = refl

-- what one transfer leaves is what the rest is fed to
module _ (w : Wired) (t : Transfer) where
  feed_last : (respond_cut (w.cuts 0) w.chip t).device ≡ (on_wire w t).device.chip
  unfolding on_wire
  feed_last = refl

  feed_done : (bytes : List ℕ) → (on_wire w t).answer ≡ done bytes
      → (respond w.chip t).device ≡ (on_wire w t).device.chip
  unfolding on_wire
  feed_done bytes e = sym (done_whole (w.cuts 0) w.chip t bytes e)

  feed : (ts : List Transfer) (o : Outcome) → (on_wire w t).answer ≡ o → Fitting (wanted t) o
      → ((bytes : List ℕ) → o ≡ fault bytes → ts ≡ [])
      → fed (w.cuts (length ts)) (t ∷ ts) w.chip ≡ fed (w.cuts (suc (length ts - 1))) ts (on_wire w t).device.chip
  feed [] o e f h = fed_one (w.cuts 0) w.chip t ∙ feed_last ∙ sym (fed_none _ _)
  feed (u ∷ ts) (done bytes) e f h =
      let len : suc (length ts) ≡ suc (suc (length ts) - 1) = omega arith in
      fed_more (w.cuts (suc (length ts))) w.chip t u ts
      ∙ ap (fed (w.cuts (suc (length ts))) (u ∷ ts)) (feed_done bytes e)
      ∙ ap (λ (n : ℕ). fed (w.cuts n) (u ∷ ts) (on_wire w t).device.chip) len
  feed (u ∷ ts) (fault bytes) e f h = let z : ◌≡◌ {A = ℕ} 0 1 = cc (h bytes refl) in absurd (omega arith)
  feed (u ∷ ts) (stopped r) e f h = absurd f

over_none : {A : Type 0} {Off : A → Type 0} {p : Prog A} → Over Off p → (w : Wired) → transfers_of p w ≡ []
unfolding made_on
over_none (over q) w = refl

-- ---- every program that quits at a fault
pub fed_last : {A : Type 0} {Off : A → Type 0} {p : Prog A} → Quits Off p → (w : Wired)
    → (on_chip p w).device.chip ≡ fed (w.cuts (length (transfers_of p w) - 1)) (transfers_of p w) w.chip
unfolding on_device made_on on_wire
fed_last ends w = sym (fed_none _ _)
fed_last (goes {t} {k} on off) w =
    let o = (on_wire w t).answer in
    let w' = (on_wire w t).device in
    let ts = transfers_of (k o) w' in
    let len : length ts ≡ suc (length ts) - 1 = omega arith in
    fed_last (on o) w'
    ∙ sym (feed w t ts o refl (chip_honest w t)
    (λ bytes e. ap (λ (x : Outcome). transfers_of (k x) w') e ∙ over_none (off bytes) w'))
    ∙ ap (λ (n : ℕ). fed (w.cuts n) (t ∷ ts) w.chip) len

-- so it is what its own log leaves there, read back from its bytes, with the last field cut
pub fed_log : {A : Type 0} {Off : A → Type 0} {p : Prog A} → Quits Off p → Asks Short p → (w : Wired)
    → (ts : List Transfer)
    × (transfers_in (length (log_of on_wire p w)) (log_of on_wire p w) ≡ some ts)
    × ((on_chip p w).device.chip ≡ fed (w.cuts (length ts - 1)) ts w.chip)
fed_log {p = p} q h w = (transfers_of p w, log_decodes p w h, fed_last q w)

-- ---- the bus's calls have short fields
module _ (link : Link) (reg : ℕ) where
  pub read_short : (n : ℕ) → Asks Short (read_bytes link reg n)
  read_short n = asks_bytes link reg n (λ k h. omega arith)

  pub write_short : (bytes : List ℕ) → Asks Short (write_raw link reg bytes)
  write_short bytes = asks_write link reg bytes (λ few. frame_short link.check few) (λ few. omega arith)
    where
      frame_short : (check : Bool) → length bytes ≤ 8 → suc (length (write_frame check link.address reg bytes)) < 65536
      frame_short true few = omega (arith, length_write_frame true link.address reg bytes)
      frame_short false few = omega (arith, length_write_frame false link.address reg bytes)
