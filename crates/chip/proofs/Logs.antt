-- How long the log of a program can become, on any device; and so of the bus's calls: 7 bytes for a read, and for a write its field and,
-- without checks, 7 bytes for the read back.
-- Assumes nothing.
use mathlib.Core.Path.{◌≡◌, refl, sym, ap, ◌∙◌}
use mathlib.Core.Bool.{Bool, true, false, cond, not, ◌||◌}
use mathlib.Core.List.{List, ◌++◌, append_assoc}
use Prim.Native.Nat.{ℕ, ◌+◌, ◌*◌, ◌≤◌}
use native.Mathlib.Omega.{arith}
use lib.Dec.{eqb, ltb}
use lib.ListN.{length, replicate, length-append}
use Rattle.refusals.specs.Refusal.{Refusal, Answer, value, refused}
use Rattle.frames.specs.Frames.{write_frame}
use Rattle.frames.proofs.Frames.{length_write_frame}
use Rattle.laws.specs.Choice.{when◌then◌else◌}
use Rattle.fields.specs.Fields.{field}
use Rattle.bus.specs.Transfers.{Transfer, read, write, Outcome, log_field}
use Rattle.bus.specs.Programs.{Prog, ret, ask, bind, proceed, ◌or_leave◌, ◌>>=◌}
use Rattle.bus.specs.Raw.{sound, plain_read, ask_frame, checked_read, read_raw, read_bytes, ask_write, send, ask_back, write_raw}
use Rattle.bus.specs.declared.link.Link.{Link}
use Rattle.chip.specs.Devices.{Reached, on_device, log_of}

-- ---- the length of a log
module _ {S : Type 0} (move : S → Transfer → Reached S Outcome) where
  pub log_bind : {A B : Type 0} (p : Prog A) (f : A → Prog B) (s : S)
      → log_of move (bind p f) s ≡ log_of move p s ++ log_of move (f (on_device move p s).answer) (on_device move p s).device
  unfolding log_of bind on_device
  log_bind (ret a) f s = refl
  log_bind (ask t k) f s =
      ap (◌++◌ (log_field t)) (log_bind (k (move s t).answer) f (move s t).device) ∙ sym (append_assoc (log_field t) _ _)

-- at most n bytes on every device
pub record Logs {A : Type 0} (n : ℕ) (p : Prog A) : Type 1 where
  pub most : {S : Type 0} (move : S → Transfer → Reached S Outcome) (s : S) → length (log_of move p s) ≤ n

pub logs_ret : {A : Type 0} (n : ℕ) (a : A) → Logs n (ret a)
unfolding log_of
logs_ret n a = record { most = λ move s. omega arith }

logs_one : {A : Type 0} (n : ℕ) (t : Transfer) (f : Outcome → A) → length (log_field t) ≤ n → Logs n (ask t (λ o. ret (f o)))
unfolding log_of
logs_one n t f h = record { most = λ move s. rw length-append (omega arith) }

logs_if : {A : Type 0} (n : ℕ) (c : Bool) {p q : Prog A} → Logs n p → Logs n q → Logs n (when c then p else q)
logs_if n true h k = h
logs_if n false h k = k

module _ {A B : Type 0} (m n : ℕ) where
  pub logs_bind : {p : Prog A} (f : A → Prog B) → Logs m p → ((a : A) → Logs n (f a)) → Logs (m + n) (bind p f)
  logs_bind {p} f h g = record {
    most = λ move s.
        let r = on_device move p s in
        rw (log_bind move p f s, length-append) (omega (arith, h.most move s, (g r.answer).most move r.device));
  }

module _ {A B : Type 0} (leave : Refusal → B) (f : A → Prog B) where
  pub logs_proceed : (n : ℕ) (y : Answer A) → ((a : A) → y ≡ value a → Logs n (f a)) → Logs n (proceed leave f y)
  unfolding proceed
  logs_proceed n (value a) g = g a refl
  logs_proceed n (refused r) g = logs_ret n (leave r)

  pub logs_call : (m n : ℕ) {p : Prog (Answer A)} → Logs m p → ((a : A) → Logs n (f a)) → Logs (m + n) ((p or_leave leave) >>= f)
  unfolding ◌>>=◌
  logs_call m n h g = logs_bind m n (proceed leave f) h (λ y. logs_proceed n y (λ a e. g a))

-- ---- the bus's calls
read_log : (a reg n : ℕ) → length (log_field (read a reg n)) ≤ 7
unfolding log_field field
read_log a reg n = omega arith

write_log_lem : (a : ℕ) (bytes : List ℕ) → length (log_field (write a bytes)) ≡ 4 + length bytes
unfolding log_field field
write_log_lem a bytes = omega arith

-- a write's field, and without checks the field of the read back
abbrev pub write_log : Bool → ℕ → ℕ
write_log check k = 5 + cond check 2 1 * k + cond check 0 7

module _ (link : Link) (reg : ℕ) where
  pub logs_read : (n : ℕ) → Logs 7 (read_bytes link reg n)
  unfolding read_bytes read_raw plain_read checked_read ask_frame
  logs_read n =
      let buf : List ℕ = replicate n 0 in
      logs_bind 7 0 _
      (logs_if 7 (not (sound link)) (logs_ret 7 _)
      (logs_if 7 link.check
      (logs_if 7 (ltb (2 * link.x) (length buf)) (logs_ret 7 _)
      (logs_if 7 (eqb (length buf) 0) (logs_ret 7 _)
      (logs_if 7 (ltb 256 (reg + length buf)) (logs_ret 7 _) (logs_one 7 _ _ (read_log link.address reg _)))))
      (logs_if 7 (ltb 256 (reg + length buf)) (logs_ret 7 _) (logs_one 7 _ _ (read_log link.address reg _)))))
      (λ r. logs_ret 0 _)

  module _ (bytes : List ℕ) where
    abbrev sent : ℕ
    sent = 5 + cond link.check 2 1 * length bytes

    logs_send : Logs sent (send link reg bytes)
    unfolding send ask_write
    logs_send =
        let size = length_write_frame link.check link.address reg bytes in
        logs_if sent (not (sound link)) (logs_ret sent _)
        (logs_if sent (ltb 8 (length bytes)) (logs_ret sent _)
        (logs_if sent (eqb (length bytes) 0) (logs_ret sent _)
        (logs_if sent (ltb 256 (reg + length bytes)) (logs_ret sent _)
        (logs_one sent _ _ (omega (arith, write_log_lem link.address (write_frame link.check link.address reg bytes)))))))

    logs_back : (check : Bool)
        → Logs (cond check 0 7) (when check || eqb (length bytes) 0 then ret (value tt) else ask_back link.address reg bytes)
    unfolding ask_back
    logs_back true = logs_ret 0 _
    logs_back false =
        logs_if 7 (eqb (length bytes) 0) (logs_ret 7 _) (logs_one 7 _ _ (read_log link.address reg (length bytes)))

    pub logs_write : Logs (write_log link.check (length bytes)) (write_raw link reg bytes)
    unfolding write_raw
    logs_write = logs_call refused _ sent (cond link.check 0 7) logs_send (λ x. logs_back link.check)
