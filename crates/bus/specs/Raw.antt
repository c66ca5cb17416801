-- Reading and writing a chip's registers, with check bytes and without, as programs over transfers.
-- Assumes nothing.
use Rattle.std.specs.Prelude.{ℕ, suc, ◌+◌, ◌*◌, Bool, not, ◌&&◌, ◌||◌, List, [], ◌∷◌, length, replicate, pos, eqb, leb, ltb, Result}
use Rattle.refusals.specs.Refusal.{no, Answer, value, refused, answering, as_answer}
use Rattle.refusals.specs.declared.Error.{Error}
use Rattle.sizes.specs.Sizes.{is_size}
use Rattle.frames.specs.Frames.{read_byte, right, data_of, write_frame}
use Rattle.frames.specs.Put.{put}
use Rattle.laws.specs.Choice.{when◌then◌else◌}
use Rattle.bus.specs.Transfers.{read, write, Outcome, done, fault, stopped}
use Rattle.bus.specs.Programs.{Prog, ret, ask, bind, ◌or_leave◌, ◌>>=◌}
use Rattle.bus.specs.declared.link.Link.{Link}

-- a 7-bit address, and a device's count of inputs
abbrev pub sound : Link → Bool
sound s = leb s.address 127 && is_size s.x

-- a call that has nothing to hand back
abbrev pub Done : Type 0
Done = Unit {0}

abbrev pub as_raw : Result Done Error → Answer Done
as_raw = as_answer (λ _. tt)

-- ---- reading: the answer, and the caller's bytes then
pub record Read : Type 0 where
  pub answer : Answer Done
  pub bytes : List ℕ

abbrev pub gives : Answer Done → List ℕ → Read
gives a bytes = record { answer = a; bytes = bytes }

abbrev pub refuses : ℕ → Answer Done
refuses n = refused (no n [])

-- without checks a fault is 2, and has stored the bytes delivered
unfoldable pub plainly : List ℕ → Outcome → Read
plainly buf (done bytes) = gives (value tt) (put buf 0 bytes)
plainly buf (fault bytes) = gives (refuses 2) (put buf 0 bytes)
plainly buf (stopped r) = gives (refused r) buf

-- with checks: the bytes of a frame, those not delivered counting as zero
unfoldable pub received : ℕ → List ℕ → List ℕ
received n bytes = put (replicate n 0) 0 bytes

unfoldable pub where_right : ℕ → List ℕ → List ℕ → Read → Read
where_right address buf frame r = when right (read_byte address ∷ []) frame then r else gives (refuses 1) buf

-- a wrong check byte is 1, and is looked for before the fault; a refused read leaves the caller's bytes as they were
unfoldable pub checkedly : ℕ → List ℕ → Outcome → Read
checkedly address buf (done bytes) =
    let frame = received (2 * length buf) bytes in
    where_right address buf frame (gives (value tt) (put buf 0 (data_of frame)))
checkedly address buf (fault bytes) = where_right address buf (received (2 * length buf) bytes) (gives (refuses 2) buf)
checkedly address buf (stopped r) = gives (refused r) buf

unfoldable pub plain_read : Link → ℕ → List ℕ → Prog Read
plain_read s reg buf =
    when ltb 256 (reg + length buf) then ret (gives (refuses 14) buf)
    else ask (read s.address reg (length buf)) λ o. ret (plainly buf o)

unfoldable pub ask_frame : ℕ → ℕ → List ℕ → Prog Read
ask_frame address reg buf = ask (read address reg (2 * length buf)) λ o. ret (checkedly address buf o)

unfoldable pub checked_read : Link → ℕ → List ℕ → Prog Read
checked_read s reg buf =
    when ltb (2 * s.x) (length buf) then ret (gives (refuses 3) buf)
    else when eqb (length buf) 0 then ret (gives (value tt) buf)
    else when ltb 256 (reg + length buf) then ret (gives (refuses 14) buf)
    else ask_frame s.address reg buf

unfoldable pub read_raw : Link → ℕ → List ℕ → Prog Read
read_raw s reg buf =
    when not (sound s) then ret (gives (refuses 9) buf)
    else when s.check then checked_read s reg buf
    else plain_read s reg buf

-- a read of n bytes by a caller that wants them or a refusal
unfoldable pub read_bytes : Link → ℕ → ℕ → Prog (Answer (List ℕ))
read_bytes s reg n = bind (read_raw s reg (replicate n 0)) λ r. ret (answering r.answer r.bytes)

-- ---- writing
unfoldable pub wrote : Outcome → Answer Done
wrote (done bytes) = value tt
wrote (fault bytes) = refuses 2
wrote (stopped r) = refused r

unfoldable pub ask_write : Link → ℕ → List ℕ → Prog (Answer Done)
ask_write s reg bytes = ask (write s.address (write_frame s.check s.address reg bytes)) λ o. ret (wrote o)

-- one write that is not read back
unfoldable pub send : Link → ℕ → List ℕ → Prog (Answer Done)
send s reg bytes =
    when not (sound s) then ret (refuses 9)
    else when ltb 8 (length bytes) then ret (refuses 3)
    else when eqb (length bytes) 0 then ret (value tt)
    else when ltb 256 (reg + length bytes) then ret (refuses 14)
    else ask_write s reg bytes

-- 5 at the first register that reads back otherwise
unfoldable pub compared : ℕ → List ℕ → List ℕ → Answer Done
compared reg [] back = value tt
compared reg (x ∷ bytes) [] = value tt
compared reg (x ∷ bytes) (y ∷ back) = when eqb x y then compared (suc reg) bytes back else refused (no 5 (pos reg ∷ []))

unfoldable pub verified : ℕ → List ℕ → Outcome → Answer Done
verified reg bytes (done back) = compared reg bytes back
verified reg bytes (fault back) = refuses 2
verified reg bytes (stopped r) = refused r

unfoldable pub ask_back : ℕ → ℕ → List ℕ → Prog (Answer Done)
ask_back address reg bytes = ask (read address reg (length bytes)) λ o. ret (verified reg bytes o)

-- without checks what was written is read back and compared
unfoldable pub write_raw : Link → ℕ → List ℕ → Prog (Answer Done)
write_raw s reg bytes = do
  _ ← send s reg bytes or_leave refused
  when s.check || eqb (length bytes) 0 then ret (value tt)
      else ask_back s.address reg bytes
