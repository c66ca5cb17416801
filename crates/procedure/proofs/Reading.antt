-- What both calls for the cells have in common: the tests ahead of the read, then the one read of all inputs, whatever
-- is given of it.
-- Assumes nothing.
use mathlib.Core.Path.{◌≡◌, refl, subst⁻¹}
use mathlib.Core.Bool.{Bool, true, false}
use mathlib.Core.List.{List}
use Prim.Native.Nat.{ℕ, ◌*◌}
use native.Mathlib.Omega.{arith}
use lib.IntN.{ℤ}
use Rattle.refusals.specs.Refusal.{Refusal, Answer, value, refused, nine}
use Rattle.bus.specs.Transfers.{Bus}
use Rattle.bus.specs.Programs.{Prog, ret, Ran, on_tape, ◌or_leave◌, ◌>>=◌}
use Rattle.bus.specs.Raw.{read_bytes}
use Rattle.bus.proofs.Programs.{went_on, went_off}
use Rattle.bq769x0.specs.Record.{is_sound}
use Rattle.bq769x0.specs.Registers.{soundly}
use Rattle.bq769x0.specs.declared.BQ769x0.{BQ769x0}
use Rattle.bq769x0.proofs.Soundly.{sound_on, sound_off}
use Rattle.procedure.specs.Inputs.{converted, read_inputs}
use Rattle.procedure.specs.Cells.{ready}

-- what holds of a call's outcome whether it refuses or goes on, holds of what comes of it
by_answer : {A B : Type 0} (P : Ran B → Type 0)
    (p : Prog (Answer A)) (leave : Refusal → B) (f : A → Prog B) (b : Bus)
    → ((r : Refusal) (b' : Bus) → P (record { answer = leave r; bus = b' }))
    → ((a : A) → (on_tape p b).answer ≡ value a → P (on_tape (f a) (on_tape p b).bus))
    → P (on_tape ((p or_leave leave) >>= f) b)
by_answer {A} P p leave f b off on = go (on_tape p b).answer refl
  where
    go : (y : Answer A) → (on_tape p b).answer ≡ y → P (on_tape ((p or_leave leave) >>= f) b)
    go (value a) e = subst⁻¹ P (went_on p leave f b (on_tape p b).bus (on_tape p b).answer refl a e) (on a e)
    go (refused r) e =
        subst⁻¹ P (went_off p leave f b (on_tape p b).bus (on_tape p b).answer refl r e) (off r (on_tape p b).bus)

-- the inputs are those of the bytes read
module _ (d : BQ769x0) (b : Bus) where
  abbrev Read : List ℕ → Type 0
  Read bytes = (on_tape (read_bytes d.link 0x0C (2 * d.link.x)) b).answer ≡ value bytes

  abbrev OfBytes : List ℤ → Type 0
  OfBytes inputs = (bytes : List ℕ) × Read bytes × (inputs ≡ converted d.adc bytes)

  of_bytes : (inputs : List ℤ) → (on_tape (read_inputs d.link d.adc) b).answer ≡ value inputs → OfBytes inputs
  unfolding read_inputs on_tape
  of_bytes =
      by_answer (λ x. (inputs : List ℤ) → x.answer ≡ value inputs → OfBytes inputs)
      (read_bytes d.link 0x0C (2 * d.link.x)) refused _ b
      (λ r b' inputs e. absurd (let z : ◌≡◌ {A = ℕ} 0 1 = cc in omega arith))
      (λ bytes read inputs e. (bytes, read, cc))

module _ {A : Type 0} (d : BQ769x0) (room : ℕ) (leave : Refusal → A) (give : List ℤ → A) (b : Bus) where
  -- the read, and what is given of it
  abbrev pub reading : Prog A
  reading = (read_inputs d.link d.adc or_leave leave) >>= λ inputs. ret (give inputs)

  -- 9, 4, 19 ahead of it
  abbrev pub call : Prog A
  call = soundly d (leave nine) ((ret (ready d room) or_leave leave) >>= λ _. reading)

  -- what holds of every refusal, and of what is given of the bytes that a sound record's read gives, holds of the call
  module _ (P : Ran A → Type 0) (off : (r : Refusal) (b' : Bus) → P (record { answer = leave r; bus = b' }))
      (on : is_sound d ≡ true → (bytes : List ℕ) (b' : Bus) → Read d b bytes
      → P (record { answer = give (converted d.adc bytes); bus = b' })) where
    by_bytes : is_sound d ≡ true → P (on_tape reading b)
    unfolding on_tape
    by_bytes sound =
        by_answer P (read_inputs d.link d.adc) leave _ b off λ inputs e.
        let given = of_bytes d b inputs e in
        subst⁻¹ (λ (l : List ℤ). P (record { answer = give l; bus = (on_tape (read_inputs d.link d.adc) b).bus })) given.2
        (on sound given.0 _ given.1)

    pub by_call : P (on_tape call b)
    unfolding on_tape
    by_call = by_sound (is_sound d) refl
      where
        by_sound : (t : Bool) → is_sound d ≡ t → P (on_tape call b)
        by_sound true e =
            subst⁻¹ P (sound_on d (leave nine) _ b e)
            (by_answer P (ret (ready d room)) leave _ b off λ done q. by_bytes e)
        by_sound false e = subst⁻¹ P (sound_off d (leave nine) _ b e) (off nine b)
