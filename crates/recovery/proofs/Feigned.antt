-- A driver that feigns the second `init`, answering as a good one with no transfer, does not end as the first: an `init` whose steps can be
-- chosen makes transfers, and logs them.
-- Assumes nothing.
use mathlib.Core.Path.{◌≡◌, refl, sym, ap, subst}
use mathlib.Core.Bool.{true}
use Prim.Native.Nat.{ℕ, ◌+◌, ◌*◌, ◌≤◌}
use native.Mathlib.Omega.{arith}
use lib.ListN.{length, replicate, length-append, length-replicate}
use Rattle.refusals.specs.Refusal.{Answer, value}
use Rattle.plan.specs.Steps.{InMv}
use Rattle.plan.specs.declared.Config.{Config}
use Rattle.fields.specs.Fields.{field}
use Rattle.bus.specs.Transfers.{log_field}
use Rattle.bus.specs.Programs.{Prog, bind, proceed, ◌>>=◌}
use Rattle.bus.specs.Raw.{Read, sound, read_raw, read_bytes}
use Rattle.bus.specs.declared.link.Link.{Link}
use Rattle.bq769x0.specs.Record.{is_sound}
use Rattle.bq769x0.specs.Registers.{soundly}
use Rattle.bq769x0.specs.declared.BQ769x0.{BQ769x0}
use Rattle.bq769x0.proofs.Speaks.{link_sound, some_inputs}
use Rattle.procedure.specs.Calibrate.{calibrate}
use Rattle.procedure.specs.Init.{init_by}
use Rattle.chip.specs.Devices.{log_of}
use Rattle.chip.specs.OnChip.{Wired, on_wire}
use Rattle.chip.proofs.Logs.{log_bind}
use Rattle.chip.proofs.Raws.{one_read}
use Rattle.runs.specs.Calls.{Alike}
use Rattle.runs.proofs.Calls.{is_added}
use Rattle.runs.proofs.Feigned.{none_added}
use Rattle.recovery.specs.Runs.{Call, Run}
use Rattle.recovery.proofs.Asked.{init_fine}

-- ---- seven bytes of log at least
abbrev Logs7 : {A : Type 0} → Prog A → Wired → Type 0
Logs7 p w = 7 ≤ length (log_of on_wire p w)

and_more : {A B : Type 0} (p : Prog A) (f : A → Prog B) (w : Wired) → Logs7 p w → Logs7 (bind p f) w
and_more p f w h = rw (log_bind on_wire p f w, length-append) (omega arith)

read_logs : (link : Link) → sound link ≡ true → (reg n : ℕ) → reg + n ≤ 256 → 1 ≤ n → n ≤ 2 * link.x → (w : Wired)
    → Logs7 (read_bytes link reg n) w
unfolding read_bytes log_of log_field field
read_logs link ok reg n room few most w =
    let size : length {A = ℕ} (replicate n 0) ≡ n = length-replicate n 0 in
    let one = one_read link ok link.check refl reg (replicate n 0) (rw size room) (rw size few) (rw size most) in
    and_more (read_raw link reg (replicate n 0)) _ w (subst (λ (p : Prog Read). Logs7 p w) (sym one) (omega arith))

module _ (choose : Config → Answer InMv) (config : Config) (d : BQ769x0) (ok : is_sound d ≡ true) (steps : InMv)
    (chosen : choose config ≡ value steps) where
  init_logs : (w : Wired) → Logs7 (init_by choose d config) w
  unfolding init_by soundly calibrate ◌>>=◌ bind proceed
  init_logs w =
      rw (ok, chosen)
      (and_more (calibrate d) _ w
      (and_more (read_bytes d.link 0x50 2) _ w
      (read_logs d.link (link_sound d ok) 0x50 2 (omega arith) (omega arith) (omega (arith, some_inputs d ok)) w)))

  -- where both positions are as they were, there was no transfer
  pub not_feigned : {w w' : Wired} {call first : Call} → Run choose config d w' first → call.at' ≡ call.at
      → Alike w w' call first → ⊥
  not_feigned {w' = w'} run same a =
      omega (arith, none_added same a, ap length (is_added (init_fine choose config d) run), init_logs w')
