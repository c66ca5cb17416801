-- The one read of all inputs, by what `read_raw` did: refused as it was, and else converted.
-- Assumes nothing.
use mathlib.Core.Path.{◌≡◌, refl, sym}
use mathlib.Core.List.{List}
use Prim.Native.Nat.{ℕ, ◌*◌, ◌≤◌}
use native.Mathlib.Omega.{arith}
use lib.ListN.{take, replicate}
use Rattle.refusals.specs.Refusal.{Refusal, value, refused}
use Rattle.adc.specs.declared.transfer.AdcTransferFunction.{AdcTransferFunction}
use Rattle.bus.specs.Transfers.{Bus}
use Rattle.bus.specs.Programs.{ends, on_tape}
use Rattle.bus.specs.Raw.{gives, read_raw}
use Rattle.bus.specs.declared.link.Link.{Link}
use Rattle.bus.proofs.Calls.{read_on, read_off}
use Rattle.bus.proofs.Raws.{zeros}
use Rattle.procedure.specs.Inputs.{converted, read_inputs}

module _ (link : Link) (adc : AdcTransferFunction) (few : link.x ≤ 15) (b b' : Bus) (bytes : List ℕ) where
  pub all_refused : {r : Refusal} → ends (gives (refused r) bytes) b' ≡ on_tape (read_raw link 0x0C (take (2 * link.x) (replicate 32 0))) b
      → ends (refused r) b' ≡ on_tape (read_inputs link adc) b
  unfolding read_inputs
  all_refused e =
      let said = rw (zeros (2 * link.x) 32 (omega arith)) at e in
      sym (read_off link 0x0C (2 * link.x) b said refused _ _ refl)

  pub all_read : ends (gives (value tt) bytes) b' ≡ on_tape (read_raw link 0x0C (take (2 * link.x) (replicate 32 0))) b
      → ends (value (converted adc bytes)) b' ≡ on_tape (read_inputs link adc) b
  unfolding read_inputs on_tape
  all_read e =
      let said = rw (zeros (2 * link.x) 32 (omega arith)) at e in
      sym (read_on link 0x0C (2 * link.x) b said refused _ refl)
