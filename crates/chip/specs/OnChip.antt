-- What a program does on the model chip, on a wire that may be cut at any transfer; and what a log leaves on a chip.
-- Assumes nothing.
use Rattle.std.specs.Prelude.{◌≡◌, List, [], ◌∷◌, ℕ, suc, length}
use Rattle.std.proofs.Math.Option.{Option, none}
use Rattle.bus.specs.Transfers.{Transfer, Outcome}
use Rattle.bus.specs.Programs.{Prog}
use Rattle.bus.specs.declared.link.Link.{Link}
use Rattle.chip.specs.Devices.{Reached, reached, on_device}
use Rattle.chip.specs.Chip.{respond, respond_cut}
use Rattle.chip.specs.declared.Chip.{Chip}

-- the chip that a link speaks to: it has its address and check setting, and 256 registers
pub record Matches (link : Link) (c : Chip) : Type 0 where
  pub address : link.address ≡ c.address
  pub check : link.check ≡ c.check
  pub size : length c.regs ≡ 256

-- a chip on a wire: for each transfer to come whether it is cut, and after how many bytes
pub record Wired : Type 0 where
  pub chip : Chip
  pub cuts : ℕ → Option ℕ

abbrev pub uncut : Chip → Wired
uncut c = record { chip = c; cuts = λ n. none }

-- the wire at the next transfer
abbrev pub next : Wired → Chip → Wired
next w c = record { chip = c; cuts = λ n. w.cuts (suc n) }

unfoldable pub on_wire : Wired → Transfer → Reached Wired Outcome
on_wire w t =
    let r = respond_cut (w.cuts 0) w.chip t in
    reached r.answer (next w r.device)

abbrev pub on_chip : {A : Type 0} → Prog A → Wired → Reached Wired A
on_chip p w = on_device on_wire p w

-- what the transfers of a log leave on a chip, the last of them cut or not
unfoldable pub fed : Option ℕ → List Transfer → Chip → Chip
fed cut [] c = c
fed cut (t ∷ []) c = (respond_cut cut c t).device
fed cut (t ∷ u ∷ ts) c = fed cut (u ∷ ts) (respond c t).device
