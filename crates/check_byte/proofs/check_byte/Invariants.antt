-- `crc` is the check byte of the bytes passed.
use Rattle.std.proofs.Common.{◌≡◌, ◌<◌, take}
use Rattle.check_byte.specs.CheckByte.{check_byte}
use Rattle.check_byte.proofs.check_byte.Given as goal

abbrev pub invariant-loop-byte : goal.invariant-loop-byte
invariant-loop-byte l = (l.crc < 256) × (l.crc ≡ check_byte (take l.byte-index l.«data»))
