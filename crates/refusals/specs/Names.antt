-- The name of a refusal, as it is printed.
-- Assumes nothing.
use Rattle.std.specs.Prelude.{ℕ, List, codes}
use Rattle.refusals.specs.declared.Error.{Error}
use Rattle.refusals.specs.declared.Error.TheVariants as E

abbrev pub name_of : Error → List ℕ
name_of E.CRCMismatch = codes "CRCMismatch"
name_of E.I2CError = codes "I2CError"
name_of E.BufTooLarge = codes "BufTooLarge"
name_of E.Uninitialized = codes "Uninitialized"
name_of (E.VerifyError reg) = codes "VerifyError"
name_of E.OCDSCDRangeMismatch = codes "OCDSCDRangeMismatch"
name_of (E.UVThresholdUnobtainable low high) = codes "UVThresholdUnobtainable"
name_of (E.OVThresholdUnobtainable low high) = codes "OVThresholdUnobtainable"
name_of E.BadDevice = codes "BadDevice"
name_of E.BadCellCount = codes "BadCellCount"
name_of E.BadAddress = codes "BadAddress"
name_of E.BadShunt = codes "BadShunt"
name_of E.CurrentTooLarge = codes "CurrentTooLarge"
name_of E.RegisterRunsOut = codes "RegisterRunsOut"
name_of E.BadTape = codes "BadTape"
name_of E.TapeEnded = codes "TapeEnded"
name_of E.LogFull = codes "LogFull"
name_of E.UnknownFlags = codes "UnknownFlags"
name_of E.NoRoom = codes "NoRoom"
name_of E.UnknownRange = codes "UnknownRange"
name_of E.NoSuchInput = codes "NoSuchInput"
name_of E.NotOnDevice = codes "NotOnDevice"
name_of E.Neighbours = codes "Neighbours"
name_of E.TooManyCells = codes "TooManyCells"
