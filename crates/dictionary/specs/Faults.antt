-- The abort code of each fault of a dictionary, as CiA 301 has it.
-- Assumes nothing.
use Rattle.std.specs.Prelude.{ℕ}
use Rattle.dictionary.specs.declared.Fault.{Fault}
use Rattle.dictionary.specs.declared.Fault.TheVariants.{NoIndex, NoSubindex, WriteOnly, ReadOnly, NotNumber, TooLong, TooShort, OverHigh, UnderLow, ShortMemory}

abbrev pub abort_code : Fault → ℕ
abort_code NoIndex = 0x06020000
abort_code NoSubindex = 0x06090011
abort_code WriteOnly = 0x06010001
abort_code ReadOnly = 0x06010002
abort_code NotNumber = 0x06070010
abort_code TooLong = 0x06070012
abort_code TooShort = 0x06070013
abort_code OverHigh = 0x06090031
abort_code UnderLow = 0x06090032
abort_code ShortMemory = 0x05040005
