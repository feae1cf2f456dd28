-- The abort code of each fault, with the fault of a lower layer inside.
-- Assumes nothing.
use Rattle.std.specs.Prelude.{ℕ}
use Rattle.wire.specs.Numbers.{fault_code}
use Rattle.dictionary.specs.Faults.{abort_code}
use Rattle.command.specs.declared.faults.CommandFault.TheVariants.{OpCode, Len, Node}
use Rattle.command.specs.declared.faults.ChainFault.TheVariants.{NoChain, Toggle, Misfit, SumOver, LastShort}
use Rattle.command.specs.declared.faults.Fault.{Fault}
use Rattle.command.specs.declared.faults.Fault.TheVariants.{Wire, Command, Chain, Dictionary}

abbrev pub code_of : Fault → ℕ
code_of (Wire e) = fault_code e
code_of (Command OpCode) = 0x0F00FFBF
code_of (Command Len) = 0x06070010
code_of (Command Node) = 0x0F00FFB9
code_of (Chain NoChain) = 0x08000022
code_of (Chain Toggle) = 0x05030000
code_of (Chain Misfit) = 0x06070010
code_of (Chain SumOver) = 0x06070012
code_of (Chain LastShort) = 0x06070013
code_of (Dictionary e) = abort_code e
