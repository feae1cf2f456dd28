-- The number of each refusal and the code of each fault. Assumes nothing.
use Rattle.std.specs.Prelude.{ℕ}
use Rattle.wire.specs.declared.faults.Fault.{Fault}
use Rattle.wire.specs.declared.faults.Fault.TheVariants.{Checksum}
use Rattle.wire.specs.declared.faults.Refusal.{Refusal}
use Rattle.wire.specs.declared.faults.Refusal.TheVariants.{FrameMemory, WriteMemory, DataLength}

abbrev pub refusal_number : Refusal → ℕ
refusal_number FrameMemory = 2
refusal_number WriteMemory = 4
refusal_number DataLength = 6

abbrev pub fault_code : Fault → ℕ
fault_code Checksum = 0x05040004
