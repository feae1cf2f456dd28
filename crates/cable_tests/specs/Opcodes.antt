-- The OpCode of a checked body. Assumes nothing.
use Rattle.std.specs.Prelude.{ℕ, Some, None, Ok, Err, Option, Result}
use Rattle.wire.specs.declared.faults.Fault.{Fault}
use Rattle.wire.specs.Frames.{Frame}

abbrev pub first_byte : Result Frame Fault → Option ℕ
first_byte (Ok f) = Some f.opcode
first_byte (Err e) = None
