-- The OpCodes of the code, and the commands that they name.
-- Assumes nothing.
use Rattle.std.specs.Prelude.{Ok, Err, Result}
use Rattle.command.specs.declared.opcodes.OpCode.{OpCode}
use Rattle.command.specs.declared.opcodes.OpCode.TheVariants.{ReadObject, InitiateSegmentedRead, WriteObject, InitiateSegmentedWrite, SegmentRead, SegmentWrite}
use Rattle.command.specs.declared.faults.CommandFault as command
use Rattle.command.specs.Frames.{Verb, read_object, initiate_read, write_object, initiate_write, segment_read, segment_write, unknown}

-- the command that an OpCode names
abbrev pub named : OpCode → Verb
named ReadObject = read_object
named InitiateSegmentedRead = initiate_read
named WriteObject = write_object
named InitiateSegmentedWrite = initiate_write
named SegmentRead = segment_read
named SegmentWrite = segment_write

-- and back: the OpCode of a command, or the fault of a frame that is none
abbrev pub opcode_of : Verb → Result OpCode command.CommandFault
opcode_of read_object = Ok ReadObject
opcode_of initiate_read = Ok InitiateSegmentedRead
opcode_of write_object = Ok WriteObject
opcode_of initiate_write = Ok InitiateSegmentedWrite
opcode_of segment_read = Ok SegmentRead
opcode_of segment_write = Ok SegmentWrite
opcode_of unknown = Err command.TheVariants.OpCode
