-- An OpCode that was read of a frame's byte names the frame's command.
use Rattle.std.proofs.Common.{◌≡◌, Ok, Err, refl, ap}
use Rattle.command.specs.declared.opcodes.OpCode.{OpCode}
use Rattle.command.specs.declared.opcodes.OpCode.TheVariants.{ReadObject, InitiateSegmentedRead, WriteObject, InitiateSegmentedWrite, SegmentRead, SegmentWrite}
use Rattle.command.specs.declared.faults.CommandFault as command
use Rattle.command.specs.Frames.{Verb, read_object, initiate_read, write_object, initiate_write, segment_read, segment_write, unknown}
use Rattle.command.specs.OpCodes.{named, opcode_of}

pub names : (w : Verb) (op : OpCode) → opcode_of w ≡ Ok op → w ≡ named op
names read_object op e = let h : ReadObject ≡ op = cc in ap named h
names initiate_read op e = let h : InitiateSegmentedRead ≡ op = cc in ap named h
names write_object op e = let h : WriteObject ≡ op = cc in ap named h
names initiate_write op e = let h : InitiateSegmentedWrite ≡ op = cc in ap named h
names segment_read op e = let h : SegmentRead ≡ op = cc in ap named h
names segment_write op e = let h : SegmentWrite ≡ op = cc in ap named h
names unknown op e = cc

pub names_none : (w : Verb) (fault : command.CommandFault) → opcode_of w ≡ Err fault → (w ≡ unknown) × (fault ≡ command.TheVariants.OpCode)
names_none read_object fault e = cc
names_none initiate_read fault e = cc
names_none write_object fault e = cc
names_none initiate_write fault e = cc
names_none segment_read fault e = cc
names_none segment_write fault e = cc
names_none unknown fault e = (refl, cc)
