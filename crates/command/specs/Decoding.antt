-- What a checked frame is read as: one of six commands with its own fields, or the first check of the command row that turns it away.
-- Assumes nothing.
use Rattle.std.specs.Prelude.{◌≡◌, ℕ, cond, take, drop, Some, None, Ok, Err, Option, Result, ◌==◌}
use Rattle.std.specs.Borrow.{Bor}
use Rattle.dictionary.specs.declared.Address.{Address}
use Rattle.dictionary.specs.Objects.{Bytes}
use Rattle.wire.specs.declared.checked.Frame as checked
use Rattle.wire.specs.declared.faults.Fault as wire
use Rattle.wire.specs.Frames.{Frame}
use Rattle.command.specs.declared.commands.Command.{Command}
use Rattle.command.specs.declared.commands.Command.TheVariants.{ReadObject, InitiateSegmentedRead, WriteObject, InitiateSegmentedWrite, SegmentRead, SegmentWrite}
use Rattle.command.specs.declared.commands.Part.{Part}
use Rattle.command.specs.declared.faults.CommandFault.{CommandFault}
use Rattle.command.specs.declared.faults.Fault.{Fault}
use Rattle.command.specs.declared.faults.Fault.TheVariants.{Wire as OfWire, Command as OfCommand}
use Rattle.command.specs.Frames.{read_object, initiate_read, write_object, initiate_write, segment_read, segment_write}
use Rattle.command.specs.Frames.{verb, len, address, payload, number, declared, read_toggle, write_toggle, size, marked, part, room}
use Rattle.command.specs.Checks.{Check, closed, command_row, checks, first_of, found}
use Rattle.command.specs.Answers.{four, bit}

-- a checked frame by its values
abbrev pub frame_of : checked.Frame → Frame
frame_of f = record { opcode = f.opcode; content = f.«data».now }

-- the first check of the command row that turns the frame away: the row looks at neither the objects nor the chain
abbrev pub command_check : ℕ → Frame → Option Check
command_check node f = first_of (checks (verb f) node (λ _. None) closed f) command_row

-- a part by its values: its place, and its bytes
abbrev pub part_values : Option Part → Option (ℕ × Bytes)
part_values None = None
part_values (Some p) = Some (p.place, p.bytes.now)

-- the n bytes of a SegmentWrite with their place in the body, behind OpCode, Len, n and control; none where n does not fit Len
abbrev pub part_in : Frame → Option (ℕ × Bytes)
part_in f = cond (len f == room (size f)) (Some (4, part f)) None

-- the frame is this command
abbrev pub Is : Frame → Command → Type 0
Is f (ReadObject at) = (verb f ≡ read_object) × (at ≡ address f)
Is f (InitiateSegmentedRead at) = (verb f ≡ initiate_read) × (at ≡ address f)
Is f (WriteObject at n) = (verb f ≡ write_object) × (at ≡ address f) × (n ≡ number f) × (four n ≡ payload f)
Is f (InitiateSegmentedWrite at n) = (verb f ≡ initiate_write) × (at ≡ address f) × (n ≡ declared f)
Is f (SegmentRead toggle) = (verb f ≡ segment_read) × (bit toggle ≡ read_toggle f)
Is f (SegmentWrite n toggle last bytes) =
    (verb f ≡ segment_write) × (n ≡ size f) × (bit toggle ≡ write_toggle f) × (last ≡ marked f) × (part_values bytes ≡ part_in f)

-- what decoding gives
abbrev pub Decodes : ℕ → Frame → Result Command CommandFault → Type 0
Decodes node f (Ok c) = (command_check node f ≡ None) × Is f c
Decodes node f (Err e) = found (command_check node f) ≡ Some (OfCommand e)

-- what reading a body gives: a body whose checksum does not fit is no frame
abbrev pub Reads : ℕ → Result Frame wire.Fault → Result Command Fault → Type 0
Reads node (Ok f) (Ok c) = Decodes node f (Ok c)
Reads node (Ok f) (Err e) = found (command_check node f) ≡ Some e
Reads node (Err fault) (Ok c) = ⊥
Reads node (Err fault) (Err e) = e ≡ OfWire fault

-- the address in front of the data, and the n data bytes behind it, of a frame that passes the command row
abbrev pub Opens : ℕ → ℕ → Frame → Result (Address × Bor Bytes) CommandFault → Type 0
Opens n node f (Ok p) = (command_check node f ≡ None) × (p.0 ≡ address f) × (p.1.now ≡ take n (drop 4 f.content))
Opens n node f (Err e) = found (command_check node f) ≡ Some (OfCommand e)
