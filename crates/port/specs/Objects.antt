-- How a call on one object answers the frames that its command is read from: by the table of checks. Assumes nothing.
use Rattle.std.specs.Prelude.{◌≡◌, ℕ, None, Ok, Err, Result}
use Rattle.dictionary.specs.declared.Fault as dictionary
use Rattle.dictionary.specs.declared.Address.{Address}
use Rattle.dictionary.specs.Objects.{Bytes, Objects, value}
use Rattle.wire.specs.Frames.{Frame}
use Rattle.wire.specs.Framing.{laid}
use Rattle.command.specs.declared.commands.Command.{Command}
use Rattle.command.specs.declared.faults.Fault.{Fault}
use Rattle.command.specs.declared.faults.Fault.TheVariants.{Dictionary}
use Rattle.command.specs.Checks.{OpenChain, fault_of, fault}
use Rattle.command.specs.Answers.{accepted_data}
use Rattle.command.specs.Commands.{by_fault, brings_back, write_of, apply}
use Rattle.command.specs.Decoding.{Is, command_check}
use Rattle.command.specs.Frames.{verb}

-- for every frame that is read as this command, at any node and with any chain open
abbrev pub EachFrame : Command → (ℕ → OpenChain → Frame → Type 0) → Type 0
EachFrame command P = (node : ℕ) (c : OpenChain) (f : Frame) → Is f command → command_check node f ≡ None → P node c f

-- the fault that the table finds, and without one x
abbrev pub by_table : {X : Type 0} → ℕ → Objects → OpenChain → Frame → X → Result X Fault
by_table node d c f x = by_fault (fault node d c f) (λ k. Err (fault_of k)) (Ok x)

-- a result of the dictionary, with its fault as that of a command
abbrev pub of_dictionary : {X : Type 0} → Result X dictionary.Fault → Result X Fault
of_dictionary (Ok x) = Ok x
of_dictionary (Err e) = Err (Dictionary e)

-- What a call on the objects d does for its command: for each of those frames, what the table says.

-- the dictionary's result is this: the fault that the table finds, and x without one
unfoldable pub Tells : {X : Type 0} → Command → Objects → Result X dictionary.Fault → X → Type 0
Tells command d r x = EachFrame command (λ node c f. of_dictionary r ≡ by_table node d c f x)

-- its answer is this: the fault that the table finds, or the data that it gives
unfoldable pub Answers : Command → Objects → Result Bytes Fault → Type 0
Answers command d r = EachFrame command (λ node c f. r ≡ by_table node d c f (accepted_data (brings_back (verb f) d c f)))

-- it leaves the objects d1
unfoldable pub Writes : Command → Objects → Objects → Type 0
Writes command d d1 = EachFrame command (λ node c f. d1 ≡ apply d (write_of node d c f))

-- it leaves the memory m1, with the value at an address over the front of m where no fault is found
unfoldable pub Stages : Command → Objects → Address → Bytes → Bytes → Type 0
Stages command d at m m1 = EachFrame command (λ node c f. m1 ≡ by_fault (fault node d c f) (λ _. m) (laid (value d at) m))
