-- What one complete body answers and leaves: the answer, the open chain, the objects and the staging memory. Assumes nothing.
use Rattle.std.specs.Prelude.{◌≡◌, ℕ, Bool, true, false, cond, ◌++◌, None, Ok, Err, Option, Result}
use Rattle.wire.specs.declared.faults.Fault as wire
use Rattle.wire.specs.Frames.{Frame}
use Rattle.wire.specs.Framing.{laid}
use Rattle.dictionary.specs.Objects.{Bytes, Objects, value}
use Rattle.command.specs.declared.commands.Command.{Command}
use Rattle.command.specs.declared.commands.Command.TheVariants.{ReadObject, InitiateSegmentedRead, WriteObject, InitiateSegmentedWrite, SegmentRead, SegmentWrite}
use Rattle.command.specs.declared.faults.Fault.{Fault}
use Rattle.command.specs.declared.faults.Fault.TheVariants.{Wire}
use Rattle.command.specs.Answers.{accepted_data}
use Rattle.command.specs.Checks.{Check, OpenChain, closed, fault_of, checks, command_row, segment_row, first_of, fault, joined_of}
use Rattle.command.specs.Commands.{by_fault, brings_back, next_chain, write_of, apply}
use Rattle.command.specs.Decoding.{Is, command_check}
use Rattle.command.specs.Frames.{Verb, read_object, initiate_read, write_object, initiate_write, segment_read, segment_write, unknown}
use Rattle.command.specs.Frames.{verb, address, part}
use Rattle.port.specs.declared.chains.Chain.{Chain}
use Rattle.port.specs.declared.chains.Taken.{Taken}
use Rattle.port.specs.Chains.{chain_of}

pub record Done : Type 0 where
  pub answer : Result Bytes Fault
  pub chain : OpenChain
  pub objects : Objects
  pub staging : Bytes

-- the first check of the command row and the segment row that turns the frame away: what they pass is staged
abbrev pub segment_fault : ℕ → Objects → OpenChain → Frame → Option Check
segment_fault node d c f = first_of (checks (verb f) node d c f) (command_row ++ segment_row)

-- the staging memory after a frame: an accepted read initiate copies the whole value, a segment's bytes stand behind those joined before
abbrev pub staged_by : Verb → ℕ → Objects → OpenChain → Frame → Bytes → Bytes
staged_by read_object node d c f m = m
staged_by initiate_read node d c f m = by_fault (fault node d c f) (λ _. m) (laid (value d (address f)) m)
staged_by write_object node d c f m = m
staged_by initiate_write node d c f m = m
staged_by segment_read node d c f m = m
staged_by segment_write node d c f m = by_fault (segment_fault node d c f) (λ _. m) (laid (joined_of c ++ part f) m)
staged_by unknown node d c f m = m

-- one heard frame
unfoldable pub frame_done : ℕ → Objects → OpenChain → Bytes → Frame → Done
frame_done node d c m f =
    record {
      answer = by_fault (fault node d c f) (λ k. Err (fault_of k)) (Ok (accepted_data (brings_back (verb f) d c f)));
      chain = next_chain node d c f;
      objects = apply d (write_of node d c f);
      staging = staged_by (verb f) node d c f m;
    }

-- one complete body: where the checksum does not fit, only that is answered
abbrev pub body_done : ℕ → Objects → OpenChain → Bytes → Result Frame wire.Fault → Done
body_done node d c m (Ok f) = frame_done node d c m f
body_done node d c m (Err e) = record { answer = Err (Wire e); chain = c; objects = d; staging = m }

-- what a command of a chain answers, and the chain that it leaves: none where it is turned away
abbrev pub shown_taken : Result Taken Fault → Result Bytes Fault
shown_taken (Ok t) = Ok t.answer
shown_taken (Err e) = Err e

abbrev pub next_of : Result Taken Fault → Option Chain
next_of (Ok t) = t.next
next_of (Err e) = None

-- a call answered and left just this
pub record Leaves (o : Done) (answer : Result Bytes Fault) (chain : OpenChain) (objects : Objects) (staging : Bytes) : Type 0 where
  pub answer_is : answer ≡ o.answer
  pub chain_is : chain ≡ o.chain
  pub objects_are : objects ≡ o.objects
  pub staging_is : staging ≡ o.staging

-- the same of every frame that is this command
unfoldable pub Carried : Command → Objects → OpenChain → Bytes → Result Bytes Fault → OpenChain → Objects → Bytes → Type 0
Carried command d c m answer chain objects staging =
    (node : ℕ) (f : Frame) → Is f command → command_check node f ≡ None → Leaves (frame_done node d c m f) answer chain objects staging

-- the chain that is left: it ends unless it is kept
abbrev pub left : Bool → Option Chain → Bytes → OpenChain
left kept s m = cond kept (chain_of s m) closed

-- ReadObject and WriteObject leave the open chain as it is
abbrev pub leaves_chain : Command → Bool
leaves_chain (ReadObject at) = true
leaves_chain (InitiateSegmentedRead at) = false
leaves_chain (WriteObject at n) = true
leaves_chain (InitiateSegmentedWrite at n) = false
leaves_chain (SegmentRead toggle) = false
leaves_chain (SegmentWrite n toggle last part) = false
