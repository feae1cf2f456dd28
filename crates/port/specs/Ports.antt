-- What a byte call answers and leaves. Assumes nothing.
use Rattle.std.specs.Prelude.{◌≡◌, ℕ, Bool, cond, ◌&&◌, codes, length, take, Some, None, Ok, Err, Option, Result, nat_le, nat_lt}
use Rattle.wire.specs.declared.receiving.Phase.{Phase}
use Rattle.wire.specs.declared.receiving.Phase.TheVariants.{Hunting}
use Rattle.wire.specs.Checking.{checked_frame}
use Rattle.wire.specs.Framing.{laid}
use Rattle.wire.specs.Receiving.{Step, step, front}
use Rattle.dictionary.specs.Objects.{Bytes, Objects}
use Rattle.command.specs.declared.faults.Fault.{Fault}
use Rattle.command.specs.Answers.{refused_data}
use Rattle.command.specs.Checks.{OpenChain}
use Rattle.law.specs.Calls.{answer_frame}
use Rattle.port.specs.declared.ports.OpeningRefusal.{OpeningRefusal}
use Rattle.port.specs.declared.ports.OpeningRefusal.TheVariants.{Node}
use Rattle.port.specs.declared.ports.Port.{Port}
use Rattle.port.specs.declared.ports.Refusal.{Refusal}
use Rattle.port.specs.declared.ports.Refusal.TheVariants.{FrameMemory, StagingMemory, AnswerMemory}
use Rattle.port.specs.declared.ports.Reply.{Reply}
use Rattle.port.specs.declared.chains.Chain.{Chain}
use Rattle.port.specs.Chains.{chain_of}
use Rattle.port.specs.Serving.{Done, body_done}

-- the number of each refusal
abbrev pub opening_number : OpeningRefusal → ℕ
opening_number Node = 1

abbrev pub refusal_number : Refusal → ℕ
refusal_number FrameMemory = 2
refusal_number StagingMemory = 3
refusal_number AnswerMemory = 4

-- what each refusal says
abbrev pub opening_text : OpeningRefusal → Bytes
opening_text Node = codes "the node is not from 1 to 127"

abbrev pub refusal_text : Refusal → Bytes
refusal_text FrameMemory = codes "the frame memory is shorter than 514 bytes"
refusal_text StagingMemory = codes "the staging memory is shorter than 4096 bytes"
refusal_text AnswerMemory = codes "the answer memory is shorter than 538 bytes"

-- the data of an answer: a fault is answered by its code
abbrev pub answer_of : Result Bytes Fault → Bytes
answer_of (Ok bytes) = bytes
answer_of (Err e) = refused_data e

-- carried out, or the fault that turned it away
abbrev pub outcome_of : Result Bytes Fault → Result (Unit {0}) Fault
outcome_of (Ok bytes) = Ok tt
outcome_of (Err e) = Err e

-- what a call tells of an answer
abbrev pub reply_of : Result Bytes Fault → Reply
reply_of r = record { length = length (answer_frame (answer_of r)); outcome = outcome_of r }

-- a body was answered and carried out as this: the reply, and what is left in the answer memory
pub record Replies (o : Done) (r : Reply) (before : Bytes) (chain : OpenChain) (objects : Objects) (staging after : Bytes) : Type 0 where
  pub reply_is : r ≡ reply_of o.answer
  pub chain_is : chain ≡ o.chain
  pub objects_are : objects ≡ o.objects
  pub staging_is : staging ≡ o.staging
  pub answer_is : after ≡ laid (answer_frame (answer_of o.answer)) before

-- a port and what is lent to it: all that a byte call may change
pub record Board : Type 0 where
  pub phase : Phase
  pub count : ℕ
  pub chain : OpenChain
  pub objects : Objects
  pub frame : Bytes
  pub staging : Bytes
  pub answer : Bytes

abbrev pub board : Port → Objects → Bytes → Bytes → Bytes → Board
board p d f m a =
    record { phase = p.receiver.phase; count = p.receiver.gathered; chain = chain_of p.chain m; objects = d; frame = f; staging = m; answer = a }

pub record Called : Type 0 where
  pub result : Result (Option Reply) Refusal
  pub after : Board

abbrev pub call_result : Result (Option Reply) Refusal → Board → Called
call_result r b = record { result = r; after = b }

-- a refused call changes nothing
abbrev pub refused_call : Board → Refusal → Called
refused_call b e = call_result (Err e) b

-- the receiver takes its step, and its bytes stand at the front of the frame memory
abbrev pub received : Board → Step → Board
received b s =
    record { phase = s.phase; count = length s.gathered; chain = b.chain; objects = b.objects; frame = laid (front s) b.frame; staging = b.staging; answer = b.answer }

-- a complete body is answered at the front of the answer memory
abbrev pub replied : Board → Done → Called
replied b o =
    call_result (Ok (Some (reply_of o.answer))) (record {
      phase = b.phase;
      count = b.count;
      chain = o.chain;
      objects = o.objects;
      frame = b.frame;
      staging = o.staging;
      answer = laid (answer_frame (answer_of o.answer)) b.answer;
    })

abbrev pub served : ℕ → Board → Option Bytes → Called
served node b None = call_result (Ok None) b
served node b (Some body) = replied b (body_done node b.objects b.chain b.staging (checked_frame body))

abbrev pub taken_call : ℕ → Board → Step → Called
taken_call node b s = served node (received b s) s.body

-- one byte call: frame memory, staging memory and answer memory are looked at first
unfoldable pub byte_of : ℕ → Board → ℕ → Called
byte_of node b byte =
    cond (nat_lt (length b.frame) 514) (refused_call b FrameMemory) (
    cond (nat_lt (length b.staging) 4096) (refused_call b StagingMemory) (
    cond (nat_lt (length b.answer) 538) (refused_call b AnswerMemory) (
    taken_call node b (step b.phase (take b.count b.frame) byte))))

-- a port by its node, its receiver and its chain
abbrev pub shown_port : Result Port OpeningRefusal → Result (ℕ × Phase × ℕ × Option Chain) OpeningRefusal
shown_port (Ok p) = Ok (p.node, p.receiver.phase, p.receiver.gathered, p.chain)
shown_port (Err e) = Err e

-- an own node is from 1 to 127
abbrev pub own_node : ℕ → Bool
own_node node = nat_le 1 node && nat_le node 127

-- a new port hunts, with no chain open
abbrev pub opened_port : ℕ → Result (ℕ × Phase × ℕ × Option Chain) OpeningRefusal
opened_port node = cond (own_node node) (Ok (node, Hunting, 0, None)) (Err Node)
