-- What a port holds of the events so far, and what one call more does to it. For the contracts of a port; the law does not cite it.
-- Assumes nothing.
use Rattle.std.specs.Prelude.{◌≡◌, ℕ, List, [], ◌∷◌, ◌++◌, length, take, Some, None, Ok, Err, Option, Result}
use Rattle.wire.specs.declared.faults.Fault as wire
use Rattle.wire.specs.declared.receiving.Phase.{Phase}
use Rattle.wire.specs.declared.receiving.Phase.TheVariants.{Hunting}
use Rattle.wire.specs.Checking.{checked_frame, OfNoFrame}
use Rattle.wire.specs.Frames.{Frame, Heard}
use Rattle.wire.specs.Framing.{laid}
use Rattle.wire.specs.Holding.{Holds}
use Rattle.wire.specs.Line.{Completes}
use Rattle.wire.specs.Receiving.{Step, step, front}
use Rattle.dictionary.specs.Objects.{Bytes, Objects}
use Rattle.command.specs.declared.faults.Fault.TheVariants.{Wire}
use Rattle.command.specs.Answers.{four, refused_data}
use Rattle.command.specs.Checks.{OpenChain, closed}
use Rattle.command.specs.Commands.{Outcome, carry}
use Rattle.law.specs.Calls.{Call, byte, silence, Brought, refused, nothing, answered, Event, refusal, stretch, answer_frame, damaged_code, frames}
use Rattle.law.specs.ReadChains.{OpenAfter}
use Rattle.law.specs.Lawful.{Lawful}

-- the events led to objects d, a receiver in this phase with these bytes gathered, and this open chain
pub record LedTo (node : ℕ) (d0 : Objects) (events : List Event) (phase : Phase) (gathered : Bytes) (chain : OpenChain) (d : Objects) : Type 0 where
  pub lawful : Lawful node d0 events d
  pub chain_open : OpenAfter node d0 (frames lawful.exchanges) chain
  pub receiver : Holds (stretch events) phase gathered

-- What a taken byte does once the receiver has taken its step.

-- what it brings, and the chain and the objects after it
pub record Served : Type 0 where
  pub brought : Brought
  pub chain : OpenChain
  pub objects : Objects

-- a frame carried out brings its answer
abbrev pub carried_out : Outcome → Served
carried_out o = record { brought = answered (answer_frame o.data_back); chain = o.chain; objects = o.objects }

-- a frame is carried out; a damaged body is answered by its code and changes nothing
abbrev pub judged : ℕ → OpenChain → Objects → Result Frame wire.Fault → Served
judged node chain d (Ok f) = carried_out (carry node d chain f)
judged node chain d (Err e) = record { brought = answered (answer_frame (refused_data (Wire e))); chain = chain; objects = d }

-- by the body that the step completed, if it did
abbrev pub served : ℕ → OpenChain → Objects → Option Bytes → Served
served node chain d None = record { brought = nothing; chain = chain; objects = d }
served node chain d (Some body) = judged node chain d (checked_frame body)

-- the event of a call that brought this
abbrev pub event : Call → Brought → Event
event c x = record { call = c; brought = x }

-- What each call leads to from there.
pub record MovesOn (node : ℕ) (d0 : Objects) (events : List Event) (phase : Phase) (gathered : Bytes) (chain : OpenChain) (d : Objects) : Type 0 where
  -- a refused byte changes nothing
  pub refused_byte : (b frame staging answer n : ℕ) → refusal frame staging answer ≡ Some n
      → LedTo node d0 (event (byte b frame staging answer) (refused n) ∷ events) phase gathered chain d
  -- a silence leaves the receiver as new, and the chain open
  pub silence_call : LedTo node d0 (event silence nothing ∷ events) Hunting [] chain d
  -- a taken byte that completes no body brings nothing
  pub quiet_byte : (b frame staging answer : ℕ) → refusal frame staging answer ≡ None
      → (phase' : Phase) (gathered' : Bytes) → Holds (stretch events ++ b ∷ []) phase' gathered'
      → ((body : Bytes) → Completes (stretch events ++ b ∷ []) body → ⊥)
      → LedTo node d0 (event (byte b frame staging answer) nothing ∷ events) phase' gathered' chain d
  -- one that completes a damaged body brings the code 05040004, and the chain and the objects stay
  pub damaged_byte : (b frame staging answer : ℕ) → refusal frame staging answer ≡ None
      → (phase' : Phase) (gathered' : Bytes) → Holds (stretch events ++ b ∷ []) phase' gathered'
      → (body : Bytes) → Completes (stretch events ++ b ∷ []) body → OfNoFrame body
      → LedTo node d0 (event (byte b frame staging answer) (answered (answer_frame (four damaged_code))) ∷ events) phase' gathered' chain d
  -- one with which a frame is heard brings its answer, and the frame is carried out
  pub heard_byte : (b frame staging answer : ℕ) → refusal frame staging answer ≡ None
      → (phase' : Phase) (gathered' : Bytes) → Holds (stretch events ++ b ∷ []) phase' gathered'
      → (f : Frame) → Heard (stretch events ++ b ∷ []) f.opcode f.content
      → let o : Outcome = carry node d chain f in
      LedTo node d0 (event (byte b frame staging answer) (answered (answer_frame o.data_back)) ∷ events) phase' gathered' o.chain o.objects
  -- a taken byte by computation: the receiver takes one step, and the body that it completes is served
  pub taken_byte : (b frame staging answer : ℕ) → refusal frame staging answer ≡ None
      → let s : Step = step phase gathered b in
      let x : Served = served node chain d s.body in
      LedTo node d0 (event (byte b frame staging answer) x.brought ∷ events) s.phase s.gathered x.chain x.objects
  -- the same with what is then gathered at the front of a lent memory, over which the step was laid
  pub taken_in_memory : (b frame staging answer : ℕ) → refusal frame staging answer ≡ None → (memory : Bytes)
      → let s : Step = step phase gathered b in
      let x : Served = served node chain d s.body in
      LedTo node d0 (event (byte b frame staging answer) x.brought ∷ events) s.phase (take (length s.gathered) (laid (front s) memory)) x.chain x.objects

-- The law of no events, and of every call more, for every node and all objects at opening.
pub record LawOverRuns : Type 0 where
  pub opening : (node : ℕ) (d0 : Objects) → LedTo node d0 [] Hunting [] closed d0
  pub every_call : (node : ℕ) (d0 : Objects) (events : List Event) (phase : Phase) (gathered : Bytes) (chain : OpenChain) (d : Objects)
      → LedTo node d0 events phase gathered chain d → MovesOn node d0 events phase gathered chain d
