-- The law over runs: what the events of one opened port are, and what they leave.
-- Assumes nothing.
use Rattle.std.specs.Prelude.{◌≡◌, ℕ, ◌<◌, ◌≤◌, List, ◌∷◌, length}
use Rattle.wire.specs.Frames.{Frame, NextFrames, FirstLost}
use Rattle.dictionary.specs.declared.Address.{Address}
use Rattle.dictionary.specs.Objects.{Bytes, Objects, look, value}
use Rattle.command.specs.Checks.{OpenChain, reading, writing}
use Rattle.command.specs.Answers.{four}
use Rattle.command.specs.Commands.{answer}
use Rattle.law.specs.Histories.{InTurn}
use Rattle.law.specs.Held.{Held, ObjectsHeld}
use Rattle.law.specs.ReadChains.{OpenAfter}
use Rattle.law.specs.Calls.{Call, Event, calls, refused, answered, TooSmall, Taken, stretch, CompletesAt, DamagedAt, answer_frame, code_in, damaged_code}
use Rattle.law.specs.Calls.{Exchange, frames, Exchanged}
use Rattle.law.specs.ReadAnswers.{ReadChainsBringFront}

-- when a call is refused
pub record Refusals (e : Event) : Type 0 where
  -- where its memories are too small, by the first number that applies
  pub too_small : (n : ℕ) → TooSmall e.call n → e.brought ≡ refused n
  -- and only there
  pub only_then : (n : ℕ) → e.brought ≡ refused n → TooSmall e.call n

-- when a call is answered, and when by the code of a damaged body
pub record Reception (before : List Event) (e : Event) : Type 0 where
  -- a byte that completes a body brings an answer
  pub completes_answered : (body : Bytes) → CompletesAt before e body → (cable : Bytes) × (e.brought ≡ answered cable)
  -- and nothing else does
  pub answered_completes : (cable : Bytes) → e.brought ≡ answered cable → (body : Bytes) × CompletesAt before e body
  -- a damaged body brings the written frame of OpCode 00 and 05040004
  pub damaged_answered : DamagedAt before e → e.brought ≡ answered (answer_frame (four damaged_code))
  -- and nothing else brings that code
  pub answered_damaged : (data_back : Bytes) → e.brought ≡ answered (answer_frame data_back) → code_in data_back ≡ damaged_code → DamagedAt before e

-- the answer to a heard frame is the one that the table gives for it, the objects held then and the chain open then
pub record AnsweredByTable (node : ℕ) (d0 : Objects) (earlier : List Exchange) (x : Exchange) : Type 0 where
  pub objects : Objects
  pub objects_held : ObjectsHeld node d0 (frames earlier) objects
  pub chain : OpenChain
  pub chain_open : OpenAfter node d0 (frames earlier) chain
  pub given : x.data_back ≡ answer node objects chain x.heard

-- The law of a run on the own node, opened on the objects d0: its events, and the objects d now.
pub record Lawful (node : ℕ) (d0 : Objects) (events : List Event) (d : Objects) : Type 0 where
  -- a byte call is refused exactly where its memories are too small
  pub refusals : InTurn (λ before e. Refusals e) events
  -- a taken byte is answered exactly where it completes a body, with 05040004 exactly where the body is damaged
  pub reception : InTurn Reception events
  -- the heard frames, each answered by a frame of OpCode 00
  pub exchanges : List Exchange
  pub heard : Exchanged events exchanges
  -- access and shape are those at opening, and each value is that of the last completed write, or else that at opening
  pub objects : ObjectsHeld node d0 (frames exchanges) d
  -- each answer is the one that the table gives for its frame, the objects held then and the chain open then
  pub answers : InTurn (AnsweredByTable node d0) exchanges
  -- the answers of an unbroken read chain bring the front of the value held at its initiate
  pub read_chains : InTurn (ReadChainsBringFront node d0) exchanges
  -- whole frames taken next with nothing between are heard: all but the first always, the first unless a DLE stood open
  pub next_frames : InTurn (λ before e. Taken e.call → NextFrames (stretch (e ∷ before))) events
  -- the first one after an open DLE is lost
  pub first_lost : InTurn (λ before e. Taken e.call → FirstLost (stretch (e ∷ before))) events

-- What the law says of itself.

-- access, shape and value are the same at every address
pub record SameObjects (d e : Objects) : Type 0 where
  pub same_entry : (a : Address) → look d a ≡ look e a
  pub same_value : (a : Address) → value d a ≡ value e a

-- every list of calls has a lawful run, whatever the node and the objects at opening
abbrev pub Satisfiable : Type 0
Satisfiable = (node : ℕ) (d0 : Objects) (made : List Call) → (events : List Event) × (d : Objects) × (calls events ≡ made) × Lawful node d0 events d

-- and only one: two lawful runs of the same calls from the same objects brought the same and left the same
abbrev pub Determined : Type 0
Determined =
    (node : ℕ) (d0 : Objects) (one other : List Event) (d e : Objects) → calls one ≡ calls other → Lawful node d0 one d → Lawful node d0 other e
    → (one ≡ other) × SameObjects d e

-- The words of the law have one meaning, and an open chain stays within its bounds.
pub record OneMeaning : Type 0 where
  -- one value is held at an address, and one chain is open
  pub one_value : (node : ℕ) (d0 : Objects) (hs : List Frame) (a : Address) (u v : Bytes) → Held node d0 hs a u → Held node d0 hs a v → u ≡ v
  pub one_chain : (node : ℕ) (d0 : Objects) (hs : List Frame) (c k : OpenChain) → OpenAfter node d0 hs c → OpenAfter node d0 hs k → c ≡ k
  -- the events tell which frames were heard, and the data of their answers
  pub one_list : (events : List Event) (one other : List Exchange) → Exchanged events one → Exchanged events other → one ≡ other
  -- an open write chain never holds more bytes than it declared
  pub within_declared : (node : ℕ) (d0 : Objects) (hs : List Frame) (a : Address) (n : ℕ) (bytes : Bytes) (toggle : ℕ)
      → OpenAfter node d0 hs (writing a n bytes toggle) → length bytes ≤ n
  -- an open read chain has bytes left
  pub bytes_left : (node : ℕ) (d0 : Objects) (hs : List Frame) (v : Bytes) (sent toggle : ℕ) → OpenAfter node d0 hs (reading v sent toggle) → sent < length v
