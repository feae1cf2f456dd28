-- Histories of heard frames, and what an unbroken chain in one is.
-- A history lists what was heard since opening, the newest first. Assumes nothing.
use Rattle.std.specs.Prelude.{◌≡◌, ℕ, ◌%◌, cond, List, [], ◌∷◌, ◌++◌, length}
use Rattle.wire.specs.Frames.{Frame}
use Rattle.command.specs.Frames.{verb, of_chain}

-- P holds of each element of a list that has the newest first, with the elements before it
abbrev pub InTurn : {X : Type 0} → (List X → X → Type 0) → List X → Type 0
InTurn P [] = Unit {0}
InTurn P (x ∷ before) = P before x × InTurn P before

-- those whose frame has OpCode 81, 69, 62 or 6A
abbrev pub chain_frames : {X : Type 0} → (X → Frame) → List X → List X
chain_frames frame [] = []
chain_frames frame (x ∷ xs) = cond (of_chain (verb (frame x))) (x ∷ chain_frames frame xs) (chain_frames frame xs)

-- toggles run 0, 1, 0 and so on: the one whose turn it is after these segments
abbrev pub turn : List Frame → ℕ
turn segments = length segments % 2

-- The history hs ends in an unbroken chain: a frame that starts it and then, of all frames with OpCode 81, 69, 62 or 6A, just these segments,
-- each of which continues it. Starts takes the history before a frame and the frame, Continues the segments before it and the frame.
pub record UnbrokenChain {X : Type 0} (frame : X → Frame) (Starts Continues : List X → X → Type 0) (hs segments : List X) : Type 0 where
  pub since : List X
  pub start : X
  pub earlier : List X
  pub split : hs ≡ since ++ (start ∷ earlier)
  pub starts : Starts earlier start
  pub no_other : chain_frames frame since ≡ segments
  pub continues : InTurn Continues segments

-- a history of bare frames: each is its own frame
abbrev pub itself : Frame → Frame
itself f = f
