-- Completed writes, and the value that an object holds after a history.
-- Assumes nothing.
use Rattle.std.specs.Prelude.{◌≡◌, ℕ, ◌⊎◌, List, [], ◌∷◌, ◌++◌, take}
use Rattle.wire.specs.Frames.{Frame}
use Rattle.dictionary.specs.declared.Address.{Address}
use Rattle.dictionary.specs.Objects.{Bytes, Objects, look, value, Admits, IsNumber}
use Rattle.command.specs.Frames.{write_object, verb, len, node_of, address, payload}
use Rattle.law.specs.WriteChains.{joined, LastSegment, OpenWriteChain}

-- f is a WriteObject with Len 4, the own node and the address of a number; v is its low bytes up to the width
pub record WholeByObject (node : ℕ) (d0 : Objects) (f : Frame) (a : Address) (v : Bytes) : Type 0 where
  pub is : verb f ≡ write_object
  pub len_is : len f ≡ 4
  pub own : node_of f ≡ node
  pub at : address f ≡ a
  pub width : ℕ
  pub of_number : IsNumber (look d0 a) width
  pub low : v ≡ take width (payload f)

-- f is the last segment of an unbroken write chain to a, whose joined bytes are v
pub record WholeByChain (node : ℕ) (d0 : Objects) (earlier : List Frame) (f : Frame) (a : Address) (v : Bytes) : Type 0 where
  pub n : ℕ
  pub segments : List Frame
  pub open_before : OpenWriteChain node d0 earlier a n segments
  pub last : LastSegment n segments f
  pub whole : v ≡ joined (f ∷ segments)

-- with f, heard after the history earlier, a write of v at a was completed: v was brought whole, and the object admits it
pub record CompletedWrite (node : ℕ) (d0 : Objects) (earlier : List Frame) (f : Frame) (a : Address) (v : Bytes) : Type 0 where
  pub brought_whole : WholeByObject node d0 f a v ⊎ WholeByChain node d0 earlier f a v
  pub admitted : Admits (look d0 a) v

-- no frame of later, heard after the history earlier, completed a write at a
abbrev pub NoWrite : ℕ → Objects → Address → List Frame → List Frame → Type 0
NoWrite node d0 a [] earlier = Unit {0}
NoWrite node d0 a (f ∷ later) earlier = ((v : Bytes) → CompletedWrite node d0 (later ++ earlier) f a v → ⊥) × NoWrite node d0 a later earlier

-- v was brought by the last completed write at a
pub record LastWrite (node : ℕ) (d0 : Objects) (hs : List Frame) (a : Address) (v : Bytes) : Type 0 where
  pub later : List Frame
  pub frame : Frame
  pub earlier : List Frame
  pub split : hs ≡ later ++ (frame ∷ earlier)
  pub completed : CompletedWrite node d0 earlier frame a v
  pub none_later : NoWrite node d0 a later (frame ∷ earlier)

-- v is the value at a after the history: that of the last completed write at a, or else the one at opening
abbrev pub Held : ℕ → Objects → List Frame → Address → Bytes → Type 0
Held node d0 hs a v = LastWrite node d0 hs a v ⊎ (NoWrite node d0 a hs [] × (v ≡ value d0 a))

-- d is what d0 became with the history: access and shape at each address are those at opening, and its value is the one held
pub record ObjectsHeld (node : ℕ) (d0 : Objects) (hs : List Frame) (d : Objects) : Type 0 where
  pub same_entry : (a : Address) → look d a ≡ look d0 a
  pub held : (a : Address) → Held node d0 hs a (value d a)
