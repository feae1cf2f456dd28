-- Write chains: an InitiateSegmentedWrite, then the SegmentWrites that bring its value.
-- Assumes nothing.
use Rattle.std.specs.Prelude.{◌≡◌, ℕ, ◌+◌, ◌≤◌, true, false, List, [], ◌∷◌, ◌++◌, length}
use Rattle.wire.specs.Frames.{Frame}
use Rattle.dictionary.specs.declared.Address.{Address}
use Rattle.dictionary.specs.Objects.{Bytes, Objects}
use Rattle.command.specs.Frames.{initiate_write, segment_write, verb, len, address, declared, write_toggle, size, marked, part, room, LenFits}
use Rattle.command.specs.Checks.{closed}
use Rattle.command.specs.Accepted.{Passes}
use Rattle.law.specs.Histories.{turn, UnbrokenChain, itself}

-- f is an InitiateSegmentedWrite of n bytes at a, and passes every check (those of an initiate look at no chain)
pub record WriteInitiate (node : ℕ) (d0 : Objects) (f : Frame) (a : Address) (n : ℕ) : Type 0 where
  pub is : verb f ≡ initiate_write
  pub passes : Passes initiate_write node d0 closed f
  pub at : address f ≡ a
  pub says : declared f ≡ n

-- the bytes of the segments, joined in the order in which they were heard
abbrev pub joined : List Frame → Bytes
joined [] = []
joined (s ∷ before) = joined before ++ part s

-- s is the next segment of a write chain of n bytes after these: its Len is one of a SegmentWrite, it has the toggle of its turn,
-- its n fits Len, and the sum stays within the declared length
pub record WriteSegment (n : ℕ) (before : List Frame) (s : Frame) : Type 0 where
  pub is : verb s ≡ segment_write
  pub len_is : LenFits segment_write (len s)
  pub in_turn : write_toggle s ≡ turn before
  pub fits : len s ≡ room (size s)
  pub within : length (joined before) + size s ≤ n

-- s is the next segment, and is not marked as the last
abbrev pub UnmarkedSegment : ℕ → List Frame → Frame → Type 0
UnmarkedSegment n before s = WriteSegment n before s × (marked s ≡ false)

-- s is the next segment, is marked as the last, and reaches the declared length
pub record LastSegment (n : ℕ) (before : List Frame) (s : Frame) : Type 0 where
  pub next : WriteSegment n before s
  pub last : marked s ≡ true
  pub reached : length (joined before) + size s ≡ n

-- after the history hs a write chain of n bytes to a is open, and these are its segments
abbrev pub OpenWriteChain : ℕ → Objects → List Frame → Address → ℕ → List Frame → Type 0
OpenWriteChain node d0 hs a n segments = UnbrokenChain itself (λ earlier f. WriteInitiate node d0 f a n) (UnmarkedSegment n) hs segments
