-- Read chains: an InitiateSegmentedRead, then the SegmentReads that ask for the rest of the value. And the chain that a history leaves open.
-- Assumes nothing.
use Rattle.std.specs.Prelude.{◌≡◌, ℕ, suc, ◌*◌, ◌<◌, List, length}
use Rattle.wire.specs.Frames.{Frame}
use Rattle.dictionary.specs.declared.Address.{Address}
use Rattle.dictionary.specs.Objects.{Bytes, Objects}
use Rattle.command.specs.Frames.{initiate_read, segment_read, verb, len, address, read_toggle}
use Rattle.command.specs.Checks.{OpenChain, closed, reading, writing}
use Rattle.command.specs.Answers.{most}
use Rattle.command.specs.Accepted.{Passes}
use Rattle.law.specs.Histories.{turn, UnbrokenChain, itself}
use Rattle.law.specs.WriteChains.{joined, OpenWriteChain}
use Rattle.law.specs.Held.{Held}

-- f, heard after the history earlier, is an InitiateSegmentedRead that passes every check, of an object that then held v
pub record ReadInitiate (node : ℕ) (d0 : Objects) (v : Bytes) (earlier : List Frame) (f : Frame) : Type 0 where
  pub is : verb f ≡ initiate_read
  pub passes : Passes initiate_read node d0 closed f
  pub held : Held node d0 earlier (address f) v

-- how much of a value the answers to the initiate and to k segments bring, while bytes remain
abbrev pub sent_after : ℕ → ℕ
sent_after k = most * suc k

-- s is the next segment of a chain that reads v after these: Len is 1, it has the toggle of its turn, and bytes of v remained
pub record ReadSegment (v : Bytes) (before : List Frame) (s : Frame) : Type 0 where
  pub is : verb s ≡ segment_read
  pub len_is : len s ≡ 1
  pub in_turn : read_toggle s ≡ turn before
  pub remained : sent_after (length before) < length v

-- the history hs ends in an unbroken chain that reads v, and these are its segments
abbrev pub UnbrokenReadChain : ℕ → Objects → List Frame → Bytes → List Frame → Type 0
UnbrokenReadChain node d0 hs v segments = UnbrokenChain itself (ReadInitiate node d0 v) (ReadSegment v) hs segments

-- it is open while bytes remain
abbrev pub OpenReadChain : ℕ → Objects → List Frame → Bytes → List Frame → Type 0
OpenReadChain node d0 hs v segments = UnbrokenReadChain node d0 hs v segments × (sent_after (length segments) < length v)

-- the chain that is open after the history hs
abbrev pub OpenAfter : ℕ → Objects → List Frame → OpenChain → Type 0
OpenAfter node d0 hs closed =
    ((a : Address) (n : ℕ) (segments : List Frame) → OpenWriteChain node d0 hs a n segments → ⊥)
    × ((v : Bytes) (segments : List Frame) → OpenReadChain node d0 hs v segments → ⊥)
OpenAfter node d0 hs (reading v sent t) =
    (segments : List Frame) × OpenReadChain node d0 hs v segments × (sent ≡ sent_after (length segments)) × (t ≡ turn segments)
OpenAfter node d0 hs (writing a n bytes t) =
    (segments : List Frame) × OpenWriteChain node d0 hs a n segments × (bytes ≡ joined segments) × (t ≡ turn segments)
