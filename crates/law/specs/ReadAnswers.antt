-- What the answers of an unbroken read chain bring of the value that it reads.
-- Assumes nothing.
use Rattle.std.specs.Prelude.{◌≡◌, ℕ, ◌-◌, ◌/◌, ◌%◌, min, Bool, true, List, [], ◌∷◌, ◌++◌, length, take, drop, ◌==◌, slice_index}
use Rattle.dictionary.specs.Objects.{Bytes, Objects}
use Rattle.command.specs.Answers.{most}
use Rattle.law.specs.Histories.{InTurn, UnbrokenChain}
use Rattle.law.specs.ReadChains.{ReadInitiate, ReadSegment}
use Rattle.law.specs.Calls.{Exchange, frames}

-- the bytes of the value in the answer to an InitiateSegmentedRead: behind code and length stand n and n bytes
abbrev pub initiate_part : Bytes → Bytes
initiate_part data_back = take (slice_index data_back 8) (drop 9 data_back)

-- those in the answer to a SegmentRead: behind the code stand n, control and n bytes
abbrev pub segment_part : Bytes → Bytes
segment_part data_back = take (slice_index data_back 4) (drop 6 data_back)

-- bit 1 of control marks the last segment
abbrev pub marked_last : Bytes → Bool
marked_last data_back = slice_index data_back 5 / 2 % 2 == 1

-- the bytes in the answers to these segments, in the order in which they came
abbrev pub segment_parts : List Exchange → Bytes
segment_parts [] = []
segment_parts (x ∷ before) = segment_parts before ++ segment_part x.data_back

-- the joined bytes of a read chain: those of its answers, the initiate's first
abbrev pub joined_answers : Exchange → List Exchange → Bytes
joined_answers start segments = initiate_part start.data_back ++ segment_parts segments

-- what the answer x to the next segment adds to a chain that reads v
pub record Adds (v : Bytes) (start : Exchange) (before : List Exchange) (x : Exchange) : Type 0 where
  -- the lesser of 255 and what remains
  pub adds : length (segment_part x.data_back) ≡ min most (length v - length (joined_answers start before))
  -- it is marked exactly when nothing then remains
  pub marked_ends : marked_last x.data_back ≡ true → joined_answers start (x ∷ before) ≡ v
  pub end_marked : joined_answers start (x ∷ before) ≡ v → marked_last x.data_back ≡ true

-- the answers of a chain that reads v bring it from the front on
pub record BringsFront (v : Bytes) (start : Exchange) (segments : List Exchange) : Type 0 where
  -- the joined bytes are the front of v
  pub front : joined_answers start segments ≡ take (length (joined_answers start segments)) v
  -- the initiate's answer brings the lesser of 255 and what there is
  pub first : length (initiate_part start.data_back) ≡ min most (length v)
  -- and each segment's what is said above
  pub each : InTurn (Adds v start) segments

-- the exchanges end in an unbroken chain that reads v, the value held at its initiate, and these are those of its segments
abbrev pub UnbrokenReadExchanges : ℕ → Objects → Bytes → List Exchange → List Exchange → Type 0
UnbrokenReadExchanges node d0 v exchanges segments =
    UnbrokenChain (λ x. x.heard) (λ earlier x. ReadInitiate node d0 v (frames earlier) x.heard)
    (λ before x. ReadSegment v (frames before) x.heard) exchanges segments

-- an unbroken read chain that ends with x brings the front of its value
abbrev pub ReadChainsBringFront : ℕ → Objects → List Exchange → Exchange → Type 0
ReadChainsBringFront node d0 earlier x =
    (v : Bytes) (segments : List Exchange) (chain : UnbrokenReadExchanges node d0 v (x ∷ earlier) segments) → BringsFront v chain.start segments
