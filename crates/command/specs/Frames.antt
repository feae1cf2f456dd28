-- The command that the OpCode of a frame names, and the fields that stand in its data.
-- Assumes nothing.
use Rattle.std.specs.Prelude.{◌≡◌, ℕ, ◌+◌, ◌*◌, ◌/◌, ◌%◌, ◌≤◌, Bool, true, false, cond, ◌&&◌, length, take, drop, ◌==◌, nat_le, slice_index}
use Rattle.dictionary.specs.declared.Address.{Address}
use Rattle.dictionary.specs.Objects.{Bytes, unsigned_value}
use Rattle.wire.specs.Frames.{Frame}

pub data Verb : Type 0 where
  read_object initiate_read write_object initiate_write segment_read segment_write unknown : Verb

abbrev pub verb_of : ℕ → Verb
verb_of op =
    cond (op == 0x60) read_object
    (cond (op == 0x81) initiate_read
    (cond (op == 0x68) write_object
    (cond (op == 0x69) initiate_write
    (cond (op == 0x62) segment_read
    (cond (op == 0x6A) segment_write unknown)))))

unfoldable pub verb : Frame → Verb
verb f = verb_of f.opcode

-- Len: the 16-bit words of the data
unfoldable pub len : Frame → ℕ
len f = length f.content / 2

-- a data byte by its place
abbrev pub byte : Frame → ℕ → ℕ
byte f i = slice_index f.content i

-- Node, index low, index high, subindex: the first four data bytes, except in the two segments.

unfoldable pub node_of : Frame → ℕ
node_of f = byte f 0

unfoldable pub address : Frame → Address
address f = record { index = byte f 1 + byte f 2 * 256; subindex = byte f 3 }

-- the four bytes behind them, of a WriteObject
unfoldable pub payload : Frame → Bytes
payload f = take 4 (drop 4 f.content)

-- the same four bytes as one number
unfoldable pub number : Frame → ℕ
number f = unsigned_value (payload f)

-- the declared length of an InitiateSegmentedWrite, which stands in the same place
unfoldable pub declared : Frame → ℕ
declared f = unsigned_value (payload f)

-- SegmentRead: control, dummy. SegmentWrite: n, control, n bytes, a pad if n is odd.
-- Control bit 0 is the toggle, and bit 1 of a SegmentWrite marks the last segment.

unfoldable pub read_toggle : Frame → ℕ
read_toggle f = byte f 0 % 2

unfoldable pub write_toggle : Frame → ℕ
write_toggle f = byte f 1 % 2

-- n
unfoldable pub size : Frame → ℕ
size f = byte f 0

unfoldable pub marked : Frame → Bool
marked f = byte f 1 / 2 % 2 == 1

-- the n bytes
unfoldable pub part : Frame → Bytes
part f = take (byte f 0) (drop 2 f.content)

-- the Len of a SegmentWrite of n bytes
abbrev pub room : ℕ → ℕ
room n = 1 + (n + 1) / 2

-- the Len that each command has
abbrev pub len_fits : Verb → ℕ → Bool
len_fits read_object n = n == 2
len_fits initiate_read n = n == 2
len_fits write_object n = n == 4
len_fits initiate_write n = n == 4
len_fits segment_read n = n == 1
len_fits segment_write n = nat_le 1 n && nat_le n 129
len_fits unknown n = false

-- the same in words
abbrev pub LenFits : Verb → ℕ → Type 0
LenFits read_object n = n ≡ 2
LenFits initiate_read n = n ≡ 2
LenFits write_object n = n ≡ 4
LenFits initiate_write n = n ≡ 4
LenFits segment_read n = n ≡ 1
LenFits segment_write n = (1 ≤ n) × (n ≤ 129)
LenFits unknown n = ⊥

-- the OpCodes 81, 69, 62 and 6A: their frames begin, continue or end a chain
abbrev pub of_chain : Verb → Bool
of_chain read_object = false
of_chain initiate_read = true
of_chain write_object = false
of_chain initiate_write = true
of_chain segment_read = true
of_chain segment_write = true
of_chain unknown = false
