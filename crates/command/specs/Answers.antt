-- How the data of an answer are laid out: the code, then what the command brings back, padded to whole words.
-- Assumes nothing.
use Rattle.std.specs.Prelude.{ℕ, ◌+◌, ◌-◌, ◌/◌, ◌%◌, min, Bool, true, false, cond, [], ◌∷◌, ◌++◌, length, take, drop, replicate, Result, nat_le}
use Rattle.dictionary.specs.declared.Address.{Address}
use Rattle.dictionary.specs.declared.Fault as dictionary
use Rattle.dictionary.specs.Calls.{answer}
use Rattle.dictionary.specs.Checks.{read_fault}
use Rattle.dictionary.specs.Objects.{Bytes, Objects, look, value}
use Rattle.command.specs.declared.faults.Fault.{Fault}
use Rattle.command.specs.Faults.{code_of}

-- the most bytes of a value that one answer brings
abbrev pub most : ℕ
most = 255

-- a number as four bytes, low byte first
abbrev pub low_first : ℕ → Bytes
low_first n = (n % 256) ∷ ((n / 256 % 256) ∷ ((n / 65536 % 256) ∷ ((n / 16777216 % 256) ∷ [])))

-- the same, which other definitions cite
unfoldable pub four : ℕ → Bytes
four n = low_first n

-- filled to n bytes with 00
abbrev pub filled : ℕ → Bytes → Bytes
filled n v = take n (v ++ (0 ∷ (0 ∷ (0 ∷ (0 ∷ [])))))

-- padded with 00 to whole words
abbrev pub padded : Bytes → Bytes
padded bytes = bytes ++ replicate (length bytes % 2) 0

-- a flag as a bit
abbrev pub bit : Bool → ℕ
bit true = 1
bit false = 0

-- the data of a refusal: the code of the fault alone
abbrev pub refused_data : Fault → Bytes
refused_data e = four (code_of e)

-- the data of an accepted command that brings these bytes back
abbrev pub accepted_data : Bytes → Bytes
accepted_data back = padded (four 0 ++ back)

-- ReadObject: the value, filled to 4 bytes
abbrev pub value_back : Bytes → Bytes
value_back v = filled 4 v

-- InitiateSegmentedRead: the value's length, n, and its first n bytes
abbrev pub first_segment_back : Bytes → Bytes
first_segment_back v = four (length v) ++ (min most (length v) ∷ take most v)

-- control of a read segment: the toggle, and bit 1 where nothing then remains
unfoldable pub answer_control : Bytes → ℕ → ℕ → ℕ
answer_control v sent t = t + cond (nat_le (length v) (sent + most)) 2 0

-- SegmentRead, where so many bytes of the value were sent: n, control, and the next n bytes
abbrev pub segment_back : Bytes → ℕ → ℕ → Bytes
segment_back v sent t = min most (length v - sent) ∷ (answer_control v sent t ∷ take most (drop sent v))

-- SegmentWrite: n and the toggle
abbrev pub taken_back : ℕ → ℕ → Bytes
taken_back n t = n ∷ (t ∷ [])

-- what a read of an object into the four bytes behind the code gives: the data of the answer, or the fault of the read
abbrev pub value_answer : Objects → Address → Result Bytes dictionary.Fault
value_answer d a = answer (read_fault (look d a) (value d a) 4) (accepted_data (value_back (value d a)))
