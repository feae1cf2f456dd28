-- The six commands: the answer to a heard frame, the chain that is open after it, and the write that it brings about.
-- Assumes nothing.
use Rattle.std.specs.Prelude.{ℕ, ◌+◌, ◌-◌, cond, [], ◌++◌, length, Some, None, Option, nat_lt}
use Rattle.dictionary.specs.declared.Address.{Address}
use Rattle.dictionary.specs.Objects.{Bytes, Objects, look, value, put}
use Rattle.wire.specs.Frames.{Frame}
use Rattle.command.specs.Frames.{Verb, read_object, initiate_read, write_object, initiate_write, segment_read, segment_write, unknown}
use Rattle.command.specs.Frames.{verb, address, payload, declared, write_toggle, size, marked, part}
use Rattle.command.specs.Checks.{Check, OpenChain, closed, reading, writing, fault_of, low_bytes, fault}
use Rattle.command.specs.Answers.{most, refused_data, accepted_data, value_back, first_segment_back, segment_back, taken_back}

abbrev pub by_fault : {X : Type 0} → Option Check → (Check → X) → X → X
by_fault (Some k) refused accepted = refused k
by_fault None refused accepted = accepted

-- Answers.

abbrev pub segment_read_answer : OpenChain → Bytes
segment_read_answer closed = []
segment_read_answer (writing a n joined t) = []
segment_read_answer (reading v sent t) = segment_back v sent t

-- what an accepted command's answer has after the code
abbrev pub brings_back : Verb → Objects → OpenChain → Frame → Bytes
brings_back read_object d c f = value_back (value d (address f))
brings_back initiate_read d c f = first_segment_back (value d (address f))
brings_back write_object d c f = []
brings_back initiate_write d c f = []
brings_back segment_read d c f = segment_read_answer c
brings_back segment_write d c f = taken_back (size f) (write_toggle f)
brings_back unknown d c f = []

-- the data of the answer
unfoldable pub answer : ℕ → Objects → OpenChain → Frame → Bytes
answer node d c f = by_fault (fault node d c f) (λ k. refused_data (fault_of k)) (accepted_data (brings_back (verb f) d c f))

-- The open chain after a frame.

-- a read chain is open while bytes remain
abbrev pub remains : Bytes → ℕ → ℕ → OpenChain
remains v sent t = cond (nat_lt sent (length v)) (reading v sent t) closed

abbrev pub read_on : OpenChain → OpenChain
read_on closed = closed
read_on (writing a n joined t) = closed
read_on (reading v sent t) = remains v (sent + most) (1 - t)

abbrev pub write_on : OpenChain → Frame → OpenChain
write_on closed f = closed
write_on (reading v sent t) f = closed
write_on (writing a n joined t) f = cond (marked f) closed (writing a n (joined ++ part f) (1 - t))

abbrev pub chain_by : Verb → Option Check → Objects → OpenChain → Frame → OpenChain
chain_by read_object fault d c f = c
chain_by initiate_read fault d c f = by_fault fault (λ _. closed) (remains (value d (address f)) most 0)
chain_by write_object fault d c f = c
chain_by initiate_write fault d c f = by_fault fault (λ _. closed) (writing (address f) (declared f) [] 0)
chain_by segment_read fault d c f = by_fault fault (λ _. closed) (read_on c)
chain_by segment_write fault d c f = by_fault fault (λ _. closed) (write_on c f)
chain_by unknown fault d c f = c

unfoldable pub next_chain : ℕ → Objects → OpenChain → Frame → OpenChain
next_chain node d c f = chain_by (verb f) (fault node d c f) d c f

-- The write that a frame brings about.

abbrev pub Write : Type 0
Write = Address × Bytes

-- the joined bytes of a write chain that this segment ends
abbrev pub ended : OpenChain → Frame → Option Write
ended closed f = None
ended (reading v sent t) f = None
ended (writing a n joined t) f = cond (marked f) (Some (a, joined ++ part f)) None

abbrev pub writes : Verb → Objects → OpenChain → Frame → Option Write
writes read_object d c f = None
writes initiate_read d c f = None
writes write_object d c f = Some (address f, low_bytes (look d (address f)) (payload f))
writes initiate_write d c f = None
writes segment_read d c f = None
writes segment_write d c f = ended c f
writes unknown d c f = None

unfoldable pub write_of : ℕ → Objects → OpenChain → Frame → Option Write
write_of node d c f = by_fault (fault node d c f) (λ _. None) (writes (verb f) d c f)

abbrev pub apply : Objects → Option Write → Objects
apply d None = d
apply d (Some w) = put d w.0 w.1

-- one heard frame carried out: the answer's data, the chain and the objects after it
pub record Outcome : Type 0 where
  pub data_back : Bytes
  pub chain : OpenChain
  pub objects : Objects

unfoldable pub carry : ℕ → Objects → OpenChain → Frame → Outcome
carry node d c f = record { data_back = answer node d c f; chain = next_chain node d c f; objects = apply d (write_of node d c f) }
