-- Worked facts: what every lawful run of some calls brought and left, on two objects of node 1.
-- Assumes nothing.
use Rattle.std.specs.Prelude.{◌≡◌, ℕ, false, cond, List, [], ◌∷◌, ◌++◌, take, replicate, pos, Some, None, Option, ◌==◌}
use Rattle.wire.specs.Checksum.{register}
use Rattle.wire.specs.Frames.{Frame, written}
use Rattle.wire.specs.Line.{Marked, Completes}
use Rattle.dictionary.specs.declared.Access.TheVariants.{Rw}
use Rattle.dictionary.specs.declared.Address.{Address}
use Rattle.dictionary.specs.declared.Shape.TheVariants.{Number, Run}
use Rattle.dictionary.specs.Objects.{Bytes, Object, Objects, look, value, Admits}
use Rattle.command.specs.Answers.{four}
use Rattle.command.specs.Checks.{closed, reading, writing}
use Rattle.law.specs.Calls.{Call, byte, silence, Brought, refused, nothing, answered, Event, calls, answer_frame}
use Rattle.law.specs.Lawful.{Lawful}
use Rattle.law.specs.ReadChains.{OpenAfter}

-- The objects.

abbrev pub number_at : Address
number_at = record { index = 0x3200; subindex = 1 }

abbrev pub run_at : Address
run_at = record { index = 0x3201; subindex = 1 }

-- a number of 2 bytes without sign, RW, from 0 to 5,000, with the value 1,000
abbrev pub number_object : Object
number_object = record { access = Rw; shape = Number 2 false (pos 0) (pos 5000); value = 0xE8 ∷ 0x03 ∷ [] }

-- a run of at most 1,024 bytes, RW, which holds these
abbrev pub run_object : Bytes → Object
run_object bytes = record { access = Rw; shape = Run 1024; value = bytes }

abbrev pub only_subindex_1 : Object → ℕ → Option Object
only_subindex_1 o s = cond (s == 1) (Some o) None

abbrev pub board : Bytes → Objects
board bytes i =
    cond (i == 0x3200) (Some (only_subindex_1 number_object)) (cond (i == 0x3201) (Some (only_subindex_1 (run_object bytes))) None)

-- Calls, and what they brought.

-- these bytes taken after earlier calls, each with memories just large enough
abbrev pub then_bytes : List Call → Bytes → List Call
then_bytes made [] = made
then_bytes made (b ∷ bytes) = then_bytes (byte b 514 4096 538 ∷ made) bytes

-- these lines of bytes, one after the other
abbrev pub then_lines : List Call → List Bytes → List Call
then_lines made [] = made
then_lines made (line ∷ lines) = then_lines (then_bytes made line) lines

-- these frames as they are written, one after the other
abbrev pub then_frames : List Call → List Frame → List Call
then_frames made [] = made
then_frames made (f ∷ frames) = then_frames (then_bytes made (written f)) frames

-- what a call brought to the cable, and all of them in the order in which they came
abbrev pub with_answer : List Bytes → Brought → List Bytes
with_answer earlier (refused n) = earlier
with_answer earlier nothing = earlier
with_answer earlier (answered cable) = earlier ++ cable ∷ []

abbrev pub output : List Event → List Bytes
output [] = []
output (e ∷ events) = with_answer (output events) e.brought

-- every lawful run of these calls from opening, where the run object held these bytes, has this output
abbrev pub Outputs : Bytes → List Call → List Bytes → Type 0
Outputs bytes made lines = (events : List Event) (d : Objects) → calls events ≡ made → Lawful 1 (board bytes) events d → output events ≡ lines

-- and leaves this value at this address
abbrev pub Leaves : Bytes → List Call → Address → Bytes → Type 0
Leaves bytes made a v = (events : List Event) (d : Objects) → calls events ≡ made → Lawful 1 (board bytes) events d → value d a ≡ v

-- every lawful run of these calls brought this, the newest first
abbrev pub brought : List Event → List Brought
brought [] = []
brought (e ∷ events) = e.brought ∷ brought events

abbrev pub Brings : List Call → List Brought → Type 0
Brings made given = (events : List Event) (d : Objects) → calls events ≡ made → Lawful 1 (board []) events d → brought events ≡ given

-- Lines of an exchange.

abbrev pub read_line : Bytes
read_line = 0x90 ∷ 0x02 ∷ 0x60 ∷ 0x02 ∷ 0x01 ∷ 0x00 ∷ 0x32 ∷ 0x01 ∷ 0x8C ∷ 0x80 ∷ []

abbrev pub write_line : Bytes
write_line = 0x90 ∷ 0x02 ∷ 0x68 ∷ 0x04 ∷ 0x01 ∷ 0x00 ∷ 0x32 ∷ 0x01 ∷ 0x90 ∷ 0x90 ∷ 0x00 ∷ 0x00 ∷ 0x00 ∷ 0x7A ∷ 0xB1 ∷ []

abbrev pub dle_line : Bytes
dle_line = 0x90 ∷ []

abbrev pub three_lines : List Bytes
three_lines = read_line ∷ write_line ∷ dle_line ∷ []

abbrev pub first_answer : Bytes
first_answer = 0x90 ∷ 0x02 ∷ 0x00 ∷ 0x04 ∷ 0x00 ∷ 0x00 ∷ 0x00 ∷ 0x00 ∷ 0xE8 ∷ 0x03 ∷ 0x00 ∷ 0x00 ∷ 0x79 ∷ 0x3F ∷ []

abbrev pub second_answer : Bytes
second_answer = 0x90 ∷ 0x02 ∷ 0x00 ∷ 0x02 ∷ 0x00 ∷ 0x00 ∷ 0x00 ∷ 0x00 ∷ 0x40 ∷ 0x8B ∷ []

abbrev pub third_answer : Bytes
third_answer = 0x90 ∷ 0x02 ∷ 0x00 ∷ 0x04 ∷ 0x00 ∷ 0x00 ∷ 0x00 ∷ 0x00 ∷ 0x90 ∷ 0x90 ∷ 0x00 ∷ 0x00 ∷ 0x00 ∷ 0x0C ∷ 0xD5 ∷ []

-- the first line with a wrong last byte, and its answer
abbrev pub damaged_line : Bytes
damaged_line = 0x90 ∷ 0x02 ∷ 0x60 ∷ 0x02 ∷ 0x01 ∷ 0x00 ∷ 0x32 ∷ 0x01 ∷ 0x8C ∷ 0x81 ∷ []

abbrev pub damaged_answer : Bytes
damaged_answer = 0x90 ∷ 0x02 ∷ 0x00 ∷ 0x02 ∷ 0x04 ∷ 0x00 ∷ 0x04 ∷ 0x05 ∷ 0xF1 ∷ 0xE8 ∷ []

-- the first line cut in two
abbrev pub front_half : Bytes
front_half = 0x90 ∷ 0x02 ∷ 0x60 ∷ 0x02 ∷ 0x01 ∷ []

abbrev pub back_half : Bytes
back_half = 0x00 ∷ 0x32 ∷ 0x01 ∷ 0x8C ∷ 0x80 ∷ []

-- Frames to node 1.

abbrev pub frame : ℕ → Bytes → Frame
frame op bytes = record { opcode = op; content = bytes }

-- a WriteObject of the number, by its two low bytes
abbrev pub write_number : ℕ → ℕ → Frame
write_number low high = frame 0x68 (0x01 ∷ 0x00 ∷ 0x32 ∷ 0x01 ∷ low ∷ high ∷ 0 ∷ 0 ∷ [])

-- initiates at the run: of a read, and of a write that declares low + 256 × high bytes
abbrev pub read_run : Frame
read_run = frame 0x81 (0x01 ∷ 0x01 ∷ 0x32 ∷ 0x01 ∷ [])

abbrev pub write_run : ℕ → ℕ → Frame
write_run low high = frame 0x69 (0x01 ∷ 0x01 ∷ 0x32 ∷ 0x01 ∷ low ∷ high ∷ 0 ∷ 0 ∷ [])

-- a SegmentWrite of two bytes, and a SegmentRead
abbrev pub segment : ℕ → ℕ → ℕ → Frame
segment control x y = frame 0x6A (2 ∷ control ∷ x ∷ y ∷ [])

abbrev pub next_segment : ℕ → Frame
next_segment control = frame 0x62 (control ∷ 0 ∷ [])

-- Answers, by code and what follows it.

abbrev pub refused_by : ℕ → Bytes
refused_by code = answer_frame (four code)

abbrev pub done : Bytes → Bytes
done back = answer_frame (four 0 ++ back)

pub record Worked : Type 0 where
  -- checksums: the words, and a zero word
  pub checksum_one : register (0x1001 ∷ 0x2003 ∷ 0x0201 ∷ 0x0000 ∷ []) 0 ≡ 0xA888
  pub checksum_two : register (0x0003 ∷ 0x0000 ∷ 0x0000 ∷ 0x2010 ∷ 0x6210 ∷ 0x0000 ∷ []) 0 ≡ 0x2610
  -- read, write 90, a lone 90, read twice: three answers
  pub five_lines : Outputs [] (then_lines [] (three_lines ++ (read_line ∷ read_line ∷ []))) (first_answer ∷ second_answer ∷ third_answer ∷ [])
  -- after the lone 90 the fourth line is unheard: two answers so far, and no front of it completes a body
  pub four_lines : Outputs [] (then_lines [] (three_lines ++ (read_line ∷ []))) (first_answer ∷ second_answer ∷ [])
  pub fourth_unheard : (k : ℕ) (body : Bytes) → Completes ((read_line ++ (write_line ++ dle_line)) ++ take k read_line) body → ⊥
  pub value_written : Leaves [] (then_lines [] three_lines) number_at (0x90 ∷ 0x00 ∷ [])
  -- 90 90 90 02 holds a mark, 90 90 02 none
  pub mark : Marked (0x90 ∷ 0x90 ∷ 0x90 ∷ 0x02 ∷ [])
  pub no_mark : Marked (0x90 ∷ 0x90 ∷ 0x02 ∷ []) → ⊥
  -- 5,000 is admitted, 5,001 is not, and is refused by 06090031
  pub highest : Admits (look (board []) number_at) (0x88 ∷ 0x13 ∷ [])
  pub over_highest : Admits (look (board []) number_at) (0x89 ∷ 0x13 ∷ []) → ⊥
  pub highest_taken : Outputs [] (then_frames [] (write_number 0x88 0x13 ∷ [])) (done [] ∷ [])
  pub highest_stands : Leaves [] (then_frames [] (write_number 0x88 0x13 ∷ [])) number_at (0x88 ∷ 0x13 ∷ [])
  pub over_high : Outputs [] (then_frames [] (write_number 0x89 0x13 ∷ [])) (refused_by 0x06090031 ∷ [])
  pub over_high_stands : Leaves [] (then_frames [] (write_number 0x89 0x13 ∷ [])) number_at (0xE8 ∷ 0x03 ∷ [])
  -- a segment not the last sent twice is refused by 05030000, its chain ends, and the old value stands
  pub twice : Outputs (7 ∷ []) (then_frames [] (write_run 4 0 ∷ segment 0 10 20 ∷ segment 0 10 20 ∷ segment 3 30 40 ∷ []))
      (done [] ∷ done (2 ∷ 0 ∷ []) ∷ refused_by 0x05030000 ∷ refused_by 0x08000022 ∷ [])
  pub twice_stands : Leaves (7 ∷ []) (then_frames [] (write_run 4 0 ∷ segment 0 10 20 ∷ segment 0 10 20 ∷ segment 3 30 40 ∷ [])) run_at (7 ∷ [])
  -- sent once, the value is written
  pub once_written : Leaves (7 ∷ []) (then_frames [] (write_run 4 0 ∷ segment 0 10 20 ∷ segment 3 30 40 ∷ [])) run_at (10 ∷ 20 ∷ 30 ∷ 40 ∷ [])
  -- a run of 255 bytes leaves no chain open, and a SegmentRead then is refused by 08000022
  pub one_answer : OpenAfter 1 (board (replicate 255 9)) (read_run ∷ []) closed
  pub one_answer_only : Outputs (replicate 255 9) (then_frames [] (read_run ∷ next_segment 0 ∷ []))
      (done (four 255 ++ (255 ∷ replicate 255 9)) ∷ refused_by 0x08000022 ∷ [])
  -- one of 256 leaves one segment of 1 byte
  pub one_segment : OpenAfter 1 (board (replicate 256 9)) (read_run ∷ []) (reading (replicate 256 9) 255 0)
  pub one_segment_only : Outputs (replicate 256 9) (then_frames [] (read_run ∷ next_segment 0 ∷ next_segment 1 ∷ []))
      (done (four 256 ++ (255 ∷ replicate 255 9)) ∷ done (1 ∷ 2 ∷ 9 ∷ 0 ∷ []) ∷ refused_by 0x08000022 ∷ [])
  -- a declared 1,024 is taken, 1,025 is refused by 06070012
  pub capacity : Outputs [] (then_frames [] (write_run 0 4 ∷ [])) (done [] ∷ [])
  pub capacity_open : OpenAfter 1 (board []) (write_run 0 4 ∷ []) (writing run_at 1024 [] 0)
  pub over_capacity : Outputs [] (then_frames [] (write_run 1 4 ∷ [])) (refused_by 0x06070012 ∷ [])
  pub over_capacity_closed : OpenAfter 1 (board []) (write_run 1 4 ∷ []) closed
  -- a body whose checksum does not fit is answered by 05040004
  pub damaged : Outputs [] (then_lines [] (damaged_line ∷ [])) (damaged_answer ∷ [])
  -- a refused call between two bytes of a frame leaves it heard, a silence does not
  pub refused_between : Outputs [] (then_bytes (byte 0x90 513 0 0 ∷ then_bytes [] front_half) back_half) (first_answer ∷ [])
  pub silence_between : Outputs [] (then_bytes (silence ∷ then_bytes [] front_half) back_half) []
  -- a silence leaves the chain open
  pub silence_in_chain : Outputs [] (then_frames (silence ∷ then_frames [] (write_run 2 0 ∷ [])) (segment 2 10 20 ∷ [])) (done [] ∷ done (2 ∷ 0 ∷ []) ∷ [])
  -- the first memory that is too small gives the number
  pub too_small : Brings (byte 0x90 514 4096 538 ∷ byte 0x90 514 4096 537 ∷ byte 0x90 514 4095 537 ∷ byte 0x90 513 4095 537 ∷ [])
      (nothing ∷ refused 4 ∷ refused 3 ∷ refused 2 ∷ [])
