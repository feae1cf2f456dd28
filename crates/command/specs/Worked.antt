-- Worked cases of the six commands: each check alone, neighbours in the order where both apply, each accepted command with
-- edge lengths. They follow from the definitions by computation.
-- Assumes nothing.
use Rattle.std.specs.Prelude.{◌≡◌, ℕ, true, false, cond, List, [], ◌∷◌, ◌++◌, replicate, pos, negsuc, Some, None, Option, ◌==◌}
use Rattle.dictionary.specs.declared.Access.{Access}
use Rattle.dictionary.specs.declared.Access.TheVariants.{Ro, Wo, Rw}
use Rattle.dictionary.specs.declared.Fault.TheVariants.{NoIndex, NoSubindex, WriteOnly, ReadOnly, NotNumber, TooLong, TooShort, OverHigh, UnderLow}
use Rattle.dictionary.specs.declared.Shape.{Shape}
use Rattle.dictionary.specs.declared.Shape.TheVariants.{Number, Run}
use Rattle.dictionary.specs.Objects.{Bytes, Object, Objects, value}
use Rattle.wire.specs.Frames.{Frame}
use Rattle.command.specs.declared.faults.ChainFault.TheVariants.{NoChain, Toggle, Misfit, SumOver, LastShort}
use Rattle.command.specs.declared.faults.CommandFault.TheVariants.{OpCode, Len, Node}
use Rattle.command.specs.declared.faults.Fault.{Fault}
use Rattle.command.specs.declared.faults.Fault.TheVariants.{Command, Chain, Dictionary}
use Rattle.command.specs.Answers.{four}
use Rattle.command.specs.Checks.{closed, fault, found}
use Rattle.command.specs.Commands.{Outcome, carry}

abbrev pub object : Access → Shape → Bytes → Option Object
object access shape bytes = Some (record { access = access; shape = shape; value = bytes })

-- index 2000 of node 1; the run at 8 holds the given bytes
abbrev pub at_subindex : Bytes → ℕ → Option Object
at_subindex bytes s =
    cond (s == 1) (object Ro (Number 1 false (pos 0) (pos 255)) (7 ∷ []))
    (cond (s == 2) (object Wo (Number 1 true (negsuc 4) (pos 5)) (0 ∷ []))
    (cond (s == 3) (object Rw (Run 4) (8 ∷ 9 ∷ []))
    (cond (s == 4) (object Wo (Run 4) [])
    (cond (s == 5) (object Ro (Run 4) (1 ∷ 2 ∷ 3 ∷ []))
    (cond (s == 6) (object Rw (Number 1 false (pos 10) (pos 5)) (7 ∷ []))
    (cond (s == 7) (object Rw (Number 2 true (negsuc 999) (pos 1000)) (0xFE ∷ 0xFF ∷ []))
    (cond (s == 8) (object Rw (Run 1024) bytes)
    (cond (s == 9) (object Rw (Number 4 false (pos 0) (pos 0xFFFFFFFF)) (1 ∷ 2 ∷ 3 ∷ 4 ∷ []))
    None))))))))

abbrev pub objects : Bytes → Objects
objects bytes i = cond (i == 0x2000) (Some (at_subindex bytes)) None

abbrev pub frame : ℕ → Bytes → Frame
frame op bytes = record { opcode = op; content = bytes }

-- a frame with node, index high byte and subindex
abbrev pub read_at : ℕ → ℕ → ℕ → ℕ → Frame
read_at op node high s = frame op (node ∷ 0 ∷ high ∷ s ∷ [])

-- a frame to node 1 and index 2000 with four bytes more
abbrev pub write_at : ℕ → ℕ → Bytes → Frame
write_at op s bytes = frame op (1 ∷ 0 ∷ 0x20 ∷ s ∷ bytes)

abbrev pub start : ℕ → ℕ → Frame
start s n = write_at 0x69 s (n ∷ 0 ∷ 0 ∷ 0 ∷ [])

abbrev pub next : ℕ → Frame
next control = frame 0x62 (control ∷ 0 ∷ [])

-- a SegmentWrite that says n, with these bytes
abbrev pub segment : ℕ → ℕ → Bytes → Frame
segment n control bytes = frame 0x6A (n ∷ control ∷ bytes)

-- node 1 carries out these frames, the newest first, from opening with the objects d and no chain open
unfoldable pub after : Objects → List Frame → Outcome
after d [] = record { data_back = []; chain = closed; objects = d }
after d (f ∷ before) = let o : Outcome = after d before in carry 1 o.objects o.chain f

-- after these frames f is turned away with this fault, and answered by this code alone; the run at 8 held these bytes
abbrev pub RefusedHolding : Bytes → List Frame → Frame → Fault → ℕ → Type 0
RefusedHolding bytes before f e n =
    let o : Outcome = after (objects bytes) before in
    (found (fault 1 o.objects o.chain f) ≡ Some e) × ((after (objects bytes) (f ∷ before)).data_back ≡ four n)

abbrev pub Refused : List Frame → Frame → Fault → ℕ → Type 0
Refused before f e n = RefusedHolding [] before f e n

-- the answer to the newest of these frames, where the run at 8 held these bytes
abbrev pub AnswersWith : Bytes → List Frame → Bytes → Type 0
AnswersWith bytes hs data_back = (after (objects bytes) hs).data_back ≡ data_back

-- what they leave at a subindex
abbrev pub Leaves : List Frame → ℕ → Bytes → Type 0
Leaves hs s bytes = value (after (objects []) hs).objects (record { index = 0x2000; subindex = s }) ≡ bytes

-- they leave no chain open
abbrev pub LeavesClosed : Bytes → List Frame → Type 0
LeavesClosed bytes hs = (after (objects bytes) hs).chain ≡ closed

-- a code, low byte first, and that of an accepted command
abbrev pub code : ℕ → ℕ → ℕ → ℕ → Bytes
code a b c d = a ∷ (b ∷ (c ∷ (d ∷ [])))

abbrev pub done : Bytes
done = code 0 0 0 0

pub record Worked : Type 0 where
  -- each check alone
  pub opcode : Refused [] (read_at 0x61 1 0x20 1) (Command OpCode) 0x0F00FFBF
  pub opcode_00 : Refused [] (read_at 0x00 1 0x20 1) (Command OpCode) 0x0F00FFBF
  pub opcode_70 : Refused [] (read_at 0x70 1 0x20 1) (Command OpCode) 0x0F00FFBF
  pub opcode_7a : Refused [] (read_at 0x7A 1 0x20 1) (Command OpCode) 0x0F00FFBF
  pub opcode_7b : Refused [] (read_at 0x7B 1 0x20 1) (Command OpCode) 0x0F00FFBF
  pub len : Refused [] (frame 0x60 (1 ∷ 0 ∷ [])) (Command Len) 0x06070010
  pub len_of_81 : Refused [] (frame 0x81 (1 ∷ 0 ∷ 0x20 ∷ 3 ∷ 0 ∷ 0 ∷ [])) (Command Len) 0x06070010
  pub len_of_68 : Refused [] (read_at 0x68 1 0x20 9) (Command Len) 0x06070010
  pub len_of_69 : Refused [] (read_at 0x69 1 0x20 9) (Command Len) 0x06070010
  pub len_of_62 : Refused (read_at 0x81 1 0x20 3 ∷ []) (frame 0x62 []) (Command Len) 0x06070010
  pub len_of_6a : Refused (start 3 4 ∷ []) (frame 0x6A []) (Command Len) 0x06070010
  pub len_of_6a_130 : Refused (start 8 4 ∷ []) (frame 0x6A (replicate 260 0)) (Command Len) 0x06070010
  pub node : Refused [] (read_at 0x60 2 0x20 1) (Command Node) 0x0F00FFB9
  pub node_0 : Refused [] (read_at 0x81 0 0x20 1) (Command Node) 0x0F00FFB9
  pub no_chain_62 : Refused [] (next 0) (Chain NoChain) 0x08000022
  pub no_chain_6a : Refused [] (segment 2 0 (5 ∷ 6 ∷ [])) (Chain NoChain) 0x08000022
  pub other_direction : Refused (start 3 4 ∷ []) (next 0) (Chain NoChain) 0x08000022
  pub toggle : Refused (start 3 4 ∷ []) (segment 2 1 (5 ∷ 6 ∷ [])) (Chain Toggle) 0x05030000
  pub n_against_len : Refused (start 3 4 ∷ []) (segment 3 0 (5 ∷ 6 ∷ [])) (Chain Misfit) 0x06070010
  pub n_under_len : Refused (start 3 4 ∷ []) (segment 0 0 (5 ∷ 6 ∷ [])) (Chain Misfit) 0x06070010
  pub sum_over : Refused (start 3 1 ∷ []) (segment 2 0 (5 ∷ 6 ∷ [])) (Chain SumOver) 0x06070012
  pub last_short : Refused (start 3 4 ∷ []) (segment 2 2 (5 ∷ 6 ∷ [])) (Chain LastShort) 0x06070013
  pub index : Refused [] (read_at 0x60 1 0x21 1) (Dictionary NoIndex) 0x06020000
  pub subindex : Refused [] (read_at 0x60 1 0x20 99) (Dictionary NoSubindex) 0x06090011
  pub read_of_wo : Refused [] (read_at 0x60 1 0x20 2) (Dictionary WriteOnly) 0x06010001
  pub read_of_wo_81 : Refused [] (read_at 0x81 1 0x20 4) (Dictionary WriteOnly) 0x06010001
  pub write_of_ro : Refused [] (write_at 0x68 1 (7 ∷ 0 ∷ 0 ∷ 0 ∷ [])) (Dictionary ReadOnly) 0x06010002
  pub write_of_ro_69 : Refused [] (start 5 2) (Dictionary ReadOnly) 0x06010002
  pub read_on_run : Refused [] (read_at 0x60 1 0x20 3) (Dictionary NotNumber) 0x06070010
  pub write_on_run : Refused [] (write_at 0x68 3 (7 ∷ 0 ∷ 0 ∷ 0 ∷ [])) (Dictionary NotNumber) 0x06070010
  pub over_length : Refused [] (start 3 5) (Dictionary TooLong) 0x06070012
  pub over_width : Refused [] (start 2 2) (Dictionary TooLong) 0x06070012
  pub under_length : Refused [] (start 2 0) (Dictionary TooShort) 0x06070013
  pub over_high : Refused [] (write_at 0x68 2 (6 ∷ 0 ∷ 0 ∷ 0 ∷ [])) (Dictionary OverHigh) 0x06090031
  pub under_low : Refused [] (write_at 0x68 2 (0xFA ∷ 0 ∷ 0 ∷ 0 ∷ [])) (Dictionary UnderLow) 0x06090032
  pub over_high_6a : Refused (start 2 1 ∷ []) (segment 1 2 (6 ∷ 0 ∷ [])) (Dictionary OverHigh) 0x06090031
  pub under_low_6a : Refused (start 2 1 ∷ []) (segment 1 2 (0xFA ∷ 0 ∷ [])) (Dictionary UnderLow) 0x06090032
  -- the same check at the other commands
  pub node_68 : Refused [] (frame 0x68 (2 ∷ 0 ∷ 0x20 ∷ 9 ∷ 0 ∷ 0 ∷ 0 ∷ 0 ∷ [])) (Command Node) 0x0F00FFB9
  pub node_69 : Refused [] (frame 0x69 (2 ∷ 0 ∷ 0x20 ∷ 3 ∷ 2 ∷ 0 ∷ 0 ∷ 0 ∷ [])) (Command Node) 0x0F00FFB9
  pub toggle_62 : RefusedHolding (replicate 256 9) (read_at 0x81 1 0x20 8 ∷ []) (next 1) (Chain Toggle) 0x05030000
  pub index_81 : Refused [] (read_at 0x81 1 0x21 1) (Dictionary NoIndex) 0x06020000
  pub index_68 : Refused [] (frame 0x68 (1 ∷ 0 ∷ 0x21 ∷ 9 ∷ 0 ∷ 0 ∷ 0 ∷ 0 ∷ [])) (Dictionary NoIndex) 0x06020000
  pub index_69 : Refused [] (frame 0x69 (1 ∷ 0 ∷ 0x21 ∷ 3 ∷ 2 ∷ 0 ∷ 0 ∷ 0 ∷ [])) (Dictionary NoIndex) 0x06020000
  pub subindex_81 : Refused [] (read_at 0x81 1 0x20 99) (Dictionary NoSubindex) 0x06090011
  pub subindex_68 : Refused [] (write_at 0x68 99 (0 ∷ 0 ∷ 0 ∷ 0 ∷ [])) (Dictionary NoSubindex) 0x06090011
  pub subindex_69 : Refused [] (start 99 2) (Dictionary NoSubindex) 0x06090011
  -- neighbours in the order, both apply
  pub opcode_len : Refused [] (frame 0x61 (1 ∷ 0 ∷ [])) (Command OpCode) 0x0F00FFBF
  pub len_node : Refused [] (frame 0x60 (2 ∷ 0 ∷ [])) (Command Len) 0x06070010
  pub len_node_68 : Refused [] (read_at 0x68 2 0x20 9) (Command Len) 0x06070010
  pub len_no_chain_62 : Refused [] (frame 0x62 []) (Command Len) 0x06070010
  pub len_no_chain_6a : Refused [] (frame 0x6A []) (Command Len) 0x06070010
  pub node_index : Refused [] (read_at 0x60 2 0x21 1) (Command Node) 0x0F00FFB9
  pub node_subindex : Refused [] (read_at 0x60 2 0x20 99) (Command Node) 0x0F00FFB9
  pub no_chain_toggle_62 : Refused [] (next 1) (Chain NoChain) 0x08000022
  pub no_chain_toggle_6a : Refused [] (segment 2 1 (5 ∷ 6 ∷ [])) (Chain NoChain) 0x08000022
  pub no_chain_misfit : Refused [] (segment 3 0 (5 ∷ 6 ∷ [])) (Chain NoChain) 0x08000022
  pub toggle_misfit : Refused (start 3 4 ∷ []) (segment 3 1 (5 ∷ 6 ∷ [])) (Chain Toggle) 0x05030000
  pub misfit_sum_over : Refused (start 3 1 ∷ []) (segment 3 0 (5 ∷ 6 ∷ [])) (Chain Misfit) 0x06070010
  pub misfit_last_short : Refused (start 3 4 ∷ []) (segment 1 2 (5 ∷ 6 ∷ 7 ∷ 8 ∷ [])) (Chain Misfit) 0x06070010
  pub sum_over_marked : Refused (start 3 1 ∷ []) (segment 2 2 (5 ∷ 6 ∷ [])) (Chain SumOver) 0x06070012
  pub sum_over_high : Refused (start 2 1 ∷ []) (segment 2 2 (6 ∷ 0 ∷ [])) (Chain SumOver) 0x06070012
  pub last_short_under_low : Refused (start 6 1 ∷ []) (segment 0 2 []) (Chain LastShort) 0x06070013
  pub wo_run_60 : Refused [] (read_at 0x60 1 0x20 4) (Dictionary WriteOnly) 0x06010001
  pub ro_run_68 : Refused [] (write_at 0x68 5 (7 ∷ 0 ∷ 0 ∷ 0 ∷ [])) (Dictionary ReadOnly) 0x06010002
  pub ro_over_length_69 : Refused [] (start 5 5) (Dictionary ReadOnly) 0x06010002
  pub ro_under_length_69 : Refused [] (start 1 0) (Dictionary ReadOnly) 0x06010002
  pub low_above_high : Refused [] (write_at 0x68 6 (7 ∷ 0 ∷ 0 ∷ 0 ∷ [])) (Dictionary OverHigh) 0x06090031
  pub low_above_high_below : Refused [] (write_at 0x68 6 (5 ∷ 0 ∷ 0 ∷ 0 ∷ [])) (Dictionary UnderLow) 0x06090032
  -- accepted: ReadObject, filled with 00 and no sign extended
  pub read_1 : AnswersWith [] (read_at 0x60 1 0x20 1 ∷ []) (done ++ code 7 0 0 0)
  pub read_negative : AnswersWith [] (read_at 0x60 1 0x20 7 ∷ []) (done ++ code 0xFE 0xFF 0 0)
  pub read_4 : AnswersWith [] (read_at 0x60 1 0x20 9 ∷ []) (done ++ code 1 2 3 4)
  -- accepted: WriteObject
  pub write_lowest : AnswersWith [] (write_at 0x68 2 (0xFB ∷ 1 ∷ 2 ∷ 3 ∷ []) ∷ []) done
  pub write_low_bytes : Leaves (write_at 0x68 2 (0xFB ∷ 1 ∷ 2 ∷ 3 ∷ []) ∷ []) 2 (0xFB ∷ [])
  pub write_highest : AnswersWith [] (write_at 0x68 2 (5 ∷ 0 ∷ 0 ∷ 0 ∷ []) ∷ []) done
  pub write_negative : Leaves (write_at 0x68 7 (0x18 ∷ 0xFC ∷ 0 ∷ 0 ∷ []) ∷ []) 7 (0x18 ∷ 0xFC ∷ [])
  -- accepted: InitiateSegmentedRead of 0, 1, 3, 254, 255, 256 bytes, and of a number
  pub initiate_read_0 : AnswersWith (replicate 0 9) (read_at 0x81 1 0x20 8 ∷ []) (done ++ (code 0 0 0 0 ++ (0 ∷ (replicate 0 9 ++ (0 ∷ [])))))
  pub initiate_read_1 : AnswersWith (replicate 1 9) (read_at 0x81 1 0x20 8 ∷ []) (done ++ (code 1 0 0 0 ++ (1 ∷ (replicate 1 9))))
  pub initiate_read_3 : AnswersWith (replicate 3 9) (read_at 0x81 1 0x20 8 ∷ []) (done ++ (code 3 0 0 0 ++ (3 ∷ (replicate 3 9))))
  pub initiate_read_254 : AnswersWith (replicate 254 9) (read_at 0x81 1 0x20 8 ∷ []) (done ++ (code 254 0 0 0 ++ (254 ∷ (replicate 254 9 ++ (0 ∷ [])))))
  pub initiate_read_255 : AnswersWith (replicate 255 9) (read_at 0x81 1 0x20 8 ∷ []) (done ++ (code 255 0 0 0 ++ (255 ∷ (replicate 255 9))))
  pub initiate_read_256 : AnswersWith (replicate 256 9) (read_at 0x81 1 0x20 8 ∷ []) (done ++ (code 0 1 0 0 ++ (255 ∷ (replicate 255 9))))
  pub initiate_read_number : AnswersWith [] (read_at 0x81 1 0x20 7 ∷ []) (done ++ (code 2 0 0 0 ++ (2 ∷ 0xFE ∷ 0xFF ∷ 0 ∷ [])))
  pub closed_after_255 : LeavesClosed (replicate 255 9) (read_at 0x81 1 0x20 8 ∷ [])
  -- accepted: SegmentRead that brings 1, 3, 254, 255 bytes, and a further one
  pub segment_read_1 : AnswersWith (replicate 256 9) (next 0 ∷ read_at 0x81 1 0x20 8 ∷ []) (done ++ (1 ∷ 2 ∷ (replicate 1 9 ++ (0 ∷ []))))
  pub segment_read_3 : AnswersWith (replicate 258 9) (next 0 ∷ read_at 0x81 1 0x20 8 ∷ []) (done ++ (3 ∷ 2 ∷ (replicate 3 9 ++ (0 ∷ []))))
  pub segment_read_254 : AnswersWith (replicate 509 9) (next 0 ∷ read_at 0x81 1 0x20 8 ∷ []) (done ++ (254 ∷ 2 ∷ (replicate 254 9)))
  pub segment_read_255 : AnswersWith (replicate 510 9) (next 0 ∷ read_at 0x81 1 0x20 8 ∷ []) (done ++ (255 ∷ 2 ∷ (replicate 255 9 ++ (0 ∷ []))))
  pub segment_read_more : AnswersWith (replicate 511 9) (next 2 ∷ read_at 0x81 1 0x20 8 ∷ []) (done ++ (255 ∷ 0 ∷ (replicate 255 9 ++ (0 ∷ []))))
  pub segment_read_then : AnswersWith (replicate 511 9) (next 1 ∷ next 0 ∷ read_at 0x81 1 0x20 8 ∷ []) (done ++ (1 ∷ 3 ∷ 9 ∷ 0 ∷ []))
  pub closed_after_last : LeavesClosed (replicate 256 9) (next 0 ∷ read_at 0x81 1 0x20 8 ∷ [])
  -- accepted: InitiateSegmentedWrite, SegmentWrite of 0, 1, 3, 254, 255 bytes
  pub initiate_write : AnswersWith [] (start 3 4 ∷ []) done
  pub initiate_write_0 : AnswersWith [] (start 3 0 ∷ []) done
  pub initiate_write_1024 : AnswersWith [] (write_at 0x69 8 (0 ∷ 4 ∷ 0 ∷ 0 ∷ []) ∷ []) done
  pub segment_write_0 : AnswersWith [] (segment 0 2 (replicate 0 9) ∷ start 8 0 ∷ []) (done ++ (0 ∷ 0 ∷ []))
  pub written_0 : Leaves (segment 0 2 (replicate 0 9) ∷ start 8 0 ∷ []) 8 (replicate 0 9)
  pub segment_write_1 : AnswersWith [] (segment 1 2 (replicate 1 9 ++ (0 ∷ [])) ∷ start 8 1 ∷ []) (done ++ (1 ∷ 0 ∷ []))
  pub written_1 : Leaves (segment 1 2 (replicate 1 9 ++ (0 ∷ [])) ∷ start 8 1 ∷ []) 8 (replicate 1 9)
  pub segment_write_3 : AnswersWith [] (segment 3 2 (replicate 3 9 ++ (0 ∷ [])) ∷ start 8 3 ∷ []) (done ++ (3 ∷ 0 ∷ []))
  pub written_3 : Leaves (segment 3 2 (replicate 3 9 ++ (0 ∷ [])) ∷ start 8 3 ∷ []) 8 (replicate 3 9)
  pub segment_write_254 : AnswersWith [] (segment 254 2 (replicate 254 9) ∷ start 8 254 ∷ []) (done ++ (254 ∷ 0 ∷ []))
  pub written_254 : Leaves (segment 254 2 (replicate 254 9) ∷ start 8 254 ∷ []) 8 (replicate 254 9)
  pub segment_write_255 : AnswersWith [] (segment 255 2 (replicate 255 9 ++ (0 ∷ [])) ∷ start 8 255 ∷ []) (done ++ (255 ∷ 0 ∷ []))
  pub written_255 : Leaves (segment 255 2 (replicate 255 9 ++ (0 ∷ [])) ∷ start 8 255 ∷ []) 8 (replicate 255 9)
  pub segment_write_second : AnswersWith [] (segment 2 3 (7 ∷ 8 ∷ []) ∷ segment 2 0 (5 ∷ 6 ∷ []) ∷ start 3 4 ∷ []) (done ++ (2 ∷ 1 ∷ []))
  pub written_joined : Leaves (segment 2 3 (7 ∷ 8 ∷ []) ∷ segment 2 0 (5 ∷ 6 ∷ []) ∷ start 3 4 ∷ []) 3 (5 ∷ 6 ∷ 7 ∷ 8 ∷ [])
  pub written_number : Leaves (segment 2 2 (0x18 ∷ 0xFC ∷ []) ∷ start 7 2 ∷ []) 7 (0x18 ∷ 0xFC ∷ [])
  pub empty_unmarked : AnswersWith [] (segment 0 0 [] ∷ start 3 4 ∷ []) (done ++ (0 ∷ 0 ∷ []))
  pub reached_unmarked : AnswersWith [] (segment 0 3 [] ∷ segment 4 0 (5 ∷ 6 ∷ 7 ∷ 8 ∷ []) ∷ start 3 4 ∷ []) (done ++ (0 ∷ 1 ∷ []))
  -- a check that turns a segment away ends the chain; an unknown OpCode leaves it open
  pub ended_by_toggle : Refused (segment 2 1 (5 ∷ 6 ∷ []) ∷ start 3 4 ∷ []) (segment 2 0 (5 ∷ 6 ∷ [])) (Chain NoChain) 0x08000022
  pub ended_by_len : Refused (frame 0x62 [] ∷ start 3 4 ∷ []) (segment 2 0 (5 ∷ 6 ∷ [])) (Chain NoChain) 0x08000022
  pub open_after_unknown : AnswersWith [] (segment 2 0 (5 ∷ 6 ∷ []) ∷ read_at 0x70 1 0x20 1 ∷ start 3 4 ∷ []) (done ++ (2 ∷ 0 ∷ []))
  -- the third and fourth byte of a declared length count
  pub declared_third : Refused [] (write_at 0x69 8 (0 ∷ 0 ∷ 1 ∷ 0 ∷ [])) (Dictionary TooLong) 0x06070012
  pub declared_fourth : Refused [] (write_at 0x69 8 (0 ∷ 0 ∷ 0 ∷ 1 ∷ [])) (Dictionary TooLong) 0x06070012
  -- all four bytes of a number of four
  pub write_4 : Leaves (write_at 0x68 9 (5 ∷ 6 ∷ 7 ∷ 8 ∷ []) ∷ []) 9 (5 ∷ 6 ∷ 7 ∷ 8 ∷ [])
  -- other control bits, dummy and pad are ignored
  pub other_bits_62 : AnswersWith (replicate 256 9) (frame 0x62 (0xFE ∷ 7 ∷ []) ∷ read_at 0x81 1 0x20 8 ∷ []) (done ++ (1 ∷ 2 ∷ 9 ∷ 0 ∷ []))
  pub other_bits_6a : AnswersWith [] (segment 1 0xFC (5 ∷ 7 ∷ []) ∷ start 3 4 ∷ []) (done ++ (1 ∷ 0 ∷ []))
  pub pad_ignored : Leaves (segment 1 2 (5 ∷ 7 ∷ []) ∷ start 3 1 ∷ []) 3 (5 ∷ [])
  -- an initiate ends the open chain, taken or not; ReadObject and WriteObject leave it open, also where they are turned away
  pub ended_by_read_initiate : Refused (read_at 0x81 1 0x20 3 ∷ start 3 4 ∷ []) (segment 2 0 (5 ∷ 6 ∷ [])) (Chain NoChain) 0x08000022
  pub ended_by_refused_initiate : Refused (start 3 5 ∷ start 3 4 ∷ []) (segment 2 0 (5 ∷ 6 ∷ [])) (Chain NoChain) 0x08000022
  pub ended_by_other_direction : Refused (next 0 ∷ start 3 4 ∷ []) (segment 2 0 (5 ∷ 6 ∷ [])) (Chain NoChain) 0x08000022
  pub open_after_read : AnswersWith [] (segment 2 0 (5 ∷ 6 ∷ []) ∷ read_at 0x60 1 0x20 1 ∷ start 3 4 ∷ []) (done ++ (2 ∷ 0 ∷ []))
  pub open_after_write : AnswersWith [] (segment 2 0 (5 ∷ 6 ∷ []) ∷ write_at 0x68 1 (7 ∷ 0 ∷ 0 ∷ 0 ∷ []) ∷ start 3 4 ∷ []) (done ++ (2 ∷ 0 ∷ []))
  -- a last segment sent again finds its chain ended, and what it wrote stands
  pub last_again : Refused (segment 2 2 (5 ∷ 6 ∷ []) ∷ start 3 2 ∷ []) (segment 2 2 (5 ∷ 6 ∷ [])) (Chain NoChain) 0x08000022
  pub last_again_kept : Leaves (segment 2 2 (5 ∷ 6 ∷ []) ∷ segment 2 2 (5 ∷ 6 ∷ []) ∷ start 3 2 ∷ []) 3 (5 ∷ 6 ∷ [])
