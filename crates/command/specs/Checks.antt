-- The table of checks: one list for all commands. The first check that concerns the command and applies counts.
-- Assumes nothing.
use Rattle.std.specs.Prelude.{ℕ, ◌+◌, Bool, true, false, cond, not, ◌&&◌, List, [], ◌∷◌, ◌++◌, length, take, Some, None, Option, ◌==◌, nat_lt}
use Rattle.dictionary.specs.declared.Address.{Address}
use Rattle.dictionary.specs.declared.Fault as dictionary
use Rattle.dictionary.specs.declared.Shape.TheVariants.{Number, Run}
use Rattle.dictionary.specs.Objects.{Bytes, Objects, Entry, no_index, no_subindex, present, look}
use Rattle.dictionary.specs.Checks.{index_absent, subindex_absent, write_only, read_only, is_run, over_length, under_length, over_high, under_low}
use Rattle.wire.specs.Frames.{Frame}
use Rattle.command.specs.declared.faults.CommandFault as command
use Rattle.command.specs.declared.faults.ChainFault as chain
use Rattle.command.specs.declared.faults.Fault.{Fault}
use Rattle.command.specs.declared.faults.Fault.TheVariants.{Command, Chain, Dictionary}
use Rattle.command.specs.Faults.{code_of}
use Rattle.command.specs.Frames.{Verb, read_object, initiate_read, write_object, initiate_write, segment_read, segment_write, unknown}
use Rattle.command.specs.Frames.{verb, len, node_of, address, payload, declared, read_toggle, write_toggle, size, marked, part, room, len_fits}

-- What the heard frames say of the chain that is open. reading: the value held at the initiate, how much of it was sent,
-- the toggle whose turn it is. writing: the address, the declared length, the bytes joined so far, the toggle whose turn it is.
pub data OpenChain : Type 0 where
  closed : OpenChain
  reading : Bytes → ℕ → ℕ → OpenChain
  writing : Address → ℕ → Bytes → ℕ → OpenChain

pub data Check : Type 0 where
  OpCode Len Node : Check
  NoChain Toggle NAgainstLen SumOver LastShort : Check
  Index Subindex ReadOfWo WriteOfRo : Check
  OnRun OverLength UnderLength : Check
  OverHigh UnderLow : Check

-- The order, by the rows of the table.

abbrev pub command_row : List Check
command_row = OpCode ∷ Len ∷ Node ∷ []

abbrev pub segment_row : List Check
segment_row = NoChain ∷ Toggle ∷ NAgainstLen ∷ SumOver ∷ LastShort ∷ []

abbrev pub object_row : List Check
object_row = Index ∷ Subindex ∷ ReadOfWo ∷ WriteOfRo ∷ []

abbrev pub shape_row : List Check
shape_row = OnRun ∷ OverLength ∷ UnderLength ∷ []

abbrev pub value_row : List Check
value_row = OverHigh ∷ UnderLow ∷ []

abbrev pub in_order : List Check
in_order = command_row ++ (segment_row ++ (object_row ++ (shape_row ++ value_row)))

-- what each check finds: the layer, and that layer's fault
abbrev pub fault_of : Check → Fault
fault_of OpCode = Command command.TheVariants.OpCode
fault_of Len = Command command.TheVariants.Len
fault_of Node = Command command.TheVariants.Node
fault_of NoChain = Chain chain.TheVariants.NoChain
fault_of Toggle = Chain chain.TheVariants.Toggle
fault_of NAgainstLen = Chain chain.TheVariants.Misfit
fault_of SumOver = Chain chain.TheVariants.SumOver
fault_of LastShort = Chain chain.TheVariants.LastShort
fault_of Index = Dictionary dictionary.TheVariants.NoIndex
fault_of Subindex = Dictionary dictionary.TheVariants.NoSubindex
fault_of ReadOfWo = Dictionary dictionary.TheVariants.WriteOnly
fault_of WriteOfRo = Dictionary dictionary.TheVariants.ReadOnly
fault_of OnRun = Dictionary dictionary.TheVariants.NotNumber
fault_of OverLength = Dictionary dictionary.TheVariants.TooLong
fault_of UnderLength = Dictionary dictionary.TheVariants.TooShort
fault_of OverHigh = Dictionary dictionary.TheVariants.OverHigh
fault_of UnderLow = Dictionary dictionary.TheVariants.UnderLow

abbrev pub code : Check → ℕ
code k = code_of (fault_of k)

-- Which commands a check concerns: 60, 81, 68, 69, 62, 6A, any other OpCode.
abbrev pub of_verbs : Bool → Bool → Bool → Bool → Bool → Bool → Bool → Verb → Bool
of_verbs a b c d e f g read_object = a
of_verbs a b c d e f g initiate_read = b
of_verbs a b c d e f g write_object = c
of_verbs a b c d e f g initiate_write = d
of_verbs a b c d e f g segment_read = e
of_verbs a b c d e f g segment_write = f
of_verbs a b c d e f g unknown = g

--                                       60    81    68    69    62    6A    other
abbrev pub concerns : Check → Verb → Bool
concerns OpCode w = of_verbs false false false false false false true w
concerns Len w = of_verbs true true true true true true false w
concerns Node w = of_verbs true true true true false false false w
concerns NoChain w = of_verbs false false false false true true false w
concerns Toggle w = of_verbs false false false false true true false w
concerns NAgainstLen w = of_verbs false false false false false true false w
concerns SumOver w = of_verbs false false false false false true false w
concerns LastShort w = of_verbs false false false false false true false w
concerns Index w = of_verbs true true true true false true false w
concerns Subindex w = of_verbs true true true true false true false w
concerns ReadOfWo w = of_verbs true true false false false false false w
concerns WriteOfRo w = of_verbs false false true true false true false w
concerns OnRun w = of_verbs true false true false false false false w
concerns OverLength w = of_verbs false false true true false true false w
concerns UnderLength w = of_verbs false false true true false true false w
concerns OverHigh w = of_verbs false false true false false true false w
concerns UnderLow w = of_verbs false false true false false true false w

-- What the checks look at.

-- no chain of the command's direction is open
abbrev pub no_chain : Verb → OpenChain → Bool
no_chain w closed = true
no_chain w (reading v sent t) = of_verbs true true true true false true true w
no_chain w (writing a n joined t) = of_verbs true true true true true false true w

abbrev pub toggle_of : Verb → Frame → ℕ
toggle_of read_object f = 0
toggle_of initiate_read f = 0
toggle_of write_object f = 0
toggle_of initiate_write f = 0
toggle_of segment_read f = read_toggle f
toggle_of segment_write f = write_toggle f
toggle_of unknown f = 0

-- the toggle whose turn it is
abbrev pub turn_of : OpenChain → ℕ
turn_of closed = 0
turn_of (reading v sent t) = t
turn_of (writing a n joined t) = t

-- the declared length of a write chain, and its bytes joined so far
abbrev pub declared_of : OpenChain → ℕ
declared_of closed = 0
declared_of (reading v sent t) = 0
declared_of (writing a n joined t) = n

abbrev pub joined_of : OpenChain → Bytes
joined_of closed = []
joined_of (reading v sent t) = []
joined_of (writing a n joined t) = joined

-- a SegmentWrite comes to the dictionary only if it is marked last; the others always do
abbrev pub comes_to_dictionary : Verb → Frame → Bool
comes_to_dictionary read_object f = true
comes_to_dictionary initiate_read f = true
comes_to_dictionary write_object f = true
comes_to_dictionary initiate_write f = true
comes_to_dictionary segment_read f = true
comes_to_dictionary segment_write f = marked f
comes_to_dictionary unknown f = true

abbrev pub chain_entry : Objects → OpenChain → Entry
chain_entry d closed = no_index
chain_entry d (reading v sent t) = no_index
chain_entry d (writing a n joined t) = look d a

-- the object that the command is for: that of its address, or of the open write chain
abbrev pub entry_for : Verb → Objects → OpenChain → Frame → Entry
entry_for read_object d c f = look d (address f)
entry_for initiate_read d c f = look d (address f)
entry_for write_object d c f = look d (address f)
entry_for initiate_write d c f = look d (address f)
entry_for segment_read d c f = look d (address f)
entry_for segment_write d c f = chain_entry d c
entry_for unknown d c f = look d (address f)

-- WriteObject uses the low bytes up to the width
abbrev pub low_bytes : Entry → Bytes → Bytes
low_bytes no_index v = []
low_bytes no_subindex v = []
low_bytes (present access (Number w s low high)) v = take w v
low_bytes (present access (Run capacity)) v = []

-- the value that the command brings: the low bytes of a WriteObject, the joined bytes of a chain
abbrev pub value_for : Verb → Objects → OpenChain → Frame → Bytes
value_for read_object d c f = []
value_for initiate_read d c f = []
value_for write_object d c f = low_bytes (look d (address f)) (payload f)
value_for initiate_write d c f = []
value_for segment_read d c f = []
value_for segment_write d c f = joined_of c ++ part f
value_for unknown d c f = []

-- its length, which an InitiateSegmentedWrite declares
abbrev pub length_for : Verb → Objects → OpenChain → Frame → ℕ
length_for read_object d c f = 0
length_for initiate_read d c f = 0
length_for write_object d c f = length (value_for write_object d c f)
length_for initiate_write d c f = declared f
length_for segment_read d c f = 0
length_for segment_write d c f = length (value_for segment_write d c f)
length_for unknown d c f = 0

-- whether a check applies to a frame of this command
abbrev pub applies : Check → Verb → ℕ → Objects → OpenChain → Frame → Bool
applies OpCode w node d c f = true
applies Len w node d c f = not (len_fits w (len f))
applies Node w node d c f = not (node_of f == node)
applies NoChain w node d c f = no_chain w c
applies Toggle w node d c f = not (toggle_of w f == turn_of c)
applies NAgainstLen w node d c f = not (len f == room (size f))
applies SumOver w node d c f = nat_lt (declared_of c) (length (joined_of c) + size f)
applies LastShort w node d c f = marked f && nat_lt (length (joined_of c) + size f) (declared_of c)
applies Index w node d c f = comes_to_dictionary w f && index_absent (entry_for w d c f)
applies Subindex w node d c f = comes_to_dictionary w f && subindex_absent (entry_for w d c f)
applies ReadOfWo w node d c f = comes_to_dictionary w f && write_only (entry_for w d c f)
applies WriteOfRo w node d c f = comes_to_dictionary w f && read_only (entry_for w d c f)
applies OnRun w node d c f = comes_to_dictionary w f && is_run (entry_for w d c f)
applies OverLength w node d c f = comes_to_dictionary w f && over_length (entry_for w d c f) (length_for w d c f)
applies UnderLength w node d c f = comes_to_dictionary w f && under_length (entry_for w d c f) (length_for w d c f)
applies OverHigh w node d c f = comes_to_dictionary w f && over_high (entry_for w d c f) (value_for w d c f)
applies UnderLow w node d c f = comes_to_dictionary w f && under_low (entry_for w d c f) (value_for w d c f)

-- a check turns the frame away if it concerns the command and applies
abbrev pub checks : Verb → ℕ → Objects → OpenChain → Frame → Check → Bool
checks w node d c f k = concerns k w && applies k w node d c f

abbrev pub first_of : (Check → Bool) → List Check → Option Check
first_of turns-away [] = None
first_of turns-away (k ∷ ks) = cond (turns-away k) (Some k) (first_of turns-away ks)

-- the first of the table
unfoldable pub first : (Check → Bool) → Option Check
first turns-away = first_of turns-away in_order

-- the first check that turns the frame away, if one does
unfoldable pub fault : ℕ → Objects → OpenChain → Frame → Option Check
fault node d c f = first (checks (verb f) node d c f)

-- what it finds
abbrev pub found : Option Check → Option Fault
found None = None
found (Some k) = Some (fault_of k)
