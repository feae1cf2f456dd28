-- Neighbours in the table that never both apply: their order cannot be told. The order of each other pair of neighbours is told
-- by a worked case (len_node, no_chain_toggle_62, toggle_misfit, misfit_sum_over, ro_run_68, low_above_high).
-- Assumes nothing.
use Rattle.std.specs.Prelude.{◌≡◌, ℕ, false, Some}
use Rattle.dictionary.specs.Objects.{Objects, look, TakesLength, Sound}
use Rattle.wire.specs.Frames.{Frame}
use Rattle.command.specs.Frames.{verb}
use Rattle.command.specs.Checks.{Check, OpCode, Len, Node, NoChain, SumOver, LastShort, Index, Subindex, ReadOfWo, WriteOfRo, OnRun, OverLength, UnderLength, OverHigh}
use Rattle.command.specs.Checks.{OpenChain, closed, reading, writing, checks, fault}

-- an open write chain was taken at its initiate: the object takes a value of the declared length
abbrev pub Taken : Objects → OpenChain → Type 0
Taken d closed = Unit {0}
Taken d (reading v sent t) = Unit {0}
Taken d (writing a n joined t) = TakesLength (look d a) n

-- a frame whose fault is the one check is not turned away by the other
abbrev pub NeverBoth : Check → Check → Type 0
NeverBoth k l =
    (node : ℕ) (d : Objects) (c : OpenChain) (f : Frame) → Sound d → Taken d c → fault node d c f ≡ Some k → checks (verb f) node d c f l ≡ false

pub record Neighbours : Type 0 where
  pub opcode_len : NeverBoth OpCode Len
  pub node_no_chain : NeverBoth Node NoChain
  pub sum_over_last_short : NeverBoth SumOver LastShort
  pub last_short_index : NeverBoth LastShort Index
  pub index_subindex : NeverBoth Index Subindex
  pub subindex_read_of_wo : NeverBoth Subindex ReadOfWo
  pub read_of_wo_write_of_ro : NeverBoth ReadOfWo WriteOfRo
  pub on_run_over_length : NeverBoth OnRun OverLength
  pub over_length_under_length : NeverBoth OverLength UnderLength
  pub under_length_over_high : NeverBoth UnderLength OverHigh
