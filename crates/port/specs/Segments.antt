-- What the segment row says of a segment: that the open chain takes it, or the first check that turns it away. Assumes nothing.
use Rattle.std.specs.Prelude.{◌≡◌, ℕ, ◌≤◌, Bool, length, Some, None, Ok, Err, Option, Result, IfSome}
use Rattle.wire.specs.Frames.{Frame}
use Rattle.dictionary.specs.Objects.{Bytes, Objects}
use Rattle.command.specs.declared.commands.Command.TheVariants.{SegmentWrite}
use Rattle.command.specs.declared.commands.Part.{Part}
use Rattle.command.specs.declared.faults.ChainFault.{ChainFault}
use Rattle.command.specs.declared.faults.Fault.{Fault}
use Rattle.command.specs.declared.faults.Fault.TheVariants as fault-of
use Rattle.command.specs.Checks.{found}
use Rattle.command.specs.Decoding.{Is, command_check}
use Rattle.port.specs.declared.joinings.Joining.{Joining}
use Rattle.port.specs.declared.chains.Chain.{Chain}
use Rattle.port.specs.declared.chains.Direction.TheVariants.{Write}
use Rattle.port.specs.Chains.{chain_of}
use Rattle.port.specs.Serving.{segment_fault}

-- the fault of a SegmentWrite that is turned away
abbrev pub turned : Result Joining ChainFault → Option Fault
turned (Ok j) = None
turned (Err e) = Some (fault-of.Chain e)

-- what the segment row finds is this fault, for every frame that is this command, whatever the objects and the staged bytes
unfoldable pub Judges : Option Chain → Bool → Bool → Option Part → Result Joining ChainFault → Type 0
Judges s toggle last p r =
    (node : ℕ) (d : Objects) (m : Bytes) (n : ℕ) (f : Frame) → IfSome s (λ c. c.count ≤ length m) → Is f (SegmentWrite n toggle last p) → command_check node f ≡ None
    → found (segment_fault node d (chain_of s m) f) ≡ turned r

-- it is the turn of this toggle on an open write chain, and the part is the segment's
pub record Joins (s : Option Chain) (toggle : Bool) (p : Option Part) (j : Joining) : Type 0 where
  pub chain : s ≡ Some j.chain
  pub writes : j.chain.direction ≡ Write j.at
  pub turn : j.chain.toggle ≡ toggle
  pub part : p ≡ Some j.part
