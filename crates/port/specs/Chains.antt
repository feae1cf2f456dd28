-- The chain record, and the open chain that it and the staging memory stand for. Assumes nothing.
use Rattle.std.specs.Prelude.{ℕ, Bool, cond, take, Some, None, Ok, Err, Option, Result}
use Rattle.std.specs.Bool.{beq}
use Rattle.dictionary.specs.Objects.{Bytes}
use Rattle.command.specs.declared.faults.ChainFault.{ChainFault}
use Rattle.command.specs.declared.faults.ChainFault.TheVariants.{Toggle}
use Rattle.command.specs.Answers.{bit}
use Rattle.command.specs.Checks.{OpenChain, closed, reading, writing}
use Rattle.port.specs.declared.chains.Chain.{Chain}
use Rattle.port.specs.declared.chains.Direction.{Direction}
use Rattle.port.specs.declared.chains.Direction.TheVariants.{Read, Write}

-- of a reading chain the value's first `declared` bytes are staged, of a writing chain the `count` bytes joined so far
abbrev pub open_chain : Direction → ℕ → ℕ → Bool → Bytes → OpenChain
open_chain Read declared count toggle m = reading (take declared m) count (bit toggle)
open_chain (Write at) declared count toggle m = writing at declared (take count m) (bit toggle)

-- none where no chain is open
abbrev pub chain_of : Option Chain → Bytes → OpenChain
chain_of None m = closed
chain_of (Some c) m = open_chain c.direction c.declared c.count c.toggle m

-- whether a segment has the toggle whose turn it is
abbrev pub in_turn_lem : Bool → Bool → Result (Unit {0}) ChainFault
in_turn_lem turn toggle = cond (beq turn toggle) (Ok tt) (Err Toggle)
