-- Why a shape refuses the value of bytes that have a length it takes.
-- Assumes nothing.
use Rattle.std.specs.Prelude.{[], ◌∷◌, None, Option, int_lt}
use Rattle.dictionary.specs.declared.Fault.{Fault}
use Rattle.dictionary.specs.declared.Fault.TheVariants.{OverHigh, UnderLow}
use Rattle.dictionary.specs.declared.Shape.{Shape}
use Rattle.dictionary.specs.declared.Shape.TheVariants.{Number, Run}
use Rattle.dictionary.specs.Objects.{Bytes, number_value}
use Rattle.dictionary.specs.Checks.{first}

-- a number is not over high, nor under low
abbrev pub range_fault : Shape → Bytes → Option Fault
range_fault (Number w s low high) v = first ((int_lt high (number_value s w v), OverHigh) ∷ (int_lt (number_value s w v) low, UnderLow) ∷ [])
range_fault (Run capacity) v = None
