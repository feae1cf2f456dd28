-- What dictionaries made of others mean, and what a write to them leaves of those below.
-- Assumes nothing.
use Rattle.std.specs.Prelude.{ℕ, ◌+◌, ◌-◌, ◌*◌, Bool, cond, ◌&&◌, Some, None, Ok, Err, Option, Result, nat_le, nat_lt}
use Rattle.dictionary.specs.declared.Address.{Address}
use Rattle.dictionary.specs.declared.Fault.{Fault}
use Rattle.dictionary.specs.declared.Fault.TheVariants.{NoIndex}
use Rattle.dictionary.specs.Objects.{Bytes, Object, Objects}
use Rattle.dictionary.specs.Calls.{after_write}

-- Pair.

abbrev pub or_else : {X : Type 0} → Option X → Option X → Option X
or_else None y = y
or_else (Some x) y = Some x

-- the first has every index that it knows, the second the rest
abbrev pub paired : Objects → Objects → Objects
paired d e i = or_else (d i) (e i)

abbrev pub unless_known : Option (ℕ → Option Object) → Objects → Objects → Objects
unless_known None written as_before = written
unless_known (Some subs) written as_before = as_before

-- the second after a write: it is written only where the first does not know the index
abbrev pub second_after : Objects → Objects → Address → Bytes → Objects
second_after d e a v = unless_known (d a.index) (after_write e a v) e

-- Shift.

-- whether an index is one of an axis: its 800 indices, in hexadecimal, from 6000 + 800 × axis on
abbrev pub of_axis : ℕ → ℕ → Bool
of_axis axis i = nat_le (0x6000 + 0x800 * axis) i && nat_lt i (0x6800 + 0x800 * axis)

-- the index 6000 + k below is shown at 6000 + 800 × axis + k, and no others
abbrev pub shifted : ℕ → Objects → Objects
shifted axis d i = cond (of_axis axis i) (d (i - 0x800 * axis)) None

-- where an address is found below
abbrev pub unshifted : ℕ → Address → Option Address
unshifted axis a = cond (of_axis axis a.index) (Some (record { index = a.index - 0x800 * axis; subindex = a.subindex })) None

-- an address that is shown nowhere has no index
abbrev pub found_below : Option Address → Result Address Fault
found_below None = Err NoIndex
found_below (Some b) = Ok b

abbrev pub written_at : Option Address → Objects → Bytes → Objects
written_at None d v = d
written_at (Some b) d v = after_write d b v

-- what lies below after a write: it is written at the unshifted address, and at a hidden one left alone
abbrev pub below_after : ℕ → Objects → Address → Bytes → Objects
below_after axis d a v = written_at (unshifted axis a) d v
