-- The checks of look, read and write, in their order. The first to apply counts.
-- Assumes nothing.
use Rattle.std.specs.Prelude.{ℕ, Bool, true, false, cond, List, [], ◌∷◌, length, Some, None, Option, int_lt, nat_lt}
use Rattle.dictionary.specs.declared.Access.{Access}
use Rattle.dictionary.specs.declared.Access.TheVariants.{Ro, Wo, Rw}
use Rattle.dictionary.specs.declared.Fault.{Fault}
use Rattle.dictionary.specs.declared.Fault.TheVariants.{NoIndex, NoSubindex, WriteOnly, ReadOnly, TooLong, TooShort, OverHigh, UnderLow, ShortMemory}
use Rattle.dictionary.specs.declared.Shape.{Shape}
use Rattle.dictionary.specs.declared.Shape.TheVariants.{Number, Run}
use Rattle.dictionary.specs.Objects.{Bytes, Entry, no_index, no_subindex, present, number_value}

-- What an entry says to a read, a length and a value.

abbrev pub index_absent : Entry → Bool
index_absent no_index = true
index_absent no_subindex = false
index_absent (present access shape) = false

abbrev pub subindex_absent : Entry → Bool
subindex_absent no_index = false
subindex_absent no_subindex = true
subindex_absent (present access shape) = false

abbrev pub is_wo : Access → Bool
is_wo Ro = false
is_wo Wo = true
is_wo Rw = false

abbrev pub is_ro : Access → Bool
is_ro Ro = true
is_ro Wo = false
is_ro Rw = false

abbrev pub write_only : Entry → Bool
write_only no_index = false
write_only no_subindex = false
write_only (present access shape) = is_wo access

abbrev pub read_only : Entry → Bool
read_only no_index = false
read_only no_subindex = false
read_only (present access shape) = is_ro access

abbrev pub is_run : Entry → Bool
is_run no_index = false
is_run no_subindex = false
is_run (present access (Number w s low high)) = false
is_run (present access (Run capacity)) = true

-- n bytes are over the width or the capacity
abbrev pub over_length : Entry → ℕ → Bool
over_length no_index n = false
over_length no_subindex n = false
over_length (present access (Number w s low high)) n = nat_lt w n
over_length (present access (Run capacity)) n = nat_lt capacity n

-- n bytes are under the width
abbrev pub under_length : Entry → ℕ → Bool
under_length no_index n = false
under_length no_subindex n = false
under_length (present access (Number w s low high)) n = nat_lt n w
under_length (present access (Run capacity)) n = false

-- the bytes stand for a number over high
abbrev pub over_high : Entry → Bytes → Bool
over_high no_index v = false
over_high no_subindex v = false
over_high (present access (Number w s low high)) v = int_lt high (number_value s w v)
over_high (present access (Run capacity)) v = false

-- the bytes stand for a number under low
abbrev pub under_low : Entry → Bytes → Bool
under_low no_index v = false
under_low no_subindex v = false
under_low (present access (Number w s low high)) v = int_lt (number_value s w v) low
under_low (present access (Run capacity)) v = false

-- Tables of checks: whether each applies, and what it finds.

abbrev pub first : {F : Type 0} → List (Bool × F) → Option F
first [] = None
first (c ∷ cs) = cond c.0 (Some c.1) (first cs)

-- of a read of a value into so many bytes of memory
abbrev pub read_checks : Entry → Bytes → ℕ → List (Bool × Fault)
read_checks e v room =
    (index_absent e, NoIndex)
    ∷ (subindex_absent e, NoSubindex)
    ∷ (write_only e, WriteOnly)
    ∷ (nat_lt room (length v), ShortMemory)
    ∷ []

-- of a write of these bytes
abbrev pub write_checks : Entry → Bytes → List (Bool × Fault)
write_checks e v =
    (index_absent e, NoIndex)
    ∷ (subindex_absent e, NoSubindex)
    ∷ (read_only e, ReadOnly)
    ∷ (over_length e (length v), TooLong)
    ∷ (under_length e (length v), TooShort)
    ∷ (over_high e v, OverHigh)
    ∷ (under_low e v, UnderLow)
    ∷ []

abbrev pub read_fault : Entry → Bytes → ℕ → Option Fault
read_fault e v room = first (read_checks e v room)

abbrev pub write_fault : Entry → Bytes → Option Fault
write_fault e v = first (write_checks e v)

-- Of a part of an entry alone: why an access refuses a read or a write, and a shape a value of n bytes.

abbrev pub access_read_fault : Access → Option Fault
access_read_fault access = first ((is_wo access, WriteOnly) ∷ [])

abbrev pub access_write_fault : Access → Option Fault
access_write_fault access = first ((is_ro access, ReadOnly) ∷ [])

abbrev pub length_fault : Shape → ℕ → Option Fault
length_fault (Number w s low high) n = first ((nat_lt w n, TooLong) ∷ (nat_lt n w, TooShort) ∷ [])
length_fault (Run capacity) n = first ((nat_lt capacity n, TooLong) ∷ [])
