-- What a table of number records means, and what a write leaves of its records.
-- Assumes nothing.
use Rattle.std.specs.Prelude.{ℕ, zero, suc, ◌/◌, ◌%◌, Bool, ◌&&◌, ◌||◌, List, [], ◌∷◌, ℤ, pos, negsuc, ◌==◌, int_le}
use Rattle.dictionary.specs.declared.Address.{Address}
use Rattle.dictionary.specs.declared.Look.{Look}
use Rattle.dictionary.specs.declared.Shape.TheVariants.{Number}
use Rattle.dictionary.specs.Objects.{Bytes, Object, Objects, unsigned_value}
use Rattle.tables.specs.declared.numbers.NumberRecord.{NumberRecord}
use Rattle.tables.specs.Tables.{Key, objects_of, Written}

-- so many low bytes of a number, the lowest first
abbrev pub low_bytes : ℕ → ℕ → Bytes
low_bytes zero n = []
low_bytes (suc w) n = n % 256 ∷ low_bytes w (n / 256)

abbrev pub is_width_lem : ℕ → Bool
is_width_lem w = w == 1 || (w == 2 || w == 4)

-- from −2^31 to 2^32 − 1
abbrev pub in_limits_lem : ℤ → Bool
in_limits_lem z = int_le (negsuc 2147483647) z && int_le z (pos 4294967295)

abbrev pub number_counts : NumberRecord → Bool
number_counts r = is_width_lem r.width && (in_limits_lem r.low && in_limits_lem r.high)

-- a number takes up nothing of a pool
abbrev pub number_key : NumberRecord → Key
number_key r = record { address = r.address; extent = 0; counts = λ place pool. number_counts r }

-- of the value's 4 bytes the low ones up to the width count
abbrev pub number_object : NumberRecord → Object
number_object r = record { access = r.access; shape = Number r.width r.signed r.low r.high; value = low_bytes r.width r.value }

-- what is told of it
abbrev pub number_look : NumberRecord → Look
number_look r = record { access = r.access; shape = Number r.width r.signed r.low r.high; length = r.width }

-- the numbers of the first 256 records that count
abbrev pub number_objects : List NumberRecord → Objects
number_objects rs = objects_of number_key (λ pool r place. number_object r) rs []

abbrev pub with_number : ℕ → NumberRecord → NumberRecord
with_number n r = record { address = r.address; width = r.width; signed = r.signed; access = r.access; low = r.low; high = r.high; value = n }

-- with the number that the bytes stand for, so its bytes past the width are 0
abbrev pub number_stored : Bytes → NumberRecord → NumberRecord
number_stored v r = with_number (unsigned_value v) r

-- What a write of v at a leaves of the records: a refused one changes nothing, an accepted one the record that is meant, which
-- holds the number of the bytes. There is no pool.
abbrev pub NumberWritten : List NumberRecord → List NumberRecord → Address → Bytes → Type 0
NumberWritten rs after a v = Written number_key (λ pool r place. number_object r) number_stored (λ pool place w. pool) rs after [] [] a v
