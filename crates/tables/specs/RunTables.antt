-- What a table of runs of bytes over one pool means, and what a write leaves of its records and the pool.
-- Assumes nothing.
use Rattle.std.specs.Prelude.{ℕ, ◌+◌, Bool, ◌&&◌, List, ◌++◌, length, take, drop, nat_le}
use Rattle.dictionary.specs.declared.Address.{Address}
use Rattle.dictionary.specs.declared.Look.{Look}
use Rattle.dictionary.specs.declared.Shape.TheVariants.{Run}
use Rattle.dictionary.specs.Objects.{Bytes, Object, Objects}
use Rattle.tables.specs.declared.runs.RunRecord.{RunRecord}
use Rattle.tables.specs.Tables.{Key, objects_of, Written}

-- the capacity is at most 4,096, the length no more than the capacity, and the end inside the pool
abbrev pub run_counts : RunRecord → ℕ → ℕ → Bool
run_counts r place pool = nat_le r.capacity 4096 && (nat_le r.length r.capacity && nat_le (place + r.capacity) pool)

abbrev pub run_key : RunRecord → Key
run_key r = record { address = r.address; extent = r.capacity; counts = run_counts r }

-- the value is as many bytes of the pool as the length says, from the place on
abbrev pub run_object : Bytes → RunRecord → ℕ → Object
run_object pool r place = record { access = r.access; shape = Run r.capacity; value = take r.length (drop place pool) }

-- what is told of it
abbrev pub run_look : RunRecord → Look
run_look r = record { access = r.access; shape = Run r.capacity; length = r.length }

-- the runs of the first 256 records that count
abbrev pub run_objects : List RunRecord → Bytes → Objects
run_objects rs pool = objects_of run_key run_object rs pool

abbrev pub with_length : ℕ → RunRecord → RunRecord
with_length n r = record { address = r.address; access = r.access; capacity = r.capacity; length = n }

-- these bytes at a place of the pool, and all others as they were
abbrev pub laid : Bytes → ℕ → Bytes → Bytes
laid pool place v = take place pool ++ (v ++ drop (place + length v) pool)

-- What a write of v at a leaves of the records and of the pool: a refused one changes nothing, an accepted one the length of
-- the record that is meant, and the bytes of its value in the pool.
abbrev pub RunWritten : List RunRecord → List RunRecord → Bytes → Bytes → Address → Bytes → Type 0
RunWritten rs after pool pool-after a v = Written run_key run_object (λ w r. with_length (length w) r) laid rs after pool pool-after a v
