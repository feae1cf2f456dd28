-- What look, read and write answer and leave, by what the dictionary means.
-- Assumes nothing.
use Rattle.std.specs.Prelude.{ℕ, ◌++◌, length, drop, Some, None, Ok, Err, Option, Result}
use Rattle.dictionary.specs.declared.Address.{Address}
use Rattle.dictionary.specs.declared.Fault.{Fault}
use Rattle.dictionary.specs.declared.Fault.TheVariants.{NoIndex, NoSubindex}
use Rattle.dictionary.specs.declared.Look.{Look}
use Rattle.dictionary.specs.Objects.{Bytes, Objects, Entry, no_index, no_subindex, present, look, value, put}
use Rattle.dictionary.specs.Checks.{read_fault, write_fault}

-- a fault is the answer; without one the call is accepted and answers x
abbrev pub answer : {X : Type 0} → Option Fault → X → Result X Fault
answer None x = Ok x
answer (Some f) x = Err f

-- a fault leaves all as it was; without one all is as it is made
abbrev pub leaves : {X : Type 0} → Option Fault → X → X → X
leaves None made before = made
leaves (Some f) made before = before

-- what is told of an entry whose value has n bytes
abbrev pub told : Entry → ℕ → Result Look Fault
told no_index n = Err NoIndex
told no_subindex n = Err NoSubindex
told (present access shape) n = Ok (record { access = access; shape = shape; length = n })

abbrev pub look_answer : Objects → Address → Result Look Fault
look_answer d a = told (look d a) (length (value d a))

-- a read of the value v of an entry answers its length
abbrev pub read_of : Entry → Bytes → Bytes → Result ℕ Fault
read_of e v memory = answer (read_fault e v (length memory)) (length v)

-- and leaves it at the front of the memory, and the rest as it was
abbrev pub memory_of : Entry → Bytes → Bytes → Bytes
memory_of e v memory = leaves (read_fault e v (length memory)) (v ++ drop (length v) memory) memory

abbrev pub read_answer : Objects → Address → Bytes → Result ℕ Fault
read_answer d a memory = read_of (look d a) (value d a) memory

abbrev pub memory_after_read : Objects → Address → Bytes → Bytes
memory_after_read d a memory = memory_of (look d a) (value d a) memory

abbrev pub write_answer : Objects → Address → Bytes → Result (Unit {0}) Fault
write_answer d a v = answer (write_fault (look d a) v) tt

-- the value is these bytes at this address only
abbrev pub after_write : Objects → Address → Bytes → Objects
after_write d a v = leaves (write_fault (look d a) v) (put d a v) d
