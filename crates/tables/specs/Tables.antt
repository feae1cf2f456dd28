-- Tables of records that carry an address: which record is meant for an address, and what such a table means.
-- Assumes nothing.
use Rattle.std.specs.Prelude.{◌≡◌, ℕ, ◌+◌, ◌<◌, ◌≤◌, Bool, true, false, cond, ◌&&◌, ◌||◌, ◌⊎◌, List, [], ◌∷◌, length, take, Some, None, sum_by, Option, ◌==◌, ◌≢◌, slice_set}
use Rattle.std.specs.List.{slice_get}
use Rattle.dictionary.specs.declared.Address.{Address}
use Rattle.dictionary.specs.declared.Fault.{Fault}
use Rattle.dictionary.specs.declared.Fault.TheVariants.{NoIndex, NoSubindex}
use Rattle.dictionary.specs.declared.Look.{Look}
use Rattle.dictionary.specs.Objects.{Bytes, Object, Objects, ShapeAllowed, look}
use Rattle.dictionary.specs.Checks.{write_fault}
use Rattle.tables.specs.declared.search.Found.{Found}

-- What a search asks of a record.
pub record Key : Type 0 where
  pub address : Address
  -- how many bytes of the pool it takes up
  pub extent : ℕ
  -- whether it counts, by its place in the pool and the pool's length
  pub counts : ℕ → ℕ → Bool

-- A table is looked at no farther than its 256th record.
abbrev pub front : {R : Type 0} → List R → List R
front rs = take 256 rs

-- the place of the record at a position: the sum of the extents of all records before it
abbrev pub place_of : {R : Type 0} → (R → Key) → List R → ℕ → ℕ
place_of key rs k = sum_by (λ r. (key r).extent) (take k rs)

-- The record at position k is r, and it counts at its place.
pub record Counts {R : Type 0} (key : R → Key) (pool : ℕ) (rs : List R) (k : ℕ) (r : R) : Type 0 where
  pub stands : slice_get rs k ≡ Some r
  pub counts : (key r).counts (place_of key rs k) pool ≡ true

-- It counts, it has the address, and no earlier record that counts has it.
pub record Meant {R : Type 0} (key : R → Key) (pool : ℕ) (rs : List R) (a : Address) (k : ℕ) (r : R) : Type 0 where
  pub counts : Counts key pool rs k r
  pub address : (key r).address ≡ a
  pub earlier : (j : ℕ) (q : R) → j < k → Counts key pool rs j q → (key q).address ≢ a

-- What a search finds: the position of the record that is meant, and its place.
abbrev pub Located : {R : Type 0} → (R → Key) → ℕ → List R → Address → Found → Type 0
Located key pool rs a f = (r : _) × Meant key pool rs a f.position r × (f.place ≡ place_of key rs f.position)

-- some record that counts has the index
abbrev pub IndexKnown : {R : Type 0} → (R → Key) → ℕ → List R → ℕ → Type 0
IndexKnown key pool rs i = (k : ℕ) × (r : _) × Counts key pool rs k r × ((key r).address.index ≡ i)

-- no record that counts has the address
abbrev pub NoneMeant : {R : Type 0} → (R → Key) → ℕ → List R → Address → Type 0
NoneMeant key pool rs a = (k : ℕ) (r : _) → Counts key pool rs k r → (key r).address ≢ a

-- Why a search finds nothing: no record that counts has the address, and one or none has the index.
abbrev pub Absent : {R : Type 0} → (R → Key) → ℕ → List R → Address → Fault → Type 0
Absent key pool rs a e =
    NoneMeant key pool rs a
    × (((e ≡ NoSubindex) × IndexKnown key pool rs a.index) ⊎ ((e ≡ NoIndex) × (IndexKnown key pool rs a.index → ⊥)))

-- What a table means.

-- the object of a record that counts, with its address
pub record Row : Type 0 where
  pub address : Address
  pub object : Object

-- the rows of the records that count, where the first record's place is given
abbrev pub rows_from : {R : Type 0} → (R → Key) → ℕ → (R → ℕ → Object) → ℕ → List R → List Row
rows_from key pool object place [] = []
rows_from key pool object place (r ∷ rs) =
    cond ((key r).counts place pool)
    (record { address = (key r).address; object = object r place } ∷ rows_from key pool object (place + (key r).extent) rs)
    (rows_from key pool object (place + (key r).extent) rs)

abbrev pub has_index : ℕ → List Row → Bool
has_index i [] = false
has_index i (r ∷ rs) = i == r.address.index || has_index i rs

-- of equal addresses the first is meant
abbrev pub first_at : ℕ → ℕ → List Row → Option Object
first_at i s [] = None
first_at i s (r ∷ rs) = cond (i == r.address.index && s == r.address.subindex) (Some r.object) (first_at i s rs)

-- an index is known if a row has it
abbrev pub table : List Row → Objects
table rows i = cond (has_index i rows) (Some (λ s. first_at i s rows)) None

-- the objects of the first 256 records that count, where each stands for an object by the pool and its place there
abbrev pub objects_of : {R : Type 0} → (R → Key) → (Bytes → R → ℕ → Object) → List R → Bytes → Objects
objects_of key object rs pool = table (rows_from key (length pool) (object pool) 0 (front rs))

-- What is told of an object that a dictionary may have: its access, its shape, and the length of its value.
pub record TellsOf (o : Object) (told : Look) : Type 0 where
  pub so : told ≡ record { access = o.access; shape = o.shape; length = length o.value }
  pub allowed : ShapeAllowed o.shape

-- an object with another value
abbrev pub revalued : Bytes → Object → Object
revalued v o = record { access = o.access; shape = o.shape; value = v }

-- Where a record r at a place stores the value v as r', and its pool as pool': it has its key still, its object has the value, and no
-- object of a record that lies elsewhere changes.
pub record Stores {R : Type 0} (key : R → Key) (object : Bytes → R → ℕ → Object) (pool : Bytes) (r : R) (place : ℕ) (v : Bytes) (r' : R) (pool' : Bytes) : Type 0 where
  pub same : key r' ≡ key r
  pub long : length pool' ≡ length pool
  pub value : object pool' r' place ≡ revalued v (object pool r place)
  pub elsewhere : (x : R) (q : ℕ) → (key x).counts q (length pool) ≡ true → (q + (key x).extent ≤ place) ⊎ (place + (key r).extent ≤ q) → object pool' x q ≡ object pool x q

-- What a write of v at a leaves of the records and of the pool, where `stored` and `filled` say how a value is stored.
pub record Written {R : Type 0} (key : R → Key) (object : Bytes → R → ℕ → Object) (stored : Bytes → R → R) (filled : Bytes → ℕ → Bytes → Bytes)
    (rs after : List R) (pool pool-after : Bytes) (a : Address) (v : Bytes) : Type 0 where
  -- a refused write changes nothing
  pub refused : (e : Fault) → write_fault (look (objects_of key object rs pool) a) v ≡ Some e → (after ≡ rs) × (pool-after ≡ pool)
  -- an accepted one changes the record that is meant, and the bytes of its value in the pool
  pub accepted : write_fault (look (objects_of key object rs pool) a) v ≡ None
      → (k : ℕ) × (r : R) × Meant key (length pool) (front rs) a k r × (after ≡ slice_set rs k (stored v r)) × (pool-after ≡ filled pool (place_of key (front rs) k) v)
