-- What the three calls do, in words: laws of the definitions of Checks and Calls.
-- Assumes nothing.
use Rattle.std.specs.Prelude.{◌≡◌, ℕ, ◌≤◌, length, None, ◌≢◌}
use Rattle.dictionary.specs.declared.Address.{Address}
use Rattle.dictionary.specs.Objects.{Bytes, Objects, Entry, look, value, MayBeRead, Admits}
use Rattle.dictionary.specs.Checks.{read_fault, write_fault}
use Rattle.dictionary.specs.Calls.{after_write}

pub record CallsInWords : Type 0 where
  -- a read is accepted exactly where the object may be read and the memory has room for its value
  pub reads : (e : Entry) (v : Bytes) (room : ℕ) → read_fault e v room ≡ None → MayBeRead e × (length v ≤ room)
  pub reads_back : (e : Entry) (v : Bytes) (room : ℕ) → MayBeRead e → length v ≤ room → read_fault e v room ≡ None
  -- a write is accepted exactly where access, shape, low and high allow the value
  pub writes : (e : Entry) (v : Bytes) → write_fault e v ≡ None → Admits e v
  pub writes_back : (e : Entry) (v : Bytes) → Admits e v → write_fault e v ≡ None
  -- no write changes an address, an access or a shape
  pub entries : (d : Objects) (a : Address) (v : Bytes) (b : Address) → look (after_write d a v) b ≡ look d b
  -- an admitted value is the value
  pub written : (d : Objects) (a : Address) (v : Bytes) → Admits (look d a) v → value (after_write d a v) a ≡ v
  -- at this address only
  pub elsewhere : (d : Objects) (a : Address) (v : Bytes) (b : Address) → (a ≢ b) → value (after_write d a v) b ≡ value d b
  -- a refused write changes nothing
  pub refused : (d : Objects) (a : Address) (v : Bytes) → (Admits (look d a) v → ⊥) → after_write d a v ≡ d
