-- The three calls at an address, by the object that it holds or by what is absent.
use Rattle.std.proofs.Common.{◌≡◌, ◌⊎◌, length, Some, None, Ok, Err, Option, refl, ap, ap₂, ⊎_elim}
use Rattle.dictionary.specs.declared.Address.{Address}
use Rattle.dictionary.specs.declared.Fault.{Fault}
use Rattle.dictionary.specs.declared.Fault.TheVariants.{NoIndex, NoSubindex}
use Rattle.dictionary.specs.Objects.{Bytes, Object, Objects, no_index, no_subindex, present, look}
use Rattle.dictionary.specs.Checks.{write_fault}
use Rattle.dictionary.specs.Calls.{answer, told, read_of, memory_of, look_answer, read_answer, memory_after_read}
use Rattle.tables.proofs.Tables.{Holds}

-- every call at the address has the fault
pub record Refuses (d : Objects) (a : Address) (e : Fault) : Type 0 where
  pub looks : look_answer d a ≡ Err e
  pub reads : (m : Bytes) → read_answer d a m ≡ Err e
  pub memory : (m : Bytes) → memory_after_read d a m ≡ m
  pub writes : (v : Bytes) → write_fault (look d a) v ≡ Some e

pub refuses : (d : Objects) (a : Address) (e : Fault) → ((e ≡ NoSubindex) × (look d a ≡ no_subindex)) ⊎ ((e ≡ NoIndex) × (look d a ≡ no_index)) → Refuses d a e
refuses d a e h =
    ⊎_elim
    (λ (x : (e ≡ NoSubindex) × (look d a ≡ no_subindex)). record { looks = rw (x.1, x.0); reads = λ m. rw (x.1, x.0); memory = λ m. rw x.1; writes = λ v. rw (x.1, x.0) })
    (λ (x : (e ≡ NoIndex) × (look d a ≡ no_index)). record { looks = rw (x.1, x.0); reads = λ m. rw (x.1, x.0); memory = λ m. rw x.1; writes = λ v. rw (x.1, x.0) })
    h

module _ (d : Objects) (a : Address) (o : Object) (h : Holds d a o) where
  pub looks_at : look_answer d a ≡ Ok (record { access = o.access; shape = o.shape; length = length o.value })
  looks_at = ap₂ (λ x v. told x (length v)) h.entry h.bytes

  pub reads_at : (m : Bytes) → read_answer d a m ≡ read_of (present o.access o.shape) o.value m
  reads_at m = ap₂ (λ x v. read_of x v m) h.entry h.bytes

  pub memory_at : (m : Bytes) → memory_after_read d a m ≡ memory_of (present o.access o.shape) o.value m
  memory_at m = ap₂ (λ x v. memory_of x v m) h.entry h.bytes

  pub writes_at : (v : Bytes) → write_fault (look d a) v ≡ write_fault (present o.access o.shape) v
  writes_at v = ap (λ x. write_fault x v) h.entry

-- an answer tells whether there was a fault
pub accepted : (f : Option Fault) (x : Unit {0}) → answer f x ≡ Ok x → f ≡ None
accepted None x e = refl
accepted (Some f) x e = cc

pub faulted : (f : Option Fault) (x : Unit {0}) (e : Fault) → answer f x ≡ Err e → f ≡ Some e
faulted None x e h = cc
faulted (Some f) x e h = cc
