-- A table at an address: what is absent, or the record that is meant, and what the calls say of it.
use Rattle.std.proofs.Common.{◌≡◌, ℕ, ◌<◌, true, List, length, get_or, set, Some, None, Ok, Err, Result, sym, refl, ap, ◌∙◌, subst, ap₂, arith, length-take, get_or-take}
use lib.Seq.{take-set-lt}
use Rattle.dictionary.specs.declared.Address.{Address}
use Rattle.dictionary.specs.declared.Fault.{Fault}
use Rattle.dictionary.specs.declared.Look.{Look}
use Rattle.dictionary.specs.Objects.{Bytes, Object, Objects, look, present, put, LengthAllowed, ShapeAllowed}
use Rattle.dictionary.specs.Checks.{write_fault}
use Rattle.dictionary.specs.Calls.{answer, leaves, look_answer, write_answer, after_write}
use Rattle.dictionary.proofs.Words.{admitted}
use Rattle.tables.specs.declared.search.Found.{Found}
use Rattle.tables.specs.Tables.{Key, front, Located, Absent, rows_from, table, objects_of, TellsOf, Stores, Written}
use Rattle.tables.proofs.Tables.{Holds, missing, inside, the_record, counted, holds, stored}
use Rattle.tables.proofs.Calls.{Refuses, refuses, looks_at, writes_at, accepted, faulted}

module _ {R : Type 0} (key : R → Key) (object : Bytes → R → ℕ → Object) (rs : List R) (pool : Bytes) (a : Address) where
  abbrev d : Objects
  d = objects_of key object rs pool

  pub refuses_at : (e : Fault) → Absent key (length pool) (front rs) a e → Refuses d a e
  refuses_at e h = refuses d a e (missing key (length pool) (object pool) a (front rs) e h)

  -- what a write answers and leaves
  pub record Done (stored : Bytes → R → R) (filled : Bytes → ℕ → Bytes → Bytes) (v : Bytes) (r : Result (Unit {0}) Fault) (rs' : List R) (pool' : Bytes) : Type 0 where
    pub answer : r ≡ write_answer d a v
    pub after : objects_of key object rs' pool' ≡ after_write d a v
    pub written : Written key object stored filled rs rs' pool pool' a v

  -- a refused write leaves all as it is
  pub done_refused : (stored : Bytes → R → R) (filled : Bytes → ℕ → Bytes → Bytes) (v : Bytes) (e : Fault) → write_fault (look d a) v ≡ Some e → (r : Result (Unit {0}) Fault) → r ≡ Err e → Done stored filled v r rs pool
  done_refused stored filled v e h r is = record {
    answer = is ∙ sym (ap (λ f. answer f tt) h);
    after = sym (ap (λ f. leaves f (put d a v) d) h);
    written = record { refused = λ _ _. (refl, refl); accepted = λ k. cc };
  }

  module _ (f : Found) (h : Located key (length pool) (front rs) a f) where
    within : f.position < length (front rs)
    within = inside key (length pool) (object pool) a (front rs) f h

    pub early : (f.position < 256) × (f.position < length rs)
    early = (omega (arith, within, length-take 256 rs), omega (arith, within, length-take 256 rs))

    -- the record that is meant stands at the position
    pub meant_at : (x : R) → get_or rs f.position x ≡ h.0
    meant_at x = sym (get_or-take 256 rs f.position x early.0) ∙ the_record key (length pool) (object pool) a (front rs) f h x

    pub record At (r : R) : Type 0 where
      pub counts : (key r).counts f.place (length pool) ≡ true
      pub holds : Holds d a (object pool r f.place)

    pub at_meant : At h.0
    at_meant = record { counts = counted key (length pool) (object pool) a (front rs) f h; holds = holds key (length pool) (object pool) a (front rs) f h }

    pub at_position : (x : R) → At (get_or rs f.position x)
    at_position x = subst At (sym (meant_at x)) at_meant

    pub at_record : (r : R) → r ≡ get_or rs f.position r → At r
    at_record r is = subst At (sym is) (at_position r)

    -- the record that is meant stores another value
    pub stored_at : (v : Bytes) (r' : R) (pool' : Bytes) → Stores key object pool h.0 f.place v r' pool' → write_fault (look d a) v ≡ None → objects_of key object (set rs f.position r') pool' ≡ after_write d a v
    stored_at v r' pool' s none =
        ap (λ m. table (rows_from key m (object pool') 0 (front (set rs f.position r')))) s.long
        ∙ ap (λ xs. table (rows_from key (length pool) (object pool') 0 xs)) (take-set-lt 256 rs f.position r' early.0)
        ∙ stored key (length pool) (object pool) a (front rs) f h (object pool') r' s.same v s.value s.elsewhere
        ∙ sym (ap (λ x. leaves x (put d a v) d) none)

    pub done_accepted : (stored : Bytes → R → R) (filled : Bytes → ℕ → Bytes → Bytes) (v : Bytes) → Stores key object pool h.0 f.place v (stored v h.0) (filled pool f.place v) → write_fault (look d a) v ≡ None
        → (x r' : R) → r' ≡ stored v (get_or rs f.position x) → (pool' : Bytes) → pool' ≡ filled pool f.place v → Done stored filled v (Ok (tt {0})) (set rs f.position r') pool'
    done_accepted stored filled v s none x r' e pool' e' =
        let is : r' ≡ stored v h.0 = e ∙ ap (stored v) (meant_at x) in
        record {
          answer = sym (ap (λ f. answer f tt) none);
          after = ap₂ (λ y p. objects_of key object (set rs f.position y) p) is e' ∙ stored_at v (stored v h.0) (filled pool f.place v) s none;
          written = record {
            refused = λ e q. absurd (cc none);
            accepted = λ _. (f.position, h.0, h.1, ap (set rs f.position) is, e' ∙ ap (λ p. filled pool p v) h.2);
          };
        }

    -- what is told of the record, and what is told of its object
    module _ (r : R) (held : At r) (told : Look) (tells : TellsOf (object pool r f.place) told) where
      pub looked : Ok told ≡ look_answer d a
      looked = ap Ok tells.so ∙ sym (looks_at d a (object pool r f.place) held.holds)

      pub shape_allowed : ShapeAllowed told.shape
      shape_allowed = subst (λ (x : Look). ShapeAllowed x.shape) (sym tells.so) tells.allowed

      same_fault : (v : Bytes) → write_fault (look d a) v ≡ write_fault (present told.access told.shape) v
      same_fault v = writes_at d a (object pool r f.place) held.holds v ∙ ap (λ (x : Look). write_fault (present x.access x.shape) v) (sym tells.so)

      pub refused_at : (v : Bytes) (e : Fault) → answer (write_fault (present told.access told.shape) v) (tt {0}) ≡ Err e → write_fault (look d a) v ≡ Some e
      refused_at v e h = same_fault v ∙ faulted _ tt e h

      pub accepted_at : (v : Bytes) → answer (write_fault (present told.access told.shape) v) (tt {0}) ≡ Ok (tt {0}) → write_fault (look d a) v ≡ None
      accepted_at v h = same_fault v ∙ accepted _ tt h

-- bytes that are accepted have a length that the shape allows
pub allowed_length : (told : Look) (v : Bytes) → answer (write_fault (present told.access told.shape) v) (tt {0}) ≡ Ok (tt {0}) → LengthAllowed told.shape (length v)
allowed_length told v h = (admitted (present told.access told.shape) v (accepted _ tt h)).1
