-- Proof terms, not definitions: every table of numbers or runs is sound. They stand here because the ghost member
-- `sound` of Numbers and Runs cites them.
-- Assumes nothing.
use Rattle.std.specs.Prelude.{◌≡◌, ℕ, zero, suc, ◌+◌, ◌/◌, ◌≤◌, true, false, ◌&&◌, ◌||◌, ◌⊎◌, List, [], ◌∷◌, length, take, drop, Some, None, Option, ◌==◌, nat_eq, nat_le, refl}
use Rattle.std.proofs.Common.{inl, inr, ⊎_elim, sym, ap, subst, ◌∙◌, arith, length-take, length-drop}
use Rattle.std.proofs.lemmas.Bool.{cases_Bool, and_parts, or_cases, eqb-true, eq-eqb, leb-true, and_from, cond-true, cond-false}
use Rattle.dictionary.specs.declared.Access.{Access}
use Rattle.dictionary.specs.declared.Shape.{Shape}
use Rattle.dictionary.specs.Objects.{Bytes, Object, Sound, entry_of, value_of, present, ShapeAllowed, LengthAllowed}
use Rattle.tables.specs.declared.numbers.NumberRecord.{NumberRecord}
use Rattle.tables.specs.declared.runs.RunRecord.{RunRecord}
use Rattle.tables.specs.Tables.{Key, Row, rows_from, has_index, first_at, table, front}
use Rattle.tables.specs.NumberTables.{low_bytes, is_width_lem, number_counts, number_key, number_object, number_objects}
use Rattle.tables.specs.RunTables.{run_key, run_counts, run_object, run_objects}

abbrev Allowed : Object → Type 0
Allowed o = ShapeAllowed o.shape × LengthAllowed o.shape (length o.value)

shown : (x : Option Object) (access : Access) (shape : Shape) → entry_of x ≡ present access shape → ((o : Object) → x ≡ Some o → Allowed o) → ShapeAllowed shape × LengthAllowed shape (length (value_of x))
shown None access shape e f = cc
shown (Some o) access shape e f =
    let same : o.shape ≡ shape = cc in
    let P : Shape → Type 0 = λ s. ShapeAllowed s × LengthAllowed s (length o.value) in
    subst P same (f o refl)

-- an index that a row has is that of some address
reached : (i : ℕ) (rows : List Row) → has_index i rows ≡ true → (s : ℕ) × (o : Object) × (first_at i s rows ≡ Some o)
reached i [] e = cc
reached i (r ∷ rs) e =
    ⊎_elim
    (λ (h : nat_eq i r.address.index ≡ true).
    (r.address.subindex, r.object, cond-true _ _ _ (and_from (i == r.address.index) (r.address.subindex == r.address.subindex) h (eq-eqb _ _ refl))))
    (λ (h : has_index i rs ≡ true).
    let f = reached i rs h in
    let H = i == r.address.index && nat_eq f.0 r.address.subindex in
    ⊎_elim
    (λ (b : H ≡ true). (f.0, r.object, cond-true H _ _ b))
    (λ (b : H ≡ false). (f.0, f.1, cond-false H _ _ b ∙ f.2))
    (cases_Bool H))
    (or_cases (i == r.address.index) (has_index i rs) e)

module _ {R : Type 0} (key : R → Key) (pool : ℕ) (object : R → ℕ → Object) (each : (r : R) (place : ℕ) → (key r).counts place pool ≡ true → Allowed (object r place)) where
  first_allowed : (place : ℕ) (xs : List R) (i s : ℕ) (o : Object) → first_at i s (rows_from key pool object place xs) ≡ Some o → Allowed o
  first_allowed place [] i s o e = cc
  first_allowed place (r ∷ rs) i s o e =
      let C = (key r).counts place pool in
      let H = i == (key r).address.index && nat_eq s (key r).address.subindex in
      ⊎_elim
      (λ (c : C ≡ true).
      ⊎_elim
      (λ (h : H ≡ true). let z = rw (c, h) at e in let same : object r place ≡ o = cc in subst Allowed same (each r place c))
      (λ (h : H ≡ false). first_allowed (place + (key r).extent) rs i s o (rw (c, h) at e))
      (cases_Bool H))
      (λ (c : C ≡ false). first_allowed (place + (key r).extent) rs i s o (rw c at e))
      (cases_Bool C)

  pub table_sound : (xs : List R) → Sound (table (rows_from key pool object 0 xs))
  table_sound xs =
      let rows = rows_from key pool object 0 xs in
      record {
        allowed = λ a access shape e.
            ⊎_elim
            (λ (k : has_index a.index rows ≡ true). rw k (shown (first_at a.index a.subindex rows) access shape (rw k at e) (λ o h. first_allowed 0 xs a.index a.subindex o h)))
            (λ (k : has_index a.index rows ≡ false). let z = rw k at e in cc)
            (cases_Bool (has_index a.index rows));
        addressed = λ i subs e.
            ⊎_elim
            (λ (k : has_index i rows ≡ true).
            let z = rw k at e in
            let same : (λ s. first_at i s rows) ≡ subs = cc in
            let f = reached i rows k in
            (f.0, f.1, ap (λ (g : ℕ → Option Object). g f.0) (sym same) ∙ f.2))
            (λ (k : has_index i rows ≡ false). let z = rw k at e in cc)
            (cases_Bool (has_index i rows));
      }

pub length_low_bytes : (w n : ℕ) → length (low_bytes w n) ≡ w
length_low_bytes zero n = refl
length_low_bytes (suc w) n = ap suc (length_low_bytes w (n / 256))

pub counted_width : (r : NumberRecord) → number_counts r ≡ true → (r.width ≡ 1) ⊎ ((r.width ≡ 2) ⊎ (r.width ≡ 4))
counted_width r e =
    let w : is_width_lem r.width ≡ true = (and_parts (is_width_lem r.width) _ e).0 in
    ⊎_elim
    (λ h. inl (eqb-true _ _ h))
    (λ h. inr (⊎_elim (λ k. inl (eqb-true _ _ k)) (λ k. inr (eqb-true _ _ k)) (or_cases (r.width == 2) (r.width == 4) h)))
    (or_cases (r.width == 1) (r.width == 2 || r.width == 4) w)

pub number_sound : (rs : List NumberRecord) → Sound (number_objects rs)
number_sound rs = table_sound number_key 0 (λ r place. number_object r) (λ r place c. (counted_width r c, length_low_bytes r.width r.value)) (front rs)

pub record Counted (r : RunRecord) (place pool : ℕ) : Type 0 where
  pub small : r.capacity ≤ 4096
  pub filled : r.length ≤ r.capacity
  pub within : place + r.capacity ≤ pool

pub counted : (r : RunRecord) (place pool : ℕ) → run_counts r place pool ≡ true → Counted r place pool
counted r place pool e =
    let b = and_parts (nat_le r.capacity 4096) (nat_le r.length r.capacity && nat_le (place + r.capacity) pool) e in
    let c = and_parts (nat_le r.length r.capacity) (nat_le (place + r.capacity) pool) b.1 in
    record { small = leb-true _ _ b.0; filled = leb-true _ _ c.0; within = leb-true _ _ c.1 }

pub length_run : (pool : Bytes) (r : RunRecord) (place : ℕ) → run_counts r place (length pool) ≡ true → length (take r.length (drop place pool)) ≡ r.length
length_run pool r place e = let c = counted r place (length pool) e in let f = c.filled in let w = c.within in simp (length-take, length-drop) (omega arith)

pub run_sound : (rs : List RunRecord) (pool : Bytes) → Sound (run_objects rs pool)
run_sound rs pool = table_sound run_key (length pool) (run_object pool) (λ r place e. let c = counted r place (length pool) e in (c.small, omega (arith, length_run pool r place e, c.filled))) (front rs)
