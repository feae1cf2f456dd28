-- What a table means at an address, by the record that is meant, and what it means after a write to that record.
use Rattle.std.proofs.Common.{◌≡◌, ℕ, zero, suc, ◌+◌, ◌<◌, ◌≤◌, Bool, true, false, cond, ◌&&◌, ◌||◌, eqb, ◌⊎◌, List, [], ◌∷◌, length, get_or, take, set, Some, None, sym, refl, ap, ◌∙◌, subst, ap₂, inl, inr, ⊎_elim, arith}
use mathlib.Core.Path.{fun_ext}
use Rattle.std.proofs.lemmas.Option.{slice_get_within, get_or_from_slice_get}
use Rattle.std.proofs.lemmas.List.Sums.{sum_by-cons}
use Rattle.std.proofs.lemmas.Bool.Decides.{nat_tests}
use Rattle.std.proofs.lemmas.Bool.{cond-true, cond-false, and_from, and_parts, and_left, eq-eqb, eqb-true, cases_Bool, or_left, or_right}
use Rattle.std.specs.List.{slice_get}
use Rattle.dictionary.specs.declared.Address.{Address}
use Rattle.dictionary.specs.declared.Fault.{Fault}
use Rattle.dictionary.specs.declared.Fault.TheVariants.{NoIndex, NoSubindex}
use Rattle.dictionary.specs.Objects.{Bytes, Object, Objects, no_index, no_subindex, present, look, value, put, put_under, with_value}
use Rattle.tables.specs.declared.search.Found.{Found}
use Rattle.tables.specs.Tables.{Key, place_of, Counts, Located, Absent, Row, rows_from, has_index, first_at, table, revalued}
use Rattle.tables.proofs.Searching.{same_address}

-- the object at an address, as look and value show it
pub record Holds (d : Objects) (a : Address) (o : Object) : Type 0 where
  pub entry : look d a ≡ present o.access o.shape
  pub bytes : value d a ≡ o.value

-- two addresses that differ are not both a third
apart : (x y u v i s : ℕ) → (eqb u x && eqb v y) ≡ false → (eqb i x && eqb s y) ≡ true → (eqb i u && eqb s v) ≡ false
apart x y u v i s n t = grind (arith, nat_tests)

cond_again : {X : Type 0} (b : Bool) (x y z : X) → cond b x y ≡ cond b x (cond b z y)
cond_again true x y z = refl
cond_again false x y z = refl

-- a choice that comes after another, where not both are taken
cond_past : {X : Type 0} (b t : Bool) (x y z w : X) → (b ≡ true → t ≡ false) → w ≡ cond t y z → cond b x w ≡ cond t y (cond b x z)
cond_past true true x y z w n e = cc (n refl)
cond_past true false x y z w n e = refl
cond_past false t x y z w n e = e

module _ {R : Type 0} (key : R → Key) (pool : ℕ) where
  place_suc : (x : R) (xs : List R) (k : ℕ) → place_of key (x ∷ xs) (suc k) ≡ (key x).extent + place_of key xs k
  place_suc x xs k = sum_by-cons (λ (r : R). (key r).extent) x (take k xs)

  -- none of the first n records, the first of which lies at q, counts and is such
  abbrev Nowhere : (R → Type 0) → ℕ → ℕ → List R → Type 0
  Nowhere P n q xs = (k : ℕ) (r : R) → k < n → slice_get xs k ≡ Some r → (key r).counts (q + place_of key xs k) pool ≡ true → P r → ⊥

  not_first : (P : R → Type 0) (n q : ℕ) (x : R) (xs : List R) → Nowhere P (suc n) q (x ∷ xs) → (key x).counts q pool ≡ true → P x → ⊥
  not_first P n q x xs h c y = let z : q + 0 ≡ q = omega arith in h 0 x (omega arith) refl (ap (λ p. (key x).counts p pool) z ∙ c) y

  not_later : (P : R → Type 0) (n q : ℕ) (x : R) (xs : List R) → Nowhere P (suc n) q (x ∷ xs) → Nowhere P n (q + (key x).extent) xs
  not_later P n q x xs h k r l s c y =
      let e = place_suc x xs k in
      let z : q + place_of key (x ∷ xs) (suc k) ≡ (q + (key x).extent) + place_of key xs k = omega arith in
      h (suc k) r (omega arith) s (ap (λ p. (key r).counts p pool) z ∙ c) y

  module _ (object : R → ℕ → Object) where
    abbrev rows : ℕ → List R → List Row
    rows q xs = rows_from key pool object q xs

    -- no row has an index that no record has
    index_none : (i q : ℕ) (xs : List R) → Nowhere (λ r. (key r).address.index ≡ i) (length xs) q xs → has_index i (rows q xs) ≡ false
    index_none i q [] h = refl
    index_none i q (x ∷ xs) h =
        let C = (key x).counts q pool in
        let I = eqb i (key x).address.index in
        let t = index_none i (q + (key x).extent) xs (not_later (λ r. (key r).address.index ≡ i) (length xs) q x xs h) in
        ⊎_elim
        (λ (c : C ≡ true).
        ⊎_elim
        (λ (e : I ≡ true). absurd (not_first (λ r. (key r).address.index ≡ i) (length xs) q x xs h c (sym (eqb-true _ _ e))))
        (λ (e : I ≡ false). rw (c, e) t)
        (cases_Bool I))
        (λ (c : C ≡ false). rw c t)
        (cases_Bool C)

    index_some : (i q : ℕ) (xs : List R) (k : ℕ) (r : R) → slice_get xs k ≡ Some r → (key r).counts (q + place_of key xs k) pool ≡ true → (key r).address.index ≡ i → has_index i (rows q xs) ≡ true
    index_some i q [] k r s c e = cc
    index_some i q (x ∷ xs) zero r s c e =
        let same : x ≡ r = cc in
        let z : q + 0 ≡ q = omega arith in
        let d : (key x).counts q pool ≡ true = ap₂ (λ y p. (key y).counts p pool) same (sym z) ∙ c in
        let f : i ≡ (key x).address.index = sym (ap (λ y. (key y).address.index) same ∙ e) in
        rw d (or_left (eqb i (key x).address.index) _ (eq-eqb _ _ f))
    index_some i q (x ∷ xs) (suc k) r s c e =
        let C = (key x).counts q pool in
        let p = place_suc x xs k in
        let z : (q + (key x).extent) + place_of key xs k ≡ q + place_of key (x ∷ xs) (suc k) = omega arith in
        let t = index_some i (q + (key x).extent) xs k r s (ap (λ y. (key r).counts y pool) z ∙ c) e in
        ⊎_elim
        (λ (b : C ≡ true). rw b (or_right (eqb i (key x).address.index) _ t))
        (λ (b : C ≡ false). rw b t)
        (cases_Bool C)

  module _ (a : Address) where
    abbrev here : R → Bool
    here r = eqb a.index (key r).address.index && eqb a.subindex (key r).address.subindex

    abbrev matches : R → ℕ → Bool
    matches r q = (key r).counts q pool && here r

    at_address : (r : R) → here r ≡ true → (key r).address ≡ a
    at_address r e =
        let b = and_parts (eqb a.index (key r).address.index) (eqb a.subindex (key r).address.subindex) e in
        same_address (key r).address a (sym (eqb-true _ _ b.0)) (sym (eqb-true _ _ b.1))

    address_here : (r : R) → (key r).address ≡ a → here r ≡ true
    address_here r e = and_from (eqb a.index (key r).address.index) (eqb a.subindex (key r).address.subindex) (eq-eqb _ _ (ap (λ (x : Address). x.index) (sym e))) (eq-eqb _ _ (ap (λ (x : Address). x.subindex) (sym e)))

    -- the record at a position is the first that matches, and lies at a place
    abbrev Hit : ℕ → List R → ℕ → ℕ → Type 0
    Hit q [] k p = ⊥
    Hit q (r ∷ rs) zero p = (matches r q ≡ true) × (p ≡ q)
    Hit q (r ∷ rs) (suc k) p = (matches r q ≡ false) × Hit (q + (key r).extent) rs k p

    hit_from : (q : ℕ) (xs : List R) (k : ℕ) (r : R) (p : ℕ) → p ≡ q + place_of key xs k → slice_get xs k ≡ Some r → (key r).counts p pool ≡ true → (key r).address ≡ a → Nowhere (λ y. (key y).address ≡ a) k q xs → Hit q xs k p
    hit_from q [] k r p e s c m none = cc
    hit_from q (x ∷ xs) zero r p e s c m none =
        let same : x ≡ r = cc in
        let z : p ≡ q = omega arith in
        let d : (key x).counts q pool ≡ true = ap₂ (λ y n. (key y).counts n pool) same (sym z) ∙ c in
        (and_from ((key x).counts q pool) (here x) d (address_here x (ap (λ y. (key y).address) same ∙ m)), z)
    hit_from q (x ∷ xs) (suc k) r p e s c m none =
        let l = place_suc x xs k in
        let z : p ≡ (q + (key x).extent) + place_of key xs k = omega arith in (
          ⊎_elim
              (λ (h : matches x q ≡ true).
              let b = and_parts ((key x).counts q pool) (here x) h in
              absurd (not_first (λ y. (key y).address ≡ a) k q x xs none b.0 (at_address x b.1)))
              (λ (h : matches x q ≡ false). h)
              (cases_Bool (matches x q)),
          hit_from (q + (key x).extent) xs k r p z s c m (not_later (λ y. (key y).address ≡ a) k q x xs none),
        )

    module _ (object : R → ℕ → Object) where
      -- no row has an address that no record has
      first_none : (q : ℕ) (xs : List R) → Nowhere (λ r. (key r).address ≡ a) (length xs) q xs → first_at a.index a.subindex (rows object q xs) ≡ None
      first_none q [] h = refl
      first_none q (x ∷ xs) h =
          let C = (key x).counts q pool in
          let t = first_none (q + (key x).extent) xs (not_later (λ r. (key r).address ≡ a) (length xs) q x xs h) in
          ⊎_elim
          (λ (c : C ≡ true).
          ⊎_elim
          (λ (e : here x ≡ true). absurd (not_first (λ r. (key r).address ≡ a) (length xs) q x xs h c (at_address x e)))
          (λ (e : here x ≡ false). rw (c, e) t)
          (cases_Bool (here x)))
          (λ (c : C ≡ false). rw c t)
          (cases_Bool C)

      -- what the table says of the record that is hit
      record Met (d : R) (q : ℕ) (xs : List R) (k p : ℕ) : Type 0 where
        pub known : has_index a.index (rows object q xs) ≡ true
        pub first : first_at a.index a.subindex (rows object q xs) ≡ Some (object (get_or xs k d) p)

      met : (d : R) (q : ℕ) (xs : List R) (k p : ℕ) → Hit q xs k p → Met d q xs k p
      met d q [] k p h = absurd h
      met d q (r ∷ rs) zero p h =
          let I = eqb a.index (key r).address.index in
          let S = eqb a.subindex (key r).address.subindex in
          let b = and_parts ((key r).counts q pool) (I && S) h.0 in
          let c : (key r).counts q pool ≡ true = b.0 in
          let i : I ≡ true = (and_parts I S b.1).0 in
          let s : S ≡ true = (and_parts I S b.1).1 in
          record { known = rw (c, i); first = rw (c, i, s) (ap (λ p. Some (object r p)) (sym h.1)) }
      met d q (r ∷ rs) (suc k) p h =
          let C = (key r).counts q pool in
          let m = met d (q + (key r).extent) rs k p h.1 in
          ⊎_elim
          (λ (c : C ≡ true).
          let n : here r ≡ false = rw c at h.0 in
          record { known = rw c (or_right (eqb a.index (key r).address.index) _ m.known); first = rw (c, n) m.first })
          (λ (c : C ≡ false). record { known = rw c m.known; first = rw c m.first })
          (cases_Bool C)

    -- one record is another with the same key, and no other object changes
    module _ (object object' : R → ℕ → Object) (p width : ℕ) (away : (r : R) (q : ℕ) → (key r).counts q pool ≡ true → (q + (key r).extent ≤ p) ⊎ (p + width ≤ q) → object' r q ≡ object r q) where
      record Swapped (i s : ℕ) (r' : R) (q : ℕ) (xs : List R) (k : ℕ) : Type 0 where
        pub known : has_index i (rows object' q (set xs k r')) ≡ has_index i (rows object q xs)
        pub first : first_at i s (rows object' q (set xs k r')) ≡ cond (eqb i a.index && eqb s a.subindex) (Some (object' r' p)) (first_at i s (rows object q xs))

      rows_past : (q : ℕ) (xs : List R) → p + width ≤ q → rows object' q xs ≡ rows object q xs
      rows_past q [] h = refl
      rows_past q (r ∷ rs) h =
          let C = (key r).counts q pool in
          let t = rows_past (q + (key r).extent) rs (omega arith) in
          ⊎_elim
          (λ (c : C ≡ true). rw c (ap₂ (λ o y. record { address = (key r).address; object = o } ∷ y) (away r q c (inr h)) t))
          (λ (c : C ≡ false). rw c t)
          (cases_Bool C)

      hit_le : (q : ℕ) (xs : List R) (k : ℕ) → Hit q xs k p → q ≤ p
      hit_le q [] k h = absurd h
      hit_le q (r ∷ rs) zero h = omega (arith, h.1)
      hit_le q (r ∷ rs) (suc k) h = omega (arith, hit_le (q + (key r).extent) rs k h.1)

      swapped : (d : R) (i s : ℕ) (r' : R) (q : ℕ) (xs : List R) (k : ℕ) → Hit q xs k p → key r' ≡ key (get_or xs k d) → (key (get_or xs k d)).extent ≡ width → Swapped i s r' q xs k
      swapped d i s r' q [] k h same wide = absurd h
      swapped d i s r' q (r ∷ rs) zero h same wide =
          let I = eqb a.index (key r).address.index in
          let S = eqb a.subindex (key r).address.subindex in
          let b = and_parts ((key r).counts q pool) (I && S) h.0 in
          let c : (key r).counts q pool ≡ true = b.0 in
          let ie : (key r).address.index ≡ a.index = sym (eqb-true _ _ (and_parts I S b.1).0) in
          let se : (key r).address.subindex ≡ a.subindex = sym (eqb-true _ _ (and_parts I S b.1).1) in
          let e : key r' ≡ key r = same in
          let pe : p ≡ q = h.1 in
          let t = rows_past (q + (key r).extent) rs (omega (arith, wide)) in
          let B = eqb i a.index && eqb s a.subindex in
          record {
            known = rw (e, c) (ap (λ y. eqb i (key r).address.index || has_index i y) t);
            first = rw (e, c, ie, se) (ap₂ (λ p y. cond B (Some (object' r' p)) (first_at i s y)) (sym pe) t ∙ cond_again B _ _ _);
          }
      swapped d i s r' q (r ∷ rs) (suc k) h same wide =
          let C = (key r).counts q pool in
          let m = swapped d i s r' (q + (key r).extent) rs k h.1 same wide in
          let le = hit_le (q + (key r).extent) rs k h.1 in
          let B = eqb i (key r).address.index && eqb s (key r).address.subindex in
          ⊎_elim
          (λ (c : C ≡ true).
          let n : here r ≡ false = rw c at h.0 in
          record {
            known = rw c (ap (λ b. eqb i (key r).address.index || b) m.known);
            first = rw c (ap (λ o. cond B (Some o) (first_at i s (rows object' (q + (key r).extent) (set rs k r')))) (away r q c (inl le)) ∙ cond_past B (eqb i a.index && eqb s a.subindex) _ _ _ _ (apart (key r).address.index (key r).address.subindex a.index a.subindex i s n) m.first);
          })
          (λ (c : C ≡ false). record { known = rw c m.known; first = rw c m.first })
          (cases_Bool C)

-- What a table means at an address.
module _ {R : Type 0} (key : R → Key) (pool : ℕ) (object : R → ℕ → Object) (a : Address) (xs : List R) where
  abbrev objects : List R → Objects
  objects ys = table (rows_from key pool object 0 ys)

  from_start : (k : ℕ) → 0 + place_of key xs k ≡ place_of key xs k
  from_start k = omega arith

  nowhere : (P : R → Type 0) (n : ℕ) → ((k : ℕ) (r : R) → k < n → Counts key pool xs k r → P r → ⊥) → Nowhere key pool P n 0 xs
  nowhere P n h k r l s c y = h k r l (record { stands = s; counts = ap (λ p. (key r).counts p pool) (sym (from_start k)) ∙ c }) y

  -- where nothing is found, the entry says which part of the address is absent
  pub missing : (e : Fault) → Absent key pool xs a e → ((e ≡ NoSubindex) × (look (objects xs) a ≡ no_subindex)) ⊎ ((e ≡ NoIndex) × (look (objects xs) a ≡ no_index))
  missing e h =
      let none = first_none key pool a object 0 xs (nowhere (λ r. (key r).address ≡ a) (length xs) (λ k r _ c. h.0 k r c)) in
      ⊎_elim
      (λ x.
      let y = x.1 in
      let known : has_index a.index (rows_from key pool object 0 xs) ≡ true = index_some key pool object a.index 0 xs y.0 y.1 y.2.stands (ap (λ p. (key y.1).counts p pool) (from_start y.0) ∙ y.2.counts) y.3 in
      inl (x.0, rw (known, none)))
      (λ x.
      let unknown : has_index a.index (rows_from key pool object 0 xs) ≡ false = index_none key pool object a.index 0 xs (nowhere (λ r. (key r).address.index ≡ a.index) (length xs) (λ k r _ c i. x.1 (k, r, c, i))) in
      inr (x.0, rw unknown))
      h.1

  module _ (f : Found) (h : Located key pool xs a f) where
    -- the record that is meant
    abbrev r : R
    r = h.0

    pub counted : (key r).counts f.place pool ≡ true
    counted = ap (λ p. (key r).counts p pool) h.2 ∙ h.1.counts.counts

    hit : Hit key pool a 0 xs f.position f.place
    hit =
        let m = h.1 in
        hit_from key pool a 0 xs f.position r f.place (h.2 ∙ sym (from_start f.position)) m.counts.stands counted m.address
        (nowhere (λ r. (key r).address ≡ a) f.position (λ k r l c. m.earlier k r l c))

    pub inside : f.position < length xs
    inside = slice_get_within xs f.position r h.1.counts.stands

    pub the_record : (d : R) → get_or xs f.position d ≡ r
    the_record d = get_or_from_slice_get xs f.position r d h.1.counts.stands

    known : has_index a.index (rows_from key pool object 0 xs) ≡ true
    known = (met key pool a object r 0 xs f.position f.place hit).known

    first : first_at a.index a.subindex (rows_from key pool object 0 xs) ≡ Some (object r f.place)
    first = (met key pool a object r 0 xs f.position f.place hit).first ∙ ap (λ x. Some (object x f.place)) (the_record r)

    pub holds : Holds (objects xs) a (object r f.place)
    holds = record { entry = rw (known, first); bytes = rw (known, first) }

    -- it gets another value, and no other object changes
    module _ (object' : R → ℕ → Object) (r' : R) (same : key r' ≡ key r) (bs : Bytes) (new : object' r' f.place ≡ revalued bs (object r f.place)) (away : (x : R) (q : ℕ) → (key x).counts q pool ≡ true → (q + (key x).extent ≤ f.place) ⊎ (f.place + (key r).extent ≤ q) → object' x q ≡ object x q) where
      swap : (i s : ℕ) → Swapped key pool a object object' f.place (key r).extent away i s r' 0 xs f.position
      swap i s = swapped key pool a object object' f.place (key r).extent away r i s r' 0 xs f.position hit (same ∙ ap key (sym (the_record r))) (ap (λ x. (key x).extent) (the_record r))

      abbrev old : List Row
      old = rows_from key pool object 0 xs

      abbrev fresh : List Row
      fresh = rows_from key pool object' 0 (set xs f.position r')

      at_index : (s : ℕ) → first_at a.index s fresh ≡ cond (eqb s a.subindex) (with_value bs (first_at a.index s old)) (first_at a.index s old)
      at_index s =
          let ai : eqb a.index a.index ≡ true = eq-eqb _ _ refl in
          let ff = rw ai at (swap a.index s).first in
          ⊎_elim
          (λ (h : eqb s a.subindex ≡ true).
          let se : s ≡ a.subindex = eqb-true _ _ h in
          ff ∙ cond-true _ _ _ h ∙ ap Some new ∙ sym (cond-true _ _ _ h ∙ ap (with_value bs) (ap (λ q. first_at a.index q old) se ∙ first)))
          (λ (h : eqb s a.subindex ≡ false). ff ∙ cond-false _ _ _ h ∙ sym (cond-false _ _ _ h))
          (cases_Bool (eqb s a.subindex))

      elsewhere : (i s : ℕ) → eqb i a.index ≡ false → first_at i s fresh ≡ first_at i s old
      elsewhere i s h = (swap i s).first ∙ cond-false _ _ _ (and_left (eqb i a.index) (eqb s a.subindex) h)

      put_at : (i : ℕ) → table fresh i ≡ put (objects xs) a bs i
      put_at i =
          ⊎_elim
          (λ (h : eqb i a.index ≡ true).
          let ie : a.index ≡ i = sym (eqb-true _ _ h) in
          let P : ℕ → Type 0 = λ j. table fresh j ≡ put (objects xs) a bs j in
          let ai : eqb a.index a.index ≡ true = eq-eqb _ _ refl in
          let hs : (λ s. first_at a.index s fresh) ≡ (λ s. cond (eqb s a.subindex) (with_value bs (first_at a.index s old)) (first_at a.index s old)) = fun_ext at_index in
          let q : P a.index = cond-true _ _ _ ((swap a.index 0).known ∙ known) ∙ ap Some hs ∙ sym (cond-true _ _ _ ai ∙ ap (λ x. put_under x a.subindex bs) (cond-true _ _ _ known)) in
          subst P ie q)
          (λ (h : eqb i a.index ≡ false).
          let hs : (λ s. first_at i s fresh) ≡ (λ s. first_at i s old) = fun_ext (λ s. elsewhere i s h) in
          ap₂ (λ b g. cond b (Some g) None) (swap i 0).known hs ∙ sym (cond-false _ _ _ h))
          (cases_Bool (eqb i a.index))

      pub stored : table fresh ≡ put (objects xs) a bs
      stored = fun_ext put_at
