-- A search, record by record: what is known of the records that were passed, and what follows where it ends.
use Rattle.std.proofs.Common.{◌≡◌, ℕ, ◌+◌, ◌<◌, ◌≤◌, true, ◌⊎◌, List, length, get_or, Some, sym, refl, ap, ◌∙◌, subst, inl, inr, ⊎_elim, arith}
use Rattle.std.proofs.lemmas.Option.{slice_get_read, slice_get_within}
use Rattle.std.proofs.lemmas.List.Sums.{sum_by_more}
use Rattle.std.proofs.lemmas.Bool.{cases_eq}
use Rattle.std.specs.List.{slice_get}
use Rattle.dictionary.specs.declared.Address.{Address}
use Rattle.dictionary.specs.declared.Fault.{Fault}
use Rattle.dictionary.specs.declared.Fault.TheVariants.{NoIndex, NoSubindex}
use Rattle.tables.specs.Tables.{Key, place_of, Counts, Located, IndexKnown, Absent}

pub same_address : (a b : Address) → a.index ≡ b.index → a.subindex ≡ b.subindex → a ≡ b
same_address a b p q = λ i. record { index = p i; subindex = q i }

module _ {R : Type 0} (key : R → Key) (pool : ℕ) (a : Address) (xs : List R) where
  -- what is known where i records were passed: the place, and why nothing was found so far
  pub record Passed (i p : ℕ) (absent : Fault) : Type 0 where
    pub place : p ≡ place_of key xs i
    pub none : (k : ℕ) (r : R) → k < i → Counts key pool xs k r → (key r).address ≡ a → ⊥
    pub why : ((absent ≡ NoSubindex) × IndexKnown key pool xs a.index) ⊎ ((absent ≡ NoIndex) × ((k : ℕ) (r : R) → k < i → Counts key pool xs k r → (key r).address.index ≡ a.index → ⊥))

  module _ (i p : ℕ) (absent : Fault) (h : Passed i p absent) where
    module _ (r : R) (inside : i < length xs) (read : r ≡ get_or xs i r) where
      stands : slice_get xs i ≡ Some r
      stands = slice_get_read xs (length xs) i r refl inside read

      counting : (key r).counts p pool ≡ true → Counts key pool xs i r
      counting c = record { stands = stands; counts = ap (λ q. (key r).counts q pool) (sym h.place) ∙ c }

      next_place : (n : ℕ) → n ≡ (key r).extent → p + n ≡ place_of key xs (i + 1)
      next_place n e = let t = sum_by_more (λ (q : R). (key q).extent) xs i r inside in let g : (key (get_or xs i r)).extent ≡ (key r).extent = ap (λ q. (key q).extent) (sym read) in let q = h.place in omega arith

      -- what holds of the records before this one and of this one holds of all up to it
      one_more : (P : R → Type 0) → ((k : ℕ) (q : R) → k < i → Counts key pool xs k q → P q → ⊥) → ((key r).counts p pool ≡ true → P r → ⊥) → (k : ℕ) (q : R) → k < i + 1 → Counts key pool xs k q → P q → ⊥
      one_more P before here k q l c y =
          ⊎_elim
          (λ (e : k ≡ i).
          let s : slice_get xs i ≡ Some q = ap (slice_get xs) (sym e) ∙ c.stands in
          let same : q ≡ r = cc (s, stands) in
          let t : (key q).counts p pool ≡ true = ap (λ j. (key q).counts j pool) (h.place ∙ ap (place_of key xs) (sym e)) ∙ c.counts in
          here (ap (λ x. (key x).counts p pool) (sym same) ∙ t) (subst P same y))
          (λ (n : k ≡ i → ⊥). before k q (omega arith) c y)
          (cases_eq k i)

      module _ (here : Address) (at : here ≡ (key r).address) where
        -- this record is the one that is meant
        pub found : (key r).counts p pool ≡ true → here.index ≡ a.index → here.subindex ≡ a.subindex → Located key pool xs a (record { position = i; place = p })
        found c ei es = (r, record { counts = counting c; address = sym at ∙ same_address here a ei es; earlier = h.none }, h.place)

        -- this record counts and has the index, but another subindex
        pub near : (n : ℕ) (e : Fault) → n ≡ (key r).extent → e ≡ NoSubindex → (key r).counts p pool ≡ true → here.index ≡ a.index → (here.subindex ≡ a.subindex → ⊥) → Passed (i + 1) (p + n) e
        near n e x t c ei es = record {
          place = next_place n x;
          none = one_more (λ q. (key q).address ≡ a) h.none (λ _ y. es (ap (λ (x : Address). x.subindex) (at ∙ y)));
          why = inl (t, (i, r, counting c, sym (ap (λ (x : Address). x.index) at) ∙ ei));
        }

        -- this record does not count, or has another index
        pub past : (n : ℕ) (e : Fault) → n ≡ (key r).extent → e ≡ absent → ((key r).counts p pool ≡ true → here.index ≡ a.index → ⊥) → Passed (i + 1) (p + n) e
        past n e x t miss = record {
          place = next_place n x;
          none = one_more (λ q. (key q).address ≡ a) h.none (λ c y. miss c (ap (λ (x : Address). x.index) (at ∙ y)));
          why = ⊎_elim (λ w. inl (t ∙ w.0, w.1)) (λ w. inr (t ∙ w.0, one_more (λ q. (key q).address.index ≡ a.index) w.1 (λ c y. miss c (ap (λ (x : Address). x.index) at ∙ y)))) h.why;
        }

    -- all records were passed
    pub nothing : length xs ≤ i → Absent key pool xs a absent
    nothing e = (
      λ k r c. let l = slice_get_within xs k r c.stands in h.none k r (omega arith) c,
      ⊎_elim (λ w. inl w) (λ w. inr (w.0, λ x. let c = x.2 in let l = slice_get_within xs x.0 x.1 c.stands in w.1 x.0 x.1 (omega arith) c x.3)) h.why,
    )
