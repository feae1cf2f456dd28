-- Proof terms, not definitions: what is told of a number or a run is so, and what it stores it holds. They stand here because
-- the laws of NumberRecord and RunRecord cite them.
-- Assumes nothing.
use Rattle.std.specs.Prelude.{◌≡◌, ℕ, suc, ◌+◌, ◌-◌, ◌*◌, ◌/◌, ◌%◌, ◌<◌, ◌≤◌, true, ◌&&◌, ◌⊎◌, [], ◌∷◌, ◌++◌, length, take, drop, nat_le, refl}
use Rattle.std.proofs.Common.{inl, inr, ⊎_elim, sym, ap, ap₂, ◌∙◌, arith, get_or, length-append, length-take, length-drop}
use borrow.Rule.Slice.PartMut.{put_mid}
use Rattle.std.proofs.lemmas.List.{drop-take, drop-drop}
use Rattle.std.proofs.lemmas.Slice.{take-put_mid_below, drop-put_mid, between-put_mid}
use Rattle.std.proofs.lemmas.Bool.{le-leb}
use Rattle.dictionary.specs.declared.Shape.TheVariants.{Run}
use Rattle.dictionary.specs.Objects.{Bytes, unsigned_value}
use Rattle.tables.specs.declared.numbers.NumberRecord.{NumberRecord}
use Rattle.tables.specs.declared.runs.RunRecord.{RunRecord}
use Rattle.tables.specs.Tables.{TellsOf, revalued, Stores}
use Rattle.tables.specs.NumberTables.{low_bytes, number_counts, number_key, number_look, number_object, number_stored}
use Rattle.tables.specs.RunTables.{run_key, run_counts, run_look, run_object, with_length, laid}
use Rattle.tables.specs.Soundness.{length_low_bytes, counted_width, counted, length_run}

pub number_tells : (r : NumberRecord) → number_counts r ≡ true → TellsOf (number_object r) (number_look r)
number_tells r c = record { so = ap (λ n. record { access = r.access; shape = (number_object r).shape; length = n }) (sym (length_low_bytes r.width r.value)); allowed = counted_width r c }

pub run_tells : (pool : Bytes) (r : RunRecord) (place : ℕ) → run_counts r place (length pool) ≡ true → TellsOf (run_object pool r place) (run_look r)
run_tells pool r place c = record { so = ap (λ n. record { access = r.access; shape = Run r.capacity; length = n }) (sym (length_run pool r place c)); allowed = (counted r place (length pool) c).small }

-- What is stored is held.

pub low_bytes_of : (bs : Bytes) → ((i : ℕ) → get_or bs i 0 < 256) → low_bytes (length bs) (unsigned_value bs) ≡ bs
low_bytes_of [] small = refl
low_bytes_of (b ∷ bs) small =
    let s : b < 256 = small 0 in
    let low : (b + 256 * unsigned_value bs) % 256 ≡ b = omega arith in
    let high : (b + 256 * unsigned_value bs) / 256 ≡ unsigned_value bs = omega arith in
    ap₂ ◌∷◌ low (ap (low_bytes (length bs)) high ∙ low_bytes_of bs (λ i. small (suc i)))

pub number_stores : (pool : Bytes) (r : NumberRecord) (place : ℕ) (v : Bytes) → number_counts r ≡ true → length v ≡ r.width → ((i : ℕ) → get_or v i 0 < 256) → Stores number_key (λ pool r place. number_object r) pool r place v (number_stored v r) pool
number_stores pool r place v c wide small = record {
  same = refl;
  long = refl;
  value = ap (λ x. revalued x (number_object r)) (ap (λ w. low_bytes w (unsigned_value v)) (sym wide) ∙ low_bytes_of v small);
  elsewhere = λ x q k o. refl;
}

-- a pool after a write to a part of it
module _ (pool : Bytes) (place : ℕ) (v : Bytes) (room : place + length v ≤ length pool) where
  as_put : laid pool place v ≡ put_mid place (length v) pool v
  as_put = ap (λ t. take place pool ++ (v ++ t)) (sym (drop-drop (length v) place pool))

  length_laid : length (laid pool place v) ≡ length pool
  length_laid = simp (length-append, length-take, length-drop) (omega arith)

  part_away : (q m : ℕ) → (q + m ≤ place) ⊎ (place + length v ≤ q) → take m (drop q (laid pool place v)) ≡ take m (drop q pool)
  part_away q m h =
      ap (λ t. take m (drop q t)) as_put
      ∙ ⊎_elim
      (λ l. sym (drop-take q m (put_mid place (length v) pool v)) ∙ ap (drop q) (take-put_mid_below place (length v) pool v (q + m) l (omega arith)) ∙ drop-take q m pool)
      (λ l. ap (take m) (drop-put_mid place (length v) pool v q l (omega arith) refl))
      h

  part_here : take (length v) (drop place (laid pool place v)) ≡ v
  part_here =
      let n : length v ≡ place + length v - place = omega arith in
      ap (λ t. take (length v) (drop place t)) as_put ∙ ap (λ m. take m (drop place (put_mid place (length v) pool v))) n ∙ between-put_mid place (length v) pool v (place + length v) (omega arith) (omega arith)

pub run_stores : (pool : Bytes) (r : RunRecord) (place : ℕ) (v : Bytes) → run_counts r place (length pool) ≡ true → length v ≤ r.capacity → ((i : ℕ) → get_or v i 0 < 256) → Stores run_key run_object pool r place v (with_length (length v) r) (laid pool place v)
run_stores pool r place v c fits small =
    let b = counted r place (length pool) c in
    let w : place + length v ≤ length pool = omega (arith, b.within) in
    record {
      same = ap (λ f. record { address = r.address; extent = r.capacity; counts = λ place p. nat_le r.capacity 4096 && (f && nat_le (place + r.capacity) p) }) (le-leb _ _ fits ∙ sym (le-leb _ _ b.filled));
      long = length_laid pool place v w;
      value = ap (λ x. revalued x (run_object pool r place)) (part_here pool place v w);
      elsewhere = λ x q k o.
          let filled = (counted x q (length pool) k).filled in
          ap (λ u. revalued u (run_object pool x q)) (part_away pool place v w q x.length (⊎_elim (λ h. inl (omega arith)) (λ h. inr (omega arith)) o));
    }
