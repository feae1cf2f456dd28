-- A write to a dictionary that is made of others is a write to the one of them that has the index.
use Rattle.std.proofs.Common.{◌≡◌, ℕ, ◌+◌, ◌-◌, ◌*◌, ◌≤◌, Bool, true, false, cond, eqb, ltb, List, [], ◌∷◌, drop, Some, None, Ok, Err, Option, Result, sym, refl, ap, ◌∙◌, ap₂, ⊎_elim, arith}
use mathlib.Core.Path.{fun_ext}
use Rattle.std.proofs.lemmas.Bool.{cases_Bool, eqb-true, eq-eqb, ne_eqb, and_parts, leb-true, cases_eq}
use Rattle.dictionary.specs.declared.Address.{Address}
use Rattle.dictionary.specs.declared.Fault.{Fault}
use Rattle.dictionary.specs.declared.Fault.TheVariants.{NoIndex}
use Rattle.dictionary.specs.Objects.{Bytes, Object, Objects, Entry, no_index, no_subindex, present, entry_of, entry_under, look, put, put_under}
use Rattle.dictionary.specs.Checks.{first, write_checks, write_fault}
use Rattle.dictionary.specs.Calls.{answer, leaves, write_answer, after_write}
use Rattle.layers.specs.Layers.{or_else, paired, unless_known, second_after, of_axis, shifted, unshifted, found_below}

-- Pair.

module _ (d e : Objects) (a : Address) (v : Bytes) where
  -- the first does not know the index
  module _ (none : d a.index ≡ None) where
    second_look : look (paired d e) a ≡ look e a
    second_look = ap (λ x. entry_under (or_else x (e a.index)) a.subindex) none

    pub first_kept : after_write d a v ≡ d
    first_kept = ap (λ x. leaves (write_fault (entry_under x a.subindex) v) (put d a v) d) none

    put_at : (i : ℕ) → put (paired d e) a v i ≡ paired d (put e a v) i
    put_at i =
        ⊎_elim
        (λ (q : eqb i a.index ≡ true).
        let n : d i ≡ None = ap d (eqb-true _ _ q) ∙ none in
        rw (q, n))
        (λ (q : eqb i a.index ≡ false). rw q)
        (cases_Bool (eqb i a.index))

    left_second : (f : Option Fault) → leaves f (put (paired d e) a v) (paired d e) ≡ paired d (leaves f (put e a v) e)
    left_second None = fun_ext put_at
    left_second (Some f) = refl

    pub written_second : after_write (paired d e) a v ≡ paired d (after_write e a v)
    written_second = ap (λ x. leaves (write_fault x v) (put (paired d e) a v) (paired d e)) second_look ∙ left_second (write_fault (look e a) v)

  -- the first knows the index
  module _ (subs : ℕ → Option Object) (some : d a.index ≡ Some subs) where
    first_look : look (paired d e) a ≡ look d a
    first_look = ap (λ x. entry_under (or_else x (e a.index)) a.subindex) some ∙ sym (ap (λ x. entry_under x a.subindex) some)

    pub first_answer : write_answer (paired d e) a v ≡ write_answer d a v
    first_answer = ap (λ x. answer (write_fault x v) (tt {0})) first_look

    pub second_kept : second_after d e a v ≡ e
    second_kept = ap (λ x. unless_known x (after_write e a v) e) some

    put_first_at : (i : ℕ) → put (paired d e) a v i ≡ paired (put d a v) e i
    put_first_at i =
        ⊎_elim
        (λ (q : eqb i a.index ≡ true).
        let n : d i ≡ Some subs = ap d (eqb-true _ _ q) ∙ some in
        rw (q, n))
        (λ (q : eqb i a.index ≡ false). rw q)
        (cases_Bool (eqb i a.index))

    left_first : (f : Option Fault) → leaves f (put (paired d e) a v) (paired d e) ≡ paired (leaves f (put d a v) d) e
    left_first None = fun_ext put_first_at
    left_first (Some f) = refl

    pub written_first : after_write (paired d e) a v ≡ paired (after_write d a v) e
    written_first = ap (λ x. leaves (write_fault x v) (put (paired d e) a v) (paired d e)) first_look ∙ left_first (write_fault (look d a) v)

-- No other check answers that the index is absent.

abbrev NoneFinds : List (Bool × Fault) → Type 0
NoneFinds [] = Unit {0}
NoneFinds (c ∷ cs) = (c.1 ≡ NoIndex → ⊥) × NoneFinds cs

pass_by : (b : Bool) (f : Fault) (r : Option Fault) → (f ≡ NoIndex → ⊥) → (answer r (tt {0}) ≡ Err NoIndex → ⊥) → answer (cond b (Some f) r) (tt {0}) ≡ Err NoIndex → ⊥
pass_by true f r n g e = n (cc)
pass_by false f r n g e = g e

not_found : (cs : List (Bool × Fault)) → NoneFinds cs → answer (first cs) (tt {0}) ≡ Err NoIndex → ⊥
not_found [] n e = cc
not_found (c ∷ cs) n e = pass_by c.0 c.1 (first cs) n.0 (not_found cs n.1) e

entry_known : (x : Option Object) → entry_of x ≡ no_index → ⊥
entry_known None e = cc
entry_known (Some o) e = cc

knows : (x : Option (ℕ → Option Object)) (s : ℕ) → (entry_under x s ≡ no_index → ⊥) → (subs : ℕ → Option Object) × (x ≡ Some subs)
knows None s n = absurd (n refl)
knows (Some subs) s n = (subs, refl)

entry_absent : (x : Entry) (v : Bytes) → answer (write_fault x v) (tt {0}) ≡ Err NoIndex → x ≡ no_index
entry_absent no_index v e = refl
entry_absent no_subindex v e = cc
entry_absent (present access shape) v e =
    absurd (not_found (drop 1 (write_checks (present access shape) v)) (λ h. cc, (λ h. cc, (λ h. cc, (λ h. cc, (λ h. cc, (λ h. cc, tt)))))) e)

unknown : (x : Option (ℕ → Option Object)) (s : ℕ) → entry_under x s ≡ no_index → x ≡ None
unknown None s e = refl
unknown (Some subs) s e = absurd (entry_known (subs s) e)

-- a write that is refused for its index is one whose index the first does not know
pub index_unknown : (d : Objects) (a : Address) (v : Bytes) → write_answer d a v ≡ Err NoIndex → d a.index ≡ None
index_unknown d a v e = unknown (d a.index) a.subindex (entry_absent (look d a) v e)

-- and any other answer shows that it knows it
pub index_known : (d : Objects) (a : Address) (v : Bytes) → (write_answer d a v ≡ Err NoIndex → ⊥) → (subs : ℕ → Option Object) × (d a.index ≡ Some subs)
index_known d a v n = knows (d a.index) a.subindex (λ h. n (ap (λ x. answer (write_fault x v) (tt {0})) h))

-- what a write to a pair leaves, where the first of the two answered that the index is absent
pub after_second : (d e : Objects) (a : Address) (v : Bytes) → write_answer d a v ≡ Err NoIndex → (d' e' : Objects) → d' ≡ after_write d a v → e' ≡ after_write e a v → paired d' e' ≡ after_write (paired d e) a v
after_second d e a v refused d' e' p s =
    let none = index_unknown d a v refused in
    ap₂ paired (p ∙ first_kept d e a v none) s ∙ sym (written_second d e a v none)

-- what a write to a pair answers and leaves, where the first of the two did not answer that the index is absent
pub record PairWritten (d e : Objects) (a : Address) (v : Bytes) (r : Result (Unit {0}) Fault) (d' e' : Objects) : Type 0 where
  pub answer : r ≡ write_answer (paired d e) a v
  pub after : paired d' e' ≡ after_write (paired d e) a v
  pub second : e' ≡ second_after d e a v

pub by_first : (d e : Objects) (a : Address) (v : Bytes) → (write_answer d a v ≡ Err NoIndex → ⊥) → (r : Result (Unit {0}) Fault) (d' : Objects) → d' ≡ after_write d a v → r ≡ write_answer d a v → PairWritten d e a v r d' e
by_first d e a v taken r d' p q =
    let k = index_known d a v taken in
    record {
      answer = q ∙ sym (first_answer d e a v k.0 k.1);
      after = ap (λ x. paired x e) p ∙ sym (written_first d e a v k.0 k.1);
      second = sym (second_kept d e a v k.0 k.1);
    }

-- Shift.

module _ (axis : ℕ) (d : Objects) (a : Address) (inside : of_axis axis a.index ≡ true) where
  abbrev below : Address
  below = record { index = a.index - 0x800 * axis; subindex = a.subindex }

  look_below : look (shifted axis d) a ≡ look d below
  look_below = rw inside

  same_test : (i : ℕ) → of_axis axis i ≡ true → eqb i a.index ≡ eqb (i - 0x800 * axis) (a.index - 0x800 * axis)
  same_test i h =
      let p : 0x6000 + 0x800 * axis ≤ a.index = leb-true _ _ (and_parts _ (ltb a.index (0x6800 + 0x800 * axis)) inside).0 in
      let q : 0x6000 + 0x800 * axis ≤ i = leb-true _ _ (and_parts _ (ltb i (0x6800 + 0x800 * axis)) h).0 in
      ⊎_elim
      (λ (e : i ≡ a.index). eq-eqb _ _ e ∙ sym (eq-eqb _ _ (ap (λ x. x - 0x800 * axis) e)))
      (λ (n : i ≡ a.index → ⊥). ne_eqb _ _ n ∙ sym (ne_eqb _ _ (λ e. n (omega arith))))
      (cases_eq i a.index)

  none_both : (b : Bool) → cond b None None ≡ (let x : Option (ℕ → Option Object) = None in x)
  none_both true = refl
  none_both false = refl

  put_shifted : (v : Bytes) (i : ℕ) → put (shifted axis d) a v i ≡ shifted axis (put d below v) i
  put_shifted v i =
      ⊎_elim
      (λ (h : of_axis axis i ≡ true). rw h (ap (λ b. cond b (put_under (d (i - 0x800 * axis)) a.subindex v) (d (i - 0x800 * axis))) (same_test i h)))
      (λ (h : of_axis axis i ≡ false). rw h (none_both (eqb i a.index)))
      (cases_Bool (of_axis axis i))

  left_below : (v : Bytes) (f : Option Fault) → leaves f (put (shifted axis d) a v) (shifted axis d) ≡ shifted axis (leaves f (put d below v) d)
  left_below v None = fun_ext (put_shifted v)
  left_below v (Some f) = refl

-- what a write to a shift leaves, where the address is shown
pub after_below : (axis : ℕ) (d d' : Objects) (a b : Address) (v : Bytes) → found_below (unshifted axis a) ≡ Ok b → d' ≡ after_write d b v → shifted axis d' ≡ after_write (shifted axis d) a v
after_below axis d d' a b v s q =
    ⊎_elim
    (λ (h : of_axis axis a.index ≡ true).
    let z = rw h at s in
    let same : b ≡ below axis d a h = cc in
    ap (shifted axis) (q ∙ ap (λ x. after_write d x v) same) ∙ sym (ap (λ x. leaves (write_fault x v) (put (shifted axis d) a v) (shifted axis d)) (look_below axis d a h) ∙ left_below axis d a h v (write_fault (look d (below axis d a h)) v)))
    (λ (h : of_axis axis a.index ≡ false). let z = rw h at s in cc)
    (cases_Bool (of_axis axis a.index))
