-- A call has no fault exactly where the words hold: each check that does not apply gives one of them.
use Rattle.std.proofs.Common.{◌≡◌, ℕ, ◌≤◌, Bool, true, false, cond, ltb, List, [], ◌∷◌, length, ℤ, ◌≤ℤ◌, Some, None, Option, refl, arith}
use lib.Signed.{lt_z}
use Rattle.std.proofs.lemmas.Bool.{ltb-false, le-ltb}
use Rattle.std.proofs.lemmas.Int.{ints}
use Rattle.dictionary.specs.declared.Access.TheVariants.{Ro, Wo, Rw}
use Rattle.dictionary.specs.declared.Shape.TheVariants.{Number, Run}
use Rattle.dictionary.specs.Objects.{Bytes, Entry, no_index, no_subindex, present, number_value, MayBeRead, TakesLength, Admits}
use Rattle.dictionary.specs.Checks.{first, index_absent, subindex_absent, write_only, read_only, over_length, under_length, over_high, under_low, read_checks, write_checks, read_fault, write_fault}

-- none of these checks applies
abbrev pub Clear : {F : Type 0} → List (Bool × F) → Type 0
Clear [] = Unit {0}
Clear (c ∷ cs) = (c.0 ≡ false) × Clear cs

clear_one : {F : Type 0} (b : Bool) (f : F) (r : Option F) → cond b (Some f) r ≡ None → (b ≡ false) × (r ≡ None)
clear_one true f r e = cc
clear_one false f r e = (refl, e)

pub clear : {F : Type 0} (cs : List (Bool × F)) → first cs ≡ None → Clear cs
clear [] e = tt
clear (c ∷ cs) e = let h = clear_one c.0 c.1 (first cs) e in (h.0, clear cs h.1)

pub clear_back : {F : Type 0} (cs : List (Bool × F)) → Clear cs → first cs ≡ None
clear_back [] h = refl
clear_back (c ∷ cs) h = rw h.0 (clear_back cs h.1)

le_from : (a b : ℤ) → lt_z a b ≡ false → b ≤ℤ a
le_from a b e = grind (arith, ints)

le_back : (a b : ℤ) → b ≤ℤ a → lt_z a b ≡ false
le_back a b h = grind (arith, ints)

-- what no check of an entry says

abbrev pub ReadClear : Entry → Type 0
ReadClear e = (index_absent e ≡ false) × (subindex_absent e ≡ false) × (write_only e ≡ false)

abbrev pub WriteClear : Entry → Type 0
WriteClear e = (index_absent e ≡ false) × (subindex_absent e ≡ false) × (read_only e ≡ false)

abbrev pub LengthClear : Entry → ℕ → Type 0
LengthClear e n = (over_length e n ≡ false) × (under_length e n ≡ false)

abbrev pub ValueClear : Entry → Bytes → Type 0
ValueClear e v = (over_high e v ≡ false) × (under_low e v ≡ false)

pub reads_from : (e : Entry) → ReadClear e → MayBeRead e
reads_from no_index h = cc h.0
reads_from no_subindex h = cc h.1
reads_from (present Ro s) h = tt
reads_from (present Wo s) h = cc h.2
reads_from (present Rw s) h = tt

pub reads_back : (e : Entry) → MayBeRead e → ReadClear e
reads_back no_index h = absurd h
reads_back no_subindex h = absurd h
reads_back (present Ro s) h = (refl, refl, refl)
reads_back (present Wo s) h = absurd h
reads_back (present Rw s) h = (refl, refl, refl)

exact : (w n : ℕ) → ltb w n ≡ false → ltb n w ≡ false → n ≡ w
exact w n p q = omega (arith, ltb-false w n p, ltb-false n w q)

even : (w n : ℕ) → n ≡ w → (ltb w n ≡ false) × (ltb n w ≡ false)
even w n e = (le-ltb w n (omega arith), le-ltb n w (omega arith))

pub takes_from : (e : Entry) (n : ℕ) → WriteClear e → LengthClear e n → TakesLength e n
takes_from no_index n h l = cc h.0
takes_from no_subindex n h l = cc h.1
takes_from (present Ro s) n h l = cc h.2
takes_from (present Wo (Number w s low high)) n h l = (tt, exact w n l.0 l.1)
takes_from (present Rw (Number w s low high)) n h l = (tt, exact w n l.0 l.1)
takes_from (present Wo (Run capacity)) n h l = (tt, ltb-false capacity n l.0)
takes_from (present Rw (Run capacity)) n h l = (tt, ltb-false capacity n l.0)

pub takes_back : (e : Entry) (n : ℕ) → TakesLength e n → WriteClear e × LengthClear e n
takes_back no_index n h = absurd h
takes_back no_subindex n h = absurd h
takes_back (present Ro s) n h = absurd h.0
takes_back (present Wo (Number w s low high)) n h = ((refl, refl, refl), even w n h.1)
takes_back (present Rw (Number w s low high)) n h = ((refl, refl, refl), even w n h.1)
takes_back (present Wo (Run capacity)) n h = ((refl, refl, refl), (le-ltb capacity n h.1, refl))
takes_back (present Rw (Run capacity)) n h = ((refl, refl, refl), (le-ltb capacity n h.1, refl))

pub admits_from : (e : Entry) (v : Bytes) → WriteClear e → LengthClear e (length v) → ValueClear e v → Admits e v
admits_from no_index v h l r = cc h.0
admits_from no_subindex v h l r = cc h.1
admits_from (present Ro s) v h l r = cc h.2
admits_from (present Wo (Number w s low high)) v h l r =
    (tt, exact w (length v) l.0 l.1, (le_from (number_value s w v) low r.1, le_from high (number_value s w v) r.0))
admits_from (present Rw (Number w s low high)) v h l r =
    (tt, exact w (length v) l.0 l.1, (le_from (number_value s w v) low r.1, le_from high (number_value s w v) r.0))
admits_from (present Wo (Run capacity)) v h l r = (tt, ltb-false capacity (length v) l.0, tt)
admits_from (present Rw (Run capacity)) v h l r = (tt, ltb-false capacity (length v) l.0, tt)

pub admits_back : (e : Entry) (v : Bytes) → Admits e v → WriteClear e × LengthClear e (length v) × ValueClear e v
admits_back no_index v h = absurd h
admits_back no_subindex v h = absurd h
admits_back (present Ro s) v h = absurd h.0
admits_back (present Wo (Number w s low high)) v h =
    ((refl, refl, refl), even w (length v) h.1, (le_back high (number_value s w v) h.2.1, le_back (number_value s w v) low h.2.0))
admits_back (present Rw (Number w s low high)) v h =
    ((refl, refl, refl), even w (length v) h.1, (le_back high (number_value s w v) h.2.1, le_back (number_value s w v) low h.2.0))
admits_back (present Wo (Run capacity)) v h = ((refl, refl, refl), (le-ltb capacity (length v) h.1, refl), (refl, refl))
admits_back (present Rw (Run capacity)) v h = ((refl, refl, refl), (le-ltb capacity (length v) h.1, refl), (refl, refl))

pub readable : (e : Entry) (v : Bytes) (room : ℕ) → read_fault e v room ≡ None → MayBeRead e × (length v ≤ room)
readable e v room h =
    let c = clear (read_checks e v room) h in
    (reads_from e (c.0, c.1.0, c.1.1.0), ltb-false room (length v) c.1.1.1.0)

pub readable_back : (e : Entry) (v : Bytes) (room : ℕ) → MayBeRead e → length v ≤ room → read_fault e v room ≡ None
readable_back e v room h l = let c = reads_back e h in clear_back (read_checks e v room) (c.0, (c.1, (c.2, (le-ltb room (length v) l, tt))))

pub admitted : (e : Entry) (v : Bytes) → write_fault e v ≡ None → Admits e v
admitted e v h =
    let c = clear (write_checks e v) h in
    admits_from e v (c.0, c.1.0, c.1.1.0) (c.1.1.1.0, c.1.1.1.1.0) (c.1.1.1.1.1.0, c.1.1.1.1.1.1.0)

pub admitted_back : (e : Entry) (v : Bytes) → Admits e v → write_fault e v ≡ None
admitted_back e v h =
    let c = admits_back e v h in
    clear_back (write_checks e v) (c.0.0, (c.0.1, (c.0.2, (c.1.0, (c.1.1, (c.2.0, (c.2.1, tt)))))))
