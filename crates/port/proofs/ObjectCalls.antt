-- What the calls on one object answer and leave, by the table: each is first told in the dictionary's checks.
use Rattle.std.proofs.Common.{◌≡◌, ℕ, ◌≤◌, Bool, true, false, cond, ◌⊎◌, List, [], ◌∷◌, length, take, ℤ, IfOk, Some, None, Ok, Err, Option, Result, sym, refl, ap, ◌∙◌, subst, inl, inr, arith}
use Rattle.std.proofs.lemmas.Bool.{le-ltb}
use Rattle.dictionary.specs.declared.Access.{Access}
use Rattle.dictionary.specs.declared.Access.TheVariants.{Ro, Wo, Rw}
use Rattle.dictionary.specs.declared.Address.{Address}
use Rattle.dictionary.specs.declared.Fault as dictionary
use Rattle.dictionary.specs.declared.Fault.TheVariants.{NoIndex, NoSubindex, WriteOnly, ReadOnly, NotNumber, TooLong, TooShort, OverHigh, UnderLow, ShortMemory}
use Rattle.dictionary.specs.declared.Look.{Look}
use Rattle.dictionary.specs.declared.Shape.{Shape}
use Rattle.dictionary.specs.declared.Shape.TheVariants.{Number, Run}
use Rattle.dictionary.specs.Calls.{answer, leaves, told, look_answer, read_answer, memory_after_read, write_answer, after_write}
use Rattle.dictionary.specs.Checks.{is_wo, is_ro, write_only, read_only, is_run, over_length, under_length, over_high, under_low, access_read_fault, access_write_fault, length_fault, read_fault, write_fault}
use Rattle.dictionary.specs.Checks.{first as first-in}
use Rattle.dictionary.specs.Objects.{Bytes, Objects, Entry, no_index, no_subindex, present, look, value, put, TakesLength, Sound}
use Rattle.dictionary.proofs.Words.{clear, reads_from, takes_from, readable_back}
use Rattle.wire.specs.Framing.{laid}
use Rattle.command.specs.declared.commands.Command.TheVariants.{ReadObject, InitiateSegmentedRead, WriteObject, InitiateSegmentedWrite}
use Rattle.command.specs.declared.answers.Answer.{Answer}
use Rattle.command.specs.declared.faults.Fault.{Fault}
use Rattle.command.specs.Answers.{four, value_answer, accepted_data, value_back}
use Rattle.command.specs.Checks.{Check, fault, low_bytes}
use Rattle.command.specs.Commands.{by_fault, Write, writes, write_of, apply}
use Rattle.port.specs.Objects.{of_dictionary, Tells, Answers, Writes, Stages}
use Rattle.port.proofs.ObjectRows.{absent_checks, number_read_checks, any_read_checks, length_checks, number_write_checks, answered, left}
use Rattle.port.proofs.ObjectRows.{read_object_finds, initiate_read_finds, write_object_finds, initiate_write_finds}

-- what a call without a value answers: by a fault, and by checks
abbrev pub done : Option dictionary.Fault → Result (Unit {0}) dictionary.Fault
done y = answer y tt

abbrev pub verdict : List (Bool × dictionary.Fault) → Result (Unit {0}) dictionary.Fault
verdict cs = done (first-in cs)

-- What is told of an entry, and the entry.

abbrev as_told : Access → Shape → ℕ → Look
as_told a s n = record { access = a; shape = s; length = n }

seen : (e : Entry) (n : ℕ) (l : Look) → Ok l ≡ told e n → e ≡ present l.access l.shape
seen no_index n l h = cc
seen no_subindex n l h = cc
seen (present a s) n l h = let q : as_told a s n ≡ l = cc in ap (λ (k : Look). present k.access k.shape) q

unseen : (e : Entry) (n : ℕ) (x : dictionary.Fault) (more : List (Bool × dictionary.Fault)) → Err x ≡ told e n → Err x ≡ verdict (absent_checks e more)
unseen no_index n x more h = let q : x ≡ NoIndex = cc in ap Err q
unseen no_subindex n x more h = let q : x ≡ NoSubindex = cc in ap Err q
unseen (present a s) n x more h = cc

-- An entry that is not there is told of alike by every call.

module _ (d : Objects) (at : Address) (x : dictionary.Fault) (h : Err x ≡ look_answer d at) where
  abbrev missing : Entry
  missing = look d at

  pub number_absent : Err x ≡ verdict (number_read_checks missing)
  number_absent = unseen missing (length (value d at)) x ((write_only missing, WriteOnly) ∷ ((is_run missing, NotNumber) ∷ [])) h

  pub length_absent : (size : ℕ) → Err x ≡ verdict (length_checks missing size)
  length_absent size = unseen missing (length (value d at)) x ((read_only missing, ReadOnly) ∷ ((over_length missing size, TooLong) ∷ ((under_length missing size, TooShort) ∷ []))) h

  pub written_absent : (v : Bytes) → Err x ≡ verdict (number_write_checks missing v)
  written_absent v =
      unseen missing (length (value d at)) x
      ((read_only missing, ReadOnly) ∷ ((is_run missing, NotNumber) ∷ ((over_length missing (length v), TooLong) ∷ ((under_length missing (length v), TooShort) ∷ ((over_high missing v, OverHigh) ∷ ((under_low missing v, UnderLow) ∷ []))))))
      h

-- A check that an access makes alone comes first among the checks of its entry.

barred : (b : Bool) (f : dictionary.Fault) (rest : Option dictionary.Fault) (x : dictionary.Fault) → Err x ≡ done (cond b (Some f) None) → Err x ≡ done (cond b (Some f) rest)
barred true f rest x h = h
barred false f rest x h = cc

passed : (b : Bool) (f : dictionary.Fault) (rest : Option dictionary.Fault) → Ok tt ≡ done (cond b (Some f) None) → done rest ≡ done (cond b (Some f) rest)
passed true f rest h = cc
passed false f rest h = refl

-- the checks of a length are those of the shape
sized : (a : Access) (s : Shape) (n : ℕ) → length_fault s n ≡ first-in ((over_length (present a s) n, TooLong) ∷ ((under_length (present a s) n, TooShort) ∷ []))
sized a (Number w s low high) n = refl
sized a (Run capacity) n = refl

-- What is told of an entry decides each check.

module _ (d : Objects) (at : Address) (l : Look) (h : Ok l ≡ look_answer d at) where
  abbrev here : Entry
  here = look d at

  pub here_is : present l.access l.shape ≡ here
  here_is = sym (seen here (length (value d at)) l h)

  as_seen : (s : Shape) → l.shape ≡ s → here ≡ present l.access s
  as_seen s q = sym here_is ∙ ap (present l.access) q

  pub number_barred : (x : dictionary.Fault) → Err x ≡ done (access_read_fault l.access) → Err x ≡ verdict (number_read_checks here)
  number_barred x p =
      barred (is_wo l.access) WriteOnly (first-in ((is_run (present l.access l.shape), NotNumber) ∷ [])) x p ∙ ap (λ e. verdict (number_read_checks e)) here_is

  pub number_run : Ok tt ≡ done (access_read_fault l.access) → (capacity : ℕ) → l.shape ≡ Run capacity → Err NotNumber ≡ verdict (number_read_checks here)
  number_run p capacity q = passed (is_wo l.access) WriteOnly (Some NotNumber) p ∙ ap (λ e. verdict (number_read_checks e)) (sym (as_seen (Run capacity) q))

  pub number_ok : Ok tt ≡ done (access_read_fault l.access) → (w : ℕ) (s : Bool) (low high : ℤ) → l.shape ≡ Number w s low high → Ok tt ≡ verdict (number_read_checks here)
  number_ok p w s low high q = passed (is_wo l.access) WriteOnly None p ∙ ap (λ e. verdict (number_read_checks e)) (sym (as_seen (Number w s low high) q))

  pub length_barred : (n : ℕ) (x : dictionary.Fault) → Err x ≡ done (access_write_fault l.access) → Err x ≡ verdict (length_checks here n)
  length_barred n x p = barred (is_ro l.access) ReadOnly _ x p ∙ (ap (λ y. done (cond (is_ro l.access) (Some ReadOnly) y)) (sized l.access l.shape n) ∙ ap (λ e. verdict (length_checks e n)) here_is)

  pub length_sized : (n : ℕ) → Ok tt ≡ done (access_write_fault l.access) → done (length_fault l.shape n) ≡ verdict (length_checks here n)
  length_sized n p = passed (is_ro l.access) ReadOnly _ p ∙ (ap (λ y. done (cond (is_ro l.access) (Some ReadOnly) y)) (sized l.access l.shape n) ∙ ap (λ e. verdict (length_checks e n)) here_is)

  -- a write of a number
  module _ (bytes : Bytes) where
    pub written_barred : (x : dictionary.Fault) → Err x ≡ done (access_write_fault l.access) → Err x ≡ verdict (number_write_checks here (low_bytes here bytes))
    written_barred x p =
        let e = present l.access l.shape in
        let v = low_bytes e bytes in
        barred (is_ro l.access) ReadOnly
        (first-in ((is_run e, NotNumber) ∷ ((over_length e (length v), TooLong) ∷ ((under_length e (length v), TooShort) ∷ ((over_high e v, OverHigh) ∷ ((under_low e v, UnderLow) ∷ [])))))) x p
        ∙ ap (λ y. verdict (number_write_checks y (low_bytes y bytes))) here_is

    pub written_run : Ok tt ≡ done (access_write_fault l.access) → (capacity : ℕ) → l.shape ≡ Run capacity → Err NotNumber ≡ verdict (number_write_checks here (low_bytes here bytes))
    written_run p capacity q = passed (is_ro l.access) ReadOnly (Some NotNumber) p ∙ ap (λ y. verdict (number_write_checks y (low_bytes y bytes))) (sym (as_seen (Run capacity) q))

    pub written_number : (w : ℕ) (s : Bool) (low high : ℤ) → l.shape ≡ Number w s low high → (now : Bytes) → now ≡ take w bytes
        → (now ≡ low_bytes here bytes) × (write_fault here now ≡ first-in (number_write_checks here (low_bytes here bytes)))
    written_number w s low high q now k =
        let i = as_seen (Number w s low high) q in
        let b : now ≡ low_bytes here bytes = k ∙ ap (λ x. low_bytes x bytes) (sym i) in
        (b, ap (λ v. write_fault here v) b ∙ (ap (λ x. write_fault x (low_bytes x bytes)) i ∙ sym (ap (λ x. first-in (number_write_checks x (low_bytes x bytes))) i)))

-- What sound objects hold.

four_at_most : (w : ℕ) → (w ≡ 1) ⊎ ((w ≡ 2) ⊎ (w ≡ 4)) → w ≤ 4
four_at_most w (inl e) = omega (arith, e)
four_at_most w (inr (inl e)) = omega (arith, e)
four_at_most w (inr (inr e)) = omega (arith, e)

room_for : (e : Entry) (v : Bytes) (room : ℕ) → ((a : Access) (s : Shape) → e ≡ present a s → length v ≤ room) → read_fault e v room ≡ first-in (any_read_checks e)
room_for no_index v room h = refl
room_for no_subindex v room h = refl
room_for (present a s) v room h =
    ap (λ b. cond {A = Option dictionary.Fault} (is_wo a) (Some WriteOnly) (cond {A = Option dictionary.Fault} b (Some ShortMemory) None)) (le-ltb room (length v) (h a s refl))

made_by : {X : Type 0} (y : Option dictionary.Fault) (x : X) (r : Result X dictionary.Fault) (P : X → Type 0) → r ≡ answer y x → (y ≡ None → P x) → IfOk r P
made_by None x (Ok n) P e k = let q : x ≡ n = cc in subst P q (k refl)
made_by (Some f) x (Ok n) P e k = cc
made_by y x (Err f) P e k = tt

module _ (d : Objects) (sound : Sound d) (at : Address) where
  width_small : (a : Access) (w : ℕ) (s : Bool) (low high : ℤ) → look d at ≡ present a (Number w s low high) → w ≤ 4
  width_small a w s low high e = four_at_most w (sound.allowed at a (Number w s low high) e).0

  value_small : (a : Access) (s : Shape) → look d at ≡ present a s → length (value d at) ≤ 4096
  value_small a (Number w s low high) e =
      let h = sound.allowed at a (Number w s low high) e in omega (arith, four_at_most w h.0, h.1)
  value_small a (Run capacity) e = let h = sound.allowed at a (Run capacity) e in omega (arith, h.0, h.1)

  length_small : (e : Entry) → look d at ≡ e → (n : ℕ) → TakesLength e n → n ≤ 4096
  length_small no_index i n h = absurd h
  length_small no_subindex i n h = absurd h
  length_small (present a (Number w s low high)) i n h = omega (arith, width_small a w s low high i, h.1)
  length_small (present a (Run capacity)) i n h = omega (arith, (sound.allowed at a (Run capacity) i).0, h.1)

  -- a declared length that is taken
  pub declared_small : (n : ℕ) (r : Result (Unit {0}) dictionary.Fault) → r ≡ verdict (length_checks (look d at) n) → IfOk r (λ _. n ≤ 4096)
  declared_small n r e =
      made_by (first-in (length_checks (look d at) n)) tt r (λ _. n ≤ 4096) e
      (λ none.
      let k = clear (length_checks (look d at) n) none in
      length_small (look d at) refl n (takes_from (look d at) n (k.0, k.1.0, k.1.1.0) (k.1.1.1.0, k.1.1.1.1.0)))

  -- any value fits a memory of 4,096 bytes
  pub roomy : (room : ℕ) → 4096 ≤ room → read_fault (look d at) (value d at) room ≡ first-in (any_read_checks (look d at))
  roomy room h = room_for (look d at) (value d at) room (λ a s e. omega (arith, value_small a s e))

  -- a number that may be read fits four bytes
  number_small : (e : Entry) → look d at ≡ e → first-in (number_read_checks e) ≡ None → length (value d at) ≤ 4
  number_small no_index i h = cc
  number_small no_subindex i h = cc
  number_small (present a (Number w s low high)) i h =
      let k = sound.allowed at a (Number w s low high) i in omega (arith, four_at_most w k.0, k.1)
  number_small (present Ro (Run capacity)) i h = cc
  number_small (present Wo (Run capacity)) i h = cc
  number_small (present Rw (Run capacity)) i h = cc

  pub number_read : first-in (number_read_checks (look d at)) ≡ None → read_fault (look d at) (value d at) 4 ≡ None
  number_read h =
      let k = clear (number_read_checks (look d at)) h in
      readable_back (look d at) (value d at) 4 (reads_from (look d at) (k.0, k.1.0, k.1.1.0)) (number_small (look d at) refl h)

-- For every frame that is read as the command.

module _ (d : Objects) (at : Address) where
  pub each_read_object : (r : Result (Unit {0}) dictionary.Fault) → r ≡ verdict (number_read_checks (look d at))
      → Tells (ReadObject at) d r tt
  unfolding Tells
  each_read_object r h node c f is passes =
      ap of_dictionary h
      ∙ (ap (λ a. of_dictionary (verdict (number_read_checks (look d a)))) is.1
      ∙ answered (fault node d c f) _ tt (read_object_finds node d c f passes is.0))

  pub each_declared : (n : ℕ) (r : Result (Unit {0}) dictionary.Fault) → r ≡ verdict (length_checks (look d at) n)
      → Tells (InitiateSegmentedWrite at n) d r tt
  unfolding Tells
  each_declared n r h node c f is passes =
      ap of_dictionary h
      ∙ ((λ i. of_dictionary (verdict (length_checks (look d (is.1 i)) (is.2 i))))
      ∙ answered (fault node d c f) _ tt (initiate_write_finds node d c f passes is.0))

  -- a read into a memory with room for any value
  module _ (sound : Sound d) (m : Bytes) (long : length m ≡ 4096) where
    pub read_length : (r : Result ℕ dictionary.Fault) → r ≡ read_answer d at m
        → Tells (InitiateSegmentedRead at) d r (length (value d at))
    unfolding Tells
    read_length r h node c f is passes =
        ap of_dictionary (h ∙ ap (λ y. answer y (length (value d at))) (roomy d sound at (length m) (omega (arith, long))))
        ∙ (ap (λ a. of_dictionary (answer (first-in (any_read_checks (look d a))) (length (value d at)))) is.1
        ∙ answered (fault node d c f) _ (length (value d at)) (initiate_read_finds node d c f passes is.0))

    pub read_into : (now : Bytes) → now ≡ memory_after_read d at m
        → Stages (InitiateSegmentedRead at) d at m now
    unfolding Stages
    read_into now h node c f is passes =
        h
        ∙ (ap (λ y. leaves y (laid (value d at) m) m) (roomy d sound at (length m) (omega (arith, long)))
        ∙ (ap (λ a. leaves (first-in (any_read_checks (look d a))) (laid (value d at) m) m) is.1
        ∙ left (fault node d c f) _ (laid (value d at) m) m (initiate_read_finds node d c f passes is.0)))

  -- the checks of a write of this number
  abbrev pub number_checks : ℕ → List (Bool × dictionary.Fault)
  number_checks n = number_write_checks (look d at) (low_bytes (look d at) (four n))

  pub each_write_object : (n : ℕ) (r : Result (Unit {0}) dictionary.Fault) → r ≡ verdict (number_checks n)
      → Tells (WriteObject at n) d r tt
  unfolding Tells
  each_write_object n r h node c f is passes =
      ap of_dictionary h
      ∙ ((λ i. of_dictionary (verdict (number_write_checks (look d (is.1 i)) (low_bytes (look d (is.1 i)) (is.3 i)))))
      ∙ answered (fault node d c f) _ tt (write_object_finds node d c f passes is.0))

  applied : (k : Option Check) (w : Write) → by_fault k (λ _. d) (put d w.0 w.1) ≡ apply d (by_fault k (λ _. None) (Some w))
  applied None w = refl
  applied (Some k) w = refl

  pub each_written : (n : ℕ) (after : Objects) → after ≡ leaves (first-in (number_checks n)) (put d at (low_bytes (look d at) (four n))) d
      → Writes (WriteObject at n) d after
  unfolding Writes write_of
  each_written n after h node c f is passes =
      h
      ∙ ((λ i. leaves (first-in (number_write_checks (look d (is.1 i)) (low_bytes (look d (is.1 i)) (is.3 i)))) (put d (is.1 i) (low_bytes (look d (is.1 i)) (is.3 i))) d)
      ∙ (left (fault node d c f) _ _ d (write_object_finds node d c f passes is.0)
      ∙ (applied (fault node d c f) _
      ∙ ap (λ w. apply d (by_fault (fault node d c f) (λ _. None) (writes w d c f))) (sym is.0))))

  -- a refused write leaves all as it was
  pub each_refused : (n : ℕ) (e : dictionary.Fault) → Err e ≡ verdict (number_checks n) → Writes (WriteObject at n) d d
  each_refused n e h = each_written n d (by (first-in (number_checks n)) h)
    where
      by : (y : Option dictionary.Fault) → Err e ≡ done y → d ≡ leaves y (put d at (low_bytes (look d at) (four n))) d
      by None h = cc
      by (Some x) h = refl

  pub absent_leaves : (n : ℕ) (x : dictionary.Fault) → Err x ≡ look_answer d at → Writes (WriteObject at n) d d
  absent_leaves n x h = each_refused n x (written_absent d at x h (low_bytes (look d at) (four n)))

  pub barred_leaves : (n : ℕ) (l : Look) (x : dictionary.Fault) → Ok l ≡ look_answer d at → Err x ≡ done (access_write_fault l.access) → Writes (WriteObject at n) d d
  barred_leaves n l x h p = each_refused n x (written_barred d at l h (four n) x p)

  pub run_leaves : (n : ℕ) (l : Look) (capacity : ℕ) → Ok l ≡ look_answer d at → Ok tt ≡ done (access_write_fault l.access) → l.shape ≡ Run capacity → Writes (WriteObject at n) d d
  run_leaves n l capacity h p q = each_refused n NotNumber (written_run d at l h (four n) p capacity q)

  -- the low bytes of the number went to the dictionary
  pub wrote : (n : ℕ) (l : Look) → Ok l ≡ look_answer d at → (w : ℕ) (s : Bool) (low high : ℤ) → l.shape ≡ Number w s low high
      → (bytes : Bytes) → bytes ≡ take w (four n) → (r : Result (Unit {0}) dictionary.Fault) → r ≡ write_answer d at bytes → (after : Objects) → after ≡ after_write d at bytes
      → Tells (WriteObject at n) d r tt × Writes (WriteObject at n) d after
  wrote n l h w s low high q bytes k r told-so after left_so =
      let x = written_number d at l h (four n) w s low high q bytes k in (
        each_write_object n r (told-so ∙ ap done x.1),
        each_written n after (left_so ∙ (λ i. leaves (x.1 i) (put d at (x.0 i)) d)),
      )

-- a readable number is read into four bytes
refuted : {X : Type 0} (y : Option dictionary.Fault) (content : Bytes) (r : Result Answer dictionary.Fault) (e : dictionary.Fault) → r ≡ answer y content → r ≡ Err e → y ≡ None → X
refuted None content (Ok a) e h was none = cc
refuted None content (Err x) e h was none = cc
refuted (Some x) content r e h was none = cc

passed_none : (y : Option dictionary.Fault) → of_dictionary (done None) ≡ of_dictionary (done y) → y ≡ None
passed_none None h = refl
passed_none (Some e) h = cc

pub never_refused : (d : Objects) → Sound d → (at : Address) → Tells {X = Unit {0}} (ReadObject at) d (Ok tt) tt → (r : Result Answer dictionary.Fault) (e : dictionary.Fault) → r ≡ value_answer d at → r ≡ Err e
    → (told : Result Bytes Fault) → Answers (ReadObject at) d told
unfolding Tells Answers
never_refused d sound at ok r e h was told node c f is passes =
    let none : first-in (number_read_checks (look d at)) ≡ None =
    passed_none _ (ok node c f is passes ∙ sym (each_read_object d at (verdict (number_read_checks (look d at))) refl node c f is passes)) in
    refuted _ (accepted_data (value_back (value d at))) r e h was (number_read d sound at none)

-- what the check is given for each function

pub ruleset reads_number = (each_read_object, number_absent, number_barred, number_run, number_ok)

pub ruleset writes_number = (each_write_object, absent_leaves, barred_leaves, run_leaves, written_absent, written_barred, written_run)

pub ruleset takes_value = (each_declared, length_absent, length_barred, length_sized, declared_small)
