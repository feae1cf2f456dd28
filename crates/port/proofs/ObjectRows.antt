-- The table of checks against those of the dictionary: where a frame passes the command row, what the table finds is what the dictionary finds.
use Rattle.std.proofs.Common.{◌≡◌, ℕ, Bool, true, false, cond, List, [], ◌∷◌, length, Some, None, Ok, Err, Option, Result, sym, refl, ap, ◌∙◌}
use Rattle.dictionary.specs.declared.Fault as dictionary
use Rattle.dictionary.specs.declared.Fault.TheVariants.{NoIndex, NoSubindex, WriteOnly, ReadOnly, NotNumber, TooLong, TooShort}
use Rattle.dictionary.specs.declared.Fault.TheVariants.{OverHigh as AboveHigh, UnderLow as BelowLow}
use Rattle.dictionary.specs.Calls.{answer, leaves}
use Rattle.dictionary.specs.Checks.{index_absent, subindex_absent, write_only, read_only, is_run, over_length, under_length, over_high, under_low}
use Rattle.dictionary.specs.Checks.{first as first-in}
use Rattle.dictionary.specs.Objects.{Bytes, Objects, Entry, look}
use Rattle.wire.specs.Frames.{Frame}
use Rattle.command.specs.declared.faults.Fault.{Fault}
use Rattle.command.specs.declared.faults.Fault.TheVariants.{Dictionary}
use Rattle.command.specs.Frames.{Verb, read_object, initiate_read, write_object, initiate_write, verb, address, payload, declared}
use Rattle.command.specs.Checks.{Check, Index, Subindex, ReadOfWo, WriteOfRo, OnRun, OverLength, UnderLength, OverHigh, UnderLow}
use Rattle.command.specs.Checks.{OpenChain, checks, fault_of, first_of, fault, found, low_bytes}
use Rattle.command.specs.Commands.{by_fault}
use Rattle.command.specs.Decoding.{command_check}
use Rattle.command.proofs.Rows.{row_passes, later_rows}
use Rattle.port.specs.Objects.{of_dictionary}

-- The dictionary's checks that each command has, in their order.

-- the entry is not there
abbrev pub absent_checks : Entry → List (Bool × dictionary.Fault) → List (Bool × dictionary.Fault)
absent_checks e more = (index_absent e, NoIndex) ∷ ((subindex_absent e, NoSubindex) ∷ more)

abbrev pub number_read_checks : Entry → List (Bool × dictionary.Fault)
number_read_checks e = absent_checks e ((write_only e, WriteOnly) ∷ ((is_run e, NotNumber) ∷ []))

abbrev pub any_read_checks : Entry → List (Bool × dictionary.Fault)
any_read_checks e = absent_checks e ((write_only e, WriteOnly) ∷ [])

abbrev pub length_checks : Entry → ℕ → List (Bool × dictionary.Fault)
length_checks e n = absent_checks e ((read_only e, ReadOnly) ∷ ((over_length e n, TooLong) ∷ ((under_length e n, TooShort) ∷ [])))

abbrev pub number_write_checks : Entry → Bytes → List (Bool × dictionary.Fault)
number_write_checks e v =
    absent_checks e
    ((read_only e, ReadOnly) ∷ ((is_run e, NotNumber) ∷ ((over_length e (length v), TooLong) ∷ ((under_length e (length v), TooShort) ∷ ((over_high e v, AboveHigh) ∷ ((under_low e v, BelowLow) ∷ []))))))

-- a fault of the dictionary as one of a command
abbrev pub raised : Option dictionary.Fault → Option Fault
raised None = None
raised (Some e) = Some (Dictionary e)

-- one check of the table beside the same check of the dictionary
same_check : (b : Bool) (k : Check) (e : dictionary.Fault) (x : Option Check) (y : Option dictionary.Fault) → fault_of k ≡ Dictionary e → found x ≡ raised y
    → found (cond b (Some k) x) ≡ raised (cond b (Some e) y)
same_check true k e x y h more = ap Some h
same_check false k e x y h more = more

same_read : (e : Entry) (x : Option Check) (y : Option dictionary.Fault) → found x ≡ raised y
    → found (cond (index_absent e) (Some Index) (cond (subindex_absent e) (Some Subindex) (cond (write_only e) (Some ReadOfWo) x)))
    ≡ raised (cond (index_absent e) (Some NoIndex) (cond (subindex_absent e) (Some NoSubindex) (cond (write_only e) (Some WriteOnly) y)))
same_read e x y h =
    same_check (index_absent e) Index NoIndex _ _ refl
    (same_check (subindex_absent e) Subindex NoSubindex _ _ refl
    (same_check (write_only e) ReadOfWo WriteOnly x y refl h))

pub same_write : (e : Entry) (x : Option Check) (y : Option dictionary.Fault) → found x ≡ raised y
    → found (cond (index_absent e) (Some Index) (cond (subindex_absent e) (Some Subindex) (cond (read_only e) (Some WriteOfRo) x)))
    ≡ raised (cond (index_absent e) (Some NoIndex) (cond (subindex_absent e) (Some NoSubindex) (cond (read_only e) (Some ReadOnly) y)))
same_write e x y h =
    same_check (index_absent e) Index NoIndex _ _ refl
    (same_check (subindex_absent e) Subindex NoSubindex _ _ refl
    (same_check (read_only e) WriteOfRo ReadOnly x y refl h))

pub same_length : (e : Entry) (n : ℕ) (x : Option Check) (y : Option dictionary.Fault) → found x ≡ raised y
    → found (cond (over_length e n) (Some OverLength) (cond (under_length e n) (Some UnderLength) x))
    ≡ raised (cond (over_length e n) (Some TooLong) (cond (under_length e n) (Some TooShort) y))
same_length e n x y h = same_check (over_length e n) OverLength TooLong _ _ refl (same_check (under_length e n) UnderLength TooShort x y refl h)

pub same_value : (e : Entry) (v : Bytes)
    → found (cond (over_high e v) (Some OverHigh) (cond (under_low e v) (Some UnderLow) None)) ≡ raised (cond (over_high e v) (Some AboveHigh) (cond (under_low e v) (Some BelowLow) None))
same_value e v = same_check (over_high e v) OverHigh AboveHigh _ _ refl (same_check (under_low e v) UnderLow BelowLow None None refl refl)

-- What the table finds, for each command that passes the command row.

module _ (node : ℕ) (d : Objects) (c : OpenChain) (f : Frame) (passes : command_check node f ≡ None) where
  abbrev here : Entry
  here = look d (address f)

  pub fault_by_verb : (w : Verb) → verb f ≡ w → fault node d c f ≡ first_of (checks w node d c f) later_rows
  fault_by_verb w e = row_passes node d c f passes ∙ ap (λ v. first_of (checks v node d c f) later_rows) e

  pub read_object_finds : verb f ≡ read_object → found (fault node d c f) ≡ raised (first-in (number_read_checks here))
  read_object_finds e =
      ap found (fault_by_verb read_object e) ∙ same_read here _ _ (same_check (is_run here) OnRun NotNumber None None refl refl)

  pub initiate_read_finds : verb f ≡ initiate_read → found (fault node d c f) ≡ raised (first-in (any_read_checks here))
  initiate_read_finds e = ap found (fault_by_verb initiate_read e) ∙ same_read here None None refl

  pub write_object_finds : verb f ≡ write_object → found (fault node d c f) ≡ raised (first-in (number_write_checks here (low_bytes here (payload f))))
  write_object_finds e =
      let v = low_bytes here (payload f) in
      ap found (fault_by_verb write_object e)
      ∙ same_write here _ _ (same_check (is_run here) OnRun NotNumber _ _ refl (same_length here (length v) _ _ (same_value here v)))

  pub initiate_write_finds : verb f ≡ initiate_write → found (fault node d c f) ≡ raised (first-in (length_checks here (declared f)))
  initiate_write_finds e = ap found (fault_by_verb initiate_write e) ∙ same_write here _ _ (same_length here (declared f) None None refl)

-- What follows from it: the answer, and what is left.

abbrev by_found : {X : Type 0} → Option Fault → X → Result X Fault
by_found None x = Ok x
by_found (Some e) x = Err e

abbrev left_by_found : {X : Type 0} → Option Fault → X → X → X
left_by_found None made before = made
left_by_found (Some e) made before = before

module _ {X : Type 0} where
  table_found : (k : Option Check) (x : X) → by_fault k (λ j. Err (fault_of j)) (Ok x) ≡ by_found (found k) x
  table_found None x = refl
  table_found (Some k) x = refl

  dictionary_found : (y : Option dictionary.Fault) (x : X) → of_dictionary (answer y x) ≡ by_found (raised y) x
  dictionary_found None x = refl
  dictionary_found (Some e) x = refl

  table_left : (k : Option Check) (made before : X) → by_fault k (λ _. before) made ≡ left_by_found (found k) made before
  table_left None made before = refl
  table_left (Some k) made before = refl

  dictionary_left : (y : Option dictionary.Fault) (made before : X) → leaves y made before ≡ left_by_found (raised y) made before
  dictionary_left None made before = refl
  dictionary_left (Some e) made before = refl

  -- the answer of the dictionary is that of the table
  pub answered : (k : Option Check) (y : Option dictionary.Fault) (x : X) → found k ≡ raised y → of_dictionary (answer y x) ≡ by_fault k (λ j. Err (fault_of j)) (Ok x)
  answered k y x h = dictionary_found y x ∙ (sym (ap (λ z. by_found z x) h) ∙ sym (table_found k x))

  -- and so is what it leaves
  pub left : (k : Option Check) (y : Option dictionary.Fault) (made before : X) → found k ≡ raised y → leaves y made before ≡ by_fault k (λ _. before) made
  left k y made before h = dictionary_left y made before ∙ (sym (ap (λ z. left_by_found z made before) h) ∙ sym (table_left k made before))
