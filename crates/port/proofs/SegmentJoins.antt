-- A segment of a write chain is joined to the bytes staged before it, and the last one brings them to the dictionary.
use Rattle.std.proofs.Common.{◌≡◌, ℕ, ◌+◌, ◌-◌, ◌≤◌, Bool, true, false, cond, not, ◌&&◌, ◌++◌, length, take, Some, None, Ok, Err, Option, Result, IfSome, sym, refl, ap, ◌∙◌, subst, length-append}
use Rattle.std.proofs.lemmas.List.{length-take-le, take_at}
use Rattle.wire.specs.Framing.{laid}
use Rattle.dictionary.specs.declared.Address.{Address}
use Rattle.dictionary.specs.declared.Fault as dictionary
use Rattle.dictionary.specs.Calls.{answer, leaves, write_answer, after_write}
use Rattle.dictionary.specs.Checks.{index_absent, subindex_absent, read_only, over_length, under_length, over_high, under_low, write_fault}
use Rattle.dictionary.specs.Objects.{Bytes, Objects, Entry, look, put}
use Rattle.command.specs.declared.commands.Command.TheVariants.{SegmentWrite}
use Rattle.command.specs.declared.commands.Part.{Part}
use Rattle.command.specs.declared.faults.ChainFault.{ChainFault}
use Rattle.command.specs.declared.faults.Fault.{Fault}
use Rattle.command.specs.declared.faults.Fault.TheVariants.{Dictionary}
use Rattle.command.specs.declared.faults.Fault.TheVariants as fault-of
use Rattle.command.specs.Answers.{bit, accepted_data, taken_back}
use Rattle.command.specs.Checks.{Check, Index, Subindex, WriteOfRo, OverLength, UnderLength, OverHigh, UnderLow, OpenChain, closed, writing, joined_of, found}
use Rattle.command.specs.Commands.{Write, by_fault, apply}
use Rattle.command.specs.Decoding.{part_values}
use Rattle.command.specs.Frames.{segment_write, part}
use Rattle.port.specs.declared.joinings.Joining.{Joining}
use Rattle.port.specs.declared.chains.Chain.{Chain}
use Rattle.port.specs.declared.chains.Direction.TheVariants as direction
use Rattle.port.specs.Chains.{open_chain, chain_of}
use Rattle.port.specs.Segments.{Judges}
use Rattle.port.specs.Serving.{Carried, segment_fault}
use Rattle.port.proofs.ObjectRows.{raised, same_write, same_length, same_value}
use Rattle.port.proofs.SegmentRows.{row_stops, row_clear, bit_flip}
use Rattle.port.proofs.SegmentWrites.{fitted}
use Rattle.port.proofs.Served.{answered, leaves_by, found_none, found_one}

-- a segment that its row turns away
module _ (d : Objects) (s : Option Chain) (m : Bytes) (n : ℕ) (toggle last : Bool) (p : Option Part) where
  pub turned_away : (e : ChainFault) → Judges s toggle last p (Err e) → IfSome s (λ c. c.count ≤ length m)
      → Carried (SegmentWrite n toggle last p) d (chain_of s m) m (Err (fault-of.Chain e)) closed d m
  unfolding Carried Judges
  turned_away e judged held node f is passes =
      let c = chain_of s m in
      let k = found_one (segment_fault node d c f) (fault-of.Chain e) (judged node d m n f held is passes) in
      leaves_by node d c m f segment_write (Some k.0) is.0 (row_stops node d c f k.0 k.1) _ _ _ _ (ap Err k.2) refl refl
      (sym (ap (λ (x : Option Check). by_fault x (λ _. m) (laid (joined_of c ++ part f) m)) k.1))

-- The rows behind it, of a segment that they come to only where it is the last.

abbrev rest_row : Bool → Entry → Bytes → Option Check
rest_row b e v =
    cond (b && index_absent e) (Some Index)
    (cond (b && subindex_absent e) (Some Subindex)
    (cond (b && read_only e) (Some WriteOfRo)
    (cond (b && over_length e (length v)) (Some OverLength)
    (cond (b && under_length e (length v)) (Some UnderLength)
    (cond (b && over_high e v) (Some OverHigh)
    (cond (b && under_low e v) (Some UnderLow) None))))))

-- the rows behind the segment row find what the dictionary's write finds
as_written : (e : Entry) (v : Bytes) → found (rest_row true e v) ≡ raised (write_fault e v)
as_written e v = same_write e _ _ (same_length e (length v) _ _ (same_value e v))

accepts : (y : Option dictionary.Fault) → Ok tt ≡ answer {X = Unit {0}} y tt → y ≡ None
accepts None e = refl
accepts (Some f) e = cc

refuses : (y : Option dictionary.Fault) (f : dictionary.Fault) → Err f ≡ answer {X = Unit {0}} y tt → y ≡ Some f
refuses None f e = cc
refuses (Some g) f e = cc

joined_length : (m bytes : Bytes) (count : ℕ) → count ≤ length m → length (take count m ++ bytes) ≡ count + length bytes
joined_length m bytes count held = length-append (take count m) bytes ∙ ap (λ (k : ℕ). k + length bytes) (length-take-le count m held)

module _ (d : Objects) (s : Option Chain) (m : Bytes) (n : ℕ) (toggle last : Bool) (p : Option Part) (j : Joining) (judged : Judges s toggle last p (Ok j))
    (at : Address) (x : Chain) (is-open : s ≡ Some x) (writes : x.direction ≡ direction.Write at) (turn : x.toggle ≡ toggle)
    (q : Part) (part_is : p ≡ Some q) (held : x.count ≤ length m) where
  abbrev bytes : Bytes
  bytes = q.bytes.now

  abbrev declared : ℕ
  declared = x.declared

  abbrev count : ℕ
  count = x.count

  abbrev c : OpenChain
  c = writing at declared (take count m) (bit toggle)

  chain_is : chain_of s m ≡ c
  chain_is = ap (λ y. chain_of y m) is-open ∙ (λ i. open_chain (writes i) declared count (turn i) m)

  abbrev whole : Bytes
  whole = take count m ++ bytes

  front : (m1 : Bytes) → m1 ≡ laid whole m → take (count + length bytes) m1 ≡ whole
  front m1 e = ap (take (count + length bytes)) e ∙ take_at whole _ (count + length bytes) (joined_length m bytes count held)

  done : (x : Option Check) → rest_row last (look d at) whole ≡ x → (answer : Result Bytes Fault) (l : OpenChain) (objects : Objects) (m1 : Bytes)
      → answer ≡ answered x (accepted_data (taken_back n (bit toggle)))
      → l ≡ by_fault x (λ _. closed) (cond last closed (writing at declared whole (1 - bit toggle)))
      → objects ≡ apply d (by_fault x (λ _. None) (cond {A = Option Write} last (Some (at, whole)) None)) → m1 ≡ laid whole m
      → Carried (SegmentWrite n toggle last p) d (chain_of s m) m answer l objects m1
  unfolding Carried Judges
  done x xe answer l objects m1 ae le oe me =
      subst (λ z. Carried (SegmentWrite n toggle last p) d z m answer l objects m1) (sym chain_is) (λ node f is passes.
      let clear : segment_fault node d c f ≡ None =
      ap (λ z. segment_fault node d z f) (sym chain_is) ∙ found_none _ (judged node d m n f (subst (λ y. IfSome y (λ c. c.count ≤ length m)) (sym is-open) held) is passes) in
      let b = (fitted f q.place bytes (sym (ap part_values part_is) ∙ is.4)).bytes_are in
      let l-is = is.3 in
      leaves_by node d c m f segment_write x is.0 (row_clear node d c f clear is.0 ∙ ((λ i. rest_row (sym l-is i) (look d at) (take count m ++ sym b i)) ∙ xe)) _ _ _ _
      (ae ∙ (λ i. answered x (accepted_data (taken_back (is.1 i) (is.2 i)))))
      (le ∙ (λ i. by_fault x (λ _. closed) (cond (l-is i) closed (writing at declared (take count m ++ b i) (1 - bit toggle)))))
      (oe ∙ (λ i. apply d (by_fault x (λ _. None) (cond {A = Option Write} (l-is i) (Some (at, take count m ++ b i)) None))))
      (me ∙ sym (ap (λ (y : Option Check). by_fault y (λ _. m) (laid (take count m ++ part f) m)) clear ∙ ap (λ z. laid (take count m ++ z) m) (sym b))))

  -- more segments come
  pub goes_on_joined : last ≡ false → (a m1 : Bytes) (l : OpenChain) → a ≡ accepted_data (taken_back n (bit toggle)) → m1 ≡ laid whole m
      → l ≡ writing at declared (take (count + length bytes) m1) (bit (not toggle)) → Carried (SegmentWrite n toggle last p) d (chain_of s m) m (Ok a) l d m1
  goes_on_joined l a m1 next ae me se =
      done None (ap (λ b. rest_row b (look d at) whole) l) _ _ _ _ (ap Ok ae)
      (se ∙ ((λ i. writing at declared (front m1 me i) (bit_flip toggle i)) ∙ sym (ap (λ (b : Bool). cond b closed (writing at declared whole (1 - bit toggle))) l)))
      (sym (ap (λ (b : Bool). apply d (cond {A = Option Write} b (Some (at, whole)) None)) l)) me

  module _ (l : last ≡ true) (w m1 : Bytes) (me : m1 ≡ laid whole m) (k : ℕ) (ke : k ≡ count + length bytes) (we : w ≡ take k m1)
      (d1 : Objects) (r : Result (Unit {0}) dictionary.Fault) (re : r ≡ write_answer d at w) (de : d1 ≡ after_write d at w) where
    w_is : w ≡ whole
    w_is = we ∙ (ap (λ (i : ℕ). take i m1) ke ∙ front m1 me)

    rest_is : rest_row last (look d at) whole ≡ rest_row true (look d at) whole
    rest_is = ap (λ b. rest_row b (look d at) whole) l

    -- the value is written whole
    pub completes : r ≡ Ok tt → (a : Bytes) → a ≡ accepted_data (taken_back n (bit toggle)) → Carried (SegmentWrite n toggle last p) d (chain_of s m) m (Ok a) closed d1 m1
    completes z a ae =
        let y : write_fault (look d at) whole ≡ None = accepts _ (sym z ∙ (re ∙ ap (write_answer d at) w_is)) in
        done None (rest_is ∙ found_none _ (as_written (look d at) whole ∙ ap raised y)) _ _ _ _ (ap Ok ae)
        (sym (ap (λ (b : Bool). cond b closed (writing at declared whole (1 - bit toggle))) l))
        (de ∙ (ap (after_write d at) w_is ∙ (ap (λ (x : Option dictionary.Fault). leaves x (put d at whole) d) y
        ∙ sym (ap (λ (b : Bool). apply d (cond {A = Option Write} b (Some (at, whole)) None)) l)))) me

    -- the dictionary refuses it
    pub is_refused : (f : dictionary.Fault) → r ≡ Err f → Carried (SegmentWrite n toggle last p) d (chain_of s m) m (Err (Dictionary f)) closed d1 m1
    is_refused f z =
        let y : write_fault (look d at) whole ≡ Some f = refuses _ f (sym z ∙ (re ∙ ap (write_answer d at) w_is)) in
        let k = found_one (rest_row true (look d at) whole) (Dictionary f) (as_written (look d at) whole ∙ ap raised y) in
        done (Some k.0) (rest_is ∙ k.1) _ _ _ _ (ap Err k.2) refl
        (de ∙ (ap (after_write d at) w_is ∙ ap (λ (x : Option dictionary.Fault). leaves x (put d at whole) d) y)) me

-- what the check is given for each function

pub ruleset joined = (turned_away, goes_on_joined, completes, is_refused)
