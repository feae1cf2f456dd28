-- The segment row of a SegmentWrite, check by check.
use Rattle.std.proofs.Common.{◌≡◌, ℕ, ◌+◌, ◌<◌, ◌≤◌, Bool, true, false, cond, not, ◌&&◌, eqb, ltb, length, get_or, take, drop, Some, None, Ok, Err, Option, IfSome, sym, refl, ap, ◌∙◌, subst, arith, length-drop}
use Rattle.std.proofs.lemmas.List.{length-take-le}
use Rattle.std.proofs.lemmas.Bool.{cond-true, eqb-true, eq-eqb, lt-ltb, le-ltb}
use Rattle.wire.specs.Frames.{Frame}
use Rattle.dictionary.specs.declared.Address.{Address}
use Rattle.dictionary.specs.Objects.{Bytes, Objects}
use Rattle.command.specs.declared.commands.Part.{Part}
use Rattle.command.specs.declared.faults.ChainFault.{ChainFault}
use Rattle.command.specs.declared.faults.ChainFault as chain
use Rattle.command.specs.declared.faults.Fault.TheVariants as fault-of
use Rattle.command.specs.Answers.{bit}
use Rattle.command.specs.Checks.{Check, Toggle, NAgainstLen, SumOver, LastShort, writing, no_chain, found}
use Rattle.command.specs.Decoding.{command_check, part_values, part_in}
use Rattle.command.specs.Frames.{segment_write, verb, len, write_toggle, size, marked, part, room}
use Rattle.port.specs.declared.joinings.Joining.{Joining}
use Rattle.port.specs.declared.chains.Chain.{Chain}
use Rattle.port.specs.declared.chains.Direction.{Direction}
use Rattle.port.specs.declared.chains.Direction.TheVariants.{Read, Write}
use Rattle.port.specs.Chains.{open_chain, chain_of, in_turn_lem}
use Rattle.port.specs.Segments.{Judges}
use Rattle.port.specs.Serving.{segment_fault}
use Rattle.port.proofs.SegmentRows.{same_turn, write_row, other_turn, bits_same}

no_write_chain : (w : Direction) (n k : ℕ) (t : Bool) (m : Bytes) → ((a : Address) → w ≡ Write a → ⊥) → no_chain segment_write (open_chain w n k t m) ≡ true
no_write_chain Read n k t m h = refl
no_write_chain (Write a) n k t m h = absurd (h a refl)

-- The bytes of a segment.

no_part : (b : Bool) (x : ℕ × Bytes) → ◌≡◌ {A = Option (ℕ × Bytes)} None (cond b (Some x) None) → not b ≡ true
no_part true x e = cc
no_part false x e = refl

some_part : (b : Bool) (x y : ℕ × Bytes) → ◌≡◌ {A = Option (ℕ × Bytes)} (Some x) (cond b (Some y) None) → (b ≡ true) × (x ≡ y)
some_part true x y e = (refl, cc)
some_part false x y e = cc

part_length : (f : Frame) → len f ≡ room (size f) → length (part f) ≡ size f
unfolding len size part
part_length f e = length-take-le (get_or f.content 0 0) (drop 2 f.content) (omega (arith, e, length-drop 2 f.content))

pub record Fitted (f : Frame) (bytes : Bytes) : Type 0 where
  pub words : len f ≡ room (size f)
  pub bytes_are : bytes ≡ part f
  pub length_is : length bytes ≡ size f

pub fitted : (f : Frame) (place : ℕ) (bytes : Bytes) → Some (place, bytes) ≡ part_in f → Fitted f bytes
fitted f place bytes e =
    let h = some_part (eqb (len f) (room (size f))) (place, bytes) (4, part f) e in
    let w = eqb-true (len f) (room (size f)) h.0 in
    let b : bytes ≡ part f = ap (λ (x : ℕ × Bytes). x.1) h.1 in
    record { words = w; bytes_are = b; length_is = ap length b ∙ part_length f w }

-- The row by its four checks.

abbrev four : Bool → Bool → Bool → Bool → Option Check
four t n o l = cond t (Some Toggle) (cond n (Some NAgainstLen) (cond o (Some SumOver) (cond l (Some LastShort) None)))

module _ (s : Option Chain) (toggle last : Bool) (p : Option Part) where
  without_chain : ((m : Bytes) → no_chain segment_write (chain_of s m) ≡ true) → Judges s toggle last p (Err chain.TheVariants.NoChain)
  unfolding Judges
  without_chain h node d m n f held is passes =
      ap found (write_row node d (chain_of s m) f passes is.0 ∙ cond-true (no_chain segment_write (chain_of s m)) _ _ (h m))

  pub closed_chain : s ≡ None → Judges s toggle last p (Err chain.TheVariants.NoChain)
  closed_chain e = without_chain (λ m. ap (λ x. no_chain segment_write (chain_of x m)) e)

  pub read_chain : (x : Chain) → s ≡ Some x → ((a : Address) → x.direction ≡ Write a → ⊥) → Judges s toggle last p (Err chain.TheVariants.NoChain)
  read_chain x e h = without_chain (λ m. ap (λ y. no_chain segment_write (chain_of y m)) e ∙ no_write_chain x.direction x.declared x.count x.toggle m h)

  module _ (at : Address) (x : Chain) (is-open : s ≡ Some x) (writes : x.direction ≡ Write at) where
    abbrev declared : ℕ
    declared = x.declared

    abbrev count : ℕ
    count = x.count

    abbrev turn : Bool
    turn = x.toggle

    chain_is : (m : Bytes) → chain_of s m ≡ writing at declared (take count m) (bit turn)
    chain_is m = ap (λ y. chain_of y m) is-open ∙ ap (λ w. open_chain w declared count turn m) writes

    row_is : (node : ℕ) (d : Objects) (m : Bytes) (f : Frame) → IfSome s (λ c. c.count ≤ length m) → verb f ≡ segment_write → bit toggle ≡ write_toggle f → last ≡ marked f → command_check node f ≡ None
        → segment_fault node d (chain_of s m) f
        ≡ four (not (eqb (bit toggle) (bit turn))) (not (eqb (len f) (room (size f)))) (ltb declared (count + size f)) (last && ltb (count + size f) declared)
    row_is node d m f held v t l passes =
        let k : length (take count m) ≡ count = length-take-le count m (subst (λ y. IfSome y (λ c. c.count ≤ length m)) is-open held) in
        ap (λ y. segment_fault node d y f) (chain_is m)
        ∙ (write_row node d (writing at declared (take count m) (bit turn)) f passes v
        ∙ (λ i. four (not (eqb (sym t i) (bit turn))) (not (eqb (len f) (room (size f)))) (ltb declared (k i + size f)) (sym l i && ltb (k i + size f) declared)))

    pub out_of_turn : (e : ChainFault) → Err e ≡ in_turn_lem turn toggle → Judges s toggle last p (Err e)
    unfolding Judges
    out_of_turn e h node d m n f held is passes =
        let o = other_turn turn toggle e h in
        ap found
        (row_is node d m f held is.0 is.2 is.3 passes
        ∙ ap (λ b. four b (not (eqb (len f) (room (size f)))) (ltb declared (count + size f)) (last && ltb (count + size f) declared)) o.0)
        ∙ sym (ap (λ x. Some (fault-of.Chain x)) o.1)

    module _ (same : turn ≡ toggle) where
      pub misfit : p ≡ None → Judges s toggle last p (Err chain.TheVariants.Misfit)
      unfolding Judges
      misfit h node d m n f held is passes =
          let no = no_part (eqb (len f) (room (size f))) (4, part f) (sym (ap part_values h) ∙ is.4) in
          ap found (row_is node d m f held is.0 is.2 is.3 passes
          ∙ (λ i. four (bits_same turn toggle same i) (no i) (ltb declared (count + size f)) (last && ltb (count + size f) declared)))

      module _ (q : Part) (part_is : p ≡ Some q) where
        abbrev bytes : Bytes
        bytes = q.bytes.now

        by_sum : (o l : Bool) → ltb declared (count + length bytes) ≡ o → last && ltb (count + length bytes) declared ≡ l
            → (node : ℕ) (d : Objects) (m : Bytes) (f : Frame) → IfSome s (λ c. c.count ≤ length m) → verb f ≡ segment_write → bit toggle ≡ write_toggle f → last ≡ marked f
            → part_values p ≡ part_in f → command_check node f ≡ None
            → segment_fault node d (chain_of s m) f ≡ cond o (Some SumOver) (cond l (Some LastShort) None)
        by_sum o l oe le node d m f held v t lm pe passes =
            let fit = fitted f q.place bytes (sym (ap part_values part_is) ∙ pe) in
            let words : not (eqb (len f) (room (size f))) ≡ false = ap not (eq-eqb (len f) (room (size f)) fit.words) in
            let k = sym fit.length_is in
            row_is node d m f held v t lm passes
            ∙ ((λ i. four (bits_same turn toggle same i) (words i) (ltb declared (count + k i)) (last && ltb (count + k i) declared))
            ∙ (λ i. cond {A = Option Check} (oe i) (Some SumOver) (cond {A = Option Check} (le i) (Some LastShort) None)))

        pub sum_over : declared < count + length bytes → Judges s toggle last p (Err chain.TheVariants.SumOver)
        unfolding Judges
        sum_over h node d m n f held is passes =
            ap found (by_sum true _ (lt-ltb _ _ h) refl node d m f held is.0 is.2 is.3 is.4 passes)

        pub last_short : count + length bytes ≤ declared → last ≡ true → count + length bytes < declared → Judges s toggle last p (Err chain.TheVariants.LastShort)
        unfolding Judges
        last_short o l h node d m n f held is passes =
            ap found (by_sum false true (le-ltb _ _ o) (λ i. l i && lt-ltb (count + length bytes) declared h i) node d m f held is.0 is.2 is.3 is.4 passes)

        pub joins : (j : Joining) → count + length bytes ≤ declared → (last ≡ true → declared ≤ count + length bytes) → Judges s toggle last p (Ok j)
        unfolding Judges
        joins j o l node d m n f held is passes =
            ap found (by_sum false false (le-ltb _ _ o) (not_short last l) node d m f held is.0 is.2 is.3 is.4 passes)
          where
            not_short : (b : Bool) → (b ≡ true → declared ≤ count + length bytes) → b && ltb (count + length bytes) declared ≡ false
            not_short true h = le-ltb _ _ (h refl)
            not_short false h = refl

-- what the check is given for each function

pub ruleset judged = (closed_chain, read_chain, out_of_turn, misfit, sum_over, last_short, joins, same_turn)
