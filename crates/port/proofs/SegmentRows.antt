-- The segment row: where the command row passes, it comes next, and the rows behind it come where it passes.
use Rattle.std.proofs.Common.{◌≡◌, ℕ, ◌-◌, Bool, true, false, cond, not, eqb, List, [], ◌∷◌, ◌++◌, Some, None, Ok, Err, Option, sym, refl, ap, ◌∙◌}
use Rattle.std.proofs.lemmas.Bool.{eq-eqb}
use Rattle.wire.specs.Frames.{Frame}
use Rattle.dictionary.specs.Objects.{Objects}
use Rattle.command.specs.declared.faults.ChainFault.{ChainFault}
use Rattle.command.specs.declared.faults.ChainFault as chain
use Rattle.command.specs.Answers.{bit}
use Rattle.command.specs.Checks.{Check, NoChain, Toggle, OpenChain}
use Rattle.command.specs.Checks.{command_row, segment_row, object_row, shape_row, value_row, no_chain, turn_of, checks, first_of, first, fault}
use Rattle.command.specs.Decoding.{command_check}
use Rattle.command.specs.Frames.{segment_read, segment_write, verb, read_toggle}
use Rattle.command.proofs.Rows.{row_passes}
use Rattle.port.specs.Chains.{in_turn_lem}
use Rattle.port.specs.Serving.{segment_fault}

then_of : (b : Bool) (k l : Check) (r s : Option Check) → cond b (Some k) r ≡ Some l → (r ≡ Some l → s ≡ Some l) → cond b (Some k) s ≡ Some l
then_of true k l r s e h = e
then_of false k l r s e h = h e

first_found : (p : Check → Bool) (ks ls : List Check) (k : Check) → first_of p ks ≡ Some k → first_of p (ks ++ ls) ≡ Some k
first_found p [] ls k e = cc
first_found p (j ∷ ks) ls k e = then_of (p j) j k (first_of p ks) (first_of p (ks ++ ls)) e (first_found p ks ls k)

none_of : (b : Bool) (k : Check) (r s t : Option Check) → cond b (Some k) r ≡ None → (r ≡ None → s ≡ t) → cond b (Some k) s ≡ t
none_of true k r s t e h = cc
none_of false k r s t e h = h e

first_after : (p : Check → Bool) (ks ls : List Check) → first_of p ks ≡ None → first_of p (ks ++ ls) ≡ first_of p ls
first_after p [] ls e = refl
first_after p (j ∷ ks) ls e = none_of (p j) j (first_of p ks) (first_of p (ks ++ ls)) (first_of p ls) e (first_after p ks ls)

-- Toggles as flags and as bits.

pub same_turn : (turn toggle : Bool) (u : Unit {0}) → Ok u ≡ in_turn_lem turn toggle → turn ≡ toggle
same_turn true true u e = refl
same_turn true false u e = cc
same_turn false true u e = cc
same_turn false false u e = refl

pub other_turn : (turn toggle : Bool) (e : ChainFault) → Err e ≡ in_turn_lem turn toggle → (not (eqb (bit toggle) (bit turn)) ≡ true) × (e ≡ chain.TheVariants.Toggle)
other_turn true true e h = cc
other_turn true false e h = (refl, cc)
other_turn false true e h = (refl, cc)
other_turn false false e h = cc

pub bits_same : (a b : Bool) → a ≡ b → not (eqb (bit b) (bit a)) ≡ false
bits_same a b e = ap not (eq-eqb (bit b) (bit a) (sym (ap bit e)))

pub bit_flip : (a : Bool) → bit (not a) ≡ 1 - bit a
bit_flip true = refl
bit_flip false = refl

abbrev pub behind : List Check
behind = object_row ++ (shape_row ++ value_row)

module _ (node : ℕ) (d : Objects) (c : OpenChain) (f : Frame) where
  -- a SegmentRead comes to no row but its own
  pub read_row : command_check node f ≡ None → verb f ≡ segment_read
      → fault node d c f ≡ cond (no_chain segment_read c) (Some NoChain) (cond (not (eqb (read_toggle f) (turn_of c))) (Some Toggle) None)
  read_row passes e = row_passes node d c f passes ∙ ap (λ w. first_of (checks w node d c f) (segment_row ++ behind)) e

  pub write_row : command_check node f ≡ None → verb f ≡ segment_write → segment_fault node d c f ≡ first_of (checks segment_write node d c f) segment_row
  write_row passes e = first_after (checks (verb f) node d c f) command_row segment_row passes ∙ ap (λ w. first_of (checks w node d c f) segment_row) e

  -- what the command row turns away comes to no segment row
  pub row_before : (k : Check) → command_check node f ≡ Some k → segment_fault node d c f ≡ Some k
  row_before k e = first_found (checks (verb f) node d c f) command_row segment_row k e

  -- what the segment row turns away is the fault, and what it passes comes to the rows behind it
  pub row_stops : (k : Check) → segment_fault node d c f ≡ Some k → fault node d c f ≡ Some k
  unfolding fault first
  row_stops k e = first_found (checks (verb f) node d c f) (command_row ++ segment_row) behind k e

  pub row_clear : segment_fault node d c f ≡ None → verb f ≡ segment_write → fault node d c f ≡ first_of (checks segment_write node d c f) behind
  unfolding fault first
  row_clear e v = first_after (checks (verb f) node d c f) (command_row ++ segment_row) behind e ∙ ap (λ w. first_of (checks w node d c f) behind) v
