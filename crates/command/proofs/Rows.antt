-- The command row stands first in the table: what it finds is the fault of the frame, whatever the objects and the chain.
use Rattle.std.proofs.Common.{◌≡◌, ℕ, Bool, true, false, cond, List, [], ◌∷◌, ◌++◌, Some, None, Option, refl}
use Rattle.dictionary.specs.Objects.{Objects}
use Rattle.wire.specs.Frames.{Frame}
use Rattle.command.specs.Frames.{verb}
use Rattle.command.specs.Checks.{Check, OpenChain, command_row, segment_row, object_row, shape_row, value_row, checks, first_of, first, fault}
use Rattle.command.specs.Decoding.{command_check}

abbrev pub later_rows : List Check
later_rows = segment_row ++ (object_row ++ (shape_row ++ value_row))

then_of : (b : Bool) (k l : Check) (r s : Option Check) → cond b (Some k) r ≡ Some l → (r ≡ Some l → s ≡ Some l) → cond b (Some k) s ≡ Some l
then_of true k l r s e h = e
then_of false k l r s e h = h e

first_found : (p : Check → Bool) (ks ls : List Check) (k : Check) → first_of p ks ≡ Some k → first_of p (ks ++ ls) ≡ Some k
first_found p [] ls k e = cc
first_found p (j ∷ ks) ls k e = then_of (p j) j k (first_of p ks) (first_of p (ks ++ ls)) e (first_found p ks ls k)

none_of : (b : Bool) (k : Check) (r s t : Option Check) → cond b (Some k) r ≡ None → (r ≡ None → s ≡ t) → cond b (Some k) s ≡ t
none_of true k r s t e h = cc
none_of false k r s t e h = h e

first_after : (p : Check → Bool) (ks ls : List Check) → first_of p ks ≡ None → first_of p (ks ++ ls) ≡ first_of p ls
first_after p [] ls e = refl
first_after p (j ∷ ks) ls e = none_of (p j) j (first_of p ks) (first_of p (ks ++ ls)) (first_of p ls) e (first_after p ks ls)

module _ (node : ℕ) (d : Objects) (c : OpenChain) (f : Frame) where
  pub row_refuses : (k : Check) → command_check node f ≡ Some k → fault node d c f ≡ Some k
  unfolding fault first
  row_refuses k e = first_found (checks (verb f) node d c f) command_row later_rows k e

  pub row_passes : command_check node f ≡ None → fault node d c f ≡ first_of (checks (verb f) node d c f) later_rows
  unfolding fault first
  row_passes e = first_after (checks (verb f) node d c f) command_row later_rows e
