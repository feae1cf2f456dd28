-- Proof terms, not definitions: what is made of sound dictionaries is sound. They stand here because the ghost member
-- `sound` of Pair and Shift cites them.
-- Assumes nothing.
use Rattle.std.specs.Prelude.{◌≡◌, ℕ, ◌-◌, ◌*◌, true, false, length, Some, None, Option}
use Rattle.std.proofs.Common.{⊎_elim}
use Rattle.std.proofs.lemmas.Bool.{cases_Bool}
use Rattle.dictionary.specs.declared.Access.{Access}
use Rattle.dictionary.specs.declared.Shape.{Shape}
use Rattle.dictionary.specs.Objects.{Object, Objects, Sound, entry_under, value_under, present, ShapeAllowed, LengthAllowed}
use Rattle.layers.specs.Layers.{or_else, paired, of_axis, shifted}

abbrev Subindices : Type 0
Subindices = Option (ℕ → Option Object)

abbrev AllowedUnder : Subindices → ℕ → Type 0
AllowedUnder x s = (access : Access) (shape : Shape) → entry_under x s ≡ present access shape → ShapeAllowed shape × LengthAllowed shape (length (value_under x s))

abbrev AddressedUnder : Subindices → Type 0
AddressedUnder x = (subs : ℕ → Option Object) → x ≡ Some subs → (s : ℕ) × (o : Object) × (subs s ≡ Some o)

either_allowed : (x y : Subindices) (s : ℕ) → AllowedUnder x s → AllowedUnder y s → AllowedUnder (or_else x y) s
either_allowed None y s f g = g
either_allowed (Some x) y s f g = f

either_addressed : (x y : Subindices) → AddressedUnder x → AddressedUnder y → AddressedUnder (or_else x y)
either_addressed None y f g = g
either_addressed (Some x) y f g = f

pub paired_sound : (d e : Objects) → Sound d → Sound e → Sound (paired d e)
paired_sound d e f g = record {
  allowed = λ a. either_allowed (d a.index) (e a.index) a.subindex (f.allowed a) (g.allowed a);
  addressed = λ i. either_addressed (d i) (e i) (f.addressed i) (g.addressed i);
}

pub shifted_sound : (axis : ℕ) (d : Objects) → Sound d → Sound (shifted axis d)
shifted_sound axis d f = record {
  allowed = λ a access shape e.
      ⊎_elim
      (λ (b : of_axis axis a.index ≡ true). rw b (f.allowed (record { index = a.index - 0x800 * axis; subindex = a.subindex }) access shape (rw b at e)))
      (λ (b : of_axis axis a.index ≡ false). let z = rw b at e in cc)
      (cases_Bool (of_axis axis a.index));
  addressed = λ i subs e.
      ⊎_elim
      (λ (b : of_axis axis i ≡ true). f.addressed (i - 0x800 * axis) subs (rw b at e))
      (λ (b : of_axis axis i ≡ false). let z = rw b at e in cc)
      (cases_Bool (of_axis axis i));
}
