-- A body is heard exactly if its checksum fits. Assumes nothing.
use Rattle.std.proofs.Common.{◌≡◌, ℕ, ◌%◌, Bool, true, false, cond, List, length, refl, sym, ap, ◌∙◌, subst, arith}
use Rattle.wire.specs.Checking.{OfNoFrame, frame_in, fits}
use Rattle.wire.specs.Frames.{Even}
use Rattle.wire.specs.Framing.{body_of}
use Rattle.wire.specs.Line.{Completes}
use Rattle.wire.proofs.Frames.{body_length, fits_true, fits_even, fits_back, fits_heard, fits_damaged}
use Rattle.sniffer.specs.declared.passing.Passed.{Passed}
use Rattle.sniffer.specs.declared.passing.Passed.TheVariants.{Heard, Damaged}
use Rattle.sniffer.specs.Passing.{judged, Passes}

abbrev by_fit : Bool → Passed
by_fit t = cond t Heard Damaged

pub heard : (bytes part : List ℕ) (op : ℕ) (content : List ℕ) → part ≡ bytes → part ≡ body_of op content → Even content → Heard ≡ judged bytes
heard bytes part op content e is even = ap by_fit (sym (fits_back op content even) ∙ ap fits (sym is ∙ e))

by_frame : (bytes : List ℕ) (t : Bool) → fits bytes ≡ t → OfNoFrame bytes → Damaged ≡ by_fit t
by_frame bytes true e none =
    let is = fits_true bytes e in
    let frame = frame_in bytes in
    let even : length frame.content % 2 ≡ 0 = omega (arith, body_length frame.opcode frame.content, ap length is, fits_even bytes e) in
    absurd (none frame even is)
by_frame bytes false e none = refl

pub damaged : (bytes part : List ℕ) → part ≡ bytes → OfNoFrame part → Damaged ≡ judged bytes
damaged bytes part e none = by_frame bytes (fits bytes) refl (subst OfNoFrame e none)

by_case : (stretch bytes : List ℕ) (t : Bool) → fits bytes ≡ t → Completes stretch bytes → Passes stretch (by_fit t) bytes
by_case stretch bytes true e c = ((frame_in bytes).opcode, (frame_in bytes).content, fits_true bytes e, fits_heard stretch bytes c e)
by_case stretch bytes false e c = (c, fits_damaged stretch bytes c e)

-- what a stretch completes passes as it is judged
pub passes : (stretch bytes : List ℕ) → Completes stretch bytes → Passes stretch (judged bytes) bytes
passes stretch bytes c = by_case stretch bytes (fits bytes) refl c

pub passes_as : (bytes : List ℕ) (p : Passed) → p ≡ judged bytes → (stretch : List ℕ) → Completes stretch bytes → Passes stretch p bytes
passes_as bytes p e stretch c =
    let P : Passed → Type 0 = λ q. Passes stretch q bytes in
    subst P (sym e) (passes stretch bytes c)
