-- What the bytes of a cable add to a report. Assumes nothing.
use Rattle.std.specs.Prelude.{◌≡◌, ℕ, ◌/◌, List, [], ◌∷◌, ◌++◌, length, Ok, Err, codes, Result}
use Rattle.wire.specs.Frames.{Heard, Damaged}
use Rattle.wire.specs.Line.{Completes}
use Rattle.sniffer.specs.Reporting.{Reported, with_line, heard_counted, damaged_counted, parts_line, body_line_lem}

-- the last byte of a stretch adds the line of the frame that is heard there, or that of the damaged body, or nothing
pub record Adds (stretch : List ℕ) (old new : Reported) : Type 0 where
  pub heard : (op : ℕ) (content : List ℕ) → Heard stretch op content
      → new ≡ with_line (parts_line (codes "heard") op (length content / 2) content) (heard_counted old.tally) old
  pub damaged : (damage : Damaged stretch) → new ≡ with_line (body_line_lem (codes "damaged") damage.0) (damaged_counted old.tally) old
  pub nothing : ((body : List ℕ) → Completes stretch body → ⊥) → new ≡ old

-- each of the bytes after a stretch adds what it completes
abbrev pub AddsEach : List ℕ → List ℕ → Reported → Reported → Type 0
AddsEach stretch [] old new = new ≡ old
AddsEach stretch (b ∷ bytes) old new = (mid : Reported) × Adds (stretch ++ b ∷ []) old mid × AddsEach (stretch ++ b ∷ []) bytes mid new

-- one fact where a call succeeds, another where it finds no memory
abbrev pub ByResult : {T E : Type 0} → Result T E → Type 0 → Type 0 → Type 0
ByResult (Ok x) P Q = P
ByResult (Err e) P Q = Q
