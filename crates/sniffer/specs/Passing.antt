-- What passes on the cable. Assumes nothing.
use Rattle.std.specs.Prelude.{◌≡◌, ℕ, List, if◌then◌else◌}
use Rattle.wire.specs.Checking.{fits}
use Rattle.wire.specs.Frames as frames
use Rattle.wire.specs.Framing.{body_of}
use Rattle.wire.specs.Line.{Completes}
use Rattle.sniffer.specs.declared.passing.Passed.{Passed}
use Rattle.sniffer.specs.declared.passing.Passed.TheVariants.{Heard, Damaged}

-- how a body passes: its checksum fits, or not
abbrev pub judged : List ℕ → Passed
judged body = if fits body then Heard else Damaged

-- how the body passed that the last byte of the stretch completes: as that of a frame, or damaged
abbrev pub Passes : List ℕ → Passed → List ℕ → Type 0
Passes stretch Heard body = (op : ℕ) × (content : List ℕ) × (body ≡ body_of op content) × frames.Heard stretch op content
Passes stretch Damaged body = Completes stretch body × frames.Damaged stretch
