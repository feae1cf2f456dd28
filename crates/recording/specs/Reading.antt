-- What a call tells of a line. Assumes nothing.
use Rattle.std.specs.Prelude.{ℕ, ◌≤◌, List, [], length, Some, None, Ok, Err, Option, Result}
use Rattle.recording.specs.declared.pairs.Pairs.{Pairs}
use Rattle.recording.specs.declared.reading.BadLine.{BadLine}
use Rattle.recording.specs.declared.reading.Line.{Line}
use Rattle.recording.specs.declared.reading.Line.TheVariants.{Bytes, Silence, Nothing}
use Rattle.recording.specs.Meaning.{Meaning, bytes, silence, nothing, bad, pairs}

-- the bytes, where they are there
abbrev pub or_none : Option (List ℕ) → List ℕ
or_none None = []
or_none (Some xs) = xs

-- the bytes that a text of digit pairs still spells
abbrev pub left : Pairs → List ℕ
left p = or_none (pairs p.text.now)

-- what a call says that a line says
abbrev pub said : Result Line BadLine → Meaning
said (Ok (Bytes p)) = bytes (left p)
said (Ok Silence) = silence
said (Ok Nothing) = nothing
said (Err e) = bad

-- a line spells at most 2,048 bytes
abbrev pub Within : Meaning → Type 0
Within (bytes xs) = length xs ≤ 2048
Within silence = Unit {0}
Within nothing = Unit {0}
Within bad = Unit {0}
