-- The lines that the bench prints. Assumes nothing.
use Rattle.std.specs.Prelude.{ℕ, List, [], ◌∷◌, ◌++◌, codes, decimal}
use Rattle.recording.specs.Spelling.{spelled_bytes}

-- the digits of an answer's cable bytes, and a line feed
abbrev pub answer_line : List ℕ → List ℕ
answer_line cable = spelled_bytes cable ++ 0x0A ∷ []

-- the line for a bad line of the recording
abbrev pub bad_line : ℕ → List ℕ
bad_line number = codes "?" ++ (decimal number ++ 0x0A ∷ [])
