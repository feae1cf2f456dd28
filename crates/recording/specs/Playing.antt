-- What a listener is told of a recording. Assumes nothing.
use Rattle.std.specs.Prelude.{◌≡◌, ℕ, ◌+◌, ◌-◌, ◌^◌, ◌<◌, Bool, true, false, List, [], ◌∷◌, ◌++◌, length, Option, IfSome, ◌==◌}
use Rattle.std.specs.List.{FoldsTo}
use Rattle.recording.specs.Gathering.{Held, numbered, taking}
use Rattle.recording.specs.Lines.{lines}
use Rattle.recording.specs.Meaning.{Meaning, meaning}

-- lines with their numbers, and what they say; n lines stand before them
abbrev pub all_told : ℕ → List (List ℕ) → List (ℕ × Meaning)
all_told n [] = []
all_told n (line ∷ more) = (numbered (n + 1), meaning line) ∷ all_told (n + 1) more

-- the line that ended last, where one did
abbrev pub told_last : Bool → Held → List (ℕ × Meaning)
told_last true h = (h.number, meaning h.text) ∷ []
told_last false h = []

-- bytes are taken one after another
abbrev pub all_taken : List ℕ → Held → Held
all_taken [] h = h
all_taken (b ∷ bytes) h = all_taken bytes (taking b h)

-- the lines that end meanwhile
abbrev pub ending_lines : List ℕ → Held → List (ℕ × Meaning)
ending_lines [] h = []
ending_lines (b ∷ bytes) h = told_last (b == 0x0A) (taking b h) ++ ending_lines bytes (taking b h)

-- a listener is told a line, or that there is a pause
pub data Event : Type 0 where
  line : ℕ → Meaning → Event
  pause : Event

-- the lines among what it is told
abbrev pub lines_in : List Event → List (ℕ × Meaning)
lines_in [] = []
lines_in (line n m ∷ events) = (n, m) ∷ lines_in events
lines_in (pause ∷ events) = lines_in events

module _ {S : Type 0} (hears : S → ℕ → Meaning → S → Type 0) (pauses : S → S → Type 0) where
  -- what it does then
  abbrev pub Takes : S → Event → S → Type 0
  Takes s (line n m) t = hears s n m t
  Takes s pause t = pauses s t

  -- it was told these lines one after another, with pauses between them
  pub record Hears (told : List (ℕ × Meaning)) (old new : S) : Type 0 where
    pub events : List Event
    pub all : lines_in events ≡ told
    pub took : FoldsTo Takes old events new

  -- an input was read, which is known or not: to its end, if it is shorter than 2^64 - 1 bytes; it was told each line of it, in order, with its
  -- number, and how many there are
  pub record Played (known : Option (List ℕ)) (count : ℕ) (old new : S) : Type 0 where
    pub input : List ℕ
    pub whole : IfSome known (λ bytes. length bytes < 2 ^ 64 - 1 → bytes ≡ input)
    pub count_lines : count ≡ numbered (length (lines input))
    pub heard : Hears (all_told 0 (lines input)) old new
