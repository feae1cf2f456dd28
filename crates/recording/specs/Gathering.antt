-- How the lines of an input are gathered byte by byte. Assumes nothing.
use Rattle.std.specs.Prelude.{◌≡◌, ℕ, ◌+◌, ◌-◌, ◌^◌, min, Bool, true, false, cond, List, [], ◌∷◌, ◌++◌, map, length, Some, None, Option, ◌==◌}
use Rattle.recording.specs.Lines.{lines, unended, Splits, kept}
use Rattle.recording.specs.Meaning.{meaning}

-- what is kept of the last line, whether it is still to be ended, and its number
pub record Held : Type 0 where
  pub text : List ℕ
  pub begun : Bool
  pub number : ℕ

-- before the first byte
abbrev pub fresh : Held
fresh = record { text = []; begun = false; number = 0 }

-- the number of the line that is the n-th: it stops at the greatest number of 64 bits
abbrev pub numbered : ℕ → ℕ
numbered n = min n (2 ^ 64 - 1)

-- the next byte belongs to a line, a new one if the last is ended
abbrev pub beginning : Held → Held
beginning h = cond h.begun h (record { text = []; begun = true; number = numbered (h.number + 1) })

-- the line is ended
abbrev pub ending : Held → Held
ending h = record { text = h.text; begun = false; number = h.number }

-- the line has one character more
abbrev pub adding : ℕ → Held → Held
adding c h = record { text = kept (h.text ++ c ∷ []); begun = h.begun; number = h.number }

-- a line feed ends the line, and any other byte is a character of it
abbrev pub taking : ℕ → Held → Held
taking b h = cond (b == 0x0A) (ending (beginning h)) (adding b (beginning h))

-- the line that is told of, where one is
abbrev pub one : Bool → Held → List (List ℕ)
one true h = h.text ∷ []
one false h = []

-- and its number
abbrev pub number_of : Bool → Held → Option ℕ
number_of true h = Some h.number
number_of false h = None

-- these texts are the lines that an input splits into, as far as they are kept, and say what the whole lines say
pub record Told (input : List ℕ) (texts : List (List ℕ)) : Type 0 where
  pub splits : Splits input (lines input)
  pub kept_lines : texts ≡ map kept (lines input)
  pub says : map meaning texts ≡ map meaning (lines input)

-- the bytes taken are this input and the lines ended were told as these texts; the line that is still to be ended comes after them
pub record Gathers (input : List ℕ) (texts : List (List ℕ)) (h : Held) : Type 0 where
  pub told : Told input (texts ++ one h.begun h)
  pub begun : h.begun ≡ unended input
  pub number : h.number ≡ numbered (length (lines input))
