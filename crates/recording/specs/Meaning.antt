-- What one line of a recording says. Assumes nothing.
use Rattle.std.specs.Prelude.{ℕ, suc, ◌+◌, ◌*◌, cond, List, [], ◌∷◌, ◌++◌, length, Some, None, codes, Option, ◌==◌, nat_lt}

-- each character with its value, the values counted up from v
abbrev pub valued : List ℕ → ℕ → List (ℕ × ℕ)
valued [] v = []
valued (c ∷ cs) v = (c, v) ∷ valued cs (suc v)

-- the hexadecimal digits and their values, letters in either case
abbrev pub digits : List (ℕ × ℕ)
digits = valued (codes "0123456789") 0 ++ (valued (codes "ABCDEF") 10 ++ valued (codes "abcdef") 10)

-- the value of a character in a table
abbrev pub lookup : ℕ → List (ℕ × ℕ) → Option ℕ
lookup c [] = None
lookup c (d ∷ table) = cond (c == d.0) (Some d.1) (lookup c table)

-- the value of a digit; any other character has none
abbrev pub digit_value : ℕ → Option ℕ
digit_value c = lookup c digits

-- the byte of two digits, the high one first
abbrev pub joined : Option ℕ → Option ℕ → Option ℕ
joined None low = None
joined (Some h) None = None
joined (Some h) (Some l) = Some (h * 16 + l)

-- a byte in front of others, if all are there
abbrev pub in_front : Option ℕ → Option (List ℕ) → Option (List ℕ)
in_front None more = None
in_front (Some b) None = None
in_front (Some b) (Some more) = Some (b ∷ more)

-- the bytes of digit pairs; any other text has none
abbrev pub pairs : List ℕ → Option (List ℕ)
pairs [] = Some []
pairs (c ∷ []) = None
pairs (h ∷ l ∷ text) = in_front (joined (digit_value h) (digit_value l)) (pairs text)

-- what a line says
pub data Meaning : Type 0 where
  bytes : List ℕ → Meaning
  silence : Meaning
  nothing : Meaning
  bad : Meaning

-- the bytes, if they are there
abbrev pub spelled : Option (List ℕ) → Meaning
spelled (Some xs) = bytes xs
spelled None = bad

-- digit pairs in at most 4,096 characters are bytes, and any other text is bad
abbrev pub spelling : List ℕ → Meaning
spelling text = cond (nat_lt 4096 (length text)) bad (spelled (pairs text))

-- the empty line is nothing, the letter S alone is a silence, and any other line is spelled in digit pairs
abbrev pub meaning : List ℕ → Meaning
meaning [] = nothing
meaning (c ∷ []) = cond (c == 0x53) silence (spelling (c ∷ []))
meaning (c ∷ d ∷ text) = spelling (c ∷ d ∷ text)
