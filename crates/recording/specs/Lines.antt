-- The lines of an input. Assumes nothing.
use Rattle.std.specs.Prelude.{◌≡◌, ℕ, Bool, false, cond, not, List, [], ◌∷◌, ◌++◌, take, ◌==◌, ◌≢◌}
use Rattle.std.specs.List.{flat_map, AllByRecursion}

-- a character in front of the first line
abbrev pub onto : ℕ → List (List ℕ) → List (List ℕ)
onto c [] = (c ∷ []) ∷ []
onto c (line ∷ more) = (c ∷ line) ∷ more

-- each line feed ends a line; what stands after the last one is a line too, unless it is empty
abbrev pub lines : List ℕ → List (List ℕ)
lines [] = []
lines (b ∷ input) = cond (b == 0x0A) ([] ∷ lines input) (onto b (lines input))

-- the last line has no line feed
abbrev pub unended : List ℕ → Bool
unended [] = false
unended (b ∷ []) = not (b == 0x0A)
unended (b ∷ c ∷ input) = unended (c ∷ input)

-- lines each with its line feed
abbrev pub fed : List (List ℕ) → List ℕ
fed ls = flat_map (λ l. l ++ 0x0A ∷ []) ls

-- an input splits into lines: with their line feeds they are the input, its last line ended, and no line has one inside
pub record Splits (input : List ℕ) (ls : List (List ℕ)) : Type 0 where
  pub whole : fed ls ≡ input ++ cond (unended input) (0x0A ∷ []) []
  pub clean : AllByRecursion (AllByRecursion (λ c. c ≢ 0x0A)) ls

-- what is kept of a line: enough to see that it has more than 4,096 characters
abbrev pub kept : List ℕ → List ℕ
kept line = take 4097 line
