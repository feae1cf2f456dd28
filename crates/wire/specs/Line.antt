-- What stands on the cable: stuffed bytes, marks, and the body that a stretch completes. Assumes nothing.
-- A stretch is the bytes since opening or since the last silence, in the order in which they came.
use Rattle.std.specs.Prelude.{◌≡◌, ℕ, ◌+◌, ◌*◌, cond, List, [], ◌∷◌, ◌++◌, length, replicate, ◌==◌, slice_index}

-- every 0x90 doubled
abbrev pub stuff : List ℕ → List ℕ
stuff [] = []
stuff (b ∷ bytes) = cond (b == 0x90) (0x90 ∷ 0x90 ∷ stuff bytes) (b ∷ stuff bytes)

-- the last byte, or 0 if there is none
abbrev pub last : List ℕ → ℕ
last [] = 0
last (b ∷ []) = b
last (b ∷ c ∷ bytes) = last (c ∷ bytes)

-- a DLE stands open: the stretch ends in an odd run of 0x90
pub record Open (stretch : List ℕ) : Type 0 where
  pub before : List ℕ
  pub pairs : ℕ
  pub apart : last before ≡ 0x90 → ⊥
  pub run : stretch ≡ before ++ replicate (2 * pairs + 1) 0x90

-- the bytes end in a mark: a 0x02 with an odd number of 0x90 directly before it
pub record Marked (bytes : List ℕ) : Type 0 where
  pub before : List ℕ
  pub odd : Open before
  pub stx : bytes ≡ before ++ 0x02 ∷ []

-- a body has 4 bytes and two for each word that its second byte counts
abbrev pub Complete : List ℕ → Type 0
Complete body = length body ≡ 4 + 2 * slice_index body 1

-- the last byte of the stretch completes this body: it is the text after some mark, stuffed
pub record Completes (stretch body : List ℕ) : Type 0 where
  pub mark : List ℕ
  pub marked : Marked mark
  pub text : stretch ≡ mark ++ stuff body
  pub complete : Complete body

-- DLE, STX, and the stuffed body
abbrev pub framed : List ℕ → List ℕ
framed body = 0x90 ∷ 0x02 ∷ stuff body
