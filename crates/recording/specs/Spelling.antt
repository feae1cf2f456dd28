-- How bytes are written as a line of a recording. Assumes nothing.
use Rattle.std.specs.Prelude.{ℕ, ◌/◌, ◌%◌, List, [], ◌∷◌, codes, slice_index}
use Rattle.std.specs.List.{flat_map}

abbrev pub upper_digits : List ℕ
upper_digits = codes "0123456789ABCDEF"

-- the two digits of a byte, in upper case, the high one first
abbrev pub spelled_byte : ℕ → List ℕ
spelled_byte b = slice_index upper_digits (b / 16) ∷ slice_index upper_digits (b % 16) ∷ []

-- the digits of bytes, in their order
abbrev pub spelled_bytes : List ℕ → List ℕ
spelled_bytes bytes = flat_map spelled_byte bytes
