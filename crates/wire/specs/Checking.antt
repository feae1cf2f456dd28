-- What the check of a body says. Assumes nothing.
use Rattle.std.specs.Prelude.{◌≡◌, ℕ, ◌-◌, ◌%◌, Bool, true, false, cond, ◌&&◌, List, [], ◌∷◌, length, take, drop, Ok, Err, Result, ◌==◌, ◌≢◌, slice_index}
use Rattle.wire.specs.declared.checked.Frame as code
use Rattle.wire.specs.declared.faults.Fault.{Fault}
use Rattle.wire.specs.declared.faults.Fault.TheVariants.{Checksum}
use Rattle.wire.specs.Checksum.{checksum_of}
use Rattle.wire.specs.Frames.{Frame, Even, body}
use Rattle.wire.specs.Framing.{body_of}

-- no frame has these bytes as its body
abbrev pub OfNoFrame : List ℕ → Type 0
OfNoFrame bytes = (f : Frame) → Even f.content → bytes ≢ body f

-- the frame whose body these bytes are, or that there is none
abbrev pub Checks : List ℕ → Result code.Frame Fault → Type 0
Checks bytes (Ok f) = (bytes ≡ body_of f.opcode f.«data».now) × Even f.«data».now
Checks bytes (Err e) = (e ≡ Checksum) × OfNoFrame bytes

-- bytes taken apart: they are a frame exactly where the checksum of the summed ones is the sum
pub record Split (bytes : List ℕ) (opcode : ℕ) (content summed : List ℕ) (sum : ℕ) : Type 0 where
  pub fitting : checksum_of summed ≡ sum → (bytes ≡ body_of opcode content) × Even content
  pub unfit : (checksum_of summed ≢ sum) → OfNoFrame bytes

-- the result by its values
abbrev pub shown : Result code.Frame Fault → Result Frame Fault
shown (Ok f) = Ok (record { opcode = f.opcode; content = f.«data».now })
shown (Err e) = Err e

-- the same by computation: the bytes are the body of the OpCode and the data that stand in them

abbrev pub frame_in : List ℕ → Frame
frame_in bytes = record { opcode = slice_index bytes 0; content = take (length bytes - 4) (drop 2 bytes) }

abbrev pub same_bytes : List ℕ → List ℕ → Bool
same_bytes [] [] = true
same_bytes [] (y ∷ ys) = false
same_bytes (x ∷ xs) [] = false
same_bytes (x ∷ xs) (y ∷ ys) = x == y && same_bytes xs ys

unfoldable pub fits : List ℕ → Bool
fits bytes = length bytes % 2 == 0 && same_bytes bytes (body (frame_in bytes))

abbrev pub checked_frame : List ℕ → Result Frame Fault
checked_frame bytes = cond (fits bytes) (Ok (frame_in bytes)) (Err Checksum)

-- both say the same
abbrev pub Computed : Type 0
Computed = (bytes : List ℕ) (r : Result code.Frame Fault) → Checks bytes r → shown r ≡ checked_frame bytes
