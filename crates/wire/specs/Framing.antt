-- How a frame is written. Assumes nothing.
use Rattle.std.specs.Prelude.{◌≡◌, ℕ, ◌/◌, ◌%◌, Bool, cond, not, ◌||◌, List, [], ◌∷◌, ◌++◌, length, take, drop, Ok, Err, Result, ◌==◌, nat_lt}
use Rattle.wire.specs.declared.faults.Refusal.{Refusal}
use Rattle.wire.specs.declared.faults.Refusal.TheVariants.{WriteMemory, DataLength}
use Rattle.wire.specs.Checksum.{checksum_of}
use Rattle.wire.specs.Line.{framed}

-- a number of 16 bits, low byte first
abbrev pub low_high : ℕ → List ℕ
low_high n = n % 256 ∷ n / 256 % 256 ∷ []

-- OpCode, Len (the number of 16-bit words), the data
abbrev pub header : ℕ → List ℕ → List ℕ
header opcode content = opcode ∷ length content / 2 ∷ content

-- the body of a frame: OpCode, Len, data and the fitting checksum, low byte first
abbrev pub body_of : ℕ → List ℕ → List ℕ
body_of opcode content = header opcode content ++ low_high (checksum_of (header opcode content))

-- these bytes over the front of a memory, the rest of which stays
abbrev pub laid : List ℕ → List ℕ → List ℕ
laid bytes memory = bytes ++ drop (length bytes) memory

-- the data are no whole words, or over 255 of them
abbrev pub misfit : List ℕ → Bool
misfit content = not (length content % 2 == 0) || nat_lt 510 (length content)

-- what a call that writes gives, and leaves in its memory
pub record Writing : Type 0 where
  pub result : Result ℕ Refusal
  pub memory : List ℕ

abbrev pub unwritten : Refusal → List ℕ → Writing
unwritten refusal memory = record { result = Err refusal; memory = memory }

abbrev pub written_over : List ℕ → List ℕ → Writing
written_over bytes memory = record { result = Ok (length bytes); memory = laid bytes memory }

-- a frame laid over the front of a memory in which it fits
abbrev pub laying : ℕ → List ℕ → List ℕ → Writing
laying opcode content memory =
    cond (misfit content) (unwritten DataLength memory)
    (cond (nat_lt (length memory) (length (framed (body_of opcode content)))) (unwritten WriteMemory memory)
    (written_over (framed (body_of opcode content)) memory))

-- a frame written to a memory that has room for the longest one, 1,030 bytes
abbrev pub writing : ℕ → List ℕ → List ℕ → Writing
writing opcode content memory =
    cond (misfit content) (unwritten DataLength memory)
    (cond (nat_lt (length memory) 1030) (unwritten WriteMemory memory)
    (written_over (framed (body_of opcode content)) memory))

-- the call was taken, and what it wrote are the last bytes of the stretch
abbrev pub Rewrites : List ℕ → Result ℕ Refusal → List ℕ → Type 0
Rewrites stretch result memory = (before : List ℕ) × (n : ℕ) × (result ≡ Ok n) × (stretch ≡ before ++ take n memory)
