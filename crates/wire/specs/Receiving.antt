-- What one byte does to the receiver. Assumes nothing.
use Rattle.std.specs.Prelude.{◌≡◌, ℕ, ◌+◌, ◌*◌, Bool, true, false, cond, List, [], ◌∷◌, ◌++◌, length, take, Some, None, Ok, Err, Option, Result, ◌==◌, nat_le, nat_lt, slice_index}
use Rattle.wire.specs.declared.faults.Refusal.{Refusal}
use Rattle.wire.specs.declared.faults.Refusal.TheVariants.{FrameMemory}
use Rattle.wire.specs.declared.receiving.Phase.{Phase}
use Rattle.wire.specs.declared.receiving.Phase.TheVariants.{Hunting, PastMark, OpenDle}
use Rattle.wire.specs.Framing.{laid}

-- the phase and the bytes gathered after a step, and the body that it completed
pub record Step : Type 0 where
  pub phase : Phase
  pub gathered : List ℕ
  pub body : Option (List ℕ)

abbrev pub moves : Phase → List ℕ → Step
moves phase gathered = record { phase = phase; gathered = gathered; body = None }

-- the bytes have as many as their second asks for
abbrev pub whole : List ℕ → Bool
whole bytes = nat_le (4 + 2 * slice_index bytes 1) (length bytes)

abbrev pub completed : List ℕ → Step
completed bytes = record { phase = Hunting; gathered = []; body = Some bytes }

-- the text is these bytes now
abbrev pub gathering : List ℕ → Step
gathering bytes = cond (whole bytes) (completed bytes) (moves PastMark bytes)

abbrev pub step : Phase → List ℕ → ℕ → Step
step Hunting bytes b = cond (b == 0x90) (moves (OpenDle false) bytes) (moves Hunting bytes)
step PastMark bytes b = cond (b == 0x90) (moves (OpenDle true) bytes) (gathering (bytes ++ b ∷ []))
step (OpenDle true) bytes b = cond (b == 0x90) (gathering (bytes ++ b ∷ [])) (cond (b == 0x02) (moves PastMark []) (moves Hunting []))
step (OpenDle false) bytes b = cond (b == 0x90) (moves Hunting []) (cond (b == 0x02) (moves PastMark []) (moves Hunting []))

-- the bytes at the front of the memory after a step
abbrev pub front : Step → List ℕ
front s = elim s.body [ Some body ↦ body | None ↦ s.gathered ]

abbrev pub size : Option (List ℕ) → Option ℕ
size (Some body) = Some (length body)
size None = None

-- a receiver took the step s: what it tells, its phase and count, and its memory before and after
pub record Took (s : Step) (r : Option ℕ) (phase : Phase) (count : ℕ) (before after : List ℕ) : Type 0 where
  pub tells : r ≡ size s.body
  pub moved : phase ≡ s.phase
  pub counted : count ≡ length s.gathered
  pub laid_front : after ≡ laid (front s) before

-- all that a call tells and leaves
pub record Outcome : Type 0 where
  pub result : Result (Option ℕ) Refusal
  pub phase : Phase
  pub count : ℕ
  pub memory : List ℕ

abbrev pub outcome : Result (Option ℕ) Refusal → Phase → ℕ → List ℕ → Outcome
outcome result phase count memory = record { result = result; phase = phase; count = count; memory = memory }

-- one byte, by the phase, the count of the gathered bytes and the memory at whose front they stand: under 514 bytes of it nothing changes
abbrev pub received : Phase → ℕ → List ℕ → ℕ → Outcome
received phase count memory b =
    cond (nat_lt (length memory) 514) (outcome (Err FrameMemory) phase count memory)
    (let s : Step = step phase (take count memory) b in outcome (Ok (size s.body)) s.phase (length s.gathered) (laid (front s) memory))
