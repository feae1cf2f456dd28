-- Calls on one opened port, what they brought, and what is heard in them.
-- Events are listed with the newest first; stretches and cable bytes stand in the order of the cable. Assumes nothing.
use Rattle.std.specs.Prelude.{◌≡◌, ℕ, ◌+◌, ◌*◌, cond, List, [], ◌∷◌, ◌++◌, Some, None, Option, nat_lt, slice_index}
use Rattle.wire.specs.Line.{Completes, framed}
use Rattle.wire.specs.Framing.{body_of}
use Rattle.wire.specs.Frames.{Frame, Heard, Damaged}
use Rattle.dictionary.specs.Objects.{Bytes}

-- a byte, with the lengths of the frame memory, the staging memory and the answer memory that the call is lent; or a silence
pub data Call : Type 0 where
  byte : ℕ → ℕ → ℕ → ℕ → Call
  silence : Call

-- the call was refused by a number; or it brought nothing; or these bytes on the cable
pub data Brought : Type 0 where
  refused : ℕ → Brought
  nothing : Brought
  answered : Bytes → Brought

-- a call with what it brought
pub record Event : Type 0 where
  pub call : Call
  pub brought : Brought

-- the calls alone
abbrev pub calls : List Event → List Call
calls [] = []
calls (e ∷ events) = e.call ∷ calls events

-- frame memory under 514 bytes: 2; staging under 4,096: 3; answer memory under 538: 4; the first to apply counts
abbrev pub refusal : ℕ → ℕ → ℕ → Option ℕ
refusal frame staging answer = cond (nat_lt frame 514) (Some 2) (cond (nat_lt staging 4096) (Some 3) (cond (nat_lt answer 538) (Some 4) None))

-- the call is a byte whose memories are too small, by this number
abbrev pub TooSmall : Call → ℕ → Type 0
TooSmall (byte b frame staging answer) n = refusal frame staging answer ≡ Some n
TooSmall silence n = ⊥

-- the call is a byte that is taken
abbrev pub Taken : Call → Type 0
Taken (byte b frame staging answer) = refusal frame staging answer ≡ None
Taken silence = ⊥

-- a taken byte lengthens the stretch, a refused one leaves it
abbrev pub with_byte : Option ℕ → ℕ → Bytes → Bytes
with_byte None b s = s ++ b ∷ []
with_byte (Some n) b s = s

-- the stretch after a call
abbrev pub after_call : Call → Bytes → Bytes
after_call (byte b frame staging answer) s = with_byte (refusal frame staging answer) b s
after_call silence s = []

-- the bytes taken since opening or since the last silence
abbrev pub stretch : List Event → Bytes
stretch [] = []
stretch (e ∷ events) = after_call e.call (stretch events)

-- the call e, after these events, completes a body
abbrev pub CompletesAt : List Event → Event → Bytes → Type 0
CompletesAt before e body = Taken e.call × Completes (stretch (e ∷ before)) body

-- with it this frame is heard
abbrev pub HeardAt : List Event → Event → Frame → Type 0
HeardAt before e f = Taken e.call × Heard (stretch (e ∷ before)) f.opcode f.content

-- it completes a body whose checksum does not fit
abbrev pub DamagedAt : List Event → Event → Type 0
DamagedAt before e = Taken e.call × Damaged (stretch (e ∷ before))

-- the cable bytes of an answer: the written frame of OpCode 00 and these data
abbrev pub answer_frame : Bytes → Bytes
answer_frame data_back = framed (body_of 0x00 data_back)

-- the code that an answer's data begin with, low byte first
abbrev pub code_in : Bytes → ℕ
code_in data_back = slice_index data_back 0 + 256 * (slice_index data_back 1 + 256 * (slice_index data_back 2 + 256 * slice_index data_back 3))

-- the code of a body whose checksum does not fit
abbrev pub damaged_code : ℕ
damaged_code = 0x05040004

-- a heard frame and the data of its answer
pub record Exchange : Type 0 where
  pub heard : Frame
  pub data_back : Bytes

-- the heard frames of a list of exchanges, both with the newest first
abbrev pub frames : List Exchange → List Frame
frames [] = []
frames (x ∷ exchanges) = x.heard ∷ frames exchanges

-- the exchanges are those of the frames heard in these events, each with the data of the answer that its call brought
pub data Exchanged : List Event → List Exchange → Type 0 where
  none_yet : Exchanged [] []
  frame_heard : {e : Event} {events : List Event} {exchanges : List Exchange} (f : Frame) (data_back : Bytes) → HeardAt events e f
      → e.brought ≡ answered (answer_frame data_back) → Exchanged events exchanges
      → Exchanged (e ∷ events) (record { heard = f; data_back = data_back } ∷ exchanges)
  no_frame : {e : Event} {events : List Event} {exchanges : List Exchange} → ((f : Frame) → HeardAt events e f → ⊥) → Exchanged events exchanges
      → Exchanged (e ∷ events) exchanges
