-- What a frame must be to be accepted, in words, for each command.
-- Assumes nothing.
use Rattle.std.specs.Prelude.{◌≡◌, ℕ, ◌+◌, ◌≤◌, true, ◌++◌, length, None}
use Rattle.dictionary.specs.Objects.{Objects, Entry, look, MayBeRead, TakesLength, Admits, IsNumber}
use Rattle.wire.specs.Frames.{Frame}
use Rattle.command.specs.Frames.{Verb, read_object, initiate_read, write_object, initiate_write, segment_read, segment_write, unknown}
use Rattle.command.specs.Frames.{verb, len, node_of, address, payload, declared, read_toggle, write_toggle, size, marked, part, room, LenFits}
use Rattle.command.specs.Checks.{OpenChain, closed, reading, writing, low_bytes, fault}

-- the entry is a number
abbrev pub OfNumber : Entry → Type 0
OfNumber e = (width : ℕ) × IsNumber e width

-- a read chain is open, and it is this toggle's turn
abbrev pub NextRead : OpenChain → ℕ → Type 0
NextRead closed toggle = ⊥
NextRead (reading v sent t) toggle = toggle ≡ t
NextRead (writing a n joined t) toggle = ⊥

-- a write chain is open, the frame is its next segment, and as the last one it brings a value that the object admits
abbrev pub NextWrite : Objects → OpenChain → Frame → Type 0
NextWrite d closed f = ⊥
NextWrite d (reading v sent t) f = ⊥
NextWrite d (writing a n joined t) f =
    (write_toggle f ≡ t) × (len f ≡ room (size f)) × (length joined + size f ≤ n)
    × (marked f ≡ true → (length joined + size f ≡ n) × Admits (look d a) (joined ++ part f))

-- what each command asks
abbrev pub Passes : Verb → ℕ → Objects → OpenChain → Frame → Type 0
Passes read_object node d c f = (len f ≡ 2) × (node_of f ≡ node) × MayBeRead (look d (address f)) × OfNumber (look d (address f))
Passes initiate_read node d c f = (len f ≡ 2) × (node_of f ≡ node) × MayBeRead (look d (address f))
Passes write_object node d c f =
    (len f ≡ 4) × (node_of f ≡ node) × OfNumber (look d (address f)) × Admits (look d (address f)) (low_bytes (look d (address f)) (payload f))
Passes initiate_write node d c f = (len f ≡ 4) × (node_of f ≡ node) × TakesLength (look d (address f)) (declared f)
Passes segment_read node d c f = (len f ≡ 1) × NextRead c (read_toggle f)
Passes segment_write node d c f = LenFits segment_write (len f) × NextWrite d c f
Passes unknown node d c f = ⊥

-- no check turns a frame away exactly where these words hold of it
abbrev pub Accepted : Type 0
Accepted =
    (node : ℕ) (d : Objects) (c : OpenChain) (f : Frame)
    → (fault node d c f ≡ None → Passes (verb f) node d c f) × (Passes (verb f) node d c f → fault node d c f ≡ None)
