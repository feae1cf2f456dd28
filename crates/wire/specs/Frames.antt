-- Frames on the cable: what a stretch hears, and where it ends in a damaged body. Assumes nothing.
use Rattle.std.specs.Prelude.{◌≡◌, ℕ, ◌%◌, ◌<◌, List, [], ◌++◌, length, ◌≢◌, slice_index}
use Rattle.std.specs.List.{flat_map}
use Rattle.wire.specs.Framing.{body_of}
use Rattle.wire.specs.Line.{Open, Completes, framed}

-- a frame by its values
pub record Frame : Type 0 where
  pub opcode : ℕ
  pub content : List ℕ

-- data are whole 16-bit words
abbrev pub Even : List ℕ → Type 0
Even content = length content % 2 ≡ 0

-- each number is a byte
abbrev pub Bytes : List ℕ → Type 0
Bytes bytes = (i : ℕ) → slice_index bytes i < 256

-- the body of a frame, and its bytes on the cable
abbrev pub body : Frame → List ℕ
body f = body_of f.opcode f.content

abbrev pub written : Frame → List ℕ
written f = framed (body f)

-- the last byte of the stretch completes the body of this OpCode and data, with a fitting checksum
abbrev pub Heard : List ℕ → ℕ → List ℕ → Type 0
Heard stretch op content = Completes stretch (body_of op content) × Even content

-- the last byte of the stretch completes a body that is that of no OpCode and data: its checksum does not fit
abbrev pub Damaged : List ℕ → Type 0
Damaged stretch = (bytes : List ℕ) × Completes stretch bytes × ((op : ℕ) (content : List ℕ) → bytes ≢ body_of op content)

-- a stretch completes one body at most
abbrev pub OneBody : Type 0
OneBody = (stretch one other : List ℕ) → Completes stretch one → Completes stretch other → one ≡ other

-- it hears one frame at most
abbrev pub OneFrame : Type 0
OneFrame =
    (stretch : List ℕ) (op op' : ℕ) (content content' : List ℕ) → Heard stretch op content → Heard stretch op' content' → (op ≡ op') × (content ≡ content')

-- a completed body is heard or damaged, and not both
pub record HeardOrDamaged (stretch : List ℕ) : Type 0 where
  pub one : (bytes : List ℕ) → Completes stretch bytes → (Damaged stretch → ⊥) → (f : Frame) × Heard stretch f.opcode f.content
  pub not_both : (op : ℕ) (content : List ℕ) → Heard stretch op content → Damaged stretch → ⊥

-- a written frame reads back as the same OpCode and data
abbrev pub ReadsBack : Type 0
ReadsBack = (s : List ℕ) (op : ℕ) (content : List ℕ) → (Open s → ⊥) → Even content → Heard (s ++ framed (body_of op content)) op content

-- the bytes that carried a heard frame, from its mark's DLE on, are its written frame
abbrev pub Carried : Type 0
Carried = (s : List ℕ) (op : ℕ) (content : List ℕ) → Heard s op content → (before : List ℕ) × (s ≡ before ++ framed (body_of op content))

-- whole frames that come next with nothing between are heard, each at its last byte: all but the first always, the first unless a DLE stood open
abbrev pub NextFrames : List ℕ → Type 0
NextFrames stretch =
    (s : List ℕ) (earlier : List Frame) (f : Frame) → Even f.content → stretch ≡ s ++ (flat_map written earlier ++ written f)
    → (earlier ≡ [] → Open s → ⊥) → Heard stretch f.opcode f.content

-- the first one after an open DLE is lost
abbrev pub FirstLost : List ℕ → Type 0
FirstLost stretch = (s : List ℕ) (f : Frame) → stretch ≡ s ++ written f → Open s → Heard stretch f.opcode f.content → ⊥

pub record FrameLaws : Type 0 where
  pub one_body : OneBody
  pub one_frame : OneFrame
  pub heard_or_damaged : (stretch : List ℕ) → HeardOrDamaged stretch
  pub reads_back : ReadsBack
  pub carried : Carried
  pub next_frames : (stretch : List ℕ) → NextFrames stretch
  pub first_lost : (stretch : List ℕ) → FirstLost stretch
