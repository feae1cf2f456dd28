-- What the receiver holds of a stretch, and what a call tells of it. Assumes nothing.
use Rattle.std.specs.Prelude.{◌≡◌, ℕ, ◌≤◌, true, false, List, [], ◌∷◌, ◌++◌, length, take, Some, None, Ok, Err, Option, Result}
use Rattle.wire.specs.declared.faults.Refusal.{Refusal}
use Rattle.wire.specs.declared.receiving.Phase.{Phase}
use Rattle.wire.specs.declared.receiving.Phase.TheVariants.{Hunting, PastMark, OpenDle}
use Rattle.wire.specs.Line.{stuff, Open, Marked, Complete, Completes}

-- the stretch is a mark, then these bytes stuffed, and no front of them is a complete body
pub record Gathers (stretch gathered : List ℕ) : Type 0 where
  pub mark : List ℕ
  pub marked : Marked mark
  pub text : stretch ≡ mark ++ stuff gathered
  pub unfinished : (n : ℕ) → n ≤ length gathered → Complete (take n gathered) → ⊥

-- the same with one 0x90 more
abbrev pub GathersOpen : List ℕ → List ℕ → Type 0
GathersOpen stretch gathered = (s : List ℕ) × (stretch ≡ s ++ 0x90 ∷ []) × Gathers s gathered

-- a receiver that took this stretch: past a mark or at an open DLE where the stretch says so, hunting otherwise
abbrev pub Holds : List ℕ → Phase → List ℕ → Type 0
Holds stretch Hunting gathered = (gathered ≡ []) × (Open stretch → ⊥) × ((bytes : List ℕ) → Gathers stretch bytes → ⊥)
Holds stretch PastMark gathered = Gathers stretch gathered
Holds stretch (OpenDle true) gathered = GathersOpen stretch gathered
Holds stretch (OpenDle false) gathered = (gathered ≡ []) × Open stretch × ((bytes : List ℕ) → GathersOpen stretch bytes → ⊥)

-- a receiver that hunts with nothing gathered, as after opening or a silence, holds the empty stretch
abbrev pub StartsEmpty : Type 0
StartsEmpty = (memory : List ℕ) → Holds [] Hunting (take 0 memory)

-- what a call tells of the stretch that its byte ends: the body that it completes, at the front of the memory, or that there is none
abbrev pub Tells : List ℕ → Result (Option ℕ) Refusal → List ℕ → Type 0
Tells stretch (Ok (Some n)) memory = (n ≤ length memory) × Completes stretch (take n memory)
Tells stretch (Ok None) memory = (body : List ℕ) → Completes stretch body → ⊥
Tells stretch (Err e) memory = ⊥
