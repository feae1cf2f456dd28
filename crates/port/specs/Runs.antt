-- What a port holds of the calls so far, and what each call more leads to. Assumes nothing.
use Rattle.std.specs.Prelude.{◌≡◌, ℕ, ◌<◌, min, ◌⊎◌, List, [], ◌∷◌, map, length, take, Some, None, Ok, Err, Option, Result}
use Rattle.dictionary.specs.Objects.{Bytes, Objects}
use Rattle.law.specs.Calls.{Brought, refused, nothing, answered, Event, refusal}
use Rattle.law.specs.Calls as calls
use Rattle.law.specs.Lawful.{Lawful}
use Rattle.law.specs.Ports.{LedTo, event}
use Rattle.port.specs.declared.ports.OpeningRefusal.{OpeningRefusal}
use Rattle.port.specs.declared.ports.Port.{Port}
use Rattle.port.specs.declared.ports.Refusal.{Refusal}
use Rattle.port.specs.declared.ports.Reply.{Reply}
use Rattle.port.specs.declared.requests.Request.{Request}
use Rattle.port.specs.declared.requests.Request.TheVariants.{Byte, Silence}
use Rattle.port.specs.declared.requests.Step.{Step}
use Rattle.port.specs.Chains.{chain_of}
use Rattle.port.specs.Ports.{refusal_number}

-- the events led to this port over these objects, with these contents of frame memory and staging memory: the law holds of them, and the
-- port's receiver and chain are what they say
abbrev pub LedToPort : Objects → List Event → Port → Objects → Bytes → Bytes → Type 0
LedToPort d0 events p d frame staging =
    LedTo p.node d0 events p.receiver.phase (take p.receiver.gathered frame) (chain_of p.chain staging) d

-- what a byte call brought: an answer is the front of the answer memory
abbrev pub brought_by : Result (Option Reply) Refusal → Bytes → Brought
brought_by (Ok None) answer = nothing
brought_by (Ok (Some reply)) answer = answered (take reply.length answer)
brought_by (Err e) answer = refused (refusal_number e)

-- the empty run led to a newly opened port, whatever the objects and the memories
abbrev pub OpeningKeepsLaw : Result Port OpeningRefusal → Type 0
OpeningKeepsLaw (Ok p) = (d0 : Objects) (frame staging : Bytes) → LedToPort d0 [] p d0 frame staging
OpeningKeepsLaw (Err e) = Unit {0}

-- whatever events led to p, with a silence they lead to p1, whatever the memories
abbrev pub SilenceKeepsLaw : Port → Port → Type 0
SilenceKeepsLaw p p1 =
    (d0 : Objects) (events : List Event) (d : Objects) (frame staging : Bytes) → LedToPort d0 events p d frame staging
    → LedToPort d0 (event calls.silence nothing ∷ events) p1 d frame staging

-- Whatever events led to p, with this byte call they lead to p1.
pub record ByteKeepsLaw (p p1 : Port) (d d1 : Objects) (frame staging answer frame1 staging1 answer1 : Bytes) (b : ℕ) (r : Result (Option Reply) Refusal) : Type 0 where
  -- a taken call: of the contents of the memories that it is lent
  pub taken : (d0 : Objects) (events : List Event) → refusal (length frame) (length staging) (length answer) ≡ None
      → LedToPort d0 events p d frame staging
      → LedToPort d0 (event (calls.byte b (length frame) (length staging) (length answer)) (brought_by r answer1) ∷ events) p1 d1 frame1 staging1
  -- a refused call: whatever the port's own memories hold
  pub too_small : (d0 : Objects) (events : List Event) (n : ℕ) (own own-staging : Bytes) → refusal (length frame) (length staging) (length answer) ≡ Some n
      → LedToPort d0 events p d own own-staging
      → LedToPort d0 (event (calls.byte b (length frame) (length staging) (length answer)) (brought_by r answer1) ∷ events) p1 d1 own own-staging

-- Whole runs.

-- the call that a request makes where the memories have these lengths: a greater length granted means the real one
abbrev pub call_of : Request → ℕ → ℕ → ℕ → calls.Call
call_of (Byte b f m a) frame staging answer = calls.byte b (min f frame) (min m staging) (min a answer)
call_of Silence frame staging answer = calls.silence

-- whatever events led to p, with this call they lead to p1
pub record CallKeepsLaw (p p1 : Port) (d d1 : Objects) (frame frame1 staging staging1 answer1 : Bytes) (q : Request) (r : Result (Option Reply) Refusal) : Type 0 where
  pub leads : (d0 : Objects) (events : List Event) → LedToPort d0 events p d frame staging
      → LedToPort d0 (event (call_of q (length frame) (length staging) (length answer1)) (brought_by r answer1) ∷ events) p1 d1 frame1 staging1
  pub own : p1.node ≡ p.node

-- the event of a step
abbrev pub event_of : ℕ → ℕ → Step → Event
event_of frame staging s = event (call_of s.request frame staging (length s.answer)) (brought_by s.told s.answer)

pub record StepKeepsLaw (p p1 : Port) (d d1 : Objects) (frame frame1 staging staging1 : Bytes) (s s1 : Step) : Type 0 where
  pub leads : (d0 : Objects) (events : List Event) → LedToPort d0 events p d frame staging
      → LedToPort d0 (event_of (length frame) (length staging) s1 ∷ events) p1 d1 frame1 staging1
  pub own : p1.node ≡ p.node
  pub asked : s1.request ≡ s.request

-- the events of steps that were made one after the other, the newest first, before those that are there
abbrev pub events_of : ℕ → ℕ → List Step → List Event → List Event
events_of frame staging [] events = events
events_of frame staging (s ∷ steps) events = events_of frame staging steps (event_of frame staging s ∷ events)

-- a node outside 1 to 127 opens nothing and changes nothing; else the law holds of all calls that were asked for, with what each brought
abbrev pub Ran : Result Unit OpeningRefusal → ℕ → Objects → Objects → ℕ → ℕ → List Step → List Step → Type 0
Ran (Ok u) node d0 d frame staging steps steps1 =
    Lawful node d0 (events_of frame staging steps1 []) d × (map (λ (s : Step). s.request) steps1 ≡ map (λ (s : Step). s.request) steps)
Ran (Err e) node d0 d frame staging steps steps1 = ((node < 1) ⊎ (127 < node)) × (d ≡ d0) × (steps1 ≡ steps)
