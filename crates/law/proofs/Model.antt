-- A model port: its runs are lawful, so every list of calls has a lawful run.
use Rattle.std.proofs.Common.{◌≡◌, ℕ, List, [], ◌∷◌, Some, None, Option, refl, ap, ◌∙◌}
use Rattle.wire.specs.declared.receiving.Phase.{Phase}
use Rattle.wire.specs.declared.receiving.Phase.TheVariants.{Hunting}
use Rattle.wire.specs.Receiving.{Step, step}
use Rattle.dictionary.specs.Objects.{Bytes, Objects}
use Rattle.command.specs.Checks.{OpenChain, closed}
use Rattle.law.specs.Calls.{Call, byte, silence, refused, nothing, Event, calls, refusal}
use Rattle.law.specs.Lawful.{Satisfiable}
use Rattle.law.specs.Ports.{LedTo, Served, served, event, MovesOn}
use Rattle.law.proofs.Ports.{law_over_runs}

-- a port with its objects, and its events, the newest first
pub record Run : Type 0 where
  pub phase : Phase
  pub gathered : Bytes
  pub chain : OpenChain
  pub objects : Objects
  pub events : List Event

abbrev opened : Objects → Run
opened d0 = record { phase = Hunting; gathered = []; chain = closed; objects = d0; events = [] }

abbrev with_step : Run → Call → Step → Served → Run
with_step r c s x = record { phase = s.phase; gathered = s.gathered; chain = x.chain; objects = x.objects; events = event c x.brought ∷ r.events }

abbrev with_byte : ℕ → Run → Call → ℕ → Option ℕ → Run
with_byte node r c b (Some n) = record { phase = r.phase; gathered = r.gathered; chain = r.chain; objects = r.objects; events = event c (refused n) ∷ r.events }
with_byte node r c b None = let s : Step = step r.phase r.gathered b in with_step r c s (served node r.chain r.objects s.body)

abbrev with_call : ℕ → Run → Call → Run
with_call node r (byte b frame staging answer) = with_byte node r (byte b frame staging answer) b (refusal frame staging answer)
with_call node r silence = record { phase = Hunting; gathered = []; chain = r.chain; objects = r.objects; events = event silence nothing ∷ r.events }

-- the calls made from opening with d0, the newest first
unfoldable pub run : ℕ → Objects → List Call → Run
run node d0 [] = opened d0
run node d0 (c ∷ made) = with_call node (run node d0 made) c

abbrev pub Led : ℕ → Objects → Run → Type 0
Led node d0 r = LedTo node d0 r.events r.phase r.gathered r.chain r.objects

moves : (node : ℕ) (d0 : Objects) (r : Run) → Led node d0 r → MovesOn node d0 r.events r.phase r.gathered r.chain r.objects
moves node d0 r l = law_over_runs.every_call node d0 r.events r.phase r.gathered r.chain r.objects l

led_byte : (node : ℕ) (d0 : Objects) (r : Run) (b frame staging answer : ℕ) (o : Option ℕ) → refusal frame staging answer ≡ o → Led node d0 r
    → Led node d0 (with_byte node r (byte b frame staging answer) b o)
led_byte node d0 r b fr st an (Some n) e l = (moves node d0 r l).refused_byte b fr st an n e
led_byte node d0 r b fr st an None e l = (moves node d0 r l).taken_byte b fr st an e

led_call : (node : ℕ) (d0 : Objects) (r : Run) (c : Call) → Led node d0 r → Led node d0 (with_call node r c)
led_call node d0 r (byte b fr st an) l = led_byte node d0 r b fr st an (refusal fr st an) refl l
led_call node d0 r silence l = (moves node d0 r l).silence_call

pub run_led : (node : ℕ) (d0 : Objects) (made : List Call) → Led node d0 (run node d0 made)
unfolding run
run_led node d0 [] = law_over_runs.opening node d0
run_led node d0 (c ∷ made) = led_call node d0 (run node d0 made) c (run_led node d0 made)

calls_byte : (node : ℕ) (r : Run) (c : Call) (b : ℕ) (o : Option ℕ) → calls (with_byte node r c b o).events ≡ c ∷ calls r.events
calls_byte node r c b (Some n) = refl
calls_byte node r c b None = refl

calls_call : (node : ℕ) (r : Run) (c : Call) → calls (with_call node r c).events ≡ c ∷ calls r.events
calls_call node r (byte b fr st an) = calls_byte node r (byte b fr st an) b (refusal fr st an)
calls_call node r silence = refl

pub run_calls : (node : ℕ) (d0 : Objects) (made : List Call) → calls (run node d0 made).events ≡ made
unfolding run
run_calls node d0 [] = refl
run_calls node d0 (c ∷ made) = calls_call node (run node d0 made) c ∙ ap (λ l. c ∷ l) (run_calls node d0 made)

pub satisfiable : Satisfiable
satisfiable node d0 made = ((run node d0 made).events, (run node d0 made).objects, run_calls node d0 made, (run_led node d0 made).lawful)
