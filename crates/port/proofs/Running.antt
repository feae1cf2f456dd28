-- A run keeps the law call by call.
use Rattle.std.proofs.Common.{◌≡◌, ℕ, ◌+◌, ◌<◌, List, [], ◌∷◌, ◌++◌, map, length, get_or, take, set, sym, refl, ap, ◌∙◌, subst}
use Rattle.std.proofs.lemmas.List.{take_more_set, map-set, set-get_or}
use Rattle.dictionary.specs.Objects.{Bytes, Objects}
use Rattle.law.specs.Calls.{Event}
use Rattle.port.specs.declared.ports.Port.{Port}
use Rattle.port.specs.declared.requests.Request.{Request}
use Rattle.port.specs.declared.requests.Step.{Step}
use Rattle.port.specs.Runs.{LedToPort, StepKeepsLaw, event_of, events_of}

abbrev requests : List Step → List Request
requests steps = map (λ (s : Step). s.request) steps

-- what a run has come to after so many of its steps
pub record SoFar (d0 d : Objects) (f m : ℕ) (steps0 steps : List Step) (i node : ℕ) (p : Port) (frame staging : Bytes) : Type 0 where
  pub led : LedToPort d0 (events_of f m (take i steps) []) p d frame staging
  pub own : p.node ≡ node
  pub asked : map (λ (s : Step). s.request) steps ≡ map (λ (s : Step). s.request) steps0

events_push : (f m : ℕ) (xs : List Step) (x : Step) (events : List Event) → events_of f m (xs ++ x ∷ []) events ≡ event_of f m x ∷ events_of f m xs events
events_push f m [] x events = refl
events_push f m (y ∷ xs) x events = events_push f m xs x (event_of f m y ∷ events)

asked_same : (steps : List Step) (i : ℕ) (s1 dflt : Step) → s1.request ≡ (get_or steps i dflt).request → requests (set steps i s1) ≡ requests steps
asked_same steps i s1 dflt e =
    map-set (λ (s : Step). s.request) steps i s1 ∙ ap (set (requests steps) i) e
    ∙ sym (map-set (λ (s : Step). s.request) steps i (get_or steps i dflt)) ∙ ap requests (set-get_or steps i dflt)

pub continues : (d0 d d1 : Objects) (f m : ℕ) (steps0 steps : List Step) (i node : ℕ) (p p1 : Port) (frame frame1 staging staging1 : Bytes) (dflt s1 : Step)
    → i < length steps → length frame ≡ f → length staging ≡ m → StepKeepsLaw p p1 d d1 frame frame1 staging staging1 (get_or steps i dflt) s1
    → SoFar d0 d f m steps0 steps i node p frame staging → SoFar d0 d1 f m steps0 (set steps i s1) (i + 1) node p1 frame1 staging1
continues d0 d d1 f m steps0 steps i node p p1 frame frame1 staging staging1 dflt s1 h lf lm c s =
    let events : events_of f m (take (i + 1) (set steps i s1)) [] ≡ event_of f m s1 ∷ events_of f m (take i steps) []
    = ap (λ l. events_of f m l []) (take_more_set steps i s1 h) ∙ events_push f m (take i steps) s1 [] in
    let this : event_of (length frame) (length staging) s1 ≡ event_of f m s1 = λ j. event_of (lf j) (lm j) s1 in
    record {
      led = subst (λ es. LedToPort d0 es p1 d1 frame1 staging1) (ap (λ e. e ∷ events_of f m (take i steps) []) this ∙ sym events) (c.leads d0 (events_of f m (take i steps) []) s.led);
      own = c.own ∙ s.own;
      asked = asked_same steps i s1 dflt c.asked ∙ s.asked;
    }
