-- A call on the front of each memory is a call of the run.
use Rattle.std.proofs.Common.{◌≡◌, ℕ, ◌-◌, ◌≤◌, min, List, ◌∷◌, ◌++◌, length, take, drop, Some, None, Ok, Err, Option, Result, sym, refl, ap, ◌∙◌, subst, inl, inr, arith, length-append, length-drop, take-append-drop}
use lib.Seq.{take-append-le}
use Rattle.std.proofs.lemmas.List.{length-take-le}
use Rattle.std.proofs.lemmas.Bool.{ltb-false}
use Rattle.wire.specs.Checking.{checked_frame}
use Rattle.wire.specs.Receiving.{Step, step}
use Rattle.dictionary.specs.Objects.{Bytes, Objects}
use Rattle.law.specs.Calls.{Brought, answered, Event, answer_frame}
use Rattle.law.specs.Calls as calls
use Rattle.law.specs.Ports.{event}
use Rattle.port.specs.declared.ports.Port.{Port}
use Rattle.port.specs.declared.ports.Refusal.{Refusal}
use Rattle.port.specs.declared.ports.Reply.{Reply}
use Rattle.port.specs.declared.requests.Request.{Request}
use Rattle.port.specs.declared.requests.Request.TheVariants.{Byte, Silence}
use Rattle.port.specs.Ports.{answer_of, Board, board, Called, call_result, received, served, byte_of}
use Rattle.port.specs.Runs.{LedToPort, brought_by, ByteKeepsLaw, SilenceKeepsLaw, CallKeepsLaw}
use Rattle.port.specs.Serving.{body_done}
use Rattle.port.specs.Chains.{chain_of}
use Rattle.port.proofs.Widening.{chain_front}
use Rattle.port.proofs.Keeping.{which, short_call, enough_call, short_refusal, enough_refusal}

-- a port over memories holds what it holds over their fronts
module _ (p : Port) (d0 : Objects) (events : List Event) (d : Objects) (f fr m mr : Bytes) (hf : 514 ≤ length f) (hm : 4096 ≤ length m) where
  gathered_front : take p.receiver.gathered (f ++ fr) ≡ take p.receiver.gathered f
  gathered_front = take-append-le p.receiver.gathered f fr (omega (arith, p.receiver.few))

  held_front : chain_of p.chain (m ++ mr) ≡ chain_of p.chain m
  held_front = chain_front p.chain m mr hm

  front_led : LedToPort d0 events p d (f ++ fr) (m ++ mr) → LedToPort d0 events p d f m
  front_led led = rw (gathered_front, held_front) at led

  whole_led : LedToPort d0 events p d f m → LedToPort d0 events p d (f ++ fr) (m ++ mr)
  whole_led led = rw (gathered_front, held_front) led

-- an answer lies within its memory
served_within : (node : ℕ) (b : Board) (o : Option Bytes) (y : Reply) → (served node b o).result ≡ Ok (Some y) → y.length ≤ length (served node b o).after.answer
served_within node b None y e = cc
served_within node b (Some body) y e =
    let a = answer_of (body_done node b.objects b.chain b.staging (checked_frame body)).answer in
    let same : _ ≡ y = at _ y e in
    let long : length (answer_frame a) ≡ y.length = ap (λ (w : Reply). w.length) same in
    omega (arith, long, length-append (answer_frame a) (drop (length (answer_frame a)) b.answer))
  where
    at : (u w : Reply) → ◌≡◌ {A = Result (Option Reply) Refusal} (Ok (Some u)) (Ok (Some w)) → u ≡ w
    at u w e = cc

-- a call on the first f, m and a bytes of the memories, as a request granted them
module _ (p p1 : Port) (d d1 : Objects) (frame staging answer : Bytes) (f m a gf gm ga : ℕ) (ef : f ≡ min gf (length frame)) (em : m ≡ min gm (length staging)) (ea : a ≡ min ga (length answer))
    (f1 m1 a1 : Bytes) (x : ℕ) (r : Result (Option Reply) Refusal)
    (lawful : ByteKeepsLaw p p1 d d1 (take (f - 0) frame) (take (m - 0) staging) (take (a - 0) answer) f1 m1 a1 x r)
    (steps : call_result r (board p1 d1 f1 m1 a1) ≡ byte_of p.node (board p d (take (f - 0) frame) (take (m - 0) staging) (take (a - 0) answer)) x)
    (lf : length f1 ≡ length (take (f - 0) frame)) (lm : length m1 ≡ length (take (m - 0) staging)) (la : length a1 ≡ length (take (a - 0) answer)) where
  abbrev b : Board
  b = board p d (take (f - 0) frame) (take (m - 0) staging) (take (a - 0) answer)

  abbrev this : Brought → Event
  this y = event (calls.byte x (length (take (f - 0) frame)) (length (take (m - 0) staging)) (length (take (a - 0) answer))) y

  granted_length : (n g : ℕ) (w : Bytes) → n ≡ min g (length w) → min g (length w) ≡ length (take (n - 0) w)
  granted_length n g w e = omega (arith, length-take-le (n - 0) w (omega arith))

  within : (y : Reply) → r ≡ Ok (Some y) → y.length ≤ length a1
  within y e =
      elim (which (length b.frame) (length b.staging) (length b.answer)) [
        | inl enough ↦
            let same = steps ∙ enough_call p.node b x enough in
            let s : Step = step b.phase (take b.count b.frame) x in
            let result = sym (ap (λ (k : Called). k.result) same) ∙ e in
            subst (λ (k : Called). y.length ≤ length k.after.answer) (sym same) (served_within p.node (received b s) s.body y result)
        | inr w ↦
            let same = steps ∙ short_call p.node b x (Some w.0) w.1 w.2 in
            let result : ◌≡◌ {A = Result (Option Reply) Refusal} (Err w.1) (Ok (Some y)) = sym (ap (λ (k : Called). k.result) same) ∙ e in
            cc
      ]

  brought_whole : (q : Result (Option Reply) Refusal) → r ≡ q → (rest : Bytes) → brought_by q (a1 ++ rest) ≡ brought_by q a1
  brought_whole (Err e) z rest = refl
  brought_whole (Ok None) z rest = refl
  brought_whole (Ok (Some y)) z rest = ap answered (take-append-le y.length a1 rest (within y z))

  leads : (d0 : Objects) (events : List Event) → LedToPort d0 events p d frame staging
      → LedToPort d0 (this (brought_by r a1) ∷ events) p1 d1 (f1 ++ drop (f - 0) frame) (m1 ++ drop (m - 0) staging)
  leads d0 events led =
      elim (which (length b.frame) (length b.staging) (length b.answer)) [
        | inl enough ↦
            let long : 514 ≤ length (take (f - 0) frame) = ltb-false _ _ enough.frame in
            let deep : 4096 ≤ length (take (m - 0) staging) = ltb-false _ _ enough.staging in
            let whole : LedToPort d0 events p d (take (f - 0) frame ++ drop (f - 0) frame) (take (m - 0) staging ++ drop (m - 0) staging)
            = rw (take-append-drop (f - 0) frame, take-append-drop (m - 0) staging) led in
            whole_led p1 d0 (this (brought_by r a1) ∷ events) d1 f1 (drop (f - 0) frame) m1 (drop (m - 0) staging) (omega (arith, lf, long)) (omega (arith, lm, deep))
            (lawful.taken d0 events (enough_refusal _ _ _ enough)
            (front_led p d0 events d (take (f - 0) frame) (drop (f - 0) frame) (take (m - 0) staging) (drop (m - 0) staging) long deep whole))
        | inr w ↦
            let same = steps ∙ short_call p.node b x (Some w.0) w.1 w.2 in
            let ef : f1 ≡ take (f - 0) frame = ap (λ (k : Called). k.after.frame) same in
            let em : m1 ≡ take (m - 0) staging = ap (λ (k : Called). k.after.staging) same in
            rw (ef, em, take-append-drop (f - 0) frame, take-append-drop (m - 0) staging)
            (lawful.too_small d0 events w.0 frame staging (short_refusal _ _ _ _ _ w.2).0 led)
      ]

  pub granted : (q : Request) → q ≡ Byte x gf gm ga → p1.node ≡ p.node
      → CallKeepsLaw p p1 d d1 frame (f1 ++ drop (f - 0) frame) staging (m1 ++ drop (m - 0) staging) (a1 ++ drop (a - 0) answer) q r
  granted q e own =
      let full : length (a1 ++ drop (a - 0) answer) ≡ length answer = omega (arith, la, length-append a1 (drop (a - 0) answer), length-drop (a - 0) answer, length-take-le (a - 0) answer (omega arith)) in
      record {
        leads = λ d0 events led.
            rw (e, full, granted_length f gf frame ef, granted_length m gm staging em, granted_length a ga answer ea, brought_whole r refl (drop (a - 0) answer)) (leads d0 events led);
        own = own;
      }

pub silence_request : (p p1 : Port) (frame staging answer : Bytes) (q : Request) → q ≡ Silence → p1.node ≡ p.node → SilenceKeepsLaw p p1
    → (d : Objects) → CallKeepsLaw p p1 d d frame frame staging staging answer q (Ok None)
silence_request p p1 frame staging answer q e own h d = record { leads = λ d0 events led. rw e (h d0 events d frame staging led); own = own }
