-- Every call keeps the law: the receiver reports a body exactly where the stretch completes one, and a heard frame keeps the law of exchanges.
use Rattle.std.proofs.Common.{◌≡◌, ℕ, ◌/◌, Bool, true, false, cond, List, [], ◌∷◌, ◌++◌, length, get_or, take, drop, Some, None, Ok, Err, Option, sym, refl, ap, ◌∙◌, subst, arith}
use Rattle.std.proofs.lemmas.List.{take_at}
use Rattle.wire.specs.declared.faults.Fault.TheVariants.{Checksum}
use Rattle.wire.specs.declared.receiving.Phase.{Phase}
use Rattle.wire.specs.declared.receiving.Phase.TheVariants.{Hunting}
use Rattle.wire.specs.Checking.{frame_in, fits, OfNoFrame}
use Rattle.wire.specs.Framing.{body_of, laid}
use Rattle.wire.specs.Frames.{Frame, body, Heard, Damaged}
use Rattle.wire.specs.Holding.{Holds}
use Rattle.wire.specs.Line.{Completes}
use Rattle.wire.specs.Receiving.{Step, moves, step, front}
use Rattle.wire.proofs.Frames.{frame_laws_lem, body_length, fits_heard, fits_damaged, heard_or_damaged}
use Rattle.wire.proofs.Hearing as hearing
use Rattle.wire.proofs.Holding.{fold_holds, holds_fold}
use Rattle.wire.proofs.Steps.{after}
use Rattle.dictionary.specs.Objects.{Bytes, Objects}
use Rattle.command.specs.Answers.{four}
use Rattle.command.specs.Checks.{OpenChain}
use Rattle.command.specs.Commands.{Outcome, carry}
use Rattle.law.specs.Calls.{Call, byte, silence, Brought, refused, nothing, answered, Event, refusal, Taken, with_byte, stretch, answer_frame, code_in, damaged_code}
use Rattle.law.specs.Calls.{Exchange, Exchanged, none_yet, frame_heard, no_frame}
use Rattle.law.specs.Lawful.{Refusals, Reception}
use Rattle.law.specs.Ports.{LedTo, Served, judged, served, event, MovesOn, LawOverRuns}
use Rattle.law.proofs.AnswerFrames.{answer_is, carried_code}
use Rattle.law.proofs.Exchanges as exchanging
use Rattle.law.proofs.Exchanges.{ExchangesLaw}

-- what a call brings is one of three

pub refused_answered : {P : Type 0} (n : ℕ) (x : Bytes) → refused n ≡ answered x → P
refused_answered n x e = cc

pub nothing_refused : {P : Type 0} (n : ℕ) → nothing ≡ refused n → P
nothing_refused n e = cc

pub nothing_answered : {P : Type 0} (x : Bytes) → nothing ≡ answered x → P
nothing_answered x e = cc

pub answered_is : (x y : Bytes) → answered x ≡ answered y → x ≡ y
answered_is x y e = cc

refused_is : (m n : ℕ) → refused m ≡ refused n → m ≡ n
refused_is m n e = cc

pub none_some : {X P : Type 0} (x : X) → None ≡ Some x → P
none_some x e = cc

some_is : {X : Type 0} (x y : X) → Some x ≡ Some y → x ≡ y
some_is x y e = cc

-- a completed body that is that of no frame with whole words is damaged
damaged_of : (stretch bytes : Bytes) → Completes stretch bytes → OfNoFrame bytes → Damaged stretch
damaged_of stretch bytes c none = (
  bytes,
  c,
  λ op content p. none (record { opcode = op; content = content })
      (let l = body_length op content in let k : length bytes ≡ length (body_of op content) = ap length p in
      let n : get_or bytes 1 0 ≡ length content / 2 = ap (λ x. get_or x 1 0) p in omega (arith, l, k, n, c.complete)) p,
)

-- bytes laid over the front of a memory are its front
pub front_is : (bytes memory : Bytes) → take (length bytes) (laid bytes memory) ≡ bytes
front_is bytes memory = take_at bytes (drop (length bytes) memory) (length bytes) refl

module _ (node : ℕ) (d0 : Objects) (events : List Event) (phase : Phase) (gathered : Bytes) (chain : OpenChain) (d : Objects)
    (led : LedTo node d0 events phase gathered chain d) where
  abbrev exchanges : List Exchange
  exchanges = led.lawful.exchanges

  law_now : ExchangesLaw node d0 exchanges d chain
  law_now = record { objects = led.lawful.objects; chain = led.chain_open; answers = led.lawful.answers; read_chains = led.lawful.read_chains }

  extended : (e : Event) (phase' : Phase) (gathered' : Bytes) (chain' : OpenChain) (d' : Objects) (exchanges' : List Exchange)
      → Refusals e → Reception events e → Exchanged (e ∷ events) exchanges' → ExchangesLaw node d0 exchanges' d' chain'
      → Holds (stretch (e ∷ events)) phase' gathered' → LedTo node d0 (e ∷ events) phase' gathered' chain' d'
  extended e phase' gathered' chain' d' exchanges' r t h l q =
      record {
        lawful = record {
          refusals = (r, led.lawful.refusals);
          reception = (t, led.lawful.reception);
          exchanges = exchanges';
          heard = h;
          objects = l.objects;
          answers = l.answers;
          read_chains = l.read_chains;
          next_frames = ((λ _. frame_laws_lem.next_frames (stretch (e ∷ events))), led.lawful.next_frames);
          first_lost = ((λ _. frame_laws_lem.first_lost (stretch (e ∷ events))), led.lawful.first_lost);
        };
        chain_open = l.chain;
        receiver = q;
      }

  -- a call that is no taken byte
  aside : (e : Event) (phase' : Phase) (gathered' : Bytes) → (Taken e.call → ⊥) → Refusals e → ((x : Bytes) → e.brought ≡ answered x → ⊥)
      → Holds (stretch (e ∷ events)) phase' gathered' → LedTo node d0 (e ∷ events) phase' gathered' chain d
  aside e phase' gathered' out r silent q =
      extended e phase' gathered' chain d exchanges r
      (record {
        completes_answered = λ body h. absurd (out h.0);
        answered_completes = λ x b. absurd (silent x b);
        damaged_answered = λ h. absurd (out h.0);
        answered_damaged = λ x b _. absurd (silent (answer_frame x) b);
      })
      (no_frame (λ f h. out h.0) led.lawful.heard)
      law_now
      q

  after_silence : LedTo node d0 (event silence nothing ∷ events) Hunting [] chain d
  after_silence =
      aside (event silence nothing) Hunting [] (λ t. t)
      (record { too_small = λ n t. absurd t; only_then = λ n q. nothing_refused n q })
      (λ x q. nothing_answered x q)
      (fold_holds [])

  module _ (b fr st an : ℕ) where
    abbrev this : Call
    this = byte b fr st an

    after_refused : (n : ℕ) → refusal fr st an ≡ Some n → LedTo node d0 (event this (refused n) ∷ events) phase gathered chain d
    after_refused n e =
        aside (event this (refused n)) phase gathered (λ t. none_some n (sym t ∙ e))
        (record { too_small = λ m t. ap refused (some_is n m (sym e ∙ t)); only_then = λ m q. e ∙ ap Some (refused_is n m q) })
        (λ x q. refused_answered n x q)
        (subst (λ l. Holds l phase gathered) (ap (λ r. with_byte r b (stretch events)) (sym e)) led.receiver)

    module _ (free : refusal fr st an ≡ None) where
      abbrev longer : Bytes
      longer = stretch events ++ b ∷ []

      -- the stretch as the events have it
      abbrev in_events : Bytes
      in_events = with_byte (refusal fr st an) b (stretch events)

      in_events_is : in_events ≡ longer
      in_events_is = ap (λ r. with_byte r b (stretch events)) free

      not_refused : (x : Brought) → ((n : ℕ) → x ≡ refused n → ⊥) → Refusals (event this x)
      not_refused x h = record { too_small = λ n t. none_some n (sym free ∙ t); only_then = λ n q. absurd (h n q) }

      module _ (phase' : Phase) (gathered' : Bytes) (holds : Holds longer phase' gathered') where
        holds_now : Holds in_events phase' gathered'
        holds_now = subst (λ l. Holds l phase' gathered') (sym in_events_is) holds

        quiet : ((body : Bytes) → Completes longer body → ⊥) → LedTo node d0 (event this nothing ∷ events) phase' gathered' chain d
        quiet none =
            let out : (body : Bytes) → Completes in_events body → ⊥ = λ body c. none body (subst (λ l. Completes l body) in_events_is c) in
            extended (event this nothing) phase' gathered' chain d exchanges
            (not_refused nothing (λ n q. nothing_refused n q))
            (record {
              completes_answered = λ body h. absurd (out body h.1);
              answered_completes = λ x q. nothing_answered x q;
              damaged_answered = λ h. absurd (out h.1.0 h.1.1);
              answered_damaged = λ x q _. nothing_answered (answer_frame x) q;
            })
            (no_frame (λ f h. out _ h.1.0) led.lawful.heard)
            law_now
            holds_now

        after_heard : (h : Frame) → Heard longer h.opcode h.content → let o : Outcome = carry node d chain h in
            LedTo node d0 (event this (answered (answer_frame o.data_back)) ∷ events) phase' gathered' o.chain o.objects
        after_heard h k =
            let o : Outcome = carry node d chain h in
            let at : Heard in_events h.opcode h.content = subst (λ l. Heard l h.opcode h.content) (sym in_events_is) k in
            extended (event this (answered (answer_frame o.data_back))) phase' gathered' o.chain o.objects (exchanging.exchange h o.data_back ∷ exchanges)
            (not_refused (answered (answer_frame o.data_back)) (λ n q. refused_answered n (answer_frame o.data_back) (sym q)))
            (record {
              completes_answered = λ _ _. (answer_frame o.data_back, refl);
              answered_completes = λ _ _. (body h, (free, at.0));
              damaged_answered = λ x. absurd ((heard_or_damaged _).not_both h.opcode h.content at x.1);
              answered_damaged = λ x q k. absurd (carried_code node d chain h (ap code_in (answer_is o.data_back x (answered_is _ _ q)) ∙ k));
            })
            (frame_heard h o.data_back (free, at) refl led.lawful.heard)
            (exchanging.one_more node d0 exchanges d chain h law_now)
            holds_now

        after_damaged : Damaged longer → LedTo node d0 (event this (answered (answer_frame (four damaged_code))) ∷ events) phase' gathered' chain d
        after_damaged k =
            let bad : Damaged in_events = subst Damaged (sym in_events_is) k in
            extended (event this (answered (answer_frame (four damaged_code)))) phase' gathered' chain d exchanges
            (not_refused (answered (answer_frame (four damaged_code))) (λ n q. refused_answered n (answer_frame (four damaged_code)) (sym q)))
            (record {
              completes_answered = λ _ _. (answer_frame (four damaged_code), refl);
              answered_completes = λ _ _. (bad.0, (free, bad.1));
              damaged_answered = λ _. refl;
              answered_damaged = λ _ _ _. (free, bad);
            })
            (no_frame (λ f h. (heard_or_damaged _).not_both f.opcode f.content h.1 bad) led.lawful.heard)
            law_now
            holds_now

      -- the same by the receiver's step

      abbrev now : Step
      now = step phase gathered b

      now_is : now ≡ after longer
      now_is =
          let h = holds_fold (stretch events) phase gathered led.receiver in
          ap (λ q. step q gathered b) h.0 ∙ ap (λ l. step (after (stretch events)).phase l b) h.1
          ∙ sym (hearing.steps_append (moves Hunting []) (stretch events) (b ∷ []))

      step_holds : Holds longer now.phase now.gathered
      step_holds = subst (λ x. Holds longer x.phase x.gathered) (sym now_is) (fold_holds longer)

      body_complete : (body : Bytes) → now.body ≡ Some body → Completes longer body
      body_complete body e = hearing.heard longer body (ap (λ x. x.body) (sym now_is) ∙ e)

      body_none : now.body ≡ None → (body : Bytes) → Completes longer body → ⊥
      body_none e body c = none_some body (sym e ∙ ap (λ x. x.body) now_is ∙ ap (λ x. x.body) (hearing.reported longer body c))

      by_check : (body : Bytes) → Completes longer body → (v : Bool) → fits body ≡ v → let x : Served = judged node chain d (cond v (Ok (frame_in body)) (Err Checksum)) in
          LedTo node d0 (event this x.brought ∷ events) now.phase now.gathered x.chain x.objects
      by_check body c true e = after_heard now.phase now.gathered step_holds (frame_in body) (fits_heard longer body c e)
      by_check body c false e = after_damaged now.phase now.gathered step_holds (fits_damaged longer body c e)

      by_body : (o : Option Bytes) → now.body ≡ o → let x : Served = served node chain d o in
          LedTo node d0 (event this x.brought ∷ events) now.phase now.gathered x.chain x.objects
      by_body None e = quiet now.phase now.gathered step_holds (body_none e)
      by_body (Some body) e = by_check body (body_complete body e) (fits body) refl

      -- what the step gathers stands at the front of the memory over which it was laid

      emptied : (body : Bytes) → now.body ≡ Some body → now.gathered ≡ []
      emptied body e = ap (λ x. x.gathered) (now_is ∙ hearing.reported longer body (body_complete body e))

      front_by : (memory : Bytes) (o : Option Bytes) → now.body ≡ o → take (length now.gathered) (laid (front now) memory) ≡ now.gathered
      front_by memory (Some body) e = ap (λ g. take (length g) (laid (front now) memory)) (emptied body e) ∙ sym (emptied body e)
      front_by memory None e =
          ap (λ o. take (length now.gathered) (laid (front (record { phase = now.phase; gathered = now.gathered; body = o })) memory)) e
          ∙ front_is now.gathered memory

      in_memory : (memory : Bytes) → let x : Served = served node chain d now.body in
          LedTo node d0 (event this x.brought ∷ events) now.phase (take (length now.gathered) (laid (front now) memory)) x.chain x.objects
      in_memory memory =
          let x : Served = served node chain d now.body in
          subst (λ g. LedTo node d0 (event this x.brought ∷ events) now.phase g x.chain x.objects) (sym (front_by memory now.body refl))
          (by_body now.body refl)

  moves_on : MovesOn node d0 events phase gathered chain d
  moves_on =
      record {
        refused_byte = after_refused;
        silence_call = after_silence;
        quiet_byte = quiet;
        damaged_byte = λ b fr st an e phase' gathered' holds body c none.
            after_damaged b fr st an e phase' gathered' holds (damaged_of (stretch events ++ b ∷ []) body c none);
        heard_byte = after_heard;
        taken_byte = λ b fr st an e. by_body b fr st an e (step phase gathered b).body refl;
        taken_in_memory = in_memory;
      }

pub law_over_runs : LawOverRuns
law_over_runs =
    record {
      opening = λ node d0.
          let l = exchanging.opening node d0 in
          record {
            lawful = record {
              refusals = tt;
              reception = tt;
              exchanges = [];
              heard = none_yet;
              objects = l.objects;
              answers = tt;
              read_chains = tt;
              next_frames = tt;
              first_lost = tt;
            };
            chain_open = l.chain;
            receiver = fold_holds [];
          };
      every_call = moves_on;
    }
