-- A call that does what its equality says keeps the law.
use Rattle.std.proofs.Common.{◌≡◌, ℕ, true, false, ltb, ◌⊎◌, List, [], ◌∷◌, length, take, drop, Some, None, Ok, Err, Option, Result, sym, refl, ap, ◌∙◌, subst, inl, inr, arith}
use Rattle.std.proofs.lemmas.List.{take_at}
use Rattle.std.proofs.lemmas.Bool.{cases_Bool, cond-true, cond-false}
use Rattle.wire.specs.declared.faults.Fault as wire
use Rattle.wire.specs.declared.receiving.Phase.{Phase}
use Rattle.wire.specs.declared.receiving.Phase.TheVariants.{Hunting}
use Rattle.wire.specs.Checking.{checked_frame}
use Rattle.wire.specs.Frames.{Frame}
use Rattle.wire.specs.Framing.{laid}
use Rattle.wire.specs.Receiving.{Step, step, front}
use Rattle.dictionary.specs.Objects.{Bytes, Objects}
use Rattle.command.specs.Answers.{refused_data, accepted_data}
use Rattle.command.specs.Checks.{Check, OpenChain, closed, fault, fault_of}
use Rattle.command.specs.Commands.{by_fault, brings_back, answer, carry}
use Rattle.command.specs.Frames.{verb}
use Rattle.law.specs.Calls.{Brought, refused, nothing, answered, Event, refusal, answer_frame}
use Rattle.law.specs.Calls as calls
use Rattle.law.specs.Ports.{LedTo, Served, judged, event}
use Rattle.law.specs.Ports as law
use Rattle.law.proofs.Ports.{law_over_runs}
use Rattle.port.specs.declared.ports.Port.{Port}
use Rattle.port.specs.declared.ports.Refusal.{Refusal}
use Rattle.port.specs.declared.ports.Refusal.TheVariants.{FrameMemory, StagingMemory, AnswerMemory}
use Rattle.port.specs.declared.ports.Reply.{Reply}
use Rattle.port.specs.Chains.{chain_of}
use Rattle.port.specs.Ports.{refusal_number, answer_of, Board, board, Called, call_result, refused_call, received, served, taken_call, byte_of}
use Rattle.port.specs.Runs.{LedToPort, brought_by, ByteKeepsLaw}
use Rattle.port.specs.Serving.{frame_done, body_done}

-- Opening and silence.

pub opened : (node : ℕ) (phase : Phase) (n : ℕ) (d0 : Objects) (frame : Bytes) → phase ≡ Hunting → n ≡ 0 → LedTo node d0 [] phase (take n frame) closed d0
opened node phase n d0 frame e f = rw (e, f) (law_over_runs.opening node d0)

pub silent : (node : ℕ) (phase phase1 : Phase) (n n1 : ℕ) (c : OpenChain) (d0 : Objects) (events : List Event) (d : Objects) (frame : Bytes) → phase1 ≡ Hunting → n1 ≡ 0
    → LedTo node d0 events phase (take n frame) c d → LedTo node d0 (event calls.silence nothing ∷ events) phase1 (take n1 frame) c d
silent node phase phase1 n n1 c d0 events d frame e f led = rw (e, f) (law_over_runs.every_call node d0 events phase (take n frame) c d led).silence_call

-- Refusals.

pub record Enough (f s a : ℕ) : Type 0 where
  pub frame : ltb f 514 ≡ false
  pub staging : ltb s 4096 ≡ false
  pub answer : ltb a 538 ≡ false

-- which memory is too short, if one is
pub data Short (f s a : ℕ) : Option ℕ → Refusal → Type 0 where
  in_frame : ltb f 514 ≡ true → Short f s a (Some 2) FrameMemory
  in_staging : ltb f 514 ≡ false → ltb s 4096 ≡ true → Short f s a (Some 3) StagingMemory
  in_answer : ltb f 514 ≡ false → ltb s 4096 ≡ false → ltb a 538 ≡ true → Short f s a (Some 4) AnswerMemory

pub which : (f s a : ℕ) → Enough f s a ⊎ ((n : ℕ) × (e : Refusal) × Short f s a (Some n) e)
which f s a =
    elim (cases_Bool (ltb f 514)) [
      | inl x ↦ inr (2, FrameMemory, in_frame x)
      | inr x ↦
          elim (cases_Bool (ltb s 4096)) [
            | inl y ↦ inr (3, StagingMemory, in_staging x y)
            | inr y ↦ elim (cases_Bool (ltb a 538)) [ inl z ↦ inr (4, AnswerMemory, in_answer x y z) | inr z ↦ inl (record { frame = x; staging = y; answer = z }) ]
          ]
    ]

pub short_refusal : (f s a : ℕ) (o : Option ℕ) (e : Refusal) → Short f s a o e → (refusal f s a ≡ o) × (o ≡ Some (refusal_number e))
short_refusal f s a o e (in_frame x) = (cond-true (ltb f 514) _ _ x, refl)
short_refusal f s a o e (in_staging x y) = (cond-false (ltb f 514) _ _ x ∙ cond-true (ltb s 4096) _ _ y, refl)
short_refusal f s a o e (in_answer x y z) = (cond-false (ltb f 514) _ _ x ∙ cond-false (ltb s 4096) _ _ y ∙ cond-true (ltb a 538) _ _ z, refl)

pub enough_refusal : (f s a : ℕ) → Enough f s a → refusal f s a ≡ None
enough_refusal f s a h = cond-false (ltb f 514) _ _ h.frame ∙ cond-false (ltb s 4096) _ _ h.staging ∙ cond-false (ltb a 538) _ _ h.answer

pub short_call : (node : ℕ) (b : Board) (byte : ℕ) (o : Option ℕ) (e : Refusal) → Short (length b.frame) (length b.staging) (length b.answer) o e
    → byte_of node b byte ≡ refused_call b e
unfolding byte_of
short_call node b byte o e (in_frame x) = cond-true (ltb (length b.frame) 514) _ _ x
short_call node b byte o e (in_staging x y) = cond-false (ltb (length b.frame) 514) _ _ x ∙ cond-true (ltb (length b.staging) 4096) _ _ y
short_call node b byte o e (in_answer x y z) =
    cond-false (ltb (length b.frame) 514) _ _ x ∙ cond-false (ltb (length b.staging) 4096) _ _ y ∙ cond-true (ltb (length b.answer) 538) _ _ z

pub enough_call : (node : ℕ) (b : Board) (byte : ℕ) → Enough (length b.frame) (length b.staging) (length b.answer)
    → byte_of node b byte ≡ taken_call node b (step b.phase (take b.count b.frame) byte)
unfolding byte_of
enough_call node b byte h =
    cond-false (ltb (length b.frame) 514) _ _ h.frame ∙ cond-false (ltb (length b.staging) 4096) _ _ h.staging
    ∙ cond-false (ltb (length b.answer) 538) _ _ h.answer

-- What a taken call brings is what the law's words bring.

answers_same : (x : Option Check) (z : Bytes) → answer_of (by_fault x (λ k. Err (fault_of k)) (Ok z)) ≡ by_fault x (λ k. refused_data (fault_of k)) z
answers_same None z = refl
answers_same (Some k) z = refl

module _ (node : ℕ) (c : OpenChain) (d : Objects) (m : Bytes) where
  -- the answer's cable bytes, the chain and the objects, from the checked body
  done_brought : (r : Result Frame wire.Fault) → answered (answer_frame (answer_of (body_done node d c m r).answer)) ≡ (judged node c d r).brought
  unfolding frame_done carry answer
  done_brought (Ok f) = ap (λ x. answered (answer_frame x)) (answers_same (fault node d c f) (accepted_data (brings_back (verb f) d c f)))
  done_brought (Err e) = refl

  done_chain : (r : Result Frame wire.Fault) → (body_done node d c m r).chain ≡ (judged node c d r).chain
  unfolding frame_done carry
  done_chain (Ok f) = refl
  done_chain (Err e) = refl

  done_objects : (r : Result Frame wire.Fault) → (body_done node d c m r).objects ≡ (judged node c d r).objects
  unfolding frame_done carry
  done_objects (Ok f) = refl
  done_objects (Err e) = refl

-- a call that is the answer to a body, or none
pub record Brings (node : ℕ) (b : Board) (o : Option Bytes) (x : Called) : Type 0 where
  pub phase : x.after.phase ≡ b.phase
  pub count : x.after.count ≡ b.count
  pub frame : x.after.frame ≡ b.frame
  pub chain : x.after.chain ≡ (law.served node b.chain b.objects o).chain
  pub objects : x.after.objects ≡ (law.served node b.chain b.objects o).objects
  pub brought : brought_by x.result x.after.answer ≡ (law.served node b.chain b.objects o).brought

brings : (node : ℕ) (b : Board) (o : Option Bytes) → Brings node b o (served node b o)
brings node b None = record { phase = refl; count = refl; frame = refl; chain = refl; objects = refl; brought = refl }
brings node b (Some body) =
    let r = checked_frame body in
    let cable = answer_frame (answer_of (body_done node b.objects b.chain b.staging r).answer) in
    record {
      phase = refl;
      count = refl;
      frame = refl;
      chain = done_chain node b.chain b.objects b.staging r;
      objects = done_objects node b.chain b.objects b.staging r;
      brought = ap answered (take_at cable (drop (length cable) b.answer) (length cable) refl) ∙ done_brought node b.chain b.objects b.staging r;
    }

-- Byte calls.

module _ (p p1 : Port) (d d1 : Objects) (frame staging answers frame1 staging1 answers1 : Bytes) (b : ℕ) (r : Result (Option Reply) Refusal)
    (steps : call_result r (board p1 d1 frame1 staging1 answers1) ≡ byte_of p.node (board p d frame staging answers) b)
    (own : p1.node ≡ p.node) (still : (e : Refusal) → r ≡ Err e → p1 ≡ p) where
  abbrev before : Board
  before = board p d frame staging answers

  abbrev now_step : Step
  now_step = step p.receiver.phase (take p.receiver.gathered frame) b

  abbrev this : Brought → Event
  this x = event (calls.byte b (length frame) (length staging) (length answers)) x

  refused_keeps : (d0 : Objects) (events : List Event) (n : ℕ) (e : Refusal) (mine mine-staging : Bytes) → Short (length frame) (length staging) (length answers) (Some n) e
      → LedToPort d0 events p d mine mine-staging → LedToPort d0 (this (brought_by r answers1) ∷ events) p1 d1 mine mine-staging
  refused_keeps d0 events n e mine mine-staging short led =
      let same = steps ∙ short_call p.node before b (Some n) e short in
      let result : r ≡ Err e = ap (λ (x : Called). x.result) same in
      let objects : d1 ≡ d = ap (λ (x : Called). x.after.objects) same in
      let told = short_refusal (length frame) (length staging) (length answers) (Some n) e short in
      let number : n ≡ refusal_number e = (let h = told.1 in cc) in
      let brought : refused n ≡ brought_by r answers1 = ap refused number ∙ ap (λ x. brought_by x answers1) (sym result) in
      let next = (law_over_runs.every_call p.node d0 events p.receiver.phase (take p.receiver.gathered mine) (chain_of p.chain mine-staging) d led
      ).refused_byte b (length frame) (length staging) (length answers) n told.0 in
      rw (still e result, objects, ← brought) next

  taken_keeps : (d0 : Objects) (events : List Event) → Enough (length frame) (length staging) (length answers)
      → LedToPort d0 events p d frame staging → LedToPort d0 (this (brought_by r answers1) ∷ events) p1 d1 frame1 staging1
  taken_keeps d0 events enough led =
      let s : Step = now_step in
      let call : call_result r (board p1 d1 frame1 staging1 answers1) ≡ served p.node (received before s) s.body = steps ∙ enough_call p.node before b enough in
      let x = subst (Brings p.node (received before s) s.body) (sym call) (brings p.node (received before s) s.body) in
      let o : Served = law.served p.node (chain_of p.chain staging) d s.body in
      let gathered : take p1.receiver.gathered frame1 ≡ take (length s.gathered) (laid (front s) frame) = λ i. take (x.count i) (x.frame i) in
      let next = (law_over_runs.every_call p.node d0 events p.receiver.phase (take p.receiver.gathered frame) (chain_of p.chain staging) d led
      ).taken_in_memory b (length frame) (length staging) (length answers) (enough_refusal (length frame) (length staging) (length answers) enough) frame in
      rw (own, x.phase, gathered, x.chain, x.objects, x.brought) next

  none_short : (n : ℕ) (e : Refusal) → Short (length frame) (length staging) (length answers) (Some n) e → refusal (length frame) (length staging) (length answers) ≡ None → ⊥
  none_short n e short none =
      let h = (short_refusal (length frame) (length staging) (length answers) (Some n) e short).0 in
      let z : ◌≡◌ {A = ℕ} 0 1 = cc in
      omega arith

  pub keeps : ByteKeepsLaw p p1 d d1 frame staging answers frame1 staging1 answers1 b r
  keeps =
      record {
        taken = λ d0 events none led. elim (which (length frame) (length staging) (length answers)) [
          | inl enough ↦ taken_keeps d0 events enough led
          | inr w ↦ absurd (none_short w.0 w.1 w.2 none)
        ];
        too_small = λ d0 events n mine mine-staging some led. elim (which (length frame) (length staging) (length answers)) [
          | inl enough ↦
              let h = enough_refusal (length frame) (length staging) (length answers) enough in
              cc
          | inr w ↦ refused_keeps d0 events w.0 w.1 mine mine-staging w.2 led
        ];
      }
