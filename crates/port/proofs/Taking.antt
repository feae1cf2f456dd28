-- What a taken byte leaves, from what the receiver's step and the reply leave.
use Rattle.std.proofs.Common.{◌≡◌, ℕ, ◌-◌, length, take, drop, Some, None, Ok, Option, sym, refl, ap, ◌∙◌, arith}
use Rattle.std.proofs.lemmas.List.{take_at}
use Rattle.wire.specs.declared.receiving.Phase.{Phase}
use Rattle.wire.specs.Checking.{checked_frame}
use Rattle.wire.specs.Framing.{laid}
use Rattle.wire.specs.Receiving.{Step, size, Took}
use Rattle.dictionary.specs.Objects.{Bytes, Objects}
use Rattle.command.specs.Checks.{OpenChain}
use Rattle.port.specs.declared.ports.Reply.{Reply}
use Rattle.port.specs.Ports.{Board, call_result, received, replied, served, taken_call, Replies}
use Rattle.port.specs.Serving.{body_done}

-- the body that a step completes stands at the front of the memory
pub record BodyAt (o : Option Bytes) (n : ℕ) (memory : Bytes) : Type 0 where
  pub body : Bytes
  pub is : o ≡ Some body
  pub there : take n memory ≡ body

body_at : (o : Option Bytes) (g before memory : Bytes) (n : ℕ) → Some n ≡ size o
    → memory ≡ laid (elim o as (λ _. Bytes) [ Some body ↦ body | None ↦ g ]) before → BodyAt o n memory
body_at None g before memory n e l = cc
body_at (Some body) g before memory n e l =
    let long : n ≡ length body = cc in
    record {
      body = body;
      is = refl;
      there = ap (λ k. take k memory) long ∙ ap (take (length body)) l ∙ take_at body (drop (length body) before) (length body) refl;
    }

pub completed_at : (s : Step) (n : ℕ) (phase : Phase) (count : ℕ) (before memory : Bytes) → Took s (Some n) phase count before memory → BodyAt s.body n memory
completed_at s n phase count before memory t = body_at s.body s.gathered before memory n t.tells t.laid_front

-- a complete body is answered
pub answered_call : (node : ℕ) (b : Board) (s : Step) (n : ℕ) (phase : Phase) (count : ℕ) (frame : Bytes) → Took s (Some n) phase count b.frame frame
    → (r : Reply) (chain : OpenChain) (objects : Objects) (staging answer : Bytes)
    → Replies (body_done node b.objects b.chain b.staging (checked_frame (take (n - 0) frame))) r b.answer chain objects staging answer
    → call_result (Ok (Some r)) (record { phase = phase; count = count; chain = chain; objects = objects; frame = frame; staging = staging; answer = answer }) ≡ taken_call node b s
answered_call node b s n phase count frame t r chain objects staging answer a =
    let at = completed_at s n phase count b.frame frame t in
    let whole : n - 0 ≡ n = omega arith in
    let part : take (n - 0) frame ≡ at.body = ap (λ k. take k frame) whole ∙ at.there in
    let o = body_done node b.objects b.chain b.staging (checked_frame (take (n - 0) frame)) in
    let same : call_result (Ok (Some r)) (record { phase = phase; count = count; chain = chain; objects = objects; frame = frame; staging = staging; answer = answer })
    ≡ replied (received b s) o
    = λ i. call_result (Ok (Some (a.reply_is i))) (record {
      phase = t.moved i;
      count = t.counted i;
      chain = a.chain_is i;
      objects = a.objects_are i;
      frame = t.laid_front i;
      staging = a.staging_is i;
      answer = a.answer_is i;
    }) in
    same ∙ ap (λ body. replied (received b s) (body_done node b.objects b.chain b.staging (checked_frame body))) part
    ∙ sym (ap (served node (received b s)) at.is)
