-- A call in the fronts of the memories, and what is left of them, is the call in the whole memories.
use Rattle.std.proofs.Common.{◌≡◌, ℕ, ◌≤◌, Bool, ◌++◌, length, take, drop, Some, None, Ok, Err, Option, Result, sym, refl, ap, ◌∙◌, append_assoc, arith, length-append, length-drop, take-append-drop}
use lib.Seq.{take-append-le}
use Rattle.std.specs.Array.{IsFirstChunk}
use Rattle.std.proofs.lemmas.List.{drop-append-le, length-take-le}
use Rattle.std.proofs.lemmas.Bool.{le-ltb}
use Rattle.wire.specs.declared.faults.Fault as wire
use Rattle.wire.specs.Checking.{checked_frame}
use Rattle.wire.specs.Frames.{Frame}
use Rattle.wire.specs.Framing.{laid}
use Rattle.wire.specs.Receiving.{Step, step, front}
use Rattle.dictionary.specs.Objects.{Bytes, Objects, value}
use Rattle.command.specs.Answers.{bit}
use Rattle.command.specs.Checks.{Check, OpenChain, reading, writing, fault, joined_of}
use Rattle.command.specs.Commands.{by_fault}
use Rattle.command.specs.Frames.{Verb, read_object, initiate_read, write_object, initiate_write, segment_read, segment_write, unknown, verb, address, part}
use Rattle.port.specs.declared.chains.Chain.{Chain}
use Rattle.port.specs.declared.chains.Direction.{Direction}
use Rattle.port.specs.declared.chains.Direction.TheVariants.{Read, Write}
use Rattle.port.specs.declared.ports.Port.{Port}
use Rattle.port.specs.declared.ports.Reply.{Reply}
use Rattle.port.specs.Chains.{open_chain, chain_of}
use Rattle.law.specs.Calls.{answer_frame}
use Rattle.port.specs.Ports.{answer_of, reply_of, Board, board, Called, call_result, received, replied, served, taken_call, byte_of}
use Rattle.port.specs.Serving.{Done, segment_fault, staged_by, frame_done, body_done}
use Rattle.port.proofs.Keeping.{Enough, enough_call}

open_front : (w : Direction) (declared count : ℕ) (t : Bool) (l rest : Bytes) → count ≤ declared → declared ≤ length l
    → open_chain w declared count t (l ++ rest) ≡ open_chain w declared count t l
open_front Read declared count t l rest h k = ap (λ (v : Bytes). reading v count (bit t)) (take-append-le declared l rest k)
open_front (Write at) declared count t l rest h k = ap (λ (v : Bytes). writing at declared v (bit t)) (take-append-le count l rest (omega arith))

pub chain_front : (s : Option Chain) (l rest : Bytes) → 4096 ≤ length l → chain_of s (l ++ rest) ≡ chain_of s l
chain_front None l rest k = refl
chain_front (Some c) l rest k = open_front c.direction c.declared c.count c.toggle l rest c.within (omega (arith, c.small))

laid_front : (v m rest : Bytes) → length (laid v m) ≡ length m → laid v (m ++ rest) ≡ laid v m ++ rest
laid_front v m rest h =
    let short : length v ≤ length m = omega (arith, h, length-append v (drop (length v) m), length-drop (length v) m) in
    ap (λ l. v ++ l) (drop-append-le (length v) m rest short) ∙ sym (append_assoc v (drop (length v) m) rest)

-- What a body leaves in the staging memory.

left_front : (x : Option Check) (v m rest : Bytes) → length (by_fault x (λ _. m) (laid v m)) ≡ length m
    → by_fault x (λ _. m ++ rest) (laid v (m ++ rest)) ≡ by_fault x (λ _. m) (laid v m) ++ rest
left_front None v m rest h = laid_front v m rest h
left_front (Some k) v m rest h = refl

module _ (node : ℕ) (d : Objects) (c : OpenChain) (m rest : Bytes) where
  staged_front : (w : Verb) (f : Frame) → length (staged_by w node d c f m) ≡ length m → staged_by w node d c f (m ++ rest) ≡ staged_by w node d c f m ++ rest
  staged_front read_object f h = refl
  staged_front initiate_read f h = left_front (fault node d c f) (value d (address f)) m rest h
  staged_front write_object f h = refl
  staged_front initiate_write f h = refl
  staged_front segment_read f h = refl
  staged_front segment_write f h = left_front (segment_fault node d c f) (joined_of c ++ part f) m rest h
  staged_front unknown f h = refl

  abbrev behind : Done → Done
  behind o = record { answer = o.answer; chain = o.chain; objects = o.objects; staging = o.staging ++ rest }

  done_front : (r : Result Frame wire.Fault) → length (body_done node d c m r).staging ≡ length m → body_done node d c (m ++ rest) r ≡ behind (body_done node d c m r)
  unfolding frame_done
  done_front (Ok f) h = ap (λ l. record { answer = (frame_done node d c m f).answer; chain = (frame_done node d c m f).chain; objects = (frame_done node d c m f).objects; staging = l }) (staged_front (verb f) f h)
  done_front (Err e) h = refl

-- A taken call.

module _ (fr mr ar : Bytes) where
  abbrev wide : Board → Board
  wide b =
      record { phase = b.phase; count = b.count; chain = b.chain; objects = b.objects; frame = b.frame ++ fr; staging = b.staging ++ mr; answer = b.answer ++ ar }

  abbrev wide_call : Called → Called
  wide_call k = call_result k.result (wide k.after)

  served_front : (node : ℕ) (b : Board) (o : Option Bytes) → length (served node b o).after.staging ≡ length b.staging → length (served node b o).after.answer ≡ length b.answer
      → served node (wide b) o ≡ wide_call (served node b o)
  served_front node b None hm ha = refl
  served_front node b (Some body) hm ha =
      let o = body_done node b.objects b.chain b.staging (checked_frame body) in
      ap (replied (wide b)) (done_front node b.objects b.chain b.staging mr (checked_frame body) hm)
      ∙ ap (λ l. call_result (Ok (Some (reply_of o.answer))) (record { phase = b.phase; count = b.count; chain = o.chain; objects = o.objects; frame = b.frame ++ fr; staging = o.staging ++ mr; answer = l }))
      (laid_front (answer_frame (answer_of o.answer)) b.answer ar ha)

  served_frame : (node : ℕ) (b : Board) (o : Option Bytes) → (served node b o).after.frame ≡ b.frame
  served_frame node b None = refl
  served_frame node b (Some body) = refl

  module _ (node : ℕ) (b : Board) (s : Step) (k : Called) (is : k ≡ taken_call node b s)
      (lf : length k.after.frame ≡ length b.frame) (lm : length k.after.staging ≡ length b.staging) (la : length k.after.answer ≡ length b.answer) where
    received_front : received (wide b) s ≡ wide (received b s)
    received_front =
        let long : length (laid (front s) b.frame) ≡ length b.frame = sym (ap (λ (x : Called). length x.after.frame) is ∙ ap length (served_frame node (received b s) s.body)) ∙ lf in
        ap (λ l. record { phase = s.phase; count = length s.gathered; chain = b.chain; objects = b.objects; frame = l; staging = b.staging ++ mr; answer = b.answer ++ ar })
        (laid_front (front s) b.frame fr long)

    taken_front : wide_call k ≡ taken_call node (wide b) s
    taken_front =
        ap wide_call is
        ∙ sym (served_front node (received b s) s.body (sym (ap (λ (x : Called). length x.after.staging) is) ∙ lm) (sym (ap (λ (x : Called). length x.after.answer) is) ∙ la))
        ∙ sym (ap (λ x. served node x s.body) received_front)

pub first_then : (w v : Bytes) (n : ℕ) → IsFirstChunk w v n → v ++ drop n w ≡ w
first_then w v n h = ap (λ l. l ++ drop n w) h.same ∙ take-append-drop n w

first_length : (w v : Bytes) (n : ℕ) → IsFirstChunk w v n → length v ≡ n
first_length w v n h = ap length h.same ∙ length-take-le n w h.enough

-- what then stands in the place of the first n is as long
same_length : (w v u : Bytes) (n : ℕ) → IsFirstChunk w v n → length (u ++ drop n w) ≡ length w → length u ≡ length v
same_length w v u n h full = omega (arith, h.enough, first_length w v n h, full, length-append u (drop n w), length-drop n w)

-- a byte call in the first bytes of memories that are long enough
module _ (p p1 : Port) (d d1 : Objects) (frame staging answer f m a f1 m1 a1 : Bytes) (x : ℕ) (r : Option Reply)
    (ff : IsFirstChunk frame f 514) (fm : IsFirstChunk staging m 4096) (fa : IsFirstChunk answer a 538)
    (lf : length (f1 ++ drop 514 frame) ≡ length frame) (lm : length (m1 ++ drop 4096 staging) ≡ length staging) (la : length (a1 ++ drop 538 answer) ≡ length answer)
    (steps : call_result (Ok r) (board p1 d1 f1 m1 a1) ≡ taken_call p.node (board p d f m a) (step p.receiver.phase (take p.receiver.gathered f) x)) where
  abbrev fr : Bytes
  fr = drop 514 frame

  abbrev mr : Bytes
  mr = drop 4096 staging

  abbrev ar : Bytes
  ar = drop 538 answer

  enough : Enough (length frame) (length staging) (length answer)
  enough = record { frame = le-ltb _ _ ff.enough; staging = le-ltb _ _ fm.enough; answer = le-ltb _ _ fa.enough }

  board_front : wide fr mr ar (board p d f m a) ≡ board p d frame staging answer
  board_front =
      let long : 4096 ≤ length m = omega (arith, first_length staging m 4096 fm) in
      let e = first_then staging m 4096 fm in
      λ i. record {
        phase = p.receiver.phase;
        count = p.receiver.gathered;
        chain = (sym (chain_front p.chain m mr long) ∙ ap (chain_of p.chain) e) i;
        objects = d;
        frame = first_then frame f 514 ff i;
        staging = e i;
        answer = first_then answer a 538 fa i;
      }

  board_left : board p1 d1 (f1 ++ fr) (m1 ++ mr) (a1 ++ ar) ≡ wide fr mr ar (board p1 d1 f1 m1 a1)
  board_left =
      let long : 4096 ≤ length m1 = omega (arith, same_length staging m m1 4096 fm lm, first_length staging m 4096 fm) in
      ap (λ c. record { phase = p1.receiver.phase; count = p1.receiver.gathered; chain = c; objects = d1; frame = f1 ++ fr; staging = m1 ++ mr; answer = a1 ++ ar })
      (chain_front p1.chain m1 mr long)

  gathered_front : take p.receiver.gathered f ≡ take p.receiver.gathered frame
  gathered_front =
      let few : p.receiver.gathered ≤ length f = omega (arith, p.receiver.few, first_length frame f 514 ff) in
      sym (take-append-le p.receiver.gathered f fr few) ∙ ap (take p.receiver.gathered) (first_then frame f 514 ff)

  pub byte_front : call_result (Ok r) (board p1 d1 (f1 ++ fr) (m1 ++ mr) (a1 ++ ar)) ≡ byte_of p.node (board p d frame staging answer) x
  byte_front =
      let s : Step = step p.receiver.phase (take p.receiver.gathered f) x in
      ap (call_result (Ok r)) board_left
      ∙ taken_front fr mr ar p.node (board p d f m a) s (call_result (Ok r) (board p1 d1 f1 m1 a1)) steps (same_length _ _ _ _ ff lf) (same_length _ _ _ _ fm lm) (same_length _ _ _ _ fa la)
      ∙ (λ i. taken_call p.node (board_front i) (step p.receiver.phase (gathered_front i) x))
      ∙ sym (enough_call p.node (board p d frame staging answer) x enough)
