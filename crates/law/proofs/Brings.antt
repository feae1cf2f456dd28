-- The answers of an unbroken read chain bring the front of the value, 255 bytes at a time.
use Rattle.std.proofs.Common.{◌≡◌, ℕ, suc, ◌+◌, ◌-◌, ◌/◌, ◌%◌, ◌<◌, min, Bool, true, false, cond, eqb, leb, List, [], ◌∷◌, ◌++◌, length, take, drop, None, sym, refl, ap, ◌∙◌, subst, inl, inr, append_assoc, append-nil, arith, length-drop, length-take, take_all, take-add}
use lib.Seq.{take-append-le, take-length}
use Rattle.std.proofs.lemmas.Bool.{leb-true, le-leb, eq-eqb, ne_eqb, cases_lt}
use Rattle.dictionary.specs.Objects.{Bytes, Objects, value}
use Rattle.wire.specs.Frames.{Frame}
use Rattle.command.specs.Frames.{Verb, initiate_read, segment_read, verb, address, of_chain}
use Rattle.command.specs.Checks.{first}
use Rattle.command.specs.Checks.{fault_of, OpenChain, reading, checks}
use Rattle.command.specs.Answers.{most, four, padded, refused_data, accepted_data, answer_control}
use Rattle.command.specs.Commands.{by_fault, answer, brings_back, segment_read_answer}
use Rattle.law.specs.Histories.{InTurn, chain_frames, turn, itself}
use Rattle.law.specs.ReadChains.{sent_after, ReadInitiate, ReadSegment, UnbrokenReadChain}
use Rattle.law.specs.Calls.{Exchange, frames}
use Rattle.law.specs.ReadAnswers.{initiate_part, segment_part, marked_last, segment_parts, joined_answers, Adds, BringsFront, ReadChainsBringFront}
use Rattle.law.specs.Lawful.{AnsweredByTable}
use Rattle.law.proofs.Passing.{fault_at, read_initiate_back, read_segment_back}
use Rattle.law.proofs.Values.{one_value}
use Rattle.law.proofs.Open.{read_tied_of}

-- an accepted frame's answer
pub answer_at : (node : ℕ) (d : Objects) (c : OpenChain) (f : Frame) (w : Verb) → verb f ≡ w → first (checks w node d c f) ≡ None
    → answer node d c f ≡ padded (four 0 ++ brings_back w d c f)
unfolding answer
answer_at node d c f w e z =
    ap (λ x. by_fault x (λ k. refused_data (fault_of k)) (accepted_data (brings_back (verb f) d c f))) (fault_at node d c f w e ∙ z)
    ∙ ap (λ v. padded (four 0 ++ brings_back v d c f)) e

front_of : (n : ℕ) (v pad : Bytes) → take (min n (length v)) (take n v ++ pad) ≡ take n v
front_of n v pad =
    ap (λ k. take k (take n v ++ pad)) (sym (length-take n v))
    ∙ (take-append-le (length (take n v)) (take n v) pad (omega arith) ∙ take-length (take n v))

initiate_read_part : (v pad : Bytes) → initiate_part ((four 0 ++ (four (length v) ++ (min most (length v) ∷ take most v))) ++ pad) ≡ take most v
unfolding four
initiate_read_part v pad = front_of most v pad

segment_read_part : (v : Bytes) (sent k : ℕ) (pad : Bytes) → segment_part ((four 0 ++ (min most (length v - sent) ∷ (k ∷ take most (drop sent v)))) ++ pad) ≡ take most (drop sent v)
unfolding four
segment_read_part v sent k pad =
    ap (λ x. take (min most x) (take most (drop sent v) ++ pad)) (sym (length-drop sent v)) ∙ front_of most (drop sent v) pad

segment_read_control : (n k : ℕ) (bytes pad : Bytes) → marked_last ((four 0 ++ (n ∷ (k ∷ bytes))) ++ pad) ≡ eqb (k / 2 % 2) 1
unfolding four
segment_read_control n k bytes pad = refl

marks_by : (b : Bool) (m : ℕ) → eqb ((m % 2 + cond b 2 0) / 2 % 2) 1 ≡ b
marks_by true m = eq-eqb ((m % 2 + 2) / 2 % 2) 1 (omega arith)
marks_by false m = ne_eqb ((m % 2 + 0) / 2 % 2) 1 (omega arith)

-- what stands in the answer to a segment is marked last exactly when nothing then remains
control_marks : (v : Bytes) (sent m : ℕ) → eqb (answer_control v sent (m % 2) / 2 % 2) 1 ≡ leb (length v) (sent + most)
unfolding answer_control
control_marks v sent m = marks_by (leb (length v) (sent + most)) m

take_front : (k : ℕ) (v : Bytes) → take k v ≡ take (length (take k v)) v
take_front k v =
    elim (cases_lt k (length v)) [
      | inl h ↦ ap (λ (x : ℕ). take x v) (omega (arith, length-take k v))
      | inr h ↦ take_all k v h ∙ sym (take_all (length (take k v)) v (omega (arith, length-take k v)))
    ]

-- From exchanges to frames

abbrev chain_exchanges : List Exchange → List Exchange
chain_exchanges xs = chain_frames (λ x. x.heard) xs

frames_append : (xs ys : List Exchange) → frames (xs ++ ys) ≡ frames xs ++ frames ys
frames_append [] ys = refl
frames_append (x ∷ xs) ys = ap (λ r. x.heard ∷ r) (frames_append xs ys)

frames_chain : (xs : List Exchange) → chain_frames itself (frames xs) ≡ frames (chain_exchanges xs)
frames_chain [] = refl
frames_chain (x ∷ xs) = by (of_chain (verb x.heard)) (frames_chain xs)
  where
    by : (b : Bool) → chain_frames itself (frames xs) ≡ frames (chain_exchanges xs)
        → cond b (x.heard ∷ chain_frames itself (frames xs)) (chain_frames itself (frames xs)) ≡ frames (cond b (x ∷ chain_exchanges xs) (chain_exchanges xs))
    by true e = ap (λ r. x.heard ∷ r) e
    by false e = e

frames_follow : (v : Bytes) (xs : List Exchange) → InTurn (λ before x. ReadSegment v (frames before) x.heard) xs → InTurn (ReadSegment v) (frames xs)
frames_follow v [] h = tt
frames_follow v (x ∷ xs) h = (h.0, frames_follow v xs h.1)

frames_length : (xs : List Exchange) → length (frames xs) ≡ length xs
frames_length [] = refl
frames_length (x ∷ xs) = ap suc (frames_length xs)

-- A chain that has so far read out what its answers should bring.
pub record SoFar (v : Bytes) (start : Exchange) (segments : List Exchange) : Type 0 where
  pub exact : joined_answers start segments ≡ take (sent_after (length segments)) v
  pub starting : initiate_part start.data_back ≡ take most v
  pub each : InTurn (Adds v start) segments

brings_front : (v : Bytes) (start : Exchange) (segments : List Exchange) → SoFar v start segments → BringsFront v start segments
brings_front v start segments h =
    record {
      front = h.exact ∙ (take_front (sent_after (length segments)) v ∙ ap (λ x. take (length x) v) (sym h.exact));
      first = ap length h.starting ∙ length-take most v;
      each = h.each;
    }

-- the segment's answer, with what it adds to a chain of which sent bytes were read
module _ (v : Bytes) (start : Exchange) (before : List Exchange) (x : Exchange) (so_far : SoFar v start before) (remained : sent_after (length before) < length v)
    (adds : segment_part x.data_back ≡ take most (drop (sent_after (length before)) v))
    (marks : marked_last x.data_back ≡ leb (length v) (sent_after (length before) + most)) where
  exact_more : joined_answers start (x ∷ before) ≡ take (sent_after (length before) + most) v
  exact_more =
      sym (append_assoc (initiate_part start.data_back) (segment_parts before) (segment_part x.data_back))
      ∙ ((λ i. so_far.exact i ++ adds i) ∙ sym (take-add (sent_after (length before)) most v))

  length_before : length (joined_answers start before) ≡ sent_after (length before)
  length_before = ap length so_far.exact ∙ omega (arith, length-take (sent_after (length before)) v)

  length_added : length (segment_part x.data_back) ≡ min most (length v - length (joined_answers start before))
  length_added =
      ap length adds
      ∙ (length-take most (drop (sent_after (length before)) v)
      ∙ ap (min most) (length-drop (sent_after (length before)) v ∙ ap (λ k. length v - k) (sym length_before)))

  adds_more : Adds v start before x
  adds_more =
      record {
        adds = length_added;
        marked_ends = λ e. exact_more ∙ take_all (sent_after (length before) + most) v (leb-true (length v) (sent_after (length before) + most) (sym marks ∙ e));
        end_marked = λ e. marks ∙ le-leb (length v) (sent_after (length before) + most)
            (omega (arith, ap length (sym exact_more ∙ e), length-take (sent_after (length before) + most) v));
      }

  pub more : SoFar v start (x ∷ before)
  more =
      record {
        exact = exact_more ∙ ap (λ (k : ℕ). take k v) (omega arith);
        starting = so_far.starting;
        each = (adds_more, so_far.each);
      }

-- By the answers that the law gives

module _ (node : ℕ) (d0 : Objects) where
  starting_part : (earlier : List Exchange) (start : Exchange) (v : Bytes) → AnsweredByTable node d0 earlier start
      → ReadInitiate node d0 v (frames earlier) start.heard → initiate_part start.data_back ≡ take most v
  starting_part earlier start v x st =
      let d : Objects = x.objects in
      let f : Frame = start.heard in
      let p : value d (address f) ≡ v = one_value node d0 (frames earlier) (address f) (value d (address f)) v (x.objects_held.held (address f)) st.held in
      let z = read_initiate_back node d0 d x.objects_held.same_entry x.chain f v (frames earlier) st in
      ap initiate_part (x.given ∙ answer_at node d x.chain f initiate_read st.is z) ∙ (initiate_read_part (value d (address f)) _ ∙ ap (take most) p)

  extends : (since : List Exchange) (start : Exchange) (earlier : List Exchange) (v : Bytes) (x : Exchange) → AnsweredByTable node d0 (since ++ (start ∷ earlier)) x
      → ReadInitiate node d0 v (frames earlier) start.heard
      → InTurn (λ before y. ReadSegment v (frames before) y.heard) (chain_exchanges since) → ReadSegment v (frames (chain_exchanges since)) x.heard
      → SoFar v start (chain_exchanges since) → SoFar v start (x ∷ chain_exchanges since)
  extends since start earlier v x ans st t j so_far =
      let d : Objects = ans.objects in
      let c : OpenChain = ans.chain in
      let f : Frame = x.heard in
      let hs : List Frame = frames (since ++ (start ∷ earlier)) in
      let before : List Exchange = chain_exchanges since in
      let sent : ℕ = sent_after (length (frames before)) in
      let w : UnbrokenReadChain node d0 hs v (frames before) =
      record {
        since = frames since;
        start = start.heard;
        earlier = frames earlier;
        split = frames_append since (start ∷ earlier);
        starts = st;
        no_other = frames_chain since;
        continues = frames_follow v before t;
      } in
      let k : c ≡ reading v sent (turn (frames before)) = (read_tied_of node d0 hs c ans.chain_open).complete v (frames before) (w, j.remained) in
      let z : first (checks segment_read node d c f) ≡ None =
      subst (λ y. first (checks segment_read node d y f) ≡ None) (sym k) (read_segment_back node d v (frames before) f j) in
      let given : x.data_back ≡ padded (four 0 ++ segment_read_answer (reading v sent (turn (frames before)))) =
      ans.given ∙ (answer_at node d c f segment_read j.is z ∙ ap (λ y. padded (four 0 ++ segment_read_answer y)) k) in
      let l : sent ≡ sent_after (length before) = ap sent_after (frames_length before) in
      more v start before x so_far (subst (λ y. y < length v) l j.remained)
      (ap segment_part given ∙ (segment_read_part v sent (answer_control v sent (turn (frames before))) _ ∙ ap (λ y. take most (drop y v)) l))
      (ap marked_last given
      ∙ (segment_read_control (min most (length v - sent)) (answer_control v sent (turn (frames before))) (take most (drop sent v)) _
      ∙ (control_marks v sent (length (frames before)) ∙ ap (λ y. leb (length v) (y + most)) l)))

  goes_on : (since : List Exchange) (start : Exchange) (earlier : List Exchange) (v : Bytes) (x : Exchange) → AnsweredByTable node d0 (since ++ (start ∷ earlier)) x
      → ReadInitiate node d0 v (frames earlier) start.heard
      → (InTurn (λ before y. ReadSegment v (frames before) y.heard) (chain_exchanges since) → SoFar v start (chain_exchanges since))
      → (b : Bool) → InTurn (λ before y. ReadSegment v (frames before) y.heard) (cond b (x ∷ chain_exchanges since) (chain_exchanges since))
      → SoFar v start (cond b (x ∷ chain_exchanges since) (chain_exchanges since))
  goes_on since start earlier v x ans st ih true t = extends since start earlier v x ans st t.1 t.0 (ih t.1)
  goes_on since start earlier v x ans st ih false t = ih t

  so_far_of : (since : List Exchange) (start : Exchange) (earlier : List Exchange) (v : Bytes) → InTurn (AnsweredByTable node d0) (since ++ (start ∷ earlier))
      → ReadInitiate node d0 v (frames earlier) start.heard
      → InTurn (λ before x. ReadSegment v (frames before) x.heard) (chain_exchanges since) → SoFar v start (chain_exchanges since)
  so_far_of [] start earlier v ans st t =
      let i = starting_part earlier start v ans.0 st in record { exact = append-nil (initiate_part start.data_back) ∙ i; starting = i; each = tt }
  so_far_of (x ∷ since) start earlier v ans st t =
      goes_on since start earlier v x ans.0 st (so_far_of since start earlier v ans.1 st) (of_chain (verb x.heard)) t

  -- what the answers of a read chain bring follows from each answer being the one that the law gives
  pub brings : (exchanges : List Exchange) (x : Exchange) → InTurn (AnsweredByTable node d0) (x ∷ exchanges) → ReadChainsBringFront node d0 exchanges x
  brings exchanges x ans v segments w =
      let t : InTurn (λ before y. ReadSegment v (frames before) y.heard) (chain_exchanges w.since) =
      subst (InTurn (λ before y. ReadSegment v (frames before) y.heard)) (sym w.no_other) w.continues in
      subst (BringsFront v w.start) w.no_other
      (brings_front v w.start (chain_exchanges w.since)
      (so_far_of w.since w.start w.earlier v (subst (InTurn (AnsweredByTable node d0)) w.split ans) w.starts t))
