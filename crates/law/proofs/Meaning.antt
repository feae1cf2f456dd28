-- The words of the law have one meaning: each is tied to the one run of the model, or read off the events.
use Rattle.std.proofs.Common.{◌≡◌, ℕ, ◌<◌, ◌≤◌, List, [], ◌∷◌, length, sym, refl, ◌∙◌, subst, arith, length-append, length-take}
use Rattle.wire.specs.Frames.{Frame}
use Rattle.wire.proofs.Frames.{frame_laws_lem}
use Rattle.command.specs.Frames.{size, part}
use Rattle.law.specs.Histories.{InTurn}
use Rattle.law.specs.WriteChains.{joined, UnmarkedSegment}
use Rattle.law.specs.Calls.{Event, stretch, answer_frame, Exchange, Exchanged, none_yet, frame_heard, no_frame}
use Rattle.law.specs.Lawful.{OneMeaning}
use Rattle.law.proofs.AnswerFrames.{answer_is}
use Rattle.law.proofs.Values.{one_value}
use Rattle.law.proofs.Open.{one_chain}
use Rattle.law.proofs.Exchanges.{exchange}
use Rattle.law.proofs.Ports.{answered_is}

one_list : {events : List Event} {one other : List Exchange} → Exchanged events one → Exchanged events other → one ≡ other
one_list none_yet none_yet = refl
one_list (frame_heard {e = e} {events = events} f x h b rest) (frame_heard g y k b' rest') =
    let same = frame_laws_lem.one_frame (stretch (e ∷ events)) f.opcode g.opcode f.content g.content h.1 k.1 in
    let data_same : x ≡ y = answer_is x y (answered_is (answer_frame x) (answer_frame y) (sym b ∙ b')) in
    λ i. exchange (record { opcode = same.0 i; content = same.1 i }) (data_same i) ∷ one_list rest rest' i
one_list (frame_heard f x h b rest) (no_frame out rest') = absurd (out f h)
one_list (no_frame out rest) (frame_heard g y k b' rest') = absurd (out g k)
one_list (no_frame out rest) (no_frame out' rest') = one_list rest rest'

part_length : (f : Frame) → length (part f) ≤ size f
unfolding part size
part_length f = simp length-take (omega arith)

within : (n : ℕ) (segments : List Frame) → InTurn (UnmarkedSegment n) segments → length (joined segments) ≤ n
within n [] t = omega arith
within n (s ∷ before) t = omega (arith, length-append (joined before) (part s), part_length s, t.0.0.within)

pub one_meaning : OneMeaning
one_meaning =
    record {
      one_value = one_value;
      one_chain = one_chain;
      one_list = λ events one other h k. one_list h k;
      within_declared = λ node d0 hs a n bytes toggle h. subst (λ x. length x ≤ n) (sym h.2) (within n h.0 h.1.continues);
      bytes_left = λ node d0 hs v sent toggle h. subst (λ x. x < length v) (sym h.2) h.1.1;
    }
