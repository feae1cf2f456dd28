-- Two lawful runs of the same calls brought the same and left the same: by induction, each call's answer rests on the same history.
use Rattle.std.proofs.Common.{◌≡◌, ℕ, List, [], ◌∷◌, Some, None, Option, sym, refl, ap, ◌∙◌, subst, inl, inr}
use mathlib.Core.Path.{fun_ext}
use Rattle.std.proofs.lemmas.Bool.{cases_Bool}
use Rattle.wire.specs.Checking.{frame_in, fits}
use Rattle.wire.specs.Frames.{Frame, Damaged}
use Rattle.wire.proofs.Frames.{frame_laws_lem, fits_heard, fits_damaged}
use Rattle.dictionary.specs.declared.Access.{Access}
use Rattle.dictionary.specs.declared.Shape.{Shape}
use Rattle.dictionary.specs.declared.Address.{Address}
use Rattle.dictionary.specs.Objects.{Bytes, Object, Objects, no_index, no_subindex, present, look, value, entry_of, entry_under, value_of, value_under}
use Rattle.command.specs.Commands.{answer}
use Rattle.law.specs.Histories.{InTurn}
use Rattle.law.specs.Held.{ObjectsHeld}
use Rattle.law.specs.Calls.{Call, Brought, refused, nothing, answered, Event, calls, stretch, HeardAt, answer_frame, Exchange, frames, Exchanged, none_yet, frame_heard, no_frame}
use Rattle.law.specs.Lawful.{Refusals, Reception, AnsweredByTable, SameObjects, Determined}
use Rattle.law.specs.Ports.{event}
use Rattle.law.proofs.Values.{one_value}
use Rattle.law.proofs.Open.{one_chain}
use Rattle.law.proofs.Exchanges.{exchange}
use Rattle.law.proofs.Ports.{nothing_answered}

-- Objects with the same entries and values are the same

unlike_absent : {P : Type 0} (a : Access) (s : Shape) → no_subindex ≡ present a s → P
unlike_absent a s e = cc

same_access : (a b : Access) (s t : Shape) → present a s ≡ present b t → a ≡ b
same_access a b s t e = cc

same_shape : (a b : Access) (s t : Shape) → present a s ≡ present b t → s ≡ t
same_shape a b s t e = cc

object_same : (o p : Option Object) → entry_of o ≡ entry_of p → value_of o ≡ value_of p → o ≡ p
object_same None None e v = refl
object_same None (Some p) e v = unlike_absent p.access p.shape e
object_same (Some o) None e v = unlike_absent o.access o.shape (sym e)
object_same (Some o) (Some p) e v =
    let a : o.access ≡ p.access = same_access o.access p.access o.shape p.shape e in
    let s : o.shape ≡ p.shape = same_shape o.access p.access o.shape p.shape e in
    λ i. Some (record { access = a i; shape = s i; value = v i })

index_known : {P : Type 0} (o : Option Object) → no_index ≡ entry_of o → P
index_known None e = cc
index_known (Some o) e = cc

under_same : (x y : Option (ℕ → Option Object)) → ((s : ℕ) → entry_under x s ≡ entry_under y s) → ((s : ℕ) → value_under x s ≡ value_under y s) → x ≡ y
under_same None None e v = refl
under_same None (Some y) e v = index_known (y 0) (e 0)
under_same (Some x) None e v = index_known (x 0) (sym (e 0))
under_same (Some x) (Some y) e v =
    let f : x ≡ y = fun_ext (λ s. object_same (x s) (y s) (e s) (v s)) in
    λ i. Some (f i)

objects_same : (d e : Objects) → ((a : Address) → look d a ≡ look e a) → ((a : Address) → value d a ≡ value e a) → d ≡ e
objects_same d e l v =
    fun_ext (λ i. under_same (d i) (e i) (λ s. l (record { index = i; subindex = s })) (λ s. v (record { index = i; subindex = s })))

module _ (node : ℕ) (d0 : Objects) where
  -- the objects held after a history are the same
  held_same : (hs : List Frame) (d e : Objects) → ObjectsHeld node d0 hs d → ObjectsHeld node d0 hs e → SameObjects d e
  held_same hs d e g h =
      record {
        same_entry = λ a. g.same_entry a ∙ sym (h.same_entry a);
        same_value = λ a. one_value node d0 hs a (value d a) (value e a) (g.held a) (h.held a);
      }

  answer_same : (log : List Exchange) (f : Frame) (x y : Bytes) → AnsweredByTable node d0 log (exchange f x) → AnsweredByTable node d0 log (exchange f y) → x ≡ y
  answer_same log f x y g h =
      let s = held_same (frames log) g.objects h.objects g.objects_held h.objects_held in
      let o : g.objects ≡ h.objects = objects_same g.objects h.objects s.same_entry s.same_value in
      let c : g.chain ≡ h.chain = one_chain node d0 (frames log) g.chain h.chain g.chain_open h.chain_open in
      g.given ∙ (λ i. answer node (o i) (c i) f) ∙ sym h.given

  -- what the newest event adds to the log
  data Newest (es : List Event) (log : List Exchange) (e : Event) (all : List Exchange) : Type 0 where
    hears : (f : Frame) (x : Bytes) → HeardAt es e f → e.brought ≡ answered (answer_frame x)
        → AnsweredByTable node d0 log (exchange f x) → all ≡ exchange f x ∷ log → Newest es log e all
    passes : ((f : Frame) → HeardAt es e f → ⊥) → all ≡ log → Newest es log e all

  newest : {e : Event} {es : List Event} {all : List Exchange} → Exchanged (e ∷ es) all → InTurn (AnsweredByTable node d0) all
      → (log : List Exchange) × Exchanged es log × InTurn (AnsweredByTable node d0) log × Newest es log e all
  newest (frame_heard {exchanges = log} f x h b rest) a = (log, rest, a.1, hears f x h b a.0 refl)
  newest (no_frame {exchanges = log} out rest) a = (log, rest, a, passes out refl)

  log_none : {log : List Exchange} → Exchanged [] log → log ≡ []
  log_none none_yet = refl

  module _ (es : List Event) (c : Call) where
    -- a call in which no frame is heard
    unheard_same : (x y : Brought) → Refusals (event c x) → Refusals (event c y) → Reception es (event c x) → Reception es (event c y)
        → ((f : Frame) → HeardAt es (event c x) f → ⊥) → x ≡ y
    unheard_same (refused n) y r q s t out = sym (q.too_small n (r.only_then n refl))
    unheard_same nothing (refused n) r q s t out = r.too_small n (q.only_then n refl)
    unheard_same nothing nothing r q s t out = refl
    unheard_same nothing (answered v) r q s t out =
        let k = t.answered_completes v refl in
        let l = s.completes_answered k.0 k.1 in
        nothing_answered l.0 l.1
    unheard_same (answered u) y r q s t out =
        let k = s.answered_completes u refl in
        elim (cases_Bool (fits k.0)) [
          | inl e ↦ absurd (out (frame_in k.0) (k.1.0, fits_heard _ k.0 k.1.1 e))
          | inr e ↦
              let bad : Damaged (stretch (event c (answered u) ∷ es)) = fits_damaged _ k.0 k.1.1 e in
              s.damaged_answered (k.1.0, bad) ∙ sym (t.damaged_answered (k.1.0, bad))
        ]

    newest_same : (log : List Exchange) (x y : Brought) (all other : List Exchange)
        → Refusals (event c x) → Refusals (event c y) → Reception es (event c x) → Reception es (event c y)
        → Newest es log (event c x) all → Newest es log (event c y) other → (x ≡ y) × (all ≡ other)
    newest_same log x y all other r q s t (hears f u h b a e) (hears g v k b' a' e') =
        let same = frame_laws_lem.one_frame (stretch (event c x ∷ es)) f.opcode g.opcode f.content g.content h.1 k.1 in
        let fg : f ≡ g = λ i. record { opcode = same.0 i; content = same.1 i } in
        let uv : u ≡ v = answer_same log g u v (subst (λ w. AnsweredByTable node d0 log (exchange w u)) fg a) a' in
        (b ∙ ap (λ w. answered (answer_frame w)) uv ∙ sym b', e ∙ (λ i. exchange (fg i) (uv i) ∷ log) ∙ sym e')
    newest_same log x y all other r q s t (hears f u h b a e) (passes out e') = absurd (out f h)
    newest_same log x y all other r q s t (passes out e) (hears g v k b' a' e') = absurd (out g k)
    newest_same log x y all other r q s t (passes out e) (passes out' e') = (unheard_same x y r q s t out, e ∙ sym e')

  head_call : (c k : Call) (cs ks : List Call) → c ∷ cs ≡ k ∷ ks → c ≡ k
  head_call c k cs ks e = cc

  tail_calls : (c k : Call) (cs ks : List Call) → c ∷ cs ≡ k ∷ ks → cs ≡ ks
  tail_calls c k cs ks e = cc

  none_cons : {P : Type 0} (c : Call) (cs : List Call) → [] ≡ c ∷ cs → P
  none_cons c cs e = cc

  same_run : (es fs : List Event) (log other : List Exchange) → calls es ≡ calls fs
      → InTurn (λ before e. Refusals e) es → InTurn (λ before e. Refusals e) fs → InTurn Reception es → InTurn Reception fs
      → Exchanged es log → Exchanged fs other → InTurn (AnsweredByTable node d0) log → InTurn (AnsweredByTable node d0) other → (es ≡ fs) × (log ≡ other)
  same_run [] [] log other e r q s t h k a b = (refl, log_none h ∙ sym (log_none k))
  same_run [] (f ∷ fs) log other e r q s t h k a b = none_cons f.call (calls fs) e
  same_run (x ∷ es) [] log other e r q s t h k a b = none_cons x.call (calls es) (sym e)
  same_run (x ∷ es) (y ∷ fs) log other e r q s t h k a b =
      let m = newest h a in
      let n = newest k b in
      let call_is : y.call ≡ x.call = sym (head_call x.call y.call (calls es) (calls fs) e) in
      let ih : (es ≡ fs) × (m.0 ≡ n.0) =
      same_run es fs m.0 n.0 (tail_calls x.call y.call (calls es) (calls fs) e) r.1 q.1 s.1 t.1 m.1 n.1 m.2 n.2 in
      let q' : Refusals (event x.call y.brought) = subst (λ c. Refusals (event c y.brought)) call_is q.0 in
      let t1 : Reception es y = subst (λ l. Reception l y) (sym ih.0) t.0 in
      let t' : Reception es (event x.call y.brought) = subst (λ c. Reception es (event c y.brought)) call_is t1 in
      let n1 : Newest es n.0 y other = subst (λ l. Newest l n.0 y other) (sym ih.0) n.3 in
      let n2 : Newest es m.0 y other = subst (λ l. Newest es l y other) (sym ih.1) n1 in
      let n' : Newest es m.0 (event x.call y.brought) other = subst (λ c. Newest es m.0 (event c y.brought) other) call_is n2 in
      let z = newest_same es x.call m.0 x.brought y.brought log other r.0 q' s.0 t' m.3 n' in
      ((λ i. event (sym call_is i) (z.0 i) ∷ ih.0 i), z.1)

pub determined : Determined
determined node d0 es fs d e same l m =
    let z = same_run node d0 es fs l.exchanges m.exchanges same l.refusals m.refusals l.reception m.reception l.heard m.heard l.answers m.answers in
    (z.0, held_same node d0 (frames l.exchanges) d e l.objects (subst (λ x. ObjectsHeld node d0 (frames x) e) (sym z.1) m.objects))
