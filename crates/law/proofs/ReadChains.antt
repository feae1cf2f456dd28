-- The open chain is a read chain exactly where the history has one open.
use Rattle.std.proofs.Common.{◌≡◌, ℕ, suc, ◌+◌, ◌-◌, ◌<◌, Bool, true, false, cond, ltb, List, [], ◌∷◌, ◌++◌, length, Some, None, Option, sym, refl, ap, ◌∙◌, subst, subst₂, arith}
use Rattle.std.proofs.lemmas.Bool.{ltb-true, lt-ltb}
use Rattle.dictionary.specs.Objects.{Bytes, Objects, value}
use Rattle.dictionary.specs.declared.Address.{Address}
use Rattle.command.specs.Checks.{Check}
use Rattle.wire.specs.Frames.{Frame}
use Rattle.command.specs.Frames.{Verb, read_object, initiate_read, write_object, initiate_write, segment_read, segment_write, unknown}
use Rattle.command.specs.Frames.{verb, address, marked, part, of_chain}
use Rattle.command.specs.Checks.{first}
use Rattle.command.specs.Checks.{OpenChain, closed, reading, writing, checks}
use Rattle.command.specs.Commands.{chain_by, next_chain, remains, read_on}
use Rattle.command.specs.Answers.{most}
use Rattle.law.specs.Histories.{turn}
use Rattle.law.specs.Held.{Held}
use Rattle.law.specs.ReadChains.{sent_after, ReadInitiate, ReadSegment, OpenReadChain}
use Rattle.law.proofs.Unbroken.{Came, begun, aside, extended, came, chain_none, chain_begun, chain_aside, chain_extended}
use Rattle.law.proofs.Passing.{Same, read_initiate_from, read_initiate_back, read_segment_from, read_segment_back}
use Rattle.law.proofs.WriteChains.{flip, not_chain, next_at, Tied}

-- an open read chain is open in the history
abbrev pub OpenIfReading : ℕ → Objects → List Frame → OpenChain → Type 0
OpenIfReading node d0 hs closed = Unit {0}
OpenIfReading node d0 hs (writing a n bytes t) = Unit {0}
OpenIfReading node d0 hs (reading v sent t) =
    (segments : List Frame) × OpenReadChain node d0 hs v segments × (sent ≡ sent_after (length segments)) × (t ≡ turn segments)

pub record ReadTied (node : ℕ) (d0 : Objects) (hs : List Frame) (c : OpenChain) : Type 0 where
  pub sound : OpenIfReading node d0 hs c
  pub complete : (v : Bytes) (segments : List Frame) → OpenReadChain node d0 hs v segments → c ≡ reading v (sent_after (length segments)) (turn segments)

pub read_tied_none : (node : ℕ) (d0 : Objects) → ReadTied node d0 [] closed
read_tied_none node d0 = record { sound = tt; complete = λ v segments w. absurd (chain_none segments w.0) }

step : (k : ℕ) → sent_after k + most ≡ sent_after (suc k)
step k = omega arith

module _ (node : ℕ) (d0 d : Objects) (same : Same d d0) (hs : List Frame) (c : OpenChain) (tied : Tied node d0 hs c) (read_tied : ReadTied node d0 hs c)
    (holds : (a : Address) → Held node d0 hs a (value d a)) (held_is : (a : Address) (v : Bytes) → Held node d0 hs a v → value d a ≡ v) (f : Frame) where
  sound_aside : (k : OpenChain) → of_chain (verb f) ≡ false → OpenIfReading node d0 hs k → OpenIfReading node d0 (f ∷ hs) k
  sound_aside closed e h = tt
  sound_aside (writing a n bytes t) e h = tt
  sound_aside (reading v sent t) e h = (h.0, (chain_aside f hs h.0 e h.1.0, h.1.1), h.2, h.3)

  sound_begun : verb f ≡ initiate_read → first (checks initiate_read node d c f) ≡ None → (b : Bool) → ltb most (length (value d (address f))) ≡ b
      → OpenIfReading node d0 (f ∷ hs) (cond b (reading (value d (address f)) most 0) closed)
  sound_begun e z false b = tt
  sound_begun e z true b =
      ([], (chain_begun f hs (read_initiate_from node d0 d same c f (value d (address f)) hs e z (holds (address f))), ltb-true most (length (value d (address f))) b), refl, refl)

  sound_extended : (v : Bytes) (sent t : ℕ) → OpenIfReading node d0 hs (reading v sent t) → verb f ≡ segment_read
      → first (checks segment_read node d (reading v sent t) f) ≡ None → (b : Bool) → ltb (sent + most) (length v) ≡ b
      → OpenIfReading node d0 (f ∷ hs) (cond b (reading v (sent + most) (1 - t)) closed)
  sound_extended v sent t h e z false b = tt
  sound_extended v sent t h e z true b =
      let before : List Frame = h.0 in
      let y : first (checks segment_read node d (reading v (sent_after (length before)) (turn before)) f) ≡ None =
      subst₂ (λ x u. first (checks segment_read node d (reading v x u) f) ≡ None) h.2 h.3 z in
      let s : sent + most ≡ sent_after (suc (length before)) = ap (λ x. x + most) h.2 ∙ step (length before) in (
        f ∷ before,
        (chain_extended f hs before (ap of_chain e) h.1.0 (read_segment_from node d v before f h.1.1 e y), subst (λ x. x < length v) s (ltb-true (sent + most) (length v) b)),
        s,
        ap (λ x. 1 - x) h.3 ∙ flip (length before),
      )

  sound_by : (w : Verb) → verb f ≡ w → (k : OpenChain) → k ≡ c → OpenIfReading node d0 hs k → (x : Option Check) → first (checks w node d k f) ≡ x
      → OpenIfReading node d0 (f ∷ hs) (chain_by w x d k f)
  sound_by read_object e k q h x z = sound_aside k (ap of_chain e) h
  sound_by write_object e k q h x z = sound_aside k (ap of_chain e) h
  sound_by unknown e k q h x z = sound_aside k (ap of_chain e) h
  sound_by initiate_read e k q h (Some y) z = tt
  sound_by initiate_read e k q h None z = sound_begun e (subst (λ u. first (checks initiate_read node d u f) ≡ None) q z) (ltb most (length (value d (address f)))) refl
  sound_by initiate_write e k q h (Some y) z = tt
  sound_by initiate_write e k q h None z = tt
  sound_by segment_write e k q h (Some y) z = tt
  sound_by segment_write e closed q h None z = tt
  sound_by segment_write e (reading v sent t) q h None z = tt
  sound_by segment_write e (writing a n bytes t) q h None z = sound_written (marked f) a n (bytes ++ part f) (1 - t)
    where
      sound_written : (b : Bool) (a : Address) (n : ℕ) (bytes : Bytes) (t : ℕ) → OpenIfReading node d0 (f ∷ hs) (cond b closed (writing a n bytes t))
      sound_written true a n bytes t = tt
      sound_written false a n bytes t = tt
  sound_by segment_read e k q h (Some y) z = tt
  sound_by segment_read e closed q h None z = tt
  sound_by segment_read e (writing a n bytes t) q h None z = tt
  sound_by segment_read e (reading v sent t) q h None z = sound_extended v sent t h e z (ltb (sent + most) (length v)) refl

  complete_by : (v : Bytes) (segments : List Frame) → sent_after (length segments) < length v → Came (ReadInitiate node d0 v) (ReadSegment v) f hs segments
      → next_chain node d c f ≡ reading v (sent_after (length segments)) (turn segments)
  complete_by v segments r (begun st e) =
      let p : value d (address f) ≡ v = held_is (address f) v st.held in
      let l : most < length v = subst (λ (x : List Frame). sent_after (length x) < length v) e r in
      next_at node d0 d same hs c tied f initiate_read st.is None (read_initiate_back node d0 d same c f v hs st)
      ∙ (ap (λ x. remains x most 0) p
      ∙ (ap (λ b. cond b (reading v most 0) closed) (lt-ltb most (length v) l)
      ∙ sym (ap (λ (x : List Frame). reading v (sent_after (length x)) (turn x)) e)))
  complete_by v segments r (aside e w) =
      next_at node d0 d same hs c tied f (verb f) refl (first (checks (verb f) node d c f)) refl
      ∙ (not_chain (verb f) e (first (checks (verb f) node d c f)) d c f ∙ read_tied.complete v segments (w, r))
  complete_by v segments r (extended before w j e) =
      let k : c ≡ reading v (sent_after (length before)) (turn before) = read_tied.complete v before (w, j.remained) in
      let z : first (checks segment_read node d c f) ≡ None =
      subst (λ x. first (checks segment_read node d x f) ≡ None) (sym k) (read_segment_back node d v before f j) in
      let l : sent_after (length before) + most < length v =
      subst (λ x. x < length v) (sym (step (length before))) (subst (λ (x : List Frame). sent_after (length x) < length v) e r) in
      next_at node d0 d same hs c tied f segment_read j.is None z
      ∙ (ap read_on k
      ∙ (ap (λ b. cond b (reading v (sent_after (length before) + most) (1 - turn before)) closed) (lt-ltb (sent_after (length before) + most) (length v) l)
      ∙ (ap (λ x. reading v x (1 - turn before)) (step (length before))
      ∙ (ap (λ x. reading v (sent_after (suc (length before))) x) (flip (length before))
      ∙ sym (ap (λ (x : List Frame). reading v (sent_after (length x)) (turn x)) e)))))

  pub read_tied_next : ReadTied node d0 (f ∷ hs) (next_chain node d c f)
  read_tied_next =
      record {
        sound =
            subst (OpenIfReading node d0 (f ∷ hs)) (sym (next_at node d0 d same hs c tied f (verb f) refl (first (checks (verb f) node d c f)) refl))
            (sound_by (verb f) refl c refl read_tied.sound (first (checks (verb f) node d c f)) refl);
        complete = λ v segments w. complete_by v segments w.1 (came f hs segments w.0);
      }
