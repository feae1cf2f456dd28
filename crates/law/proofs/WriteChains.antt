-- The open chain is a write chain exactly where the history has one open.
use Rattle.std.proofs.Common.{◌≡◌, ℕ, suc, ◌+◌, ◌-◌, ◌%◌, Bool, true, false, cond, ltb, List, [], ◌∷◌, ◌++◌, length, Some, None, Option, sym, refl, ap, ◌∙◌, subst, subst₂, arith}
use Rattle.std.proofs.lemmas.Bool.{true≢false}
use Rattle.dictionary.specs.Objects.{Bytes, Objects, value}
use Rattle.dictionary.specs.declared.Address.{Address}
use Rattle.command.specs.Checks.{Check}
use Rattle.wire.specs.Frames.{Frame}
use Rattle.command.specs.Frames.{Verb, read_object, initiate_read, write_object, initiate_write, segment_read, segment_write, unknown}
use Rattle.command.specs.Frames.{verb, address, marked, part, of_chain}
use Rattle.command.specs.Checks.{first}
use Rattle.command.specs.Checks.{OpenChain, closed, reading, writing, checks}
use Rattle.command.specs.Commands.{chain_by, next_chain, write_on}
use Rattle.command.specs.Answers.{most}
use Rattle.law.specs.Histories.{turn}
use Rattle.law.specs.WriteChains.{joined, WriteInitiate, UnmarkedSegment, OpenWriteChain}
use Rattle.law.proofs.Unbroken.{Came, begun, aside, extended, came, chain_none, chain_begun, chain_aside, chain_extended}
use Rattle.law.proofs.Passing.{Same, fault_at, write_initiate_from, write_initiate_back, segment_from, segment_back}

-- an open write chain is open in the history
abbrev pub OpenIfWriting : ℕ → Objects → List Frame → OpenChain → Type 0
OpenIfWriting node d0 hs closed = Unit {0}
OpenIfWriting node d0 hs (reading v sent t) = Unit {0}
OpenIfWriting node d0 hs (writing a n bytes t) =
    (segments : List Frame) × OpenWriteChain node d0 hs a n segments × (bytes ≡ joined segments) × (t ≡ turn segments)

pub record Tied (node : ℕ) (d0 : Objects) (hs : List Frame) (c : OpenChain) : Type 0 where
  pub sound : OpenIfWriting node d0 hs c
  pub complete : (a : Address) (n : ℕ) (segments : List Frame) → OpenWriteChain node d0 hs a n segments → c ≡ writing a n (joined segments) (turn segments)

pub tied_none : (node : ℕ) (d0 : Objects) → Tied node d0 [] closed
tied_none node d0 = record { sound = tt; complete = λ a n segments w. absurd (chain_none segments w) }

pub flip : (n : ℕ) → 1 - n % 2 ≡ suc n % 2
flip n = omega arith

-- frames of any other OpCode leave the chain
pub not_chain : (w : Verb) → of_chain w ≡ false → (fault : Option Check) (d : Objects) (c : OpenChain) (f : Frame) → chain_by w fault d c f ≡ c
not_chain read_object e x d c f = refl
not_chain initiate_read e x d c f = absurd (true≢false e)
not_chain write_object e x d c f = refl
not_chain initiate_write e x d c f = absurd (true≢false e)
not_chain segment_read e x d c f = absurd (true≢false e)
not_chain segment_write e x d c f = absurd (true≢false e)
not_chain unknown e x d c f = refl

module _ (node : ℕ) (d0 d : Objects) (same : Same d d0) (hs : List Frame) (c : OpenChain) (tied : Tied node d0 hs c) (f : Frame) where
  sound_aside : (k : OpenChain) → of_chain (verb f) ≡ false → OpenIfWriting node d0 hs k → OpenIfWriting node d0 (f ∷ hs) k
  sound_aside closed e h = tt
  sound_aside (reading v sent t) e h = tt
  sound_aside (writing a n bytes t) e h = (h.0, chain_aside f hs h.0 e h.1, h.2, h.3)

  sound_remains : (b : Bool) (v : Bytes) (sent t : ℕ) → OpenIfWriting node d0 (f ∷ hs) (cond b (reading v sent t) closed)
  sound_remains true v sent t = tt
  sound_remains false v sent t = tt

  sound_joined : (a : Address) (n : ℕ) (bytes : Bytes) (t : ℕ) → OpenIfWriting node d0 hs (writing a n bytes t) → verb f ≡ segment_write
      → first (checks segment_write node d (writing a n bytes t) f) ≡ None → (m : Bool) → marked f ≡ m
      → OpenIfWriting node d0 (f ∷ hs) (cond m closed (writing a n (bytes ++ part f) (1 - t)))
  sound_joined a n bytes t h e z true m = tt
  sound_joined a n bytes t h e z false m =
      let before : List Frame = h.0 in
      let y : first (checks segment_write node d (writing a n (joined before) (turn before)) f) ≡ None =
      subst₂ (λ x u. first (checks segment_write node d (writing a n x u) f) ≡ None) h.2 h.3 z in (
        f ∷ before,
        chain_extended f hs before (ap of_chain e) h.1 (segment_from node d a n before f e y, m),
        ap (λ x. x ++ part f) h.2,
        ap (λ x. 1 - x) h.3 ∙ flip (length before),
      )

  sound_by : (w : Verb) → verb f ≡ w → (k : OpenChain) → k ≡ c → OpenIfWriting node d0 hs k → (x : Option Check) → first (checks w node d k f) ≡ x
      → OpenIfWriting node d0 (f ∷ hs) (chain_by w x d k f)
  sound_by read_object e k q h x z = sound_aside k (ap of_chain e) h
  sound_by write_object e k q h x z = sound_aside k (ap of_chain e) h
  sound_by unknown e k q h x z = sound_aside k (ap of_chain e) h
  sound_by initiate_read e k q h (Some y) z = tt
  sound_by initiate_read e k q h None z = sound_remains (ltb most (length (value d (address f)))) (value d (address f)) most 0
  sound_by initiate_write e k q h (Some y) z = tt
  sound_by initiate_write e k q h None z =
      ([], chain_begun f hs (write_initiate_from node d0 d same k f e z), refl, refl)
  sound_by segment_read e k q h (Some y) z = tt
  sound_by segment_read e closed q h None z = tt
  sound_by segment_read e (writing a n bytes t) q h None z = tt
  sound_by segment_read e (reading v sent t) q h None z = sound_remains (ltb (sent + most) (length v)) v (sent + most) (1 - t)
  sound_by segment_write e k q h (Some y) z = tt
  sound_by segment_write e closed q h None z = tt
  sound_by segment_write e (reading v sent t) q h None z = tt
  sound_by segment_write e (writing a n bytes t) q h None z = sound_joined a n bytes t h e z (marked f) refl

  pub next_at : (w : Verb) → verb f ≡ w → (x : Option Check) → first (checks w node d c f) ≡ x → next_chain node d c f ≡ chain_by w x d c f
  unfolding next_chain
  next_at w e x z = ap (λ y. chain_by (verb f) y d c f) (fault_at node d c f w e ∙ z) ∙ ap (λ v. chain_by v x d c f) e

  complete_by : (a : Address) (n : ℕ) (segments : List Frame) → Came (λ earlier g. WriteInitiate node d0 g a n) (UnmarkedSegment n) f hs segments
      → next_chain node d c f ≡ writing a n (joined segments) (turn segments)
  complete_by a n segments (begun st e) =
      next_at initiate_write st.is None (write_initiate_back node d0 d same c f a n st)
      ∙ (let p = st.at in let q = st.says in rw (e, p, q))
  complete_by a n segments (aside e w) =
      next_at (verb f) refl (first (checks (verb f) node d c f)) refl
      ∙ (not_chain (verb f) e (first (checks (verb f) node d c f)) d c f ∙ tied.complete a n segments w)
  complete_by a n segments (extended before w j e) =
      let k : c ≡ writing a n (joined before) (turn before) = tied.complete a n before w in
      let z : first (checks segment_write node d c f) ≡ None =
      subst (λ x. first (checks segment_write node d x f) ≡ None) (sym k) (segment_back node d a n before f j.0 j.1) in
      next_at segment_write j.0.is None z
      ∙ (ap (λ x. write_on x f) k
      ∙ (ap (λ m. cond m closed (writing a n (joined before ++ part f) (1 - turn before))) j.1
      ∙ (ap (λ x. writing a n (joined before ++ part f) x) (flip (length before)) ∙ sym (ap (λ x. writing a n (joined x) (turn x)) e))))

  pub tied_next : Tied node d0 (f ∷ hs) (next_chain node d c f)
  unfolding next_chain
  tied_next =
      record {
        sound =
            subst (OpenIfWriting node d0 (f ∷ hs)) (sym (next_at (verb f) refl (first (checks (verb f) node d c f)) refl))
            (sound_by (verb f) refl c refl tied.sound (first (checks (verb f) node d c f)) refl);
        complete = λ a n segments w. complete_by a n segments (came f hs segments w);
      }
