-- A frame brings about a write exactly where, by the history, it completes one.
use Rattle.std.proofs.Common.{◌≡◌, ℕ, Bool, true, false, cond, List, ◌++◌, Some, None, Option, sym, refl, ap, ◌∙◌, subst, subst₂, inl, inr}
use Rattle.dictionary.specs.Objects.{Bytes, Objects, look, Admits}
use Rattle.dictionary.specs.declared.Address.{Address}
use Rattle.command.specs.Checks.{low_bytes}
use Rattle.command.specs.Checks.{Check}
use Rattle.wire.specs.Frames.{Frame}
use Rattle.command.specs.Frames.{Verb, read_object, initiate_read, write_object, initiate_write, segment_read, segment_write, unknown}
use Rattle.command.specs.Frames.{verb, address, payload, marked, part}
use Rattle.command.specs.Checks.{first}
use Rattle.command.specs.Checks.{OpenChain, closed, reading, writing, checks}
use Rattle.command.specs.Commands.{by_fault, Write, writes, ended, write_of}
use Rattle.law.specs.Histories.{turn}
use Rattle.law.specs.WriteChains.{joined, OpenWriteChain}
use Rattle.law.specs.Held.{WholeByObject, WholeByChain, CompletedWrite}
use Rattle.law.proofs.Passing.{Same, fault_at, object_from, object_back, last_from, last_back}
use Rattle.law.proofs.WriteChains.{Tied, OpenIfWriting}

pub nothing : {P : Type 0} (w : Write) → None ≡ Some w → P
nothing w e = cc

pub some_at : (u w : Write) → Some u ≡ Some w → u ≡ w
some_at u w e = cc

module _ (node : ℕ) (d0 d : Objects) (same : Same d d0) (hs : List Frame) (c : OpenChain) (tied : Tied node d0 hs c) (f : Frame) where
  pub write_at : (w : Verb) → verb f ≡ w → (x : Option Check) → first (checks w node d c f) ≡ x → write_of node d c f ≡ by_fault x (λ _. None) (writes w d c f)
  unfolding write_of
  write_at w e x z =
      ap (λ y. by_fault y (λ _. None) (writes (verb f) d c f)) (fault_at node d c f w e ∙ z) ∙ ap (λ v. by_fault x (λ _. None) (writes v d c f)) e

  module _ (a : Address) (v : Bytes) where
    chain_from : verb f ≡ segment_write → (b : Address) (n : ℕ) (bytes : Bytes) (t : ℕ) → OpenIfWriting node d0 hs (writing b n bytes t)
        → first (checks segment_write node d (writing b n bytes t) f) ≡ None → (m : Bool) → marked f ≡ m
        → cond {A = Option Write} m (Some (b, bytes ++ part f)) None ≡ Some (a, v) → CompletedWrite node d0 hs f a v
    chain_from e b n bytes t h z false m r = nothing (a, v) r
    chain_from e b n bytes t h z true m r =
        let before : List Frame = h.0 in
        let y : first (checks segment_write node d (writing b n (joined before) (turn before)) f) ≡ None =
        subst₂ (λ x u. first (checks segment_write node d (writing b n x u) f) ≡ None) h.2 h.3 z in
        let q : (b, bytes ++ part f) ≡ (a, v) = some_at (b, bytes ++ part f) (a, v) r in
        let k = last_from node d b n before f e m y in
        let at : b ≡ a = ap (λ (x : Write). x.0) q in
        let whole : v ≡ joined before ++ part f = sym (ap (λ (x : Write). x.1) q) ∙ ap (λ x. x ++ part f) h.2 in
        let ad : Admits (look d0 b) (joined before ++ part f) = subst (λ x. Admits x (joined before ++ part f)) (same b) k.1 in
        record {
          brought_whole = inr (record {
            n = n;
            segments = before;
            open_before = subst (λ x. OpenWriteChain node d0 hs x n before) at h.1;
            last = k.0;
            whole = whole;
          });
          admitted = subst₂ (λ x y. Admits (look d0 x) y) at (sym whole) ad;
        }

    completed_by : (w : Verb) → verb f ≡ w → (k : OpenChain) → OpenIfWriting node d0 hs k → (x : Option Check) → first (checks w node d k f) ≡ x
        → by_fault x (λ _. None) (writes w d k f) ≡ Some (a, v) → CompletedWrite node d0 hs f a v
    completed_by read_object e k h (Some y) z r = nothing (a, v) r
    completed_by read_object e k h None z r = nothing (a, v) r
    completed_by initiate_read e k h (Some y) z r = nothing (a, v) r
    completed_by initiate_read e k h None z r = nothing (a, v) r
    completed_by initiate_write e k h (Some y) z r = nothing (a, v) r
    completed_by initiate_write e k h None z r = nothing (a, v) r
    completed_by segment_read e k h (Some y) z r = nothing (a, v) r
    completed_by segment_read e k h None z r = nothing (a, v) r
    completed_by unknown e k h (Some y) z r = nothing (a, v) r
    completed_by unknown e k h None z r = nothing (a, v) r
    completed_by write_object e k h (Some y) z r = nothing (a, v) r
    completed_by write_object e k h None z r =
        let u : Bytes = low_bytes (look d (address f)) (payload f) in
        let q : (address f, u) ≡ (a, v) = some_at (address f, u) (a, v) r in
        let o = object_from node d0 d same k f e z in
        subst₂ (λ x y. CompletedWrite node d0 hs f x y) (ap (λ (x : Write). x.0) q) (ap (λ (x : Write). x.1) q) (record { brought_whole = inl o.0; admitted = o.1 })
    completed_by segment_write e k h (Some y) z r = nothing (a, v) r
    completed_by segment_write e closed h None z r = nothing (a, v) r
    completed_by segment_write e (reading u sent t) h None z r = nothing (a, v) r
    completed_by segment_write e (writing b n bytes t) h None z r = chain_from e b n bytes t h z (marked f) refl r

    pub completed_from : write_of node d c f ≡ Some (a, v) → CompletedWrite node d0 hs f a v
    completed_from r =
        completed_by (verb f) refl c tied.sound (first (checks (verb f) node d c f)) refl
        (sym (write_at (verb f) refl (first (checks (verb f) node d c f)) refl) ∙ r)

    object_to : WholeByObject node d0 f a v → Admits (look d0 a) v → write_of node d c f ≡ Some (a, v)
    object_to s ad =
        let s1 : WholeByObject node d0 f (address f) v = subst (λ x. WholeByObject node d0 f x v) (sym s.at) s in
        let ad1 : Admits (look d0 (address f)) v = subst (λ x. Admits (look d0 x) v) (sym s.at) ad in
        let k = object_back node d0 d same c f v s1 ad1 in
        write_at write_object s.is None k.1 ∙ ap {B = Option Write} Some (λ i. (s.at i, sym k.0 i))

    chain_to : WholeByChain node d0 hs f a v → Admits (look d0 a) v → write_of node d c f ≡ Some (a, v)
    chain_to s ad =
        let before : List Frame = s.segments in
        let k : c ≡ writing a s.n (joined before) (turn before) = tied.complete a s.n before s.open_before in
        let ad1 : Admits (look d a) (joined before ++ part f) = subst₂ (λ x y. Admits x y) (sym (same a)) s.whole ad in
        let z : first (checks segment_write node d c f) ≡ None =
        subst (λ x. first (checks segment_write node d x f) ≡ None) (sym k) (last_back node d a s.n before f s.last ad1) in
        write_at segment_write s.last.next.is None z
        ∙ (ap (λ x. ended x f) k
        ∙ (ap (λ (m : Bool). cond {A = Option Write} m (Some (a, joined before ++ part f)) None) s.last.last
        ∙ ap {B = Option Write} (λ x. Some (a, x)) (sym s.whole)))

    pub completed_to : CompletedWrite node d0 hs f a v → write_of node d c f ≡ Some (a, v)
    completed_to h = elim h.brought_whole [ inl s ↦ object_to s h.admitted | inr s ↦ chain_to s h.admitted ]
