-- There is one chain that is open by the history.
use Rattle.std.proofs.Common.{◌≡◌, ℕ, List, [], ◌∷◌, length, sym, refl, ◌∙◌, subst}
use Rattle.dictionary.specs.Objects.{Bytes, Objects, value}
use Rattle.dictionary.specs.declared.Address.{Address}
use Rattle.wire.specs.Frames.{Frame}
use Rattle.command.specs.Checks.{OpenChain, closed, reading, writing}
use Rattle.command.specs.Commands.{carry, write_of, apply, next_chain}
use Rattle.law.specs.Histories.{turn}
use Rattle.law.specs.WriteChains.{joined}
use Rattle.law.specs.Held.{ObjectsHeld}
use Rattle.law.specs.ReadChains.{sent_after, OpenAfter}
use Rattle.law.proofs.After.{after}
use Rattle.law.proofs.WriteChains.{Tied}
use Rattle.law.proofs.Values.{Kept, kept, kept_next, one_value}
use Rattle.law.proofs.ReadChains.{ReadTied, read_tied_none, read_tied_next}

-- the open chain after one more frame
read_next : (node : ℕ) (d0 : Objects) (hs : List Frame) (d : Objects) (c : OpenChain) → Kept node d0 hs d c → ReadTied node d0 hs c → (f : Frame)
    → ReadTied node d0 (f ∷ hs) (next_chain node d c f)
read_next node d0 hs d c k r f =
    read_tied_next node d0 d k.same hs c k.tied r k.held (λ a v h. one_value node d0 hs a (value d a) v (k.held a) h) f

read_tied : (node : ℕ) (d0 : Objects) (hs : List Frame) → ReadTied node d0 hs (after node d0 hs).chain
unfolding after carry
read_tied node d0 [] = read_tied_none node d0
read_tied node d0 (f ∷ hs) = read_next node d0 hs (after node d0 hs).objects (after node d0 hs).chain (kept node d0 hs) (read_tied node d0 hs) f

never_writing : (a : Address) (n : ℕ) (bytes : Bytes) (t : ℕ) → closed ≡ writing a n bytes t → ⊥
never_writing a n bytes t e = cc

never_reading : (v : Bytes) (sent t : ℕ) → closed ≡ reading v sent t → ⊥
never_reading v sent t e = cc

module _ (node : ℕ) (d0 : Objects) (hs : List Frame) where
  pub open_of : (c : OpenChain) → Tied node d0 hs c → ReadTied node d0 hs c → OpenAfter node d0 hs c
  open_of closed t r = (
    (λ a n segments w. never_writing a n (joined segments) (turn segments) (t.complete a n segments w)),
    λ v segments w. never_reading v (sent_after (length segments)) (turn segments) (r.complete v segments w),
  )
  open_of (reading v sent u) t r = r.sound
  open_of (writing a n bytes u) t r = t.sound

  is_of : (k c : OpenChain) → Tied node d0 hs c → ReadTied node d0 hs c → OpenAfter node d0 hs k → k ≡ c
  is_of closed closed t r h = refl
  is_of closed (reading v sent u) t r h = absurd (h.1 v r.sound.0 r.sound.1)
  is_of closed (writing a n bytes u) t r h = absurd (h.0 a n t.sound.0 t.sound.1)
  is_of (reading v sent u) c t r h = (λ i. reading v (h.2 i) (h.3 i)) ∙ sym (r.complete v h.0 h.1)
  is_of (writing a n bytes u) c t r h = (λ i. writing a n (h.2 i) (h.3 i)) ∙ sym (t.complete a n h.0 h.1)

  chain_is : (k : OpenChain) → OpenAfter node d0 hs k → k ≡ (after node d0 hs).chain
  chain_is k h = is_of k (after node d0 hs).chain (kept node d0 hs).tied (read_tied node d0 hs) h

  pub one_chain : (c k : OpenChain) → OpenAfter node d0 hs c → OpenAfter node d0 hs k → c ≡ k
  one_chain c k g h = chain_is c g ∙ sym (chain_is k h)

  -- any record that is open by the history is tied to it
  pub tied_of : (c : OpenChain) → OpenAfter node d0 hs c → Tied node d0 hs c
  tied_of c h = subst (Tied node d0 hs) (sym (chain_is c h)) (kept node d0 hs).tied

  pub read_tied_of : (c : OpenChain) → OpenAfter node d0 hs c → ReadTied node d0 hs c
  read_tied_of c h = subst (ReadTied node d0 hs) (sym (chain_is c h)) (read_tied node d0 hs)

  pub kept_of : (d : Objects) (c : OpenChain) → ObjectsHeld node d0 hs d → OpenAfter node d0 hs c → Kept node d0 hs d c
  kept_of d c o h = record { same = o.same_entry; tied = tied_of c h; held = o.held }

  module _ (d : Objects) (c : OpenChain) (objects : ObjectsHeld node d0 hs d) (open_now : OpenAfter node d0 hs c) (f : Frame) where
    pub objects_next : ObjectsHeld node d0 (f ∷ hs) (apply d (write_of node d c f))
    objects_next = let k = kept_next node d0 hs d c (kept_of d c objects open_now) f in record { same_entry = k.same; held = k.held }

    chain_kept : Kept node d0 (f ∷ hs) (apply d (write_of node d c f)) (next_chain node d c f)
    chain_kept = kept_next node d0 hs d c (kept_of d c objects open_now) f

    chain_read : ReadTied node d0 (f ∷ hs) (next_chain node d c f)
    chain_read = read_next node d0 hs d c (kept_of d c objects open_now) (read_tied_of c open_now) f

pub chain_next : (node : ℕ) (d0 : Objects) (hs : List Frame) (d : Objects) (c : OpenChain) → ObjectsHeld node d0 hs d → OpenAfter node d0 hs c → (f : Frame)
    → OpenAfter node d0 (f ∷ hs) (next_chain node d c f)
chain_next node d0 hs d c objects open_now f =
    open_of node d0 (f ∷ hs) (next_chain node d c f) (chain_kept node d0 hs d c objects open_now f).tied (chain_read node d0 hs d c objects open_now f)

pub open_none : (node : ℕ) (d0 : Objects) → OpenAfter node d0 [] closed
unfolding after
open_none node d0 = open_of node d0 [] closed (kept node d0 []).tied (read_tied node d0 [])

-- the chain that carrying the frames out leaves is the one that is open by the history
pub open_now : (node : ℕ) (d0 : Objects) (hs : List Frame) → OpenAfter node d0 hs (after node d0 hs).chain
open_now node d0 hs = open_of node d0 hs (after node d0 hs).chain (kept node d0 hs).tied (read_tied node d0 hs)
