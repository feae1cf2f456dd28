-- Each object holds what the last completed write of it brought.
use Rattle.std.proofs.Common.{◌≡◌, ℕ, List, [], ◌∷◌, ◌++◌, Some, None, Option, sym, refl, ap, ◌∙◌, subst, subst₂, inl, inr, append-nil}
use Rattle.dictionary.specs.Objects.{Bytes, Objects, look, value, put, Admits}
use Rattle.dictionary.specs.declared.Address.{Address}
use Rattle.wire.specs.Frames.{Frame}
use Rattle.command.specs.Checks.{OpenChain, closed}
use Rattle.command.specs.Commands.{Write, write_of, apply, carry, next_chain}
use Rattle.law.specs.Held.{CompletedWrite, NoWrite, Held}
use Rattle.law.proofs.After.{after}
use Rattle.law.proofs.Unbroken.{never}
use Rattle.law.proofs.Passing.{Same}
use Rattle.dictionary.proofs.Stored.{look_put, value_put_same, value_put_other, same_address}
use Rattle.law.proofs.WriteChains.{Tied, tied_none, tied_next}
use Rattle.law.proofs.Written.{completed_from, completed_to, nothing, some_at}

-- a history whose newest frame completes no write of a holds what it held
held_aside : (node : ℕ) (d0 : Objects) (f : Frame) (hs : List Frame) (a : Address) (u : Bytes)
    → ((v : Bytes) → CompletedWrite node d0 hs f a v → ⊥) → Held node d0 hs a u → Held node d0 (f ∷ hs) a u
held_aside node d0 f hs a u h (inl w) =
    inl (record {
      later = f ∷ w.later;
      frame = w.frame;
      earlier = w.earlier;
      split = ap (λ x. f ∷ x) w.split;
      completed = w.completed;
      none_later = ((λ v k. h v (subst (λ x. CompletedWrite node d0 x f a v) (sym w.split) k)), w.none_later);
    })
held_aside node d0 f hs a u h (inr w) = inr (((λ v k. h v (subst (λ x. CompletedWrite node d0 x f a v) (append-nil hs) k)), w.0), w.1)

held_now : (node : ℕ) (d0 : Objects) (f : Frame) (hs : List Frame) (a : Address) (v : Bytes) → CompletedWrite node d0 hs f a v → Held node d0 (f ∷ hs) a v
held_now node d0 f hs a v k = inl (record { later = []; frame = f; earlier = hs; split = refl; completed = k; none_later = tt })

-- What ties a dictionary and an open chain to the history.
pub record Kept (node : ℕ) (d0 : Objects) (hs : List Frame) (d : Objects) (c : OpenChain) : Type 0 where
  pub same : Same d d0
  pub tied : Tied node d0 hs c
  pub held : (a : Address) → Held node d0 hs a (value d a)

same_apply : (d0 d : Objects) → Same d d0 → (w : Option Write) → Same (apply d w) d0
same_apply d0 d same None a = same a
same_apply d0 d same (Some w) a = look_put d w.0 w.1 a ∙ same a

module _ (node : ℕ) (d0 : Objects) (hs : List Frame) (d : Objects) (c : OpenChain) (kept : Kept node d0 hs d c) (f : Frame) where
  from : (a : Address) (v : Bytes) → write_of node d c f ≡ Some (a, v) → CompletedWrite node d0 hs f a v
  from = completed_from node d0 d kept.same hs c kept.tied f

  to : (a : Address) (v : Bytes) → CompletedWrite node d0 hs f a v → write_of node d c f ≡ Some (a, v)
  to = completed_to node d0 d kept.same hs c kept.tied f

  admitted : (a : Address) (v : Bytes) → CompletedWrite node d0 hs f a v → Admits (look d a) v
  admitted a v k = subst (λ x. Admits x v) (sym (kept.same a)) k.admitted

  held_by : (a : Address) (w : Option Write) → write_of node d c f ≡ w → Held node d0 (f ∷ hs) a (value (apply d w) a)
  held_by a None e = held_aside node d0 f hs a (value d a) (λ v k. nothing (a, v) (sym e ∙ to a v k)) (kept.held a)
  held_by a (Some w) e =
      elim (same_address w.0 a) [
        | inl p ↦
            subst₂ (λ x y. Held node d0 (f ∷ hs) x y) p
            (sym (value_put_same d w.0 w.1 (admitted w.0 w.1 (from w.0 w.1 e))) ∙ ap (λ x. value (put d w.0 w.1) x) p)
            (held_now node d0 f hs w.0 w.1 (from w.0 w.1 e))
        | inr p ↦
            subst (Held node d0 (f ∷ hs) a) (sym (value_put_other d w.0 w.1 a p))
            (held_aside node d0 f hs a (value d a) (λ v k. p (ap (λ (x : Write). x.0) (some_at w (a, v) (sym e ∙ to a v k)))) (kept.held a))
      ]

  pub kept_next : Kept node d0 (f ∷ hs) (apply d (write_of node d c f)) (next_chain node d c f)
  kept_next =
      record {
        same = same_apply d0 d kept.same (write_of node d c f);
        tied = tied_next node d0 d kept.same hs c kept.tied f;
        held = λ a. held_by a (write_of node d c f) refl;
      }

  -- The value held by the history is the one in the dictionary.

  module _ (a : Address) where
    aside_by : ((v : Bytes) → CompletedWrite node d0 hs f a v → ⊥) → (w : Option Write) → write_of node d c f ≡ w → value (apply d w) a ≡ value d a
    aside_by h None e = refl
    aside_by h (Some w) e = value_put_other d w.0 w.1 a (λ p. h w.1 (subst (λ x. CompletedWrite node d0 hs f x w.1) p (from w.0 w.1 e)))

    aside_is : ((v : Bytes) → CompletedWrite node d0 hs f a v → ⊥) → value (apply d (write_of node d c f)) a ≡ value d a
    aside_is h = aside_by h (write_of node d c f) refl

    now_is : (v : Bytes) → CompletedWrite node d0 hs f a v → value (apply d (write_of node d c f)) a ≡ v
    now_is v k = ap (λ w. value (apply d w) a) (to a v k) ∙ value_put_same d a v (admitted a v k)

    last_is : (v : Bytes) (later : List Frame) (frame : Frame) (earlier : List Frame) → f ∷ hs ≡ later ++ (frame ∷ earlier) → CompletedWrite node d0 earlier frame a v
        → NoWrite node d0 a later (frame ∷ earlier) → (Held node d0 hs a v → value d a ≡ v) → value (apply d (write_of node d c f)) a ≡ v
    last_is v [] frame earlier e k u ih =
        let p : frame ≡ f = cc in
        let q : earlier ≡ hs = cc in
        now_is v (subst₂ (λ x y. CompletedWrite node d0 x y a v) q p k)
    last_is v (g ∷ later) frame earlier e k u ih =
        let p : g ≡ f = cc in
        let q : later ++ (frame ∷ earlier) ≡ hs = cc in
        aside_is (λ w h. u.0 w (subst₂ (λ x y. CompletedWrite node d0 x y a w) (sym q) (sym p) h))
        ∙ ih (inl (record { later = later; frame = frame; earlier = earlier; split = sym q; completed = k; none_later = u.1 }))

    pub held_is_next : (v : Bytes) → (Held node d0 hs a v → value d a ≡ v) → Held node d0 (f ∷ hs) a v → value (apply d (write_of node d c f)) a ≡ v
    held_is_next v ih (inl w) = last_is v w.later w.frame w.earlier w.split w.completed w.none_later ih
    held_is_next v ih (inr w) =
        aside_is (λ u h. w.0.0 u (subst (λ x. CompletedWrite node d0 x f a u) (sym (append-nil hs)) h)) ∙ ih (inr (w.0.1, w.1))

pub kept_opening : (node : ℕ) (d0 : Objects) → Kept node d0 [] d0 closed
kept_opening node d0 = record { same = λ a. refl; tied = tied_none node d0; held = λ a. inr (tt, refl) }

pub kept : (node : ℕ) (d0 : Objects) (hs : List Frame) → Kept node d0 hs (after node d0 hs).objects (after node d0 hs).chain
unfolding after carry
kept node d0 [] = kept_opening node d0
kept node d0 (f ∷ hs) = kept_next node d0 hs (after node d0 hs).objects (after node d0 hs).chain (kept node d0 hs) f

held_is : (node : ℕ) (d0 : Objects) (hs : List Frame) (a : Address) (v : Bytes) → Held node d0 hs a v → value (after node d0 hs).objects a ≡ v
unfolding after carry
held_is node d0 [] a v (inl w) = absurd (never w.later w.frame w.earlier w.split)
held_is node d0 [] a v (inr w) = sym w.1
held_is node d0 (f ∷ hs) a v h =
    held_is_next node d0 hs (after node d0 hs).objects (after node d0 hs).chain (kept node d0 hs) f a v (held_is node d0 hs a v) h

pub one_value : (node : ℕ) (d0 : Objects) (hs : List Frame) (a : Address) (u v : Bytes) → Held node d0 hs a u → Held node d0 hs a v → u ≡ v
one_value node d0 hs a u v g h = sym (held_is node d0 hs a u g) ∙ held_is node d0 hs a v h
