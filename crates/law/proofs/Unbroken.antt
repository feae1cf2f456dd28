-- An unbroken chain of a history came about with its newest frame in one of three ways: begun by it, continued by it, or left alone.
use Rattle.std.proofs.Common.{◌≡◌, Bool, true, false, cond, List, [], ◌∷◌, ◌++◌, sym, refl, ap, subst}
use Rattle.wire.specs.Frames.{Frame}
use Rattle.command.specs.Frames.{verb, of_chain}
use Rattle.law.specs.Histories.{chain_frames, InTurn, UnbrokenChain, itself}

pub data Came (Starts Continues : List Frame → Frame → Type 0) (f : Frame) (hs segments : List Frame) : Type 0 where
  begun : Starts hs f → segments ≡ [] → Came Starts Continues f hs segments
  aside : of_chain (verb f) ≡ false → UnbrokenChain itself Starts Continues hs segments → Came Starts Continues f hs segments
  extended : (before : List Frame) → UnbrokenChain itself Starts Continues hs before → Continues before f → segments ≡ f ∷ before → Came Starts Continues f hs segments

pub never : {X : Type 0} (since : List X) (start : X) (earlier : List X) → [] ≡ since ++ (start ∷ earlier) → ⊥
never [] start earlier e = cc
never (g ∷ since) start earlier e = cc

module _ {Starts Continues : List Frame → Frame → Type 0} where
  module _ (f : Frame) (hs segments : List Frame) where
    continued : (b : Bool) → of_chain (verb f) ≡ b → (since : List Frame) (start : Frame) (earlier : List Frame) → hs ≡ since ++ (start ∷ earlier)
        → Starts earlier start → cond b (f ∷ chain_frames itself since) (chain_frames itself since) ≡ segments → InTurn Continues segments
        → Came Starts Continues f hs segments
    continued true e since start earlier s st u t =
        let k : InTurn Continues (f ∷ chain_frames itself since) = subst (InTurn Continues) (sym u) t in
        extended (chain_frames itself since) (record { since = since; start = start; earlier = earlier; split = s; starts = st; no_other = refl; continues = k.1 }) k.0 (sym u)
    continued false e since start earlier s st u t =
        aside e (record { since = since; start = start; earlier = earlier; split = s; starts = st; no_other = u; continues = t })

    came_by : (since : List Frame) (start : Frame) (earlier : List Frame) → f ∷ hs ≡ since ++ (start ∷ earlier)
        → Starts earlier start → chain_frames itself since ≡ segments → InTurn Continues segments → Came Starts Continues f hs segments
    came_by [] start earlier s st u t =
        let e : start ≡ f = cc in
        let r : earlier ≡ hs = cc in
        begun (subst (Starts hs) e (subst (λ x. Starts x start) r st)) (sym u)
    came_by (g ∷ since) start earlier s st u t =
        let e : g ≡ f = cc in
        let r : hs ≡ since ++ (start ∷ earlier) = cc in
        continued (of_chain (verb f)) refl since start earlier r st
        (subst (λ x. cond (of_chain (verb x)) (x ∷ chain_frames itself since) (chain_frames itself since) ≡ segments) e u) t

    pub came : UnbrokenChain itself Starts Continues (f ∷ hs) segments → Came Starts Continues f hs segments
    came w = came_by w.since w.start w.earlier w.split w.starts w.no_other w.continues

    pub chain_aside : of_chain (verb f) ≡ false → UnbrokenChain itself Starts Continues hs segments → UnbrokenChain itself Starts Continues (f ∷ hs) segments
    chain_aside e w =
        record {
          since = f ∷ w.since;
          start = w.start;
          earlier = w.earlier;
          split = ap (λ x. f ∷ x) w.split;
          starts = w.starts;
          no_other = rw e w.no_other;
          continues = w.continues;
        }

    pub chain_extended : of_chain (verb f) ≡ true → UnbrokenChain itself Starts Continues hs segments → Continues segments f
        → UnbrokenChain itself Starts Continues (f ∷ hs) (f ∷ segments)
    chain_extended e w j =
        record {
          since = f ∷ w.since;
          start = w.start;
          earlier = w.earlier;
          split = ap (λ x. f ∷ x) w.split;
          starts = w.starts;
          no_other = rw e (ap (λ x. f ∷ x) w.no_other);
          continues = (j, w.continues);
        }

  pub chain_begun : (f : Frame) (hs : List Frame) → Starts hs f → UnbrokenChain itself Starts Continues (f ∷ hs) []
  chain_begun f hs st = record { since = []; start = f; earlier = hs; split = refl; starts = st; no_other = refl; continues = tt }

  pub chain_none : (segments : List Frame) → UnbrokenChain itself Starts Continues [] segments → ⊥
  chain_none segments w = never w.since w.start w.earlier w.split
