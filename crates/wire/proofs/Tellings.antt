-- From what a step leaves to what a call promises of it.
use Rattle.std.proofs.Common.{◌≡◌, ℕ, ◌≤◌, true, false, cond, eqb, ltb, List, [], ◌∷◌, ◌++◌, length, take, drop, Some, None, Ok, Option, sym, refl, ap, ◌∙◌, subst, append_assoc, arith, length-append, length-drop}
use Rattle.std.proofs.lemmas.List.{take_at, take-take, take-append-drop, length-take-le, drop-append-le}
use Rattle.std.proofs.lemmas.Bool.{le-ltb, cond-false, cond_both}
use Rattle.wire.specs.declared.receiving.Phase.{Phase}
use Rattle.wire.specs.declared.receiving.Phase.TheVariants.{Hunting, PastMark, OpenDle}
use Rattle.wire.specs.Framing.{laid}
use Rattle.wire.specs.Holding.{Holds, Tells}
use Rattle.wire.specs.Line.{Completes}
use Rattle.wire.specs.Receiving.{Step, moves, whole, gathering, step, front, size, Took, outcome, received}
use Rattle.wire.proofs.Hearing.{steps_append, heard, reported}
use Rattle.wire.proofs.Holding.{fold_holds, holds_fold}
use Rattle.wire.proofs.Steps.{after}

-- a step with enough memory is the outcome of the call
pub taken : (p : Phase) (g : ℕ) (memory : List ℕ) (b : ℕ) (r : Option ℕ) (phase : Phase) (count : ℕ) (then : List ℕ) → 514 ≤ length memory
    → Took (step p (take g memory) b) r phase count memory then → outcome (Ok r) phase count then ≡ received p g memory b
taken p g memory b r phase count then long t =
    let s : Step = step p (take g memory) b in
    let same : outcome (Ok r) phase count then ≡ outcome (Ok (size s.body)) s.phase (length s.gathered) (laid (front s) memory)
    = λ i. outcome (Ok (t.tells i)) (t.moved i) (t.counted i) (t.laid_front i) in
    same ∙ sym (cond-false (ltb (length memory) 514) _ _ (le-ltb (length memory) 514 long))

-- a step that completes a body leaves nothing gathered
abbrev Settled : Option (List ℕ) → List ℕ → Type 0
Settled (Some body) g = g ≡ []
Settled None g = Unit {0}

abbrev Settles : Step → Type 0
Settles s = Settled s.body s.gathered

settled_gathering : (bytes : List ℕ) → Settles (gathering bytes)
settled_gathering bytes = cond_both (whole bytes) _ _ Settles (λ _. refl) (λ _. tt)

settled_after : (b : ℕ) → Settles (cond (eqb b 0x02) (moves PastMark []) (moves Hunting []))
settled_after b = cond_both (eqb b 0x02) _ _ Settles (λ _. tt) (λ _. tt)

settled : (p : Phase) (g : List ℕ) (b : ℕ) → Settles (step p g b)
settled Hunting g b = cond_both (eqb b 0x90) _ _ Settles (λ _. tt) (λ _. tt)
settled PastMark g b = cond_both (eqb b 0x90) _ _ Settles (λ _. tt) (λ _. settled_gathering (g ++ b ∷ []))
settled (OpenDle true) g b = cond_both (eqb b 0x90) _ _ Settles (λ _. settled_gathering (g ++ b ∷ [])) (λ _. settled_after b)
settled (OpenDle false) g b = cond_both (eqb b 0x90) _ _ Settles (λ _. tt) (λ _. settled_after b)

-- what a step leaves gathered stands at the front of the memory
held : (o : Option (List ℕ)) (g memory then : List ℕ) → Settled o g
    → then ≡ laid (elim o as (λ _. List ℕ) [ Some body ↦ body | None ↦ g ]) memory → take (length g) then ≡ g
held (Some body) g memory then none e = ap (λ l. take (length l) then) none ∙ sym none
held None g memory then none e = ap (take (length g)) e ∙ take_at g (drop (length g) memory) (length g) refl

-- a step that reports a body, or none, tells it of its stretch
tells : (stretch : List ℕ) (o : Option (List ℕ)) (g memory then : List ℕ) → (after stretch).body ≡ o
    → then ≡ laid (elim o as (λ _. List ℕ) [ Some body ↦ body | None ↦ g ]) memory → Tells stretch (Ok (size o)) then
tells stretch (Some body) g memory then e over =
    let whole_body : take (length body) then ≡ body = ap (take (length body)) over ∙ take_at body (drop (length body) memory) (length body) refl in
    (omega (arith, ap length over, length-append body (drop (length body) memory)), subst (Completes stretch) (sym whole_body) (heard stretch body e))
tells stretch None g memory then e over =
    λ body h.
    let f : None ≡ Some body = sym e ∙ ap (λ s. s.body) (reported stretch body h) in
    cc

pub hears_more : (stretch : List ℕ) (b : ℕ) (p : Phase) (g : List ℕ) (r : Option ℕ) (phase : Phase) (count : ℕ) (memory then : List ℕ)
    → Took (step p g b) r phase count memory then → Holds stretch p g
    → Holds (stretch ++ b ∷ []) phase (take count then) × Tells (stretch ++ b ∷ []) (Ok r) then
hears_more stretch b p g r phase count memory then t h =
    let longer : List ℕ = stretch ++ b ∷ [] in
    let s : Step = step p g b in
    let is = holds_fold stretch p g h in
    let next : s ≡ after longer
    = ap (λ q. step q g b) is.0 ∙ ap (λ l. step (after stretch).phase l b) is.1 ∙ sym (steps_append (moves Hunting []) stretch (b ∷ [])) in
    let front_is : take count then ≡ (after longer).gathered
    = ap (λ n. take n then) t.counted ∙ held s.body s.gathered memory then (settled p g b) t.laid_front ∙ ap (λ x. x.gathered) next in
    let phase_is : phase ≡ (after longer).phase = t.moved ∙ ap (λ x. x.phase) next in (
      subst (λ q. Holds longer q (take count then)) (sym phase_is) (subst (Holds longer (after longer).phase) (sym front_is) (fold_holds longer)),
      subst (λ o. Tells longer (Ok o) then) (sym t.tells)
          (tells longer s.body s.gathered memory then (ap (λ x. x.body) (sym next)) t.laid_front),
    )

-- the same of every stretch
pub told : (p : Phase) (g : List ℕ) (b : ℕ) (r : Option ℕ) (phase : Phase) (count : ℕ) (memory then : List ℕ) → Took (step p g b) r phase count memory then
    → (stretch : List ℕ) → Holds stretch p g → Holds (stretch ++ b ∷ []) phase (take count then) × Tells (stretch ++ b ∷ []) (Ok r) then
told p g b r phase count memory then t stretch = hears_more stretch b p g r phase count memory then t

-- a step in the first elements of a memory, and what is left of it, is one in the whole
pub widened : (p : Phase) (g : ℕ) (memory : List ℕ) (b : ℕ) (r : Option ℕ) (phase : Phase) (count : ℕ) (first then : List ℕ) (n : ℕ) → g ≤ n → n ≤ length memory → first ≡ take n memory
    → length (then ++ drop n memory) ≡ length memory → Took (step p (take g first) b) r phase count first then → Took (step p (take g memory) b) r phase count memory (then ++ drop n memory)
widened p g memory b r phase count first then n few long is full t =
    let f : List ℕ = front (step p (take g first) b) in
    let short : length f ≤ length first
    = omega (arith, full, length-append then (drop n memory), length-drop n memory, ap length is, length-take-le n memory long, ap length t.laid_front, length-append f (drop (length f) first)) in
    let over : then ++ drop n memory ≡ laid f memory
    = ap (λ l. l ++ drop n memory) t.laid_front ∙ append_assoc f (drop (length f) first) (drop n memory)
    ∙ ap (λ l. f ++ l) (sym (drop-append-le (length f) first (drop n memory) short) ∙ ap (drop (length f)) (ap (λ l. l ++ drop n memory) is ∙ take-append-drop n memory)) in
    subst (λ l. Took (step p l b) r phase count memory (then ++ drop n memory)) (ap (take g) is ∙ take-take g n memory few)
    (record { tells = t.tells; moved = t.moved; counted = t.counted; laid_front = over })
