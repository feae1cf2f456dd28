-- What the receiver's steps hold of a stretch is what the words say.
use Rattle.std.proofs.Common.{◌≡◌, ℕ, ◌+◌, ◌*◌, ◌<◌, ◌≤◌, Bool, true, false, List, [], ◌∷◌, ◌++◌, length, get_or, take, sym, refl, ap, ◌∙◌, subst, inl, inr, append_assoc, append-nil, arith, length-append}
use Rattle.std.proofs.lemmas.List.{get_or_append_left, get_or-take, length-take-le}
use Rattle.std.proofs.lemmas.Bool.{true≢false, lt-leb, cases_lt, cond-false}
use Rattle.wire.specs.declared.receiving.Phase.{Phase}
use Rattle.wire.specs.declared.receiving.Phase.TheVariants.{Hunting, PastMark, OpenDle}
use Rattle.wire.specs.Line.{stuff, Open, Complete}
use Rattle.wire.specs.Receiving.{moves, whole, completed}
use Rattle.wire.specs.Holding.{Gathers, GathersOpen, Holds}
use Rattle.wire.proofs.Hearing.{steps_append, opens, steps_opens, marked, one_more, Text, Sofar, known}
use Rattle.wire.proofs.Steps.{steps, after}
use Rattle.wire.proofs.Parity.{parity, open_parity, parity_open}

abbrev Short : List ℕ → Type 0
Short g = length g < 4 + 2 * get_or g 1 0

unfinished_short : (g : List ℕ) → ((n : ℕ) → n ≤ length g → Complete (take n g) → ⊥) → Short g
unfinished_short g h =
    let n : ℕ = 4 + 2 * get_or g 1 0 in
    elim (cases_lt (length g) n) [
      | inl p ↦ p
      | inr p ↦
          let l : length (take n g) ≡ n = length-take-le n g p in
          let e : get_or (take n g) 1 0 ≡ get_or g 1 0 = get_or-take n g 1 0 (omega arith) in
          let c : Complete (take n g) = l ∙ ap (λ x. 4 + 2 * x) (sym e) in
          absurd (h n p c)
    ]

short_unfinished : (g : List ℕ) → Short g → (n : ℕ) → n ≤ length g → Complete (take n g) → ⊥
short_unfinished g s n p c =
    let l : length (take n g) ≡ n = length-take-le n g p in
    let e : get_or (take n g) 1 0 ≡ get_or g 1 0 = get_or-take n g 1 0 (omega (arith, l, c)) in
    omega (arith, l, e, c, s)

text_gathers : (s g : List ℕ) → Text s g → Gathers s g
text_gathers s g t = record { mark = t.mark; marked = t.marks; text = t.text; unfinished = short_unfinished g t.short }

-- bytes that complete no body are gathered
bring_on : (xs ys : List ℕ) → Short (xs ++ ys) → steps (moves PastMark xs) (stuff ys) ≡ moves PastMark (xs ++ ys)
bring_on xs [] h = ap (moves PastMark) (sym (append-nil xs))
bring_on xs (y ∷ ys) h =
    let g : List ℕ = xs ++ y ∷ [] in
    let join : g ++ ys ≡ xs ++ y ∷ ys = append_assoc xs (y ∷ []) ys in
    let rest : Short (g ++ ys) = subst Short (sym join) h in
    let n : whole g ≡ false =
    elim (cases_lt 1 (length g)) [
      | inl p ↦ lt-leb _ _ (omega (arith, rest, length-append g ys, get_or_append_left g ys 0 1 p))
      | inr p ↦ lt-leb _ _ (omega arith)
    ] in
    one_more xs y ys
    ∙ ap (λ s. steps s (stuff ys)) (cond-false (whole g) (completed g) (moves PastMark g) n)
    ∙ bring_on g ys rest ∙ ap (moves PastMark) join

gathers_after : (s g : List ℕ) → Gathers s g → after s ≡ moves PastMark g
gathers_after s g t =
    ap after t.text ∙ steps_append (moves Hunting []) t.mark (stuff g)
    ∙ ap (λ x. steps x (stuff g)) (marked t.mark t.marked) ∙ bring_on [] g (unfinished_short g t.unfinished)

open_after : (s g : List ℕ) → GathersOpen s g → after s ≡ moves (OpenDle true) g
open_after s g t =
    ap after t.1 ∙ steps_append (moves Hunting []) t.0 (0x90 ∷ []) ∙ ap (λ x. steps x (0x90 ∷ [])) (gathers_after t.0 g t.2)

opens_is : (s : List ℕ) → opens (after s).phase ≡ parity false s
opens_is s = steps_opens (moves Hunting []) s

abbrev in_text_lem : Phase → Bool
in_text_lem Hunting = false
in_text_lem PastMark = true
in_text_lem (OpenDle t) = t

module _ (s : List ℕ) where
  shut : (p : Phase) → (after s).phase ≡ p → opens p ≡ false → Open s → ⊥
  shut p e o h = true≢false (sym (open_parity s h) ∙ sym (opens_is s) ∙ ap opens e ∙ o)

  opened : (p : Phase) → (after s).phase ≡ p → opens p ≡ true → Open s
  opened p e o = parity_open s (sym (opens_is s) ∙ ap opens e ∙ o)

  no_text : (p : Phase) → (after s).phase ≡ p → in_text_lem p ≡ false → (bytes : List ℕ) → Gathers s bytes → ⊥
  no_text p e o bytes h = true≢false (ap (λ x. in_text_lem x.phase) (sym (gathers_after s bytes h)) ∙ ap in_text_lem e ∙ o)

  no_open_text : (p : Phase) → (after s).phase ≡ p → in_text_lem p ≡ false → (bytes : List ℕ) → GathersOpen s bytes → ⊥
  no_open_text p e o bytes h = true≢false (ap (λ x. in_text_lem x.phase) (sym (open_after s bytes h)) ∙ ap in_text_lem e ∙ o)

  holds_by : (p : Phase) (g : List ℕ) → (after s).phase ≡ p → Sofar s p g → Holds s p g
  holds_by Hunting g e k = (k, shut Hunting e refl, no_text Hunting e refl)
  holds_by PastMark g e k = text_gathers s g k
  holds_by (OpenDle true) g e k = (k.0, k.1, text_gathers k.0 g k.2)
  holds_by (OpenDle false) g e k = (k, opened (OpenDle false) e refl, no_open_text (OpenDle false) e refl)

  pub fold_holds : Holds s (after s).phase (after s).gathered
  fold_holds = holds_by (after s).phase (after s).gathered refl (known [] (moves Hunting []) s refl (refl, tt)).0

  hunting_is : (q : Phase) (k : List ℕ) → (after s).phase ≡ q → Holds s q k → (g : List ℕ) → Holds s Hunting g → (Hunting ≡ q) × (g ≡ k)
  hunting_is Hunting k e r g h = (refl, h.0 ∙ sym r.0)
  hunting_is PastMark k e r g h = absurd (h.2 k r)
  hunting_is (OpenDle true) k e r g h = absurd (h.1 (opened (OpenDle true) e refl))
  hunting_is (OpenDle false) k e r g h = absurd (h.1 r.1)

  dle_is : (q : Phase) (k : List ℕ) → (after s).phase ≡ q → Holds s q k → (g : List ℕ) → Holds s (OpenDle false) g → (OpenDle false ≡ q) × (g ≡ k)
  dle_is Hunting k e r g h = absurd (r.1 h.1)
  dle_is PastMark k e r g h = absurd (shut PastMark e refl h.1)
  dle_is (OpenDle true) k e r g h = absurd (h.2 k r)
  dle_is (OpenDle false) k e r g h = (refl, h.0 ∙ sym r.0)

  pub holds_fold : (phase : Phase) (g : List ℕ) → Holds s phase g → (phase ≡ (after s).phase) × (g ≡ (after s).gathered)
  holds_fold Hunting g h = hunting_is (after s).phase (after s).gathered refl fold_holds g h
  holds_fold PastMark g h = let e = gathers_after s g h in (ap (λ x. x.phase) (sym e), ap (λ x. x.gathered) (sym e))
  holds_fold (OpenDle true) g h = let e = open_after s g h in (ap (λ x. x.phase) (sym e), ap (λ x. x.gathered) (sym e))
  holds_fold (OpenDle false) g h = dle_is (after s).phase (after s).gathered refl fold_holds g h
