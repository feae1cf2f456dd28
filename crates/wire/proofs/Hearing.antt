-- The receiver hears exactly the bodies that a stretch completes. Assumes nothing.
use Rattle.std.proofs.Common.{◌≡◌, ℕ, ◌+◌, ◌*◌, ◌<◌, Bool, true, false, cond, not, eqb, List, [], ◌∷◌, ◌++◌, length, get_or, replicate, Some, None, Option, sym, refl, ap, ◌∙◌, subst, inl, inr, append_assoc, append-nil, arith, length-append}
use Rattle.std.specs.List.{flat_map}
use Rattle.std.proofs.lemmas.List.{get_or_append_left, length_push, replicate_more}
use Rattle.std.proofs.lemmas.Bool.{eqb-true, leb-true, leb-false, le-leb, lt-leb, cases_Bool, cases_lt, cond-true, cond-false, cond_both}
use Rattle.wire.specs.declared.receiving.Phase.{Phase}
use Rattle.wire.specs.declared.receiving.Phase.TheVariants.{Hunting, PastMark, OpenDle}
use Rattle.wire.specs.Line.{stuff, Open, Marked, Complete, Completes, framed}
use Rattle.wire.specs.Receiving.{Step, moves, whole, completed, gathering, step}
use Rattle.wire.specs.Frames.{OneBody}
use Rattle.wire.proofs.Steps.{steps, after}
use Rattle.wire.proofs.Laying.{stuff_append}
use Rattle.wire.proofs.Parity.{opened, parity, parity_append, open_parity, parity_open, stuff_shut}

pub steps_append : (s : Step) (xs ys : List ℕ) → steps s (xs ++ ys) ≡ steps (steps s xs) ys
steps_append s [] ys = refl
steps_append s (x ∷ xs) ys = steps_append (step s.phase s.gathered x) xs ys

-- the phase tells whether a DLE stands open
abbrev pub opens : Phase → Bool
opens Hunting = false
opens PastMark = false
opens (OpenDle t) = true

abbrev Shut : Step → Type 0
Shut s = opens s.phase ≡ false

gathering_shut : (bytes : List ℕ) → Shut (gathering bytes)
gathering_shut bytes = cond_both (whole bytes) _ _ Shut (λ _. refl) (λ _. refl)

shut_after : (b : ℕ) → Shut (cond (eqb b 0x02) (moves PastMark []) (moves Hunting []))
shut_after b = cond_both (eqb b 0x02) _ _ Shut (λ _. refl) (λ _. refl)

pub step_opens : (p : Phase) (g : List ℕ) (b : ℕ) → opens (step p g b).phase ≡ opened (opens p) b
step_opens Hunting g b =
    elim (eqb b 0x90) as (λ t. opens (cond t (moves (OpenDle false) g) (moves Hunting g)).phase ≡ cond t true false) [ true ↦ refl | false ↦ refl ]
step_opens PastMark g b =
    elim (eqb b 0x90) as (λ t. opens (cond t (moves (OpenDle true) g) (gathering (g ++ b ∷ []))).phase ≡ cond t true false) [
      | true ↦ refl
      | false ↦ gathering_shut (g ++ b ∷ [])
    ]
step_opens (OpenDle true) g b =
    elim (eqb b 0x90) as (λ t. opens (cond t (gathering (g ++ b ∷ [])) (cond (eqb b 0x02) (moves PastMark []) (moves Hunting []))).phase ≡ cond t false false) [
      | true ↦ gathering_shut (g ++ b ∷ [])
      | false ↦ shut_after b
    ]
step_opens (OpenDle false) g b =
    elim (eqb b 0x90) as (λ t. opens (cond t (moves Hunting []) (cond (eqb b 0x02) (moves PastMark []) (moves Hunting []))).phase ≡ cond t false false) [
      | true ↦ refl
      | false ↦ shut_after b
    ]

pub steps_opens : (s : Step) (bytes : List ℕ) → opens (steps s bytes).phase ≡ parity (opens s.phase) bytes
steps_opens s [] = refl
steps_opens s (b ∷ bytes) =
    steps_opens (step s.phase s.gathered b) bytes ∙ ap (λ o. parity o bytes) (step_opens s.phase s.gathered b)

-- From a completed body to what the receiver reports.

pub stx_marks : (p : Phase) (g : List ℕ) → opens p ≡ true → step p g 0x02 ≡ moves PastMark []
stx_marks Hunting g e = cc
stx_marks PastMark g e = cc
stx_marks (OpenDle true) g e = refl
stx_marks (OpenDle false) g e = refl

pub marked : (bytes : List ℕ) → Marked bytes → after bytes ≡ moves PastMark []
marked bytes m =
    let s = after m.before in
    ap after m.stx ∙ steps_append (moves Hunting []) m.before (0x02 ∷ [])
    ∙ stx_marks s.phase s.gathered (steps_opens (moves Hunting []) m.before ∙ open_parity m.before m.odd)

-- one byte of the text, stuffed, brings it
pub one_more : (xs : List ℕ) (y : ℕ) (ys : List ℕ) → steps (moves PastMark xs) (stuff (y ∷ ys)) ≡ steps (gathering (xs ++ y ∷ [])) (stuff ys)
one_more xs y ys =
    elim (cases_Bool (eqb y 0x90)) [
      | inl e ↦ rw e (ap (λ c. steps (gathering (xs ++ c ∷ [])) (stuff ys)) (sym (eqb-true y 0x90 e)))
      | inr e ↦ rw e (ap (λ s. steps s (stuff ys)) (cond-false (eqb y 0x90) (moves (OpenDle true) xs) (gathering (xs ++ y ∷ [])) e))
    ]

-- a front of a complete body is not whole
front_short : (xs ys : List ℕ) → Complete (xs ++ ys) → 0 < length ys → whole xs ≡ false
front_short xs ys c more =
    elim (cases_lt 1 (length xs)) [
      | inl h ↦ lt-leb _ _ (omega (arith, length-append xs ys, get_or_append_left xs ys 0 1 h))
      | inr h ↦ lt-leb _ _ (omega arith)
    ]

bring : (xs : List ℕ) (y : ℕ) (ys : List ℕ) → Complete (xs ++ y ∷ ys) → steps (moves PastMark xs) (stuff (y ∷ ys)) ≡ completed (xs ++ y ∷ ys)
bring xs y [] c =
    let t : whole (xs ++ y ∷ []) ≡ true = le-leb _ _ (omega (arith, c)) in
    one_more xs y [] ∙ cond-true (whole (xs ++ y ∷ [])) _ _ t
bring xs y (z ∷ ys) c =
    let g = xs ++ y ∷ [] in
    let join : g ++ z ∷ ys ≡ xs ++ y ∷ z ∷ ys = append_assoc xs (y ∷ []) (z ∷ ys) in
    let full : Complete (g ++ z ∷ ys) = subst Complete (sym join) c in
    one_more xs y (z ∷ ys)
    ∙ ap (λ s. steps s (stuff (z ∷ ys))) (cond-false (whole g) (completed g) (moves PastMark g) (front_short g (z ∷ ys) full (omega arith)))
    ∙ bring g z ys full ∙ ap completed join

some_body : (body : List ℕ) → Complete body → steps (moves PastMark []) (stuff body) ≡ completed body
some_body [] c = absurd (omega arith)
some_body (y ∷ ys) c = bring [] y ys c

pub reported : (stretch body : List ℕ) → Completes stretch body → after stretch ≡ completed body
reported stretch body h =
    ap after h.text ∙ steps_append (moves Hunting []) h.mark (stuff body)
    ∙ ap (λ s. steps s (stuff body)) (marked h.mark h.marked) ∙ some_body body h.complete

-- From what the receiver reports to a completed body.

-- the stretch is a mark and the text after it, which is not whole yet
pub record Text (stretch bytes : List ℕ) : Type 0 where
  pub mark : List ℕ
  pub marks : Marked mark
  pub text : stretch ≡ mark ++ stuff bytes
  pub short : length bytes < 4 + 2 * get_or bytes 1 0

abbrev pub Sofar : List ℕ → Phase → List ℕ → Type 0
Sofar stretch Hunting g = g ≡ []
Sofar stretch PastMark g = Text stretch g
Sofar stretch (OpenDle true) g = (s : List ℕ) × (stretch ≡ s ++ 0x90 ∷ []) × Text s g
Sofar stretch (OpenDle false) g = g ≡ []

abbrev pub Reports : List ℕ → Option (List ℕ) → Type 0
Reports stretch None = Unit {0}
Reports stretch (Some body) = Completes stretch body

abbrev pub Known : List ℕ → Step → Type 0
Known stretch s = Sofar stretch s.phase s.gathered × Reports stretch s.body

-- a byte more of the text that the bytes w carried
longer : (s w g : List ℕ) (b : ℕ) → Text s g → w ≡ stuff (b ∷ []) → Known (s ++ w) (gathering (g ++ b ∷ []))
longer s w g b t e =
    let bytes = g ++ b ∷ [] in
    let text : s ++ w ≡ t.mark ++ stuff bytes
    = ap (λ l. l ++ w) t.text ∙ append_assoc t.mark (stuff g) w
    ∙ ap (λ l. t.mark ++ l) (ap (λ l. stuff g ++ l) e ∙ sym (stuff_append g (b ∷ []))) in
    cond_both (whole bytes) _ _ (Known (s ++ w))
    (λ y.
    let full : Complete bytes
    = elim (cases_lt 1 (length g)) [
      | inl h ↦ omega (arith, t.short, leb-true _ _ y, length_push g b, get_or_append_left g (b ∷ []) 0 1 h)
      | inr h ↦ omega (arith, leb-true _ _ y, length_push g b)
    ] in
    (refl, record { mark = t.mark; marked = t.marks; text = text; complete = full }))
    (λ n. (record { mark = t.mark; marks = t.marks; text = text; short = leb-false _ _ n }, tt))

-- after an open DLE, a byte that is no DLE
breaks : (s : List ℕ) (b : ℕ) → Open s → Known (s ++ b ∷ []) (cond (eqb b 0x02) (moves PastMark []) (moves Hunting []))
breaks s b o =
    cond_both (eqb b 0x02) _ _ (Known (s ++ b ∷ []))
    (λ e. (
      record {
        mark = s ++ b ∷ [];
        marks = record { before = s; odd = o; stx = ap (λ c. s ++ c ∷ []) (eqb-true b 0x02 e) };
        text = sym (append-nil (s ++ b ∷ []));
        short = omega arith;
      },
      tt,
    ))
    (λ _. (refl, tt))

known_step : (s : List ℕ) (p : Phase) (g : List ℕ) (b : ℕ) → (opens p ≡ true → Open s) → Sofar s p g → Known (s ++ b ∷ []) (step p g b)
known_step s Hunting g b o t = cond_both (eqb b 0x90) _ _ (Known (s ++ b ∷ [])) (λ _. (t, tt)) (λ _. (t, tt))
known_step s PastMark g b o t =
    cond_both (eqb b 0x90) _ _ (Known (s ++ b ∷ []))
    (λ e. ((s, ap (λ c. s ++ c ∷ []) (eqb-true b 0x90 e), t), tt))
    (λ e. longer s (b ∷ []) g b t (sym (cond-false (eqb b 0x90) (0x90 ∷ 0x90 ∷ []) (b ∷ []) e)))
known_step s (OpenDle true) g b o t =
    cond_both (eqb b 0x90) _ _ (Known (s ++ b ∷ []))
    (λ e.
    let two : s ++ b ∷ [] ≡ t.0 ++ 0x90 ∷ 0x90 ∷ []
    = ap (λ l. l ++ b ∷ []) t.1 ∙ append_assoc t.0 (0x90 ∷ []) (b ∷ []) ∙ ap (λ c. t.0 ++ 0x90 ∷ c ∷ []) (eqb-true b 0x90 e) in
    subst (λ l. Known l (gathering (g ++ b ∷ []))) (sym two)
    (longer t.0 (0x90 ∷ 0x90 ∷ []) g b t.2 (sym (cond-true (eqb b 0x90) (0x90 ∷ 0x90 ∷ []) (b ∷ []) e))))
    (λ _. breaks s b (o refl))
known_step s (OpenDle false) g b o t = cond_both (eqb b 0x90) _ _ (Known (s ++ b ∷ [])) (λ _. (refl, tt)) (λ _. breaks s b (o refl))

pub known : (s : List ℕ) (st : Step) (bytes : List ℕ) → opens st.phase ≡ parity false s → Known s st → Known (s ++ bytes) (steps st bytes)
known s st [] o k = subst (λ l. Known l st) (sym (append-nil s)) k
known s st (b ∷ bytes) o k =
    let next = step st.phase st.gathered b in
    subst (λ l. Known l (steps next bytes)) (append_assoc s (b ∷ []) bytes)
    (known (s ++ b ∷ []) next bytes
    (step_opens st.phase st.gathered b ∙ ap (λ v. opened v b) o ∙ sym (parity_append false s (b ∷ [])))
    (known_step s st.phase st.gathered b (λ e. parity_open s (sym o ∙ e)) k.0))

pub heard : (stretch body : List ℕ) → (after stretch).body ≡ Some body → Completes stretch body
heard stretch body e = subst (Reports stretch) e (known [] (moves Hunting []) stretch refl (refl, tt)).1

pub one_body : OneBody
one_body stretch one other h k =
    let e : Some one ≡ Some other = sym (ap (λ s. s.body) (reported stretch one h)) ∙ ap (λ s. s.body) (reported stretch other k) in
    cc

-- Frames that follow one another.

frame_heard : (s body : List ℕ) → parity false s ≡ false → Complete body → Completes (s ++ framed body) body
frame_heard s body shut c =
    record {
      mark = s ++ 0x90 ∷ 0x02 ∷ [];
      marked = record {
        before = s ++ 0x90 ∷ [];
        odd = parity_open (s ++ 0x90 ∷ []) (parity_append false s (0x90 ∷ []) ∙ ap not shut);
        stx = sym (append_assoc s (0x90 ∷ []) (0x02 ∷ []));
      };
      text = sym (append_assoc s (0x90 ∷ 0x02 ∷ []) (stuff body));
      complete = c;
    }

frames_shut : (bodies : List (List ℕ)) → parity false (flat_map framed bodies) ≡ false
frames_shut [] = refl
frames_shut (b ∷ bodies) =
    parity_append false (framed b) (flat_map framed bodies) ∙ ap (λ o. parity o (flat_map framed bodies)) (stuff_shut b) ∙ frames_shut bodies

some_frames_shut : (o : Bool) (b : List ℕ) (bodies : List (List ℕ)) → parity o (flat_map framed (b ∷ bodies)) ≡ false
some_frames_shut o b bodies =
    parity_append o (framed b) (flat_map framed bodies) ∙ ap (λ v. parity v (flat_map framed bodies)) (stuff_shut b) ∙ frames_shut bodies

-- each of the frames that come next with nothing between is completed at its last byte,
-- all but the first always, and the first unless a DLE stood open
pub resumes : (s : List ℕ) (earlier : List (List ℕ)) (body : List ℕ) → (earlier ≡ [] → Open s → ⊥) → Complete body
    → Completes (s ++ (flat_map framed earlier ++ framed body)) body
resumes s [] body h c =
    frame_heard s body
    (elim (cases_Bool (parity false s)) [ inl e ↦ absurd (h refl (parity_open s e)) | inr e ↦ e ])
    c
resumes s (b ∷ bodies) body h c =
    let frames = flat_map framed (b ∷ bodies) in
    subst (λ l. Completes l body) (append_assoc s frames (framed body))
    (frame_heard (s ++ frames) body (parity_append false s frames ∙ some_frames_shut (parity false s) b bodies) c)

-- the bytes from the mark's DLE on that carried a body are its frame
pub frame_carried : (stretch body : List ℕ) → Completes stretch body → (before : List ℕ) × (stretch ≡ before ++ framed body)
frame_carried stretch body h =
    let m = h.marked in
    let o = m.odd in
    let run = replicate (2 * o.pairs) 0x90 in
    let dle : m.before ≡ (o.before ++ run) ++ 0x90 ∷ []
    = o.run ∙ ap (λ l. o.before ++ l) (sym (replicate_more (2 * o.pairs) 0x90)) ∙ sym (append_assoc o.before run (0x90 ∷ [])) in
    let mark : h.mark ≡ (o.before ++ run) ++ 0x90 ∷ 0x02 ∷ []
    = m.stx ∙ ap (λ l. l ++ 0x02 ∷ []) dle ∙ append_assoc (o.before ++ run) (0x90 ∷ []) (0x02 ∷ []) in
    (o.before ++ run, h.text ∙ ap (λ l. l ++ stuff body) mark ∙ append_assoc (o.before ++ run) (0x90 ∷ 0x02 ∷ []) (stuff body))
