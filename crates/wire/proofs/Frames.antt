-- What a stretch hears, frame by frame.
use Rattle.std.proofs.Common.{◌≡◌, ℕ, ◌+◌, ◌-◌, ◌%◌, true, false, not, eqb, List, [], ◌∷◌, ◌++◌, length, get_or, take, sym, refl, ap, ◌∙◌, subst, inl, inr, append_assoc, arith, length-append}
use mathlib.Core.List.{append_cancel_right}
use Rattle.std.specs.List.{flat_map}
use Rattle.std.proofs.lemmas.List.{take_at}
use Rattle.std.proofs.lemmas.Bool.{true≢false, eqb-true, eq-eqb, and_parts, cases_Bool}
use Rattle.wire.specs.Checksum.{checksum_of}
use Rattle.wire.specs.Framing.{body_of, header, low_high}
use Rattle.wire.specs.Checking.{frame_in, same_bytes, fits}
use Rattle.wire.specs.Frames.{Frame, Even, written, Heard, Damaged, OneFrame, ReadsBack, Carried, NextFrames, FirstLost, HeardOrDamaged, FrameLaws}
use Rattle.wire.specs.Line.{stuff, Complete, Completes, framed}
use Rattle.wire.proofs.Hearing.{one_body, resumes, frame_carried}
use Rattle.wire.proofs.Parity.{parity, parity_append, open_parity}

pub body_length : (op : ℕ) (content : List ℕ) → length (body_of op content) ≡ length content + 4
body_length op content =
    let e : length (content ++ low_high (checksum_of (header op content))) ≡ length content + 2 = length-append content (low_high (checksum_of (header op content))) in
    omega arith

pub body_complete : (op : ℕ) (content : List ℕ) → Even content → Complete (body_of op content)
body_complete op content e = let l = body_length op content in omega arith

pub complete_even : (op : ℕ) (content : List ℕ) → Complete (body_of op content) → Even content
complete_even op content e = let l = body_length op content in omega arith

content_in : (op : ℕ) (content : List ℕ) → (frame_in (body_of op content)).content ≡ content
content_in op content =
    let l : length (body_of op content) - 4 ≡ length content = omega (arith, body_length op content) in
    ap (λ n. take n (content ++ low_high (checksum_of (header op content)))) l ∙ take_at content (low_high (checksum_of (header op content))) (length content) refl

pub frame_back : (f : Frame) → frame_in (body_of f.opcode f.content) ≡ f
frame_back f = λ i. record { opcode = f.opcode; content = content_in f.opcode f.content i }

one_frame : OneFrame
one_frame stretch op op' content content' h k =
    let e : body_of op content ≡ body_of op' content' = one_body stretch _ _ h.0 k.0 in
    (ap (λ b. get_or b 0 0) e, sym (content_in op content) ∙ ap (λ b. (frame_in b).content) e ∙ content_in op' content')

bodies : List Frame → List (List ℕ)
bodies [] = []
bodies (f ∷ fs) = body_of f.opcode f.content ∷ bodies fs

joined_bodies : (fs : List Frame) → flat_map framed (bodies fs) ≡ flat_map written fs
unfolding bodies
joined_bodies [] = refl
joined_bodies (f ∷ fs) = ap (λ l. written f ++ l) (joined_bodies fs)

bodies_none : (fs : List Frame) → bodies fs ≡ [] → fs ≡ []
unfolding bodies
bodies_none [] e = refl
bodies_none (f ∷ fs) e = cc

next_frames : (stretch : List ℕ) → NextFrames stretch
next_frames stretch s earlier f even e first =
    let body = body_of f.opcode f.content in
    let c : Completes (s ++ (flat_map framed (bodies earlier) ++ framed body)) body
    = resumes s (bodies earlier) body (λ n. first (bodies_none earlier n)) (body_complete f.opcode f.content even) in
    (subst (λ l. Completes l body) (ap (λ l. s ++ (l ++ framed body)) (joined_bodies earlier) ∙ sym e) c, even)

pub reads_back : ReadsBack
reads_back s op content shut even = (resumes s [] (body_of op content) (λ _. shut) (body_complete op content even), even)

pub carried : Carried
carried s op content h = frame_carried s (body_of op content) h.0

first_lost : (stretch : List ℕ) → FirstLost stretch
first_lost stretch s f e o h =
    let body = body_of f.opcode f.content in
    let c = h.0 in
    let m : c.mark ≡ s ++ 0x90 ∷ 0x02 ∷ []
    = append_cancel_right c.mark (s ++ 0x90 ∷ 0x02 ∷ []) (stuff body) (sym c.text ∙ e ∙ sym (append_assoc s (0x90 ∷ 0x02 ∷ []) (stuff body))) in
    let b : c.marked.before ≡ s ++ 0x90 ∷ []
    = append_cancel_right c.marked.before (s ++ 0x90 ∷ []) (0x02 ∷ []) (sym c.marked.stx ∙ m ∙ sym (append_assoc s (0x90 ∷ []) (0x02 ∷ []))) in
    let odd : parity false (s ++ 0x90 ∷ []) ≡ true = ap (parity false) (sym b) ∙ open_parity c.marked.before c.marked.odd in
    let even : parity false (s ++ 0x90 ∷ []) ≡ false = parity_append false s (0x90 ∷ []) ∙ ap not (open_parity s o) in
    true≢false (sym odd ∙ even)

-- the test of a body

same_true : (xs ys : List ℕ) → same_bytes xs ys ≡ true → xs ≡ ys
same_true [] [] e = refl
same_true [] (y ∷ ys) e = cc
same_true (x ∷ xs) [] e = cc
same_true (x ∷ xs) (y ∷ ys) e =
    let h = and_parts (eqb x y) (same_bytes xs ys) e in
    λ i. eqb-true x y h.0 i ∷ same_true xs ys h.1 i

same_refl : (xs : List ℕ) → same_bytes xs xs ≡ true
same_refl [] = refl
same_refl (x ∷ xs) = rw (eq-eqb x x refl) (same_refl xs)

pub fits_true : (bytes : List ℕ) → fits bytes ≡ true → bytes ≡ body_of (frame_in bytes).opcode (frame_in bytes).content
unfolding fits
fits_true bytes e =
    same_true bytes (body_of (frame_in bytes).opcode (frame_in bytes).content)
    (and_parts _ _ e).1

pub fits_even : (bytes : List ℕ) → fits bytes ≡ true → length bytes % 2 ≡ 0
unfolding fits
fits_even bytes e =
    eqb-true _ _ (and_parts _ _ e).0

pub fits_back : (op : ℕ) (content : List ℕ) → Even content → fits (body_of op content) ≡ true
unfolding fits
fits_back op content even =
    let l = body_length op content in
    let whole_words : eqb (length (body_of op content) % 2) 0 ≡ true = eq-eqb _ _ (omega arith) in
    let same : same_bytes (body_of op content) (body_of (frame_in (body_of op content)).opcode (frame_in (body_of op content)).content) ≡ true
    = ap (λ (f : Frame). same_bytes (body_of op content) (body_of f.opcode f.content)) (frame_back (record { opcode = op; content = content })) ∙ same_refl (body_of op content) in
    rw whole_words same

pub fits_false : (bytes : List ℕ) → fits bytes ≡ false → (op : ℕ) (content : List ℕ) → Even content → bytes ≡ body_of op content → ⊥
fits_false bytes e op content even p = true≢false (sym (fits_back op content even) ∙ ap fits (sym p) ∙ e)

-- a body whose checksum fits is heard
pub fits_heard : (stretch bytes : List ℕ) → Completes stretch bytes → fits bytes ≡ true → Heard stretch (frame_in bytes).opcode (frame_in bytes).content
fits_heard stretch bytes c e =
    let p = fits_true bytes e in
    (subst (Completes stretch) p c, complete_even (frame_in bytes).opcode (frame_in bytes).content (subst Complete p c.complete))

pub fits_damaged : (stretch bytes : List ℕ) → Completes stretch bytes → fits bytes ≡ false → Damaged stretch
fits_damaged stretch bytes c e =
    (bytes, c, λ op content p. fits_false bytes e op content (complete_even op content (subst Complete p c.complete)) p)

pub heard_or_damaged : (stretch : List ℕ) → HeardOrDamaged stretch
heard_or_damaged stretch =
    record {
      one = λ bytes c sound. elim (cases_Bool (fits bytes)) [
        | inl e ↦ (frame_in bytes, fits_heard stretch bytes c e)
        | inr e ↦ absurd (sound (fits_damaged stretch bytes c e))
      ];
      not_both = λ op content h d. d.2 op content (one_body stretch d.0 (body_of op content) d.1 h.0);
    }

pub frame_laws_lem : FrameLaws
frame_laws_lem =
    record {
      one_body = one_body;
      one_frame = one_frame;
      heard_or_damaged = heard_or_damaged;
      reads_back = reads_back;
      carried = carried;
      next_frames = next_frames;
      first_lost = first_lost;
    }
