-- The bytes of an answer: header, part of a value, pad.
use Rattle.std.proofs.Common.{◌≡◌, ℕ, ◌+◌, ◌-◌, ◌*◌, ◌%◌, ◌≤◌, min, Bool, true, false, cond, leb, ◌∷◌, ◌++◌, length, take, drop, replicate, sym, refl, ap, ◌∙◌, inl, inr, arith, append_assoc, length-append, length-drop}
use lib.Seq.{take-append-add}
use borrow.Rule.Slice.PartMut.{put_mid}
use Rattle.std.proofs.lemmas.List.{take_at, drop_at, drop-replicate, take-replicate}
use Rattle.std.proofs.lemmas.Bool.{cases_lt, le-leb, lt-leb}
use Rattle.std.specs.Int.{next_multiple_of}
use Rattle.dictionary.specs.Objects.{Bytes}
use Rattle.command.specs.Answers.{four, bit, accepted_data, answer_control, segment_back}

-- what is taken of a header, bytes and more: the header, the bytes and p of what follows
whole_front : (h bytes rest : Bytes) (n p k : ℕ) → length bytes ≡ n → k ≡ length h + n + p → take k (h ++ (bytes ++ rest)) ≡ h ++ (bytes ++ take p rest)
whole_front h bytes rest n p k l e =
    let k' : k ≡ length h + (length bytes + p) = omega arith in
    ap (λ i. take i (h ++ (bytes ++ rest))) k' ∙ take-append-add h (bytes ++ rest) (length bytes + p) ∙ ap (λ r. h ++ r) (take-append-add bytes rest p)

-- what is laid behind the code, and padded
pub brought : (now now' h p : Bytes) (k k' len : ℕ) → now ≡ h → now' ≡ p → k ≡ length h → k' ≡ length p → length h + length p ≤ 260 → len ≡ next_multiple_of (4 + length h + length p) 2
    → take len (put_mid (4 + length h) k' (put_mid 4 k (replicate 264 0) now) now') ≡ accepted_data (h ++ p)
unfolding four
brought now now' h p k k' len a b e e' few l =
    let head : Bytes = 0 ∷ (0 ∷ (0 ∷ (0 ∷ h))) in
    let blank : Bytes = drop (length h) (replicate 260 0) in
    let pad : ℕ = (2 - (4 + length h + length p) % 2) % 2 in
    let rest : drop (length p) blank ≡ replicate (260 - length h - length p) 0 = ap (drop (length p)) (drop-replicate (length h) 260 0) ∙ drop-replicate (length p) (260 - length h) 0 in
    let whole : take len (head ++ (p ++ drop (length p) blank)) ≡ head ++ (p ++ take pad (drop (length p) blank)) = whole_front head p (drop (length p) blank) (length p) pad len refl (omega arith) in
    let odd : pad ≡ length (four 0 ++ (h ++ p)) % 2 = omega (arith, length-append h p) in
    (λ i. take len (put_mid (4 + length h) (e' i) (put_mid 4 (e i) (replicate 264 0) (a i)) (b i)))
    ∙ ap (λ x. take len (x ++ (p ++ drop (length p) (drop (4 + length h) (head ++ blank))))) (take_at head blank (4 + length h) (omega arith))
    ∙ ap (λ x. take len (head ++ (p ++ drop (length p) x))) (drop_at head blank (4 + length h) (omega arith))
    ∙ whole
    ∙ ap (λ x. head ++ (p ++ x)) (ap (take pad) rest ∙ take-replicate pad (260 - length h - length p) 0 (omega arith))
    ∙ ap (λ x. head ++ (p ++ replicate x 0)) odd
    ∙ ap (λ x. 0 ∷ (0 ∷ (0 ∷ (0 ∷ x)))) (sym (append_assoc h p (replicate (length (four 0 ++ (h ++ p)) % 2) 0)))

-- The next bytes that a segment brings, with their number and control.

few_left : (n k : ℕ) → leb (n - k) 255 ≡ leb n (k + 255)
few_left n k =
    elim (cases_lt (k + 255) n) [
      | inl h ↦ lt-leb (n - k) 255 (omega arith) ∙ sym (lt-leb n (k + 255) h)
      | inr h ↦ le-leb (n - k) 255 (omega arith) ∙ sym (le-leb n (k + 255) h)
    ]

twice : (b : Bool) → 2 * bit b ≡ cond b 2 0
twice true = refl
twice false = refl

pub segment_bytes : (v rest part : Bytes) (sent t n control : ℕ) → rest ≡ drop sent v → n ≡ min 255 (length rest) → control ≡ t + 2 * bit (leb (length rest) 255) → part ≡ take 255 rest
    → n ∷ (control ∷ part) ≡ segment_back v sent t
unfolding answer_control
segment_bytes v rest part sent t n control r m k p =
    let left : length rest ≡ length v - sent = ap length r ∙ length-drop sent v in
    let marks : leb (length rest) 255 ≡ leb (length v) (sent + 255) = ap (λ i. leb i 255) left ∙ few_left (length v) sent in
    let control_is : control ≡ answer_control v sent t = k ∙ ap (λ b. t + 2 * bit b) marks ∙ ap (λ i. t + i) (twice (leb (length v) (sent + 255))) in
    let n_is : n ≡ min 255 (length v - sent) = m ∙ ap (min 255) left in
    let part_is : part ≡ take 255 (drop sent v) = p ∙ ap (take 255) r in
    λ i. n_is i ∷ (control_is i ∷ part_is i)
