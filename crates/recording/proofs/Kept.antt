-- A line cut at 4,097 characters says what the whole line says, since both are too long. Assumes nothing.
use Rattle.std.proofs.Common.{◌≡◌, ℕ, zero, suc, ◌+◌, ◌<◌, ◌≤◌, Bool, List, [], ◌∷◌, ◌++◌, length, take, set, sym, refl, ap, ◌∙◌, inl, inr, arith}
use Rattle.std.proofs.lemmas.List.{take_all, length-take-le, take_more_set, length_push, take-append-le}
use Rattle.std.proofs.lemmas.Bool.{cases_lt}
use Rattle.recording.specs.Gathering.{Held}
use Rattle.recording.specs.Lines.{kept}
use Rattle.recording.specs.Meaning.{bad, meaning}
use Rattle.recording.proofs.Couples.{long_bad, other_line}

-- what was cut off does not come back
pub take_twice : {X : Type 0} (n : ℕ) (xs ys : List X) → take n (take n xs ++ ys) ≡ take n (xs ++ ys)
take_twice zero xs ys = refl
take_twice (suc n) [] ys = refl
take_twice (suc n) (x ∷ xs) ys = ap (λ l. x ∷ l) (take_twice n xs ys)

long_line : (line : List ℕ) → 4096 < length line → meaning line ≡ bad
long_line line h = other_line line (omega arith) (λ s _. absurd (omega arith)) ∙ sym (long_bad line h)

pub kept_meaning : (line : List ℕ) → meaning (kept line) ≡ meaning line
kept_meaning line =
    elim (cases_lt 4096 (length line)) [
      | inl h ↦ long_line (kept line) (let e = length-take-le 4097 line (omega arith) in omega arith) ∙ sym (long_line line h)
      | inr h ↦ ap meaning (take_all 4097 line (omega arith))
    ]

-- a character written after those that are kept
pub keeps_more : (text : List ℕ) (n b : ℕ) (begun : Bool) (number : ℕ) → length text ≡ 4097 → n < 4097
    → ◌≡◌ {A = Held} (record { text = take (n + 1) (set text n b); begun = begun; number = number }) (record { text = kept (take n text ++ b ∷ []); begun = begun; number = number })
keeps_more text n b begun number e h =
    let long = length_push (take n text) b ∙ ap (λ k. k + 1) (length-take-le n text (omega arith)) in
    let kept_text = take_more_set text n b (omega arith) ∙ sym (take_all 4097 (take n text ++ b ∷ []) (omega arith)) in
    λ i. record { text = kept_text i; begun = begun; number = number }

-- a character after the last that is kept
pub keeps_all : (text : List ℕ) (n b : ℕ) (begun : Bool) (number : ℕ) → length text ≡ 4097 → n ≤ 4097 → 4097 ≤ n
    → ◌≡◌ {A = Held} (record { text = take n text; begun = begun; number = number }) (record { text = kept (take n text ++ b ∷ []); begun = begun; number = number })
keeps_all text n b begun number e h k =
    let long = length-take-le n text (omega arith) in
    let kept_text = sym (take-append-le 4097 (take n text) (b ∷ []) (omega arith) ∙ take_all 4097 (take n text) (omega arith)) in
    λ i. record { text = kept_text i; begun = begun; number = number }
