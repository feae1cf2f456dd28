-- A text is read couple by couple from its front. Assumes nothing.
use Rattle.std.proofs.Common.{◌≡◌, ℕ, zero, suc, ◌+◌, ◌*◌, ◌<◌, ◌≤◌, Bool, true, false, cond, ◌&&◌, eqb, ltb, List, [], ◌∷◌, length, get_or, drop, is_some, MatchOption, Some, None, Option, sym, refl, ap, ◌∙◌, subst, arith}
use Rattle.std.specs.List.{list_all}
use Rattle.std.specs.Iterator.{YieldsFirst, MakesProgress, item_count}
use Rattle.std.specs.Simd.{first_chunks}
use Rattle.std.proofs.lemmas.Bool.{lt-ltb, le-ltb, ltb-false, cond-true, cond-false, ne_eqb}
use Rattle.recording.specs.Meaning.{bytes, bad, silence, digit_value, joined, in_front, pairs, spelled, spelling, meaning}
use Rattle.recording.specs.Reading.{or_none, Within}

-- a couple is a pair of digits
abbrev pub is_pair : List ℕ → Bool
is_pair couple = is_some (pairs couple)

some_in_front : (b : Option ℕ) (bs : Option (List ℕ)) → is_some (in_front b (Some [])) && is_some bs ≡ is_some (in_front b bs)
some_in_front None bs = refl
some_in_front (Some b) None = refl
some_in_front (Some b) (Some bs) = refl

-- a text of whole couples
pub all_pairs : (n : ℕ) (text : List ℕ) → length text ≡ 2 * n → list_all is_pair (first_chunks 2 n text) ≡ is_some (pairs text)
all_pairs zero [] h = refl
all_pairs zero (c ∷ text) h = absurd (omega arith)
all_pairs (suc n) [] h = absurd (omega arith)
all_pairs (suc n) (c ∷ []) h = absurd (omega arith)
all_pairs (suc n) (high ∷ low ∷ text) h =
    let byte = joined (digit_value high) (digit_value low) in
    ap (λ t. is_some (in_front byte (Some [])) && t) (all_pairs n text (omega arith)) ∙ some_in_front byte (pairs text)

none_in_front : (b : Option ℕ) (bs : Option (List ℕ)) → is_some bs ≡ false → is_some (in_front b bs) ≡ false
none_in_front None bs h = refl
none_in_front (Some b) None h = refl
none_in_front (Some b) (Some bs) h = cc

-- a text with a character left over
pub odd_none : (n : ℕ) (text : List ℕ) → length text ≡ 2 * n + 1 → is_some (pairs text) ≡ false
odd_none n [] h = absurd (omega arith)
odd_none n (c ∷ []) h = refl
odd_none zero (high ∷ low ∷ text) h = absurd (omega arith)
odd_none (suc n) (high ∷ low ∷ text) h = none_in_front (joined (digit_value high) (digit_value low)) (pairs text) (odd_none n text (omega arith))

-- the bytes of a text that is digit pairs, or is not
bytes_there : (o : Option (List ℕ)) → is_some o ≡ true → bytes (or_none o) ≡ spelled o
bytes_there None h = cc
bytes_there (Some xs) h = refl

bytes_not_there : (o : Option (List ℕ)) (t : Bool) → is_some o ≡ false → bad ≡ cond t bad (spelled o)
bytes_not_there None true h = refl
bytes_not_there None false h = refl
bytes_not_there (Some xs) t h = cc

pub other_bad : (text : List ℕ) → is_some (pairs text) ≡ false → bad ≡ spelling text
other_bad text h = bytes_not_there (pairs text) (ltb 4096 (length text)) h

pub long_bad : (text : List ℕ) → 4096 < length text → bad ≡ spelling text
long_bad text h = sym (cond-true (ltb 4096 (length text)) bad (spelled (pairs text)) (lt-ltb 4096 (length text) h))

pub short_spelled : (text : List ℕ) → length text ≤ 4096 → is_some (pairs text) ≡ true → bytes (or_none (pairs text)) ≡ spelling text
short_spelled text h s =
    bytes_there (pairs text) s ∙ sym (cond-false (ltb 4096 (length text)) bad (spelled (pairs text)) (le-ltb 4096 (length text) h))

-- a line that is neither empty nor S alone
pub other_line : (line : List ℕ) → 1 ≤ length line → (length line < 2 → get_or line 0 0 ≡ 0x53 → ⊥) → meaning line ≡ spelling line
other_line [] h k = absurd (omega arith)
other_line (c ∷ []) h k = cond-false (eqb c 0x53) silence (spelling (c ∷ [])) (ne_eqb c 0x53 (k (omega arith)))
other_line (c ∷ d ∷ text) h k = refl

front_gives : (r b : Option ℕ) (bs : Option (List ℕ)) → r ≡ b → is_some (in_front b bs) ≡ true
    → MatchOption r ((or_none (in_front b bs) ≡ []) × (or_none bs ≡ [])) (λ x. or_none (in_front b bs) ≡ x ∷ or_none bs)
front_gives None None bs e h = cc
front_gives None (Some b) bs e h = cc
front_gives (Some x) None bs e h = cc
front_gives (Some x) (Some b) None e h = cc
front_gives (Some x) (Some b) (Some bs) e h = cc

front_leaves : (b : Option ℕ) (bs : Option (List ℕ)) → is_some (in_front b bs) ≡ true → is_some bs ≡ true
front_leaves None bs h = cc
front_leaves (Some b) None h = cc
front_leaves (Some b) (Some bs) h = refl

-- a couple taken from the front of digit pairs gives the first of their bytes
pub gives : (text rest : List ℕ) (r : Option ℕ) → 2 ≤ length text → rest ≡ drop 2 text → is_some (pairs text) ≡ true
    → r ≡ joined (digit_value (get_or text 0 0)) (digit_value (get_or text 1 0))
    → MatchOption r ((or_none (pairs text) ≡ []) × (or_none (pairs rest) ≡ [])) (λ x. or_none (pairs text) ≡ x ∷ or_none (pairs rest))
gives [] rest r h k w e = absurd (omega arith)
gives (c ∷ []) rest r h k w e = absurd (omega arith)
gives (high ∷ low ∷ text) rest r h k w e =
    let byte = joined (digit_value high) (digit_value low) in
    let P : List ℕ → Type 0
    = λ l. MatchOption r ((or_none (in_front byte (pairs text)) ≡ []) × (or_none (pairs l) ≡ [])) (λ x. or_none (in_front byte (pairs text)) ≡ x ∷ or_none (pairs l)) in
    subst P (sym k) (front_gives r byte (pairs text) e w)

-- and leaves digit pairs
pub leaves : (text rest : List ℕ) → 2 ≤ length text → rest ≡ drop 2 text → is_some (pairs text) ≡ true → is_some (pairs rest) ≡ true
leaves [] rest h k w = absurd (omega arith)
leaves (c ∷ []) rest h k w = absurd (omega arith)
leaves (high ∷ low ∷ text) rest h k w = ap (λ l. is_some (pairs l)) k ∙ front_leaves (joined (digit_value high) (digit_value low)) (pairs text) w

-- two characters spell one byte
length_in_front : (b : Option ℕ) (bs : Option (List ℕ)) (n : ℕ) → 2 * length (or_none bs) ≤ n → 2 * length (or_none (in_front b bs)) ≤ n + 2
length_in_front None bs n h = omega arith
length_in_front (Some b) None n h = omega arith
length_in_front (Some b) (Some bs) n h = omega arith

pub few_pairs : (text : List ℕ) → 2 * length (or_none (pairs text)) ≤ length text
few_pairs [] = omega arith
few_pairs (c ∷ []) = omega arith
few_pairs (high ∷ low ∷ text) =
    omega (arith, length_in_front (joined (digit_value high) (digit_value low)) (pairs text) (length text) (few_pairs text))

more_whole : (b : Option ℕ) (bs : Option (List ℕ)) (n : ℕ) → (is_some bs ≡ true → n ≡ 2 * length (or_none bs)) → is_some (in_front b bs) ≡ true
    → n + 2 ≡ 2 * length (or_none (in_front b bs))
more_whole None bs n h e = cc
more_whole (Some b) None n h e = cc
more_whole (Some b) (Some bs) n h e = omega (arith, h refl)

-- digit pairs have two characters for each byte
pub whole_length : (text : List ℕ) → is_some (pairs text) ≡ true → length text ≡ 2 * length (or_none (pairs text))
whole_length [] e = refl
whole_length (c ∷ []) e = cc
whole_length (high ∷ low ∷ text) e =
    let more = more_whole (joined (digit_value high) (digit_value low)) (pairs text) (length text) (whole_length text) e in omega (arith, more)

few_spelled : (o : Option (List ℕ)) (n : ℕ) → n ≤ 4096 → 2 * length (or_none o) ≤ n → Within (spelled o)
few_spelled None n h k = tt
few_spelled (Some xs) n h k = omega arith

few_bytes : (text : List ℕ) (t : Bool) → t ≡ ltb 4096 (length text) → Within (cond t bad (spelled (pairs text)))
few_bytes text true e = tt
few_bytes text false e = few_spelled (pairs text) (length text) (omega (arith, ltb-false 4096 (length text) (sym e))) (few_pairs text)

-- a line spells 2,048 bytes at most
pub within : (text : List ℕ) → Within (spelling text)
within text = few_bytes text (ltb 4096 (length text)) refl

-- an iterator that gives the first of what is left goes on
pub goes : {S : Type 0} (can : S → Type 0) (all : (t : S) → can t) (left : S → List ℕ) (s t : S) (r : Option ℕ) → YieldsFirst left s r t
    → MakesProgress can (item_count left) s r t
goes can all left s t None e = record { on = λ _. tt; keeps = tt; rests = λ _. tt }
goes can all left s t (Some x) e = record { on = λ _. (all t, tt, omega (arith, ap length e)); keeps = all t; rests = λ _. tt }
