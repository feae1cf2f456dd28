-- Each value under 16 has a digit of its own, found by one computed test; the digits of bytes read back. Assumes nothing.
use Rattle.std.proofs.Common.{◌≡◌, ℕ, zero, suc, ◌+◌, ◌*◌, ◌/◌, ◌%◌, ◌^◌, ◌-◌, ◌<◌, Bool, true, false, ◌&&◌, eqb, ltb, List, [], ◌∷◌, ◌++◌, get_or, Some, None, Option, Ok, Err, Result, Bor, refl, sym, ap, subst, ◌∙◌, inl, inr, append_assoc, arith}
use Rattle.std.specs.Fmt.{digit_glyph, padded_integral, digits, digits_output, styled_digits_output, format_spec}
use Rattle.std.specs.Option.{option_map}
use Rattle.std.specs.Result.{IsOk, MatchResult}
use Rattle.std.specs.Str.{IsAscii, IsUtf8}
use Rattle.std.proofs.lemmas.Str.{IsAscii-append, IsUtf8-from_ascii}
use Rattle.std.proofs.lemmas.Str.Ascii.{IsAscii-nil}
use Rattle.std.proofs.lemmas.Fmt.{hex_byte}
use Rattle.std.proofs.lemmas.Bool.{and_parts, both_ways, cases_eq, eqb-true, ltb-true}
use Rattle.recording.specs.Meaning.{digit_value, joined, in_front, pairs}
use Rattle.recording.specs.Spelling.{upper_digits, spelled_byte, spelled_bytes}

abbrev is : Option ℕ → ℕ → Bool
is (Some x) v = eqb x v
is None v = false

is_some : (o : Option ℕ) (v : ℕ) → is o v ≡ true → o ≡ Some v
is_some (Some x) v e = ap Some (eqb-true x v e)
is_some None v e = absurd (both_ways false refl e)

abbrev each_below : (ℕ → Bool) → ℕ → Bool
each_below p zero = true
each_below p (suc n) = p n && each_below p n

at_below : (p : ℕ → Bool) (n : ℕ) → each_below p n ≡ true → (k : ℕ) → k < n → p k ≡ true
at_below p zero e k h = absurd (omega arith)
at_below p (suc n) e k h =
    let both = and_parts (p n) (each_below p n) e in
    elim (cases_eq k n) [ inl same ↦ ap p same ∙ both.0 | inr other ↦ at_below p n both.1 k (omega arith) ]

digit_back : (v : ℕ) → v < 16 → digit_value (get_or upper_digits v 0) ≡ Some v
digit_back v h = is_some _ v (at_below (λ k. is (digit_value (get_or upper_digits k 0)) k) 16 refl v h)

-- each digit is a character of one byte
pub digit_small : (v : ℕ) → v < 16 → get_or upper_digits v 0 < 128
digit_small v h = ltb-true _ 128 (at_below (λ k. ltb (get_or upper_digits k 0) 128) 16 refl v h)

pairs_append : (b : ℕ) (text bytes : List ℕ) → b < 256 → pairs text ≡ Some bytes → pairs (spelled_byte b ++ text) ≡ Some (b ∷ bytes)
pairs_append b text bytes h e =
    let high = digit_back (b / 16) (omega arith) in
    let low = digit_back (b % 16) (omega arith) in
    let whole : b / 16 * 16 + b % 16 ≡ b = omega arith in
    ap (λ o. in_front (joined o (digit_value (get_or upper_digits (b % 16) 0))) (pairs text)) high
    ∙ ap (λ o. in_front (joined (Some (b / 16)) o) (pairs text)) low
    ∙ ap (λ n. in_front (Some n) (pairs text)) whole ∙ ap (in_front (Some b)) e

pub reads_back : (b : ℕ) → b < 256 → pairs (spelled_byte b) ≡ Some (b ∷ [])
reads_back b h = pairs_append b [] [] h refl

-- the digits of bytes read back
pub all_read_back : (bytes : List ℕ) → ((i : ℕ) → get_or bytes i 0 < 256) → pairs (spelled_bytes bytes) ≡ Some bytes
all_read_back [] h = refl
all_read_back (b ∷ bytes) h = pairs_append b (spelled_bytes bytes) bytes (h 0) (all_read_back bytes (λ i. h (suc i)))

pair_ascii : (x y : ℕ) → x < 128 → y < 128 → IsAscii (x ∷ y ∷ [])
pair_ascii x y h k zero = h
pair_ascii x y h k (suc zero) = k
pair_ascii x y h k (suc (suc i)) = IsAscii-nil i

-- the digits of bytes are characters of one byte each
ascii : (bytes : List ℕ) → ((i : ℕ) → get_or bytes i 0 < 256) → IsAscii (spelled_bytes bytes)
ascii [] h = IsAscii-nil
ascii (b ∷ bytes) h =
    let small : b < 256 = h 0 in
    let both = pair_ascii _ _ (digit_small (b / 16) (omega arith)) (digit_small (b % 16) (omega arith)) in
    IsAscii-append (spelled_byte b) (spelled_bytes bytes) both (ascii bytes (λ i. h (suc i)))

-- so they are a text
pub is_text : {E : Type 0} (Q : E → Type 0) (r : Result (Bor (List ℕ)) E) (text bytes : List ℕ) → text ≡ spelled_bytes bytes
    → ((i : ℕ) → get_or bytes i 0 < 256) → MatchResult r (λ s. (s.now ≡ text) × IsUtf8 text) (λ e. ¬ (IsUtf8 text) × Q e) → IsOk r
is_text Q (Ok s) text bytes e h m = refl
is_text Q (Err x) text bytes e h m = absurd (m.0 (subst IsUtf8 (sym e) (IsUtf8-from_ascii (spelled_bytes bytes) (ascii bytes h))))

-- two texts pushed one after the other
pub pushed_twice : (old mid a b ab : List ℕ) → mid ≡ old ++ a → a ++ b ≡ ab → mid ++ b ≡ old ++ ab
pushed_twice old mid a b ab e f = ap (λ l. l ++ b) e ∙ append_assoc old a b ∙ ap (λ l. old ++ l) f

glyph : (v : ℕ) → v < 16 → digit_glyph true v ≡ get_or upper_digits v 0
glyph v h = eqb-true (digit_glyph true v) (get_or upper_digits v 0) (at_below (λ k. eqb (digit_glyph true k) (get_or upper_digits k 0)) 16 refl v h)

-- what `{:02X}` writes
two_digits : (b : ℕ) → b < 256 → padded_integral (format_spec 32 0 4 2 (2 ^ 64 - 1)) false [] (digits 16 true b) ≡ spelled_byte b
two_digits b h =
    let high = glyph (b / 16) (omega arith) in
    let low = glyph (b % 16) (omega arith) in
    hex_byte true b h ∙ (λ i. high i ∷ low i ∷ [])

pub shown : (d : _) (s : _) (b : ℕ) → b < 256 → digits_output d ≡ Some (digits 16 true b) → s ≡ format_spec 32 0 4 2 (2 ^ 64 - 1)
    → styled_digits_output d s ≡ Some (spelled_byte b)
shown d s b h e f =
    let spec = format_spec 32 0 4 2 (2 ^ 64 - 1) in
    ap (styled_digits_output d) f ∙ ap (option_map (padded_integral spec false [])) e ∙ ap Some (two_digits b h)
