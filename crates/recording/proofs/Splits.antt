-- How one byte more changes the lines of an input. Assumes nothing.
use Rattle.std.proofs.Common.{◌≡◌, ℕ, suc, ◌≤◌, Bool, true, false, cond, not, eqb, List, [], ◌∷◌, ◌++◌, map, length, sym, refl, ap, ◌∙◌, arith}
use Rattle.std.specs.List.{AllByRecursion}
use Rattle.std.proofs.lemmas.Bool.{true≢false, false≢true, eqb-true, eqb-false}
use Rattle.recording.specs.Lines.{onto, lines, unended, fed, Splits, kept}
use Rattle.recording.proofs.Kept.{take_twice}

pub unended_push : (input : List ℕ) (b : ℕ) → unended (input ++ b ∷ []) ≡ not (eqb b 0x0A)
unended_push [] b = refl
unended_push (c ∷ []) b = refl
unended_push (c ∷ d ∷ input) b = unended_push (d ∷ input) b

-- the lines of an input, by its first byte
abbrev led : Bool → ℕ → List (List ℕ) → List (List ℕ)
led t c ls = cond t ([] ∷ ls) (onto c ls)

abbrev SomeLine : List (List ℕ) → Type 0
SomeLine ls = 1 ≤ length ls

led_some : (t : Bool) (c : ℕ) (ls : List (List ℕ)) → SomeLine (led t c ls)
led_some true c ls = omega arith
led_some false c [] = omega arith
led_some false c (l ∷ ls) = omega arith

led_append : (t : Bool) (c : ℕ) (ls ms : List (List ℕ)) → SomeLine ls → led t c (ls ++ ms) ≡ led t c ls ++ ms
led_append true c ls ms h = refl
led_append false c [] ms h = absurd (omega arith)
led_append false c (l ∷ ls) ms h = refl

pub some_lines : (input : List ℕ) → unended input ≡ true → SomeLine (lines input)
some_lines [] h = absurd (false≢true h)
some_lines (c ∷ input) h = led_some (eqb c 0x0A) c (lines input)

led_ended : (t : Bool) (c : ℕ) (ms : List (List ℕ)) → not t ≡ false → led t c ms ≡ led t c [] ++ ms
led_ended true c ms h = refl
led_ended false c ms h = absurd (true≢false h)

-- after a line feed another input begins
pub lines_append : (input more : List ℕ) → unended input ≡ false → lines (input ++ more) ≡ lines input ++ lines more
lines_append [] more h = refl
lines_append (c ∷ []) more h = led_ended (eqb c 0x0A) c (lines more) h
lines_append (c ∷ d ∷ input) more h =
    ap (led (eqb c 0x0A) c) (lines_append (d ∷ input) more h)
    ∙ led_append (eqb c 0x0A) c (lines (d ∷ input)) (lines more) (led_some (eqb d 0x0A) d (lines input))

led_feed : (t u : Bool) (c b : ℕ) → not t ≡ true → u ≡ true → led t c (led u b []) ≡ led t c []
led_feed true u c b h k = absurd (false≢true h)
led_feed false true c b h k = refl
led_feed false false c b h k = absurd (false≢true k)

-- a line feed ends the last line
pub lines_feed : (input : List ℕ) (b : ℕ) → unended input ≡ true → eqb b 0x0A ≡ true → lines (input ++ b ∷ []) ≡ lines input
lines_feed [] b h k = absurd (false≢true h)
lines_feed (c ∷ []) b h k = led_feed (eqb c 0x0A) (eqb b 0x0A) c b h k
lines_feed (c ∷ d ∷ input) b h k = ap (led (eqb c 0x0A) c) (lines_feed (d ∷ input) b h k)

-- a character more at the end of the last line
abbrev pub extend : ℕ → List (List ℕ) → List (List ℕ)
extend b [] = (b ∷ []) ∷ []
extend b (l ∷ []) = (l ++ b ∷ []) ∷ []
extend b (l ∷ m ∷ ls) = l ∷ extend b (m ∷ ls)

led_extend : (t : Bool) (c b : ℕ) (ls : List (List ℕ)) → SomeLine ls → led t c (extend b ls) ≡ extend b (led t c ls)
led_extend t c b [] h = absurd (omega arith)
led_extend true c b (l ∷ ls) h = refl
led_extend false c b (l ∷ []) h = refl
led_extend false c b (l ∷ m ∷ ls) h = refl

led_character : (t u : Bool) (c b : ℕ) → not t ≡ true → u ≡ false → led t c (led u b []) ≡ extend b (led t c [])
led_character true u c b h k = absurd (false≢true h)
led_character false true c b h k = absurd (true≢false k)
led_character false false c b h k = refl

-- any other byte is a character of the last line
pub lines_character : (input : List ℕ) (b : ℕ) → unended input ≡ true → eqb b 0x0A ≡ false → lines (input ++ b ∷ []) ≡ extend b (lines input)
lines_character [] b h k = absurd (false≢true h)
lines_character (c ∷ []) b h k = led_character (eqb c 0x0A) (eqb b 0x0A) c b h k
lines_character (c ∷ d ∷ input) b h k =
    ap (led (eqb c 0x0A) c) (lines_character (d ∷ input) b h k)
    ∙ led_extend (eqb c 0x0A) c b (lines (d ∷ input)) (led_some (eqb d 0x0A) d (lines input))

pub length_extend : (b : ℕ) (ls : List (List ℕ)) → SomeLine ls → length (extend b ls) ≡ length ls
length_extend b [] h = absurd (omega arith)
length_extend b (l ∷ []) h = refl
length_extend b (l ∷ m ∷ ls) h = ap suc (length_extend b (m ∷ ls) (omega arith))

-- the last line that is kept takes the character too
pub kept_extend : (told : List (List ℕ)) (text : List ℕ) (b : ℕ) (ls : List (List ℕ)) → told ++ text ∷ [] ≡ map kept ls
    → told ++ kept (text ++ b ∷ []) ∷ [] ≡ map kept (extend b ls)
kept_extend [] text b [] h = absurd (let z : ◌≡◌ {A = ℕ} 0 1 = cc in omega arith)
kept_extend (t ∷ told) text b [] h = absurd (let z : ◌≡◌ {A = ℕ} 0 1 = cc in omega arith)
kept_extend [] text b (l ∷ []) h =
    let same : text ≡ kept l = cc in
    ap (λ x. x ∷ []) (ap (λ x. kept (x ++ b ∷ [])) same ∙ take_twice 4097 l (b ∷ []))
kept_extend [] text b (l ∷ m ∷ ls) h = absurd (let z : ◌≡◌ {A = ℕ} 0 1 = cc in omega arith)
kept_extend (t ∷ []) text b (l ∷ []) h = absurd (let z : ◌≡◌ {A = ℕ} 0 1 = cc in omega arith)
kept_extend (t ∷ u ∷ told) text b (l ∷ []) h = absurd (let z : ◌≡◌ {A = ℕ} 0 1 = cc in omega arith)
kept_extend (t ∷ told) text b (l ∷ m ∷ ls) h =
    let first : t ≡ kept l = cc in
    let rest : told ++ text ∷ [] ≡ map kept (m ∷ ls) = cc in
    ap (λ x. x ∷ (told ++ kept (text ++ b ∷ []) ∷ [])) first ∙ ap (λ x. kept l ∷ x) (kept_extend told text b (m ∷ ls) rest)

led_fed : (t : Bool) (c : ℕ) (ls : List (List ℕ)) → (t ≡ true → c ≡ 0x0A) → SomeLine ls → fed (led t c ls) ≡ c ∷ fed ls
led_fed t c [] h k = absurd (omega arith)
led_fed true c (l ∷ ls) h k = ap (λ b. b ∷ fed (l ∷ ls)) (sym (h refl))
led_fed false c (l ∷ ls) h k = refl

fed_alone : (t : Bool) (c : ℕ) → (t ≡ true → c ≡ 0x0A) → fed (led t c []) ≡ c ∷ cond (not t) (0x0A ∷ []) []
fed_alone true c h = ap (λ b. b ∷ []) (sym (h refl))
fed_alone false c h = refl

fed_lines : (input : List ℕ) → fed (lines input) ≡ input ++ cond (unended input) (0x0A ∷ []) []
fed_lines [] = refl
fed_lines (c ∷ []) = fed_alone (eqb c 0x0A) c (eqb-true c 0x0A)
fed_lines (c ∷ d ∷ input) =
    led_fed (eqb c 0x0A) c (lines (d ∷ input)) (eqb-true c 0x0A) (led_some (eqb d 0x0A) d (lines input)) ∙ ap (λ l. c ∷ l) (fed_lines (d ∷ input))

-- no line feed stands in a line
abbrev Clean : List (List ℕ) → Type 0
Clean ls = AllByRecursion (AllByRecursion (λ c. c ≡ 0x0A → ⊥)) ls

led_clean : (t : Bool) (c : ℕ) (ls : List (List ℕ)) → (t ≡ false → c ≡ 0x0A → ⊥) → Clean ls → Clean (led t c ls)
led_clean true c ls h k = (tt, k)
led_clean false c [] h k = ((h refl, tt), tt)
led_clean false c (l ∷ ls) h k = ((h refl, k.0), k.1)

clean_lines : (input : List ℕ) → Clean (lines input)
clean_lines [] = tt
clean_lines (c ∷ input) = led_clean (eqb c 0x0A) c (lines input) (eqb-false c 0x0A) (clean_lines input)

pub lines_split : (input : List ℕ) → Splits input (lines input)
lines_split input = record { whole = fed_lines input; clean = clean_lines input }
