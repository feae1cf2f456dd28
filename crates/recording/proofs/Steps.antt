-- One byte more is gathered and told as the lines of the input ask. Assumes nothing.
use Rattle.std.proofs.Common.{◌≡◌, ℕ, ◌+◌, Bool, true, false, cond, not, eqb, List, [], ◌∷◌, ◌++◌, map, length, sym, refl, ap, ◌∙◌, subst, arith}
use Rattle.std.proofs.lemmas.List.{append-nil, map-append, length-append}
use Rattle.recording.specs.Gathering.{Held, numbered, beginning, ending, adding, taking, one, Told, Gathers}
use Rattle.recording.specs.Lines.{lines, unended, kept}
use Rattle.recording.specs.Meaning.{meaning}
use Rattle.recording.proofs.Kept.{kept_meaning}
use Rattle.recording.proofs.Splits.{unended_push, some_lines, lines_append, lines_feed, lines_character, length_extend, kept_extend, lines_split}

-- a step, by whether the byte is a line feed
abbrev taken : Bool → ℕ → Held → Held
taken e b h = cond e (ending (beginning h)) (adding b (beginning h))

-- the line that one byte alone is
abbrev alone : Bool → ℕ → List ℕ
alone e b = cond e [] (b ∷ [])

alone_line : (e : Bool) (b : ℕ) → cond e ([] ∷ []) ((b ∷ []) ∷ []) ≡ alone e b ∷ []
alone_line true b = refl
alone_line false b = refl

all_say : (ls : List (List ℕ)) → map meaning (map kept ls) ≡ map meaning ls
all_say [] = refl
all_say (l ∷ ls) = ap (λ m. m ∷ map meaning (map kept ls)) (kept_meaning l) ∙ ap (λ ms. meaning l ∷ ms) (all_say ls)

tell : (input : List ℕ) (texts : List (List ℕ)) → texts ≡ map kept (lines input) → Told input texts
tell input texts e = record { splits = lines_split input; kept_lines = e; says = ap (map meaning) e ∙ all_say (lines input) }

pub number_next : (n : ℕ) → numbered (numbered n + 1) ≡ numbered (n + 1)
number_next n = omega arith

-- the byte begins a line
module _ (input : List ℕ) (b : ℕ) (ended : unended input ≡ false) where
  one_more : lines (input ++ b ∷ []) ≡ lines input ++ alone (eqb b 0x0A) b ∷ []
  one_more = lines_append input (b ∷ []) ended ∙ ap (λ ls. lines input ++ ls) (alone_line (eqb b 0x0A) b)

  texts_more : (texts : List (List ℕ)) → texts ++ [] ≡ map kept (lines input)
      → texts ++ kept (alone (eqb b 0x0A) b) ∷ [] ≡ map kept (lines (input ++ b ∷ []))
  texts_more texts all =
      ap (λ ls. ls ++ kept (alone (eqb b 0x0A) b) ∷ []) (sym (append-nil texts) ∙ all)
      ∙ sym (map-append kept (lines input) (alone (eqb b 0x0A) b ∷ [])) ∙ ap (map kept) (sym one_more)

  number_more : (n : ℕ) → n ≡ numbered (length (lines input)) → numbered (n + 1) ≡ numbered (length (lines (input ++ b ∷ [])))
  number_more n e =
      ap (λ k. numbered (k + 1)) e ∙ number_next (length (lines input))
      ∙ ap numbered (sym (ap length one_more ∙ length-append (lines input) (alone (eqb b 0x0A) b ∷ [])))

step : (input : List ℕ) (texts : List (List ℕ)) (text : List ℕ) (begun : Bool) (number b : ℕ) (e : Bool) → eqb b 0x0A ≡ e
    → Gathers input texts (record { text = text; begun = begun; number = number })
    → Gathers (input ++ b ∷ []) (texts ++ one e (taken e b (record { text = text; begun = begun; number = number })))
    (taken e b (record { text = text; begun = begun; number = number }))
step input texts text true number b true k g =
    let same = lines_feed input b (sym g.begun) k in
    record {
      told = tell (input ++ b ∷ []) _ (append-nil (texts ++ text ∷ []) ∙ g.told.kept_lines ∙ ap (map kept) (sym same));
      begun = sym (unended_push input b ∙ ap not k);
      number = g.number ∙ ap (λ ls. numbered (length ls)) (sym same);
    }
step input texts text true number b false k g =
    let more = lines_character input b (sym g.begun) k in
    record {
      told =
          tell (input ++ b ∷ []) _
          (ap (λ ls. ls ++ kept (text ++ b ∷ []) ∷ []) (append-nil texts)
          ∙ kept_extend texts text b (lines input) g.told.kept_lines ∙ ap (map kept) (sym more));
      begun = sym (unended_push input b ∙ ap not k);
      number = g.number ∙ ap numbered (sym (ap length more ∙ length_extend b (lines input) (some_lines input (sym g.begun))));
    }
step input texts text false number b true k g =
    record {
      told =
          tell (input ++ b ∷ []) _
          (append-nil (texts ++ [] ∷ []) ∙ ap (λ t. texts ++ kept (alone t b) ∷ []) (sym k)
          ∙ texts_more input b (sym g.begun) texts g.told.kept_lines);
      begun = sym (unended_push input b ∙ ap not k);
      number = number_more input b (sym g.begun) number g.number;
    }
step input texts text false number b false k g =
    record {
      told =
          tell (input ++ b ∷ []) _
          (ap (λ ls. ls ++ kept (b ∷ []) ∷ []) (append-nil texts) ∙ ap (λ t. texts ++ kept (alone t b) ∷ []) (sym k)
          ∙ texts_more input b (sym g.begun) texts g.told.kept_lines);
      begun = sym (unended_push input b ∙ ap not k);
      number = number_more input b (sym g.begun) number g.number;
    }

pub gathers_more : (b : ℕ) (h g : Held) (r : Bool) → r ≡ eqb b 0x0A → g ≡ taking b h → (input : List ℕ) (texts : List (List ℕ)) → Gathers input texts h
    → Gathers (input ++ b ∷ []) (texts ++ one r g) g
gathers_more b h g r e k input texts start =
    let P : Bool → Type 0 = λ t. Gathers (input ++ b ∷ []) (texts ++ one t g) g in
    let Q : Held → Type 0 = λ x. Gathers (input ++ b ∷ []) (texts ++ one (eqb b 0x0A) x) x in
    subst P (sym e) (subst Q (sym k) (step input texts h.text h.begun h.number b (eqb b 0x0A) refl start))
