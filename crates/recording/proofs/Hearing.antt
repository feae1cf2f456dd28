-- The lines that end while bytes are taken are the lines of the input, and a listener hears them one after another. Assumes nothing.
use Rattle.std.proofs.Common.{◌≡◌, ℕ, ◌+◌, ◌-◌, ◌^◌, ◌<◌, ◌≤◌, Bool, true, false, cond, eqb, List, [], ◌∷◌, ◌++◌, length, get_or, take, is_some, IfSome, Some, None, Option, refl, sym, ap, ◌∙◌, subst, append_assoc, append-nil, arith, length-append}
use Rattle.std.specs.Io.KnownBytes.{Consumes, IsAtEnd}
use Rattle.std.specs.List.{FoldsTo}
use Rattle.std.proofs.lemmas.List.{take_more}
use Rattle.recording.specs.Gathering.{Held, numbered, fresh, beginning, ending, adding, taking, one, number_of, Gathers}
use Rattle.recording.specs.Lines.{onto, lines, kept}
use Rattle.recording.specs.Meaning.{Meaning, meaning}
use Rattle.recording.specs.Playing.{all_told, told_last, all_taken, ending_lines, Event, line, pause, lines_in, Takes, Hears, Played}
use Rattle.recording.proofs.Kept.{take_twice, kept_meaning}
use Rattle.recording.proofs.Steps.{number_next, gathers_more}

-- ---- one part of the input after another

pub taken_append : (xs ys : List ℕ) (h : Held) → all_taken (xs ++ ys) h ≡ all_taken ys (all_taken xs h)
taken_append [] ys h = refl
taken_append (x ∷ xs) ys h = taken_append xs ys (taking x h)

pub ending_append : (xs ys : List ℕ) (h : Held) → ending_lines (xs ++ ys) h ≡ ending_lines xs h ++ ending_lines ys (all_taken xs h)
ending_append [] ys h = refl
ending_append (x ∷ xs) ys h =
    let last = told_last (eqb x 0x0A) (taking x h) in
    ap (λ l. last ++ l) (ending_append xs ys (taking x h)) ∙ sym (append_assoc last (ending_lines xs (taking x h)) (ending_lines ys (all_taken xs (taking x h))))

-- ---- what ends is told as the lines of the input ask

-- a text in front of the first line
abbrev before : List ℕ → List (List ℕ) → List (List ℕ)
before text [] = text ∷ []
before text (l ∷ ls) = (text ++ l) ∷ ls

before_more : (text : List ℕ) (b : ℕ) (ls : List (List ℕ)) → before (text ++ b ∷ []) ls ≡ before text (onto b ls)
before_more text b [] = refl
before_more text b (l ∷ ls) = ap (λ x. x ∷ ls) (append_assoc text (b ∷ []) l)

before_one : (b : ℕ) (ls : List (List ℕ)) → before (b ∷ []) ls ≡ onto b ls
before_one b [] = refl
before_one b (l ∷ ls) = refl

-- the n-th line after these is begun, or n lines are ended
abbrev begun_line : List ℕ → ℕ → Held
begun_line text n = record { text = kept text; begun = true; number = numbered (n + 1) }

abbrev ended_line : List ℕ → ℕ → Held
ended_line text n = record { text = text; begun = false; number = numbered n }

-- all that ends, and the line that the end of the input ends
abbrev pub all_ending : List ℕ → Held → List (ℕ × Meaning)
all_ending input h = ending_lines input h ++ told_last (all_taken input h).begun (all_taken input h)

-- a step, by whether the byte is a line feed
abbrev stepped : Bool → ℕ → Held → Held
stepped t b h = cond t (ending (beginning h)) (adding b (beginning h))

abbrev all_after : Bool → ℕ → List ℕ → Held → List (ℕ × Meaning)
all_after t b input h =
    (told_last t (stepped t b h) ++ ending_lines input (stepped t b h)) ++ told_last (all_taken input (stepped t b h)).begun (all_taken input (stepped t b h))

module _ (b : ℕ) (input : List ℕ) (begun : (text : List ℕ) (n : ℕ) → all_ending input (begun_line text n) ≡ all_told n (before text (lines input))) (done : (text : List ℕ) (n : ℕ) → all_ending input (ended_line text n) ≡ all_told n (lines input)) where
  open_step : (t : Bool) (text : List ℕ) (n : ℕ)
      → all_after t b input (begun_line text n) ≡ all_told n (before text (cond t ([] ∷ lines input) (onto b (lines input))))
  open_step true text n =
      ap (λ l. (numbered (n + 1), meaning (kept text)) ∷ l) (done (kept text) (n + 1))
      ∙ ap (λ m. (numbered (n + 1), m) ∷ all_told (n + 1) (lines input)) (kept_meaning text ∙ ap meaning (sym (append-nil text)))
  open_step false text n =
      ap (λ x. all_ending input (record { text = x; begun = true; number = numbered (n + 1) })) (take_twice 4097 text (b ∷ []))
      ∙ begun (text ++ b ∷ []) n ∙ ap (all_told n) (before_more text b (lines input))

  shut_step : (t : Bool) (text : List ℕ) (n : ℕ)
      → all_after t b input (ended_line text n) ≡ all_told n (cond t ([] ∷ lines input) (onto b (lines input)))
  shut_step true text n =
      ap (λ k. (k, meaning []) ∷ all_ending input (record { text = []; begun = false; number = k })) (number_next n)
      ∙ ap (λ l. (numbered (n + 1), meaning []) ∷ l) (done [] (n + 1))
  shut_step false text n =
      ap (λ k. all_ending input (record { text = kept (b ∷ []); begun = true; number = k })) (number_next n)
      ∙ begun (b ∷ []) n ∙ ap (all_told n) (before_one b (lines input))

ends : (input : List ℕ)
    → ((text : List ℕ) (n : ℕ) → all_ending input (begun_line text n) ≡ all_told n (before text (lines input)))
    × ((text : List ℕ) (n : ℕ) → all_ending input (ended_line text n) ≡ all_told n (lines input))
ends [] = (λ text n. ap (λ m. (numbered (n + 1), m) ∷ []) (kept_meaning text), λ text n. refl)
ends (b ∷ input) =
    let more = ends input in
    (open_step b input more.0 more.1 (eqb b 0x0A), shut_step b input more.0 more.1 (eqb b 0x0A))

pub whole : (input : List ℕ) → all_ending input fresh ≡ all_told 0 (lines input)
whole input = (ends input).1 [] 0

gathers_all : (input start : List ℕ) (texts : List (List ℕ)) (h : Held) → Gathers start texts h
    → (told : List (List ℕ)) × Gathers (start ++ input) told (all_taken input h)
gathers_all [] start texts h g = let P : List ℕ → Type 0 = λ l. Gathers l texts h in (texts, subst P (sym (append-nil start)) g)
gathers_all (b ∷ input) start texts h g =
    let more = gathers_all input (start ++ b ∷ []) (texts ++ one (eqb b 0x0A) (taking b h)) (taking b h) (gathers_more b h (taking b h) (eqb b 0x0A) refl refl start texts g) in
    let P : List ℕ → Type 0 = λ l. Gathers l more.0 (all_taken input (taking b h)) in
    (more.0, subst P (append_assoc start (b ∷ []) input) more.1)

-- the number of the last line is how many there are
counted : (input : List ℕ) → Gathers [] [] fresh → (all_taken input fresh).number ≡ numbered (length (lines input))
counted input g = (gathers_all input [] [] fresh g).1.number

-- ---- what is left of an input

consumes_more : (known left more : Option (List ℕ)) (xs ys : List ℕ) → Consumes known left xs → Consumes left more ys → Consumes known more (xs ++ ys)
consumes_more None left more xs ys c d = tt
consumes_more (Some all) None more xs ys c d = absurd c
consumes_more (Some all) (Some rest) None xs ys c d = absurd d
consumes_more (Some all) (Some rest) (Some end) xs ys c d = c ∙ ap (λ l. xs ++ l) d ∙ sym (append_assoc xs ys end)

consumes_all : (known left : Option (List ℕ)) (xs : List ℕ) → Consumes known left xs → IsAtEnd left → IfSome known (λ bytes. bytes ≡ xs)
consumes_all None left xs c e = tt
consumes_all (Some all) None xs c e = absurd c
consumes_all (Some all) (Some rest) xs c e = c ∙ ap (λ l. xs ++ l) e ∙ append-nil xs

short : (known : Option (List ℕ)) (xs : List ℕ) → IfSome known (λ bytes. bytes ≡ xs) → IfSome known (λ bytes. length bytes < 2 ^ 64 - 1 → bytes ≡ xs)
short None xs h = tt
short (Some all) xs h = λ _. h

long : (known left : Option (List ℕ)) (xs : List ℕ) → Consumes known left xs → 2 ^ 64 - 1 ≤ length xs
    → IfSome known (λ bytes. length bytes < 2 ^ 64 - 1 → bytes ≡ xs)
long None left xs c h = tt
long (Some all) None xs c h = absurd c
long (Some all) (Some rest) xs c h = λ small. absurd (omega (arith, ap length c, length-append xs rest))

-- a call gives a number where a line ended
some_number : (t : Bool) (h : Held) → is_some (number_of t h) ≡ t
some_number true h = refl
some_number false h = refl

-- ---- what a listener hears

module _ {S : Type 0} (hears : S → ℕ → Meaning → S → Type 0) (pauses : S → S → Type 0) where
  pub hears_line : (s t : S) (n : ℕ) (m : Meaning) → hears s n m t → Hears hears pauses ((n, m) ∷ []) s t
  hears_line s t n m h = record { events = line n m ∷ []; all = refl; took = (t, h, refl) }

  pub hears_pause : (s t : S) → pauses s t → Hears hears pauses [] s t
  hears_pause s t h = record { events = pause ∷ []; all = refl; took = (t, h, refl) }

  lines_append : (xs ys : List Event) → lines_in (xs ++ ys) ≡ lines_in xs ++ lines_in ys
  lines_append [] ys = refl
  lines_append (line n m ∷ xs) ys = ap (λ l. (n, m) ∷ l) (lines_append xs ys)
  lines_append (pause ∷ xs) ys = lines_append xs ys

  folds_append : (xs ys : List Event) (s t u : S) → FoldsTo (Takes hears pauses) s xs t → FoldsTo (Takes hears pauses) t ys u
      → FoldsTo (Takes hears pauses) s (xs ++ ys) u
  folds_append [] ys s t u f g = subst (λ x. FoldsTo (Takes hears pauses) x ys u) (sym f) g
  folds_append (x ∷ xs) ys s t u f g = (f.0, f.1, folds_append xs ys f.0 t u f.2 g)

  pub hears_more : (xs ys : List (ℕ × Meaning)) (s t u : S) → Hears hears pauses xs s t → Hears hears pauses ys t u → Hears hears pauses (xs ++ ys) s u
  hears_more xs ys s t u f g =
      record {
        events = f.events ++ g.events;
        all = lines_append f.events g.events ∙ ap (λ l. l ++ lines_in g.events) f.all ∙ ap (λ l. xs ++ l) g.all;
        took = folds_append f.events g.events s t u f.took g.took;
      }

  pub hears_none : (s : S) → Hears hears pauses [] s s
  hears_none s = record { events = []; all = refl; took = refl }

  -- the line that ended last was told
  pub told_one : (n : ℕ) (m : Meaning) (h : Held) (s t : S) → n ≡ h.number → m ≡ meaning h.text → hears s n m t → Hears hears pauses (told_last true h) s t
  told_one n m h s t e f x =
      let P : ℕ × Meaning → Type 0 = λ p. Hears hears pauses (p ∷ []) s t in
      subst P (λ i. (e i, f i)) (hears_line s t n m x)

  -- a line ended and was told, or none did
  pub told_some : (o : Option ℕ) (n : ℕ) (h : Held) (s t u : S) → o ≡ Some n → u ≡ t → Hears hears pauses (told_last true h) s t
      → Hears hears pauses (told_last (is_some o) h) s u
  told_some o n h s t u e f x = subst (λ o. Hears hears pauses (told_last (is_some o) h) s u) (sym e) (subst (Hears hears pauses (told_last true h) s) (sym f) x)

  pub told_none : (o : Option ℕ) (h : Held) (s u : S) → o ≡ None → u ≡ s → Hears hears pauses (told_last (is_some o) h) s u
  told_none o h s u e f = subst (λ o. Hears hears pauses (told_last (is_some o) h) s u) (sym e) (subst (Hears hears pauses [] s) (sym f) (hears_none s))

  -- one byte more was taken
  pub one_more : (bytes : List ℕ) (i : ℕ) (o : Option ℕ) (h mid new : Held) (s t u : S) → i < length bytes → mid ≡ all_taken (take i bytes) h
      → Hears hears pauses (ending_lines (take i bytes) h) s t → new ≡ taking (get_or bytes i 0) mid → o ≡ number_of (eqb (get_or bytes i 0) 0x0A) new
      → Hears hears pauses (told_last (is_some o) new) t u
      → (new ≡ all_taken (take (i + 1) bytes) h) × Hears hears pauses (ending_lines (take (i + 1) bytes) h) s u
  one_more bytes i o h mid new s t u lt e f k n g =
      let b = get_or bytes i 0 in
      let front = take i bytes in
      let more : take (i + 1) bytes ≡ front ++ b ∷ [] = take_more bytes i 0 lt in
      let taken : new ≡ taking b (all_taken front h) = k ∙ ap (taking b) e in
      let last : told_last (is_some o) new ≡ ending_lines (b ∷ []) (all_taken front h)
      = ap (λ x. told_last (is_some x) new) n ∙ ap (λ t. told_last t new) (some_number (eqb b 0x0A) new) ∙ ap (told_last (eqb b 0x0A)) taken
      ∙ sym (append-nil (told_last (eqb b 0x0A) (taking b (all_taken front h)))) in
      let all : ending_lines front h ++ told_last (is_some o) new ≡ ending_lines (take (i + 1) bytes) h
      = ap (λ l. ending_lines front h ++ l) last ∙ sym (ending_append front (b ∷ []) h) ∙ ap (λ l. ending_lines l h) (sym more) in
      let P : List (ℕ × Meaning) → Type 0 = λ l. Hears hears pauses l s u in (
        taken ∙ sym (taken_append front (b ∷ []) h) ∙ ap (λ l. all_taken l h) (sym more),
        subst P all (hears_more (ending_lines front h) (told_last (is_some o) new) s t u f g),
      )

  -- bytes of an input were taken by n reads, and what is left of it is known or not
  pub record Playing (known left : Option (List ℕ)) (n : ℕ) (h : Held) (old new : S) : Type 0 where
    pub input : List ℕ
    pub read : Consumes known left input
    pub reads : n ≤ length input
    pub taken : h ≡ all_taken input fresh
    pub heard : Hears hears pauses (ending_lines input fresh) old new

  pub goes_on : (known left more : Option (List ℕ)) (n : ℕ) (h new : Held) (bytes : List ℕ) (s t u v : S) → Playing known left n h s t → Consumes left more bytes
      → 0 < length bytes → new ≡ all_taken bytes h → Hears hears pauses (ending_lines bytes h) t u → pauses u v → Playing known more (n + 1) new s v
  goes_on known left more n h new bytes s t u v p c some e f g =
      let at : all_taken bytes h ≡ all_taken (p.input ++ bytes) fresh = ap (all_taken bytes) p.taken ∙ sym (taken_append p.input bytes fresh) in
      let before = ending_lines p.input fresh in
      let all : (before ++ ending_lines bytes h) ++ [] ≡ ending_lines (p.input ++ bytes) fresh
      = append-nil (before ++ ending_lines bytes h) ∙ ap (λ x. before ++ ending_lines bytes x) p.taken ∙ sym (ending_append p.input bytes fresh) in
      let P : List (ℕ × Meaning) → Type 0 = λ l. Hears hears pauses l s v in
      record {
        input = p.input ++ bytes;
        read = consumes_more known left more p.input bytes p.read c;
        reads = omega (arith, p.reads, length-append p.input bytes);
        taken = e ∙ at;
        heard = subst P all (hears_more (before ++ ending_lines bytes h) [] s u v (hears_more before (ending_lines bytes h) s t u p.heard f) (hears_pause u v g));
      }

  module _ (known left : Option (List ℕ)) (n count : ℕ) (h : Held) (s t u : S) (p : Playing known left n h s t) (gathers : Gathers [] [] fresh) (e : count ≡ h.number) (f : Hears hears pauses (told_last h.begun h) t u) where
    plays : IfSome known (λ bytes. length bytes < 2 ^ 64 - 1 → bytes ≡ p.input) → Played hears pauses known count s u
    plays w =
        let before = ending_lines p.input fresh in
        let all : before ++ told_last h.begun h ≡ all_told 0 (lines p.input) = ap (λ x. before ++ told_last x.begun x) p.taken ∙ whole p.input in
        let P : List (ℕ × Meaning) → Type 0 = λ l. Hears hears pauses l s u in
        record {
          input = p.input;
          whole = w;
          count_lines = e ∙ ap (λ x. x.number) p.taken ∙ counted p.input gathers;
          heard = subst P all (hears_more before (told_last h.begun h) s t u p.heard f);
        }

    -- nothing is left to read, or so much was read
    pub ends_there : (more : Option (List ℕ)) → Consumes left more [] → IsAtEnd more → Played hears pauses known count s u
    ends_there more c at_end =
        plays (short known p.input (consumes_all known more p.input (subst (Consumes known more) (append-nil p.input) (consumes_more known left more p.input [] p.read c)) at_end))

    pub ends_late : 2 ^ 64 - 1 ≤ n → Played hears pauses known count s u
    ends_late late = plays (long known left p.input p.read (omega (arith, p.reads)))
