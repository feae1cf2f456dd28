-- Bytes laid over the front of a memory, part by part.
use Rattle.std.proofs.Common.{count_by, ◌==◌, ◌≡◌, ℕ, zero, suc, ◌+◌, ◌*◌, ◌<◌, ◌≤◌, true, false, cond, eqb, List, [], ◌∷◌, ◌++◌, length, get_or, take, drop, set, sym, refl, ap, ◌∙◌, subst, inl, inr, append_assoc, arith, length-append}
use Rattle.std.proofs.lemmas.List.{take_at, drop_at, drop-drop, drop_more, set_at, length_push, length-take-le, take_more, take-append-drop, get_or-append-add}
use Rattle.std.proofs.lemmas.List.Sums.{sum_by-cons, count_by-le-length}
use Rattle.std.proofs.lemmas.Bool.{cond_both, cases_Bool, eqb-true}
use Rattle.wire.specs.Framing.{laid}
use Rattle.wire.specs.Line.{stuff}

-- a front that is there already is laid with no change
pub same_front : {A : Type 0} (n : ℕ) (m : List A) → m ≡ take n m ++ drop (length (take n m)) m
same_front zero m = refl
same_front (suc n) [] = refl
same_front (suc n) (x ∷ m) = ap (λ l. x ∷ l) (same_front n m)

pub stuff_append : (xs ys : List ℕ) → stuff (xs ++ ys) ≡ stuff xs ++ stuff ys
stuff_append [] ys = refl
stuff_append (x ∷ xs) ys =
    elim (eqb x 0x90) as (λ t. cond t (0x90 ∷ 0x90 ∷ stuff (xs ++ ys)) (x ∷ stuff (xs ++ ys)) ≡ cond t (0x90 ∷ 0x90 ∷ stuff xs) (x ∷ stuff xs) ++ stuff ys) [
      | true ↦ ap (λ l. 0x90 ∷ 0x90 ∷ l) (stuff_append xs ys)
      | false ↦ ap (λ l. x ∷ l) (stuff_append xs ys)
    ]

-- each DLE is one byte more
pub stuffed_count : (xs : List ℕ) → length (stuff xs) ≡ length xs + count_by (λ b. b == 0x90) xs
stuffed_count [] = refl
stuffed_count (x ∷ xs) =
    let h : count_by (λ b. b == 0x90) (x ∷ xs) ≡ cond (x == 0x90) 1 0 + count_by (λ b. b == 0x90) xs = sum_by-cons (λ b. cond (b == 0x90) 1 0) x xs in
    let e = stuffed_count xs in
    elim (cases_Bool (x == 0x90)) [
      | inl y ↦ omega (arith, h, e, ap (λ t. length (cond t (0x90 ∷ 0x90 ∷ stuff xs) (x ∷ stuff xs))) y, ap {B = ℕ} (λ t. cond t 1 0) y)
      | inr n ↦ omega (arith, h, e, ap (λ t. length (cond t (0x90 ∷ 0x90 ∷ stuff xs) (x ∷ stuff xs))) n, ap {B = ℕ} (λ t. cond t 1 0) n)
    ]

pub stuff_length : (xs : List ℕ) → length (stuff xs) ≤ 2 * length xs
stuff_length xs = omega (arith, stuffed_count xs, count_by-le-length (λ b. b == 0x90) xs)

cons : (x : ℕ) (xs : List ℕ) (i : ℕ) → x < 256 → ((j : ℕ) → get_or xs j 0 < 256) → get_or (x ∷ xs) i 0 < 256
cons x xs zero h t = h
cons x xs (suc i) h t = t i

-- what is stuffed into bytes is bytes
unstuffed : (xs : List ℕ) (i : ℕ) → ((k : ℕ) → get_or (stuff xs) k 0 < 256) → get_or xs i 0 < 256
unstuffed [] i all = all i
unstuffed (x ∷ xs) i all =
    cond_both (eqb x 0x90) _ _ (λ l. ((k : ℕ) → get_or l k 0 < 256) → get_or (x ∷ xs) i 0 < 256)
    (λ e more. cons x xs i (omega (arith, eqb-true x 0x90 e)) (λ j. unstuffed xs j (λ k. more (suc (suc k)))))
    (λ _ more. cons x xs i (more 0) (λ j. unstuffed xs j (λ k. more (suc k)))) all

pub stuffed_bytes : (before xs : List ℕ) (i : ℕ) → ((k : ℕ) → get_or (before ++ stuff xs) k 0 < 256) → get_or xs i 0 < 256
stuffed_bytes before xs i all = unstuffed xs i (λ k. subst (λ n. n < 256) (get_or-append-add before (stuff xs) k 0) (all (length before + k)))

-- a byte written right after the bytes that are laid
laid_push : (f m : List ℕ) (b n : ℕ) → length f ≡ n → n < length m → set (laid f m) n b ≡ laid (f ++ b ∷ []) m
laid_push f m b n e h =
    let split : laid f m ≡ f ++ _ ∷ drop (n + 1) m = ap (λ k. f ++ drop k m) e ∙ ap (λ l. f ++ l) (drop_more m n 0 h) in
    ap (λ l. set l n b) split ∙ set_at f _ (drop (n + 1) m) b n e ∙ sym (append_assoc f (b ∷ []) (drop (n + 1) m))
    ∙ ap (λ k. (f ++ b ∷ []) ++ drop k m) (ap (λ k. k + 1) (sym e) ∙ sym (length_push f b))

pub put_one : (m : List ℕ) (n b : ℕ) → n < length m → set m n b ≡ laid (take n m ++ b ∷ []) m
put_one m n b h = ap (λ l. set l n b) (same_front n m) ∙ laid_push (take n m) m b n (length-take-le n m (omega arith)) h

pub put_two : (m : List ℕ) (n b c : ℕ) → n + 1 < length m → set (set m n b) (n + 1) c ≡ laid (take n m ++ b ∷ c ∷ []) m
put_two m n b c h =
    let f = take n m ++ b ∷ [] in
    let long : length f ≡ n + 1 = length_push (take n m) b ∙ ap (λ k. k + 1) (length-take-le n m (omega arith)) in
    ap (λ l. set l (n + 1) c) (put_one m n b (omega arith)) ∙ laid_push f m c (n + 1) long h
    ∙ ap (λ l. laid l m) (append_assoc (take n m) (b ∷ []) (c ∷ []))

-- more bytes laid after those that are
pub laid_more : (m₀ m f w : List ℕ) (n : ℕ) → m ≡ laid f m₀ → n ≡ length f → laid (take n m ++ w) m ≡ laid (f ++ w) m₀
laid_more m₀ m f w n e h =
    let front : take n m ≡ f = ap (take n) e ∙ take_at f (drop (length f) m₀) n (sym h) in
    let rest : drop (length (f ++ w)) (laid f m₀) ≡ drop (length (f ++ w)) m₀
    = ap (λ k. drop k (laid f m₀)) (length-append f w) ∙ sym (drop-drop (length w) (length f) (laid f m₀))
    ∙ ap (drop (length w)) (drop_at f (drop (length f) m₀) (length f) refl) ∙ drop-drop (length w) (length f) m₀
    ∙ ap (λ k. drop k m₀) (sym (length-append f w)) in
    ap (λ l. laid (l ++ w) m) front ∙ ap (laid (f ++ w)) e ∙ ap (λ l. (f ++ w) ++ l) rest

-- one byte more of those that are stuffed
pub stuff_next : (bytes : List ℕ) (i : ℕ) → i < length bytes → stuff (take (i + 1) bytes) ≡ stuff (take i bytes) ++ stuff (get_or bytes i 0 ∷ [])
stuff_next bytes i h = ap stuff (take_more bytes i 0 h) ∙ stuff_append (take i bytes) (get_or bytes i 0 ∷ [])

pub stuff_next_length : (bytes : List ℕ) (i : ℕ) → i < length bytes
    → length (stuff (take (i + 1) bytes)) ≡ length (stuff (take i bytes)) + length (stuff (get_or bytes i 0 ∷ []))
stuff_next_length bytes i h = ap length (stuff_next bytes i h) ∙ length-append (stuff (take i bytes)) (stuff (get_or bytes i 0 ∷ []))

pub stuff_front : (bytes : List ℕ) (i : ℕ) → length (stuff (take i bytes)) ≤ length (stuff bytes)
stuff_front bytes i =
    omega (arith, ap (λ l. length (stuff l)) (take-append-drop i bytes), ap length (stuff_append (take i bytes) (drop i bytes)), length-append (stuff (take i bytes)) (stuff (drop i bytes)))

-- one turn of the loop that stuffs bytes
module _ (m₀ m bytes : List ℕ) (start at i : ℕ)
    (far : at ≡ start + length (stuff (take i bytes)))
    (sofar : m ≡ laid (take start m₀ ++ stuff (take i bytes)) m₀)
    (room : start + length (stuff bytes) ≤ length m₀) where
  front_length : at ≡ length (take start m₀ ++ stuff (take i bytes))
  front_length = far ∙ ap (λ k. k + length (stuff (take i bytes))) (sym (length-take-le start m₀ (omega arith))) ∙ sym (length-append _ _)

  pub turn_far : (r : ℕ) → i < length bytes → r ≡ at + length (stuff (get_or bytes i 0 ∷ [])) → r ≡ start + length (stuff (take (i + 1) bytes))
  turn_far r h e = omega (arith, far, e, stuff_next_length bytes i h)

  pub turn_laid : (m₁ : List ℕ) → i < length bytes → m₁ ≡ laid (take at m ++ stuff (get_or bytes i 0 ∷ [])) m → m₁ ≡ laid (take start m₀ ++ stuff (take (i + 1) bytes)) m₀
  turn_laid m₁ h e =
      e ∙ laid_more m₀ m _ (stuff (get_or bytes i 0 ∷ [])) at sofar front_length
      ∙ ap (λ l. laid l m₀) (append_assoc (take start m₀) (stuff (take i bytes)) _ ∙ ap (λ l. take start m₀ ++ l) (sym (stuff_next bytes i h)))

  pub turn_room : i < length bytes → at + length (stuff (get_or bytes i 0 ∷ [])) ≤ length m₀
  turn_room h = omega (arith, far, room, stuff_next_length bytes i h, stuff_front bytes (i + 1))
