-- A frame laid part by part.
use Rattle.std.proofs.Common.{◌≡◌, ℕ, ◌+◌, ◌%◌, ◌<◌, ◌≤◌, false, not, eqb, ltb, List, [], ◌∷◌, ◌++◌, length, get_or, take, drop, set, Ok, Result, sym, refl, ap, ◌∙◌, subst, inl, inr, arith, length-append}
use Rattle.std.proofs.lemmas.List.{take_at}
use Rattle.std.proofs.lemmas.Bool.{le-ltb, ltb-false, eq-eqb, eqb-true, or_parts, or_from, not-false, not_from_true, cases_Bool, cond-true, cond-false, cond_both}
use Rattle.wire.specs.declared.faults.Refusal.{Refusal}
use Rattle.wire.specs.Frames.{Bytes, Even, Heard}
use Rattle.wire.specs.Framing.{Writing, laid, body_of, misfit, written_over, laying, writing, Rewrites}
use Rattle.wire.specs.Line.{Open, stuff, framed}
use Rattle.wire.proofs.Frames.{body_length, reads_back, carried}
use Rattle.wire.proofs.Laying.{stuff_append, stuff_length, stuffed_bytes, laid_more}

-- the stuffed parts of a body, one after the other
pub parts_length : (head content tail : List ℕ) → length (framed ((head ++ content) ++ tail)) ≡ 2 + length (stuff head) + length (stuff content) + length (stuff tail)
parts_length head content tail =
    omega (
      arith,
      ap length (stuff_append (head ++ content) tail),
      length-append (stuff (head ++ content)) (stuff tail),
      ap length (stuff_append head content),
      length-append (stuff head) (stuff content),
    )

start_laid : (m : List ℕ) → 2 ≤ length m → set (set m 0 0x90) 1 0x02 ≡ laid (0x90 ∷ 0x02 ∷ []) m
start_laid [] h = absurd (omega arith)
start_laid (x ∷ []) h = absurd (omega arith)
start_laid (x ∷ y ∷ m) h = refl

module _ (head content tail m₀ m₂ m₃ m₄ : List ℕ) (a₂ a₃ a₄ : ℕ) (room : 2 ≤ length m₀)
    (n₂ : a₂ ≡ 2 + length (stuff head)) (l₂ : m₂ ≡ laid (take 2 (set (set m₀ 0 0x90) 1 0x02) ++ stuff head) (set (set m₀ 0 0x90) 1 0x02))
    (n₃ : a₃ ≡ a₂ + length (stuff content)) (l₃ : m₃ ≡ laid (take a₂ m₂ ++ stuff content) m₂)
    (n₄ : a₄ ≡ a₃ + length (stuff tail)) (l₄ : m₄ ≡ laid (take a₃ m₃ ++ stuff tail) m₃) where
  abbrev f₂ : List ℕ
  f₂ = (0x90 ∷ 0x02 ∷ []) ++ stuff head

  at₂ : a₂ ≡ length f₂
  at₂ = omega (arith, n₂)

  abbrev f₃ : List ℕ
  f₃ = f₂ ++ stuff content

  whole_frame : f₃ ++ stuff tail ≡ framed ((head ++ content) ++ tail)
  whole_frame =
      ap (λ l. 0x90 ∷ 0x02 ∷ l)
      (ap (λ l. l ++ stuff tail) (sym (stuff_append head content)) ∙ sym (stuff_append (head ++ content) tail))

  at₃ : a₃ ≡ length f₃
  at₃ = omega (arith, n₂, n₃, length-append f₂ (stuff content))

  pub frame_length : a₄ ≡ length (framed ((head ++ content) ++ tail))
  frame_length = omega (arith, n₂, n₃, n₄, parts_length head content tail)

  pub frame_laid : m₄ ≡ laid (framed ((head ++ content) ++ tail)) m₀
  frame_laid =
      let two : m₂ ≡ laid f₂ m₀ = l₂ ∙ laid_more m₀ _ (0x90 ∷ 0x02 ∷ []) (stuff head) 2 (start_laid m₀ room) refl in
      let three : m₃ ≡ laid f₃ m₀ = l₃ ∙ laid_more m₀ m₂ f₂ (stuff content) a₂ two at₂ in
      l₄ ∙ laid_more m₀ m₃ f₃ (stuff tail) a₃ three at₃ ∙ ap (λ l. laid l m₀) whole_frame

-- What the call that writes gives.

fit : (content : List ℕ) → misfit content ≡ false → Even content × (length content ≤ 510)
fit content h =
    let p = or_parts (not (eqb (length content % 2) 0)) (ltb 510 (length content)) h in
    (eqb-true _ _ (not-false _ p.0), ltb-false _ _ p.1)

fits_misfit : (content : List ℕ) → Even content → length content ≤ 510 → misfit content ≡ false
fits_misfit content even few = or_from (not (eqb (length content % 2) 0)) (ltb 510 (length content)) (not_from_true _ (eq-eqb _ _ even)) (le-ltb _ _ few)

module _ (opcode : ℕ) (content memory : List ℕ) where
  abbrev bytes : List ℕ
  bytes = framed (body_of opcode content)

  writes : misfit content ≡ false → 1030 ≤ length memory → writing opcode content memory ≡ written_over bytes memory
  writes h room = cond-false (misfit content) _ _ h ∙ cond-false (ltb (length memory) 1030) _ _ (le-ltb _ _ room)

  -- the longest frame has 1,030 bytes
  longest : misfit content ≡ false → length bytes ≤ 1030
  longest h = omega (arith, stuff_length (body_of opcode content), body_length opcode content, (fit content h).1)

  -- a memory with room for the longest frame has room for this one
  pub lays : (misfit content ≡ false → 1030 ≤ length memory) → laying opcode content memory ≡ writing opcode content memory
  lays room =
      elim (cases_Bool (misfit content)) [
        | inl h ↦ cond-true (misfit content) _ _ h ∙ sym (cond-true (misfit content) _ _ h)
        | inr h ↦
            cond-false (misfit content) _ _ h ∙ cond-false (ltb (length memory) (length bytes)) _ _ (le-ltb _ _ (omega (arith, longest h, room h))) ∙ sym (writes h (room h))
      ]

  -- what is not taken says so
  taken_fits : (n : ℕ) → (writing opcode content memory).result ≡ Ok n → (misfit content ≡ false) × (1030 ≤ length memory)
  taken_fits n =
      let P : Writing → Type 0 = λ w. w.result ≡ Ok n → (misfit content ≡ false) × (1030 ≤ length memory) in
      cond_both (misfit content) _ _ P (λ _ e. absurd (cc))
      (λ h. cond_both (ltb (length memory) 1030) _ _ P (λ _ e. absurd (cc)) (λ room _. (h, ltb-false _ _ room)))

  front_written : take (length bytes) (written_over bytes memory).memory ≡ bytes
  front_written = take_at bytes (drop (length bytes) memory) (length bytes) refl

  -- what was written reads back
  pub reads : (stretch then : List ℕ) (r : Result ℕ Refusal) (n : ℕ) → r ≡ (writing opcode content memory).result → then ≡ (writing opcode content memory).memory
      → (Open stretch → ⊥) → r ≡ Ok n → Heard (stretch ++ take n then) opcode content
  reads stretch then r n gives leaves shut taken =
      let fit-there = taken_fits n (sym gives ∙ taken) in
      let w = writes fit-there.0 fit-there.1 in
      let count : ◌≡◌ {A = Result ℕ Refusal} (Ok n) (Ok (length bytes)) = sym taken ∙ gives ∙ ap (λ x. x.result) w in
      let long : n ≡ length bytes = cc in
      let front : take n then ≡ bytes = ap (λ k. take k then) long ∙ ap (take (length bytes)) (leaves ∙ ap (λ x. x.memory) w) ∙ front_written in
      subst (λ l. Heard (stretch ++ l) opcode content) (sym front) (reads_back stretch opcode content shut (fit content fit-there.0).0)

  -- a heard frame has at most 255 words, for its Len is a byte
  heard_fit : (stretch : List ℕ) → Bytes stretch → Heard stretch opcode content → misfit content ≡ false
  heard_fit stretch all h =
      let before = h.0.mark in
      let len : get_or (body_of opcode content) 1 0 < 256 = stuffed_bytes before (body_of opcode content) 1 (subst Bytes h.0.text all) in
      fits_misfit content h.1 (omega (arith, len, h.1))

  -- a heard frame is written as the bytes that carried it
  pub rewrites : (stretch then : List ℕ) (r : Result ℕ Refusal) → r ≡ (writing opcode content memory).result → then ≡ (writing opcode content memory).memory
      → Bytes stretch → Heard stretch opcode content → 1030 ≤ length memory → Rewrites stretch r then
  rewrites stretch then r gives leaves all h room =
      let w = writes (heard_fit stretch all h) room in
      let front : take (length bytes) then ≡ bytes = ap (take (length bytes)) (leaves ∙ ap (λ x. x.memory) w) ∙ front_written in
      let from = carried stretch opcode content h in
      (from.0, length bytes, gives ∙ ap (λ x. x.result) w, from.1 ∙ ap (λ l. from.0 ++ l) (sym front))
