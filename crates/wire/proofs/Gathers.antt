-- What one step of the receiver leaves in the memory. Assumes nothing.
use Rattle.std.proofs.Common.{◌≡◌, ℕ, suc, ◌+◌, ◌*◌, ◌<◌, ◌≤◌, true, false, List, [], ◌∷◌, ◌++◌, length, get_or, take, drop, set, Some, None, sym, refl, ap, ◌∙◌, inl, inr, append_assoc, arith}
use Rattle.std.proofs.lemmas.List.{take_more_set, set_split, length_push, length-take-le, get_or-take}
use Rattle.std.proofs.lemmas.Bool.{le-leb, lt-leb, cases_lt}
use Rattle.wire.specs.declared.receiving.Phase.{Phase}
use Rattle.wire.specs.declared.receiving.Phase.TheVariants.{Hunting, PastMark}
use Rattle.wire.specs.Receiving.{whole, gathering, Took}

module _ (m : List ℕ) (n b : ℕ) (inside : n < length m) where
  abbrev bytes : List ℕ
  bytes = take n m ++ b ∷ []

  bytes_length : length bytes ≡ n + 1
  bytes_length = length_push (take n m) b ∙ ap (λ k. k + 1) (length-take-le n m (omega arith))

  bytes_taken : take (n + 1) (set m n b) ≡ bytes
  bytes_taken = take_more_set m n b inside

  bytes_laid : set m n b ≡ bytes ++ drop (length bytes) m
  bytes_laid =
      let e : length bytes ≡ suc n = omega (arith, bytes_length) in
      set_split m n b inside ∙ sym (append_assoc (take n m) (b ∷ []) (drop (suc n) m)) ∙ ap (λ k. bytes ++ drop k m) (sym e)

  second : 1 < n + 1 → get_or bytes 1 0 ≡ get_or (set m n b) 1 0
  second h = ap (λ l. get_or l 1 0) (sym bytes_taken) ∙ get_or-take (n + 1) (set m n b) 1 0 h

  not_whole : n + 1 < 4 + 2 * get_or (set m n b) 1 0 → whole bytes ≡ false
  not_whole h =
      elim (cases_lt (n + 1) 4) [
        | inl few ↦ lt-leb _ _ (omega (arith, bytes_length))
        | inr many ↦ lt-leb _ _ (omega (arith, bytes_length, second (omega arith)))
      ]

  pub gathers : n + 1 < 4 + 2 * get_or (set m n b) 1 0 → Took (gathering (take n m ++ b ∷ [])) None PastMark (n + 1) m (set m n b)
  gathers h = rw (not_whole h) (record { tells = refl; moved = refl; counted = sym bytes_length; laid_front = bytes_laid })

  pub completes : {phase : Phase} {count : ℕ} → phase ≡ Hunting → count ≡ 0 → 4 + 2 * get_or (set m n b) 1 0 ≤ n + 1 → Took (gathering (take n m ++ b ∷ [])) (Some (n + 1)) phase count m (set m n b)
  completes hunts none h =
      let t : whole bytes ≡ true = le-leb _ _ (omega (arith, bytes_length, second (omega arith))) in
      rw t (record { tells = ap Some (sym bytes_length); moved = hunts; counted = none; laid_front = bytes_laid })
