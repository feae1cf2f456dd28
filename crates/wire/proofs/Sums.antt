-- The steps of the checksum's loops, and its bound.
use Rattle.std.proofs.Common.{◌≡◌, ℕ, zero, suc, ◌+◌, ◌-◌, ◌*◌, ◌/◌, ◌%◌, ◌^◌, ◌<◌, true, false, cond, ltb, List, [], ◌∷◌, ◌++◌, length, refl, ap, ◌∙◌, arith, lit<}
use Rattle.std.specs.Int.{w16, from_le_bytes}
use Rattle.std.specs.List.{fold}
use Rattle.std.specs.Simd.{first_chunks}
use lib.Bits.{bit_xor, xor_lt}
use Rattle.wire.specs.Checksum.{shifted, takes, register, words, checksum_of}

pub takes_none : (n w r : ℕ) → n ≡ 0 → takes n w r ≡ r
unfolding takes
takes_none zero w r h = refl
takes_none (suc n) w r h = absurd (omega arith)

takes_suc : (n w r : ℕ) → takes (suc n) w r ≡ takes n w (shifted r (w / 2 ^ n % 2))
unfolding takes
takes_suc n w r = refl

pub takes_more : (n w r : ℕ) → 0 < n → takes n w r ≡ takes (n - 1) w (shifted r (w / 2 ^ (n - 1) % 2))
takes_more n w r h =
    let e : n ≡ suc (n - 1) = omega arith in
    ap (λ k. takes k w r) e ∙ takes_suc (n - 1) w r

-- the words taken in turn, two bytes each
pub fold_words : (bytes : List ℕ) (r : ℕ) → fold (λ sum word. takes 16 (from_le_bytes w16 word) sum) r (first_chunks 2 (length bytes / 2) bytes) ≡ register (words bytes) r
unfolding words register
fold_words [] r = refl
fold_words (b ∷ []) r = refl
fold_words (b ∷ c ∷ bytes) r =
    let half : length (b ∷ c ∷ bytes) / 2 ≡ suc (length bytes / 2) = omega arith in
    ap (λ k. fold (λ sum word. takes 16 (from_le_bytes w16 word) sum) r (first_chunks 2 k (b ∷ c ∷ bytes))) half
    ∙ fold_words bytes (takes 16 (b + c * 256) r)

register_last : (ws : List ℕ) (r : ℕ) → register (ws ++ 0 ∷ []) r ≡ takes 16 0 (register ws r)
unfolding register
register_last [] r = refl
register_last (w ∷ ws) r = register_last ws (takes 16 w r)

pub sum_is : (xs : List ℕ) → checksum_of xs ≡ takes 16 0 (register (words xs) 0)
unfolding checksum_of
sum_is xs = register_last (words xs) 0

pub frame_sum : (opcode count : ℕ) (content : List ℕ) → checksum_of (opcode ∷ count ∷ content) ≡ takes 16 0 (register (words content) (takes 16 (opcode + count * 256) 0))
unfolding register words
frame_sum opcode count content = sum_is (opcode ∷ count ∷ content)

-- The register never holds more than 16 bits.

shifted_small : (r bit : ℕ) → bit < 2 → shifted r bit < 65536
shifted_small r bit h =
    let low : r % 0x8000 * 2 + bit < 65536 = omega arith in
    elim (ltb r 0x8000) as (λ t. cond t (r % 0x8000 * 2 + bit) (bit_xor (r % 0x8000 * 2 + bit) 0x1021) < 65536) [
      | true ↦ low
      | false ↦ xor_lt 16 (r % 0x8000 * 2 + bit) 0x1021 low (lit< tt)
    ]

takes_small : (n w r : ℕ) → r < 65536 → takes n w r < 65536
unfolding takes
takes_small zero w r h = h
takes_small (suc n) w r h = takes_small n w (shifted r (w / 2 ^ n % 2)) (shifted_small r (w / 2 ^ n % 2) (omega arith))

register_small : (ws : List ℕ) (r : ℕ) → r < 65536 → register ws r < 65536
unfolding register
register_small [] r h = h
register_small (w ∷ ws) r h = register_small ws (takes 16 w r) (takes_small 16 w r h)

pub sum_small : (xs : List ℕ) → checksum_of xs < 65536
unfolding checksum_of
sum_small xs = register_small (words xs ++ 0 ∷ []) 0 (lit< tt)
