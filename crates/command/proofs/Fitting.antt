-- Any answer fits 538 bytes, and the value of a number has its place in one.
use Rattle.std.proofs.Common.{◌≡◌, ℕ, ◌%◌, ◌≤◌, not, eqb, ltb, [], ◌∷◌, ◌++◌, length, take, drop, Some, None, Ok, Option, Result, refl, ap, ◌∙◌, arith}
use Rattle.std.proofs.lemmas.Bool.{le-ltb, eq-eqb, or_from, not_from_true, cond-false}
use Rattle.dictionary.specs.declared.Fault.{Fault}
use Rattle.dictionary.specs.Calls.{answer, leaves}
use Rattle.dictionary.specs.Objects.{Bytes}
use Rattle.wire.specs.declared.faults.Refusal.{Refusal}
use Rattle.wire.specs.Framing.{body_of, laid, misfit, laying, written_over}
use Rattle.wire.specs.Line.{framed}
use Rattle.wire.proofs.Frames.{body_length}
use Rattle.wire.proofs.Laying.{stuff_length}
use Rattle.command.specs.Answers.{four, accepted_data, value_back}

-- a frame has at most twice the bytes of its body, and two more
pub fits : (opcode : ℕ) (content memory : Bytes) → length content % 2 ≡ 0 → length content ≤ 264 → 538 ≤ length memory
    → laying opcode content memory ≡ written_over (framed (body_of opcode content)) memory
fits opcode content memory even few room =
    cond-false (misfit content) _ _ (or_from (not (eqb (length content % 2) 0)) (ltb 510 (length content)) (not_from_true _ (eq-eqb _ _ even)) (le-ltb _ _ (omega arith)))
    ∙ cond-false (ltb (length memory) (length (framed (body_of opcode content)))) _ _
    (le-ltb _ _ (omega (arith, stuff_length (body_of opcode content), body_length opcode content)))

pub suffices : (held content memory after : Bytes) (r : Result ℕ Refusal) → content ≡ held → length content % 2 ≡ 0 → length content ≤ 264 → r ≡ (laying 0 content memory).result → after ≡ (laying 0 content memory).memory → 538 ≤ length memory
    → (r ≡ Ok (length (framed (body_of 0 held)))) × (after ≡ laid (framed (body_of 0 held)) memory)
suffices held content memory after r same even few told left room =
    let all = fits 0 content memory even few room in (
      told ∙ (ap (λ x. x.result) all ∙ ap (λ x. Ok (length (framed (body_of 0 x)))) same),
      left ∙ (ap (λ x. x.memory) all ∙ ap (λ x. laid (framed (body_of 0 x)) memory) same),
    )

in_place : (v rest : Bytes) → length v ≤ 4 → take 8 ((0 ∷ 0 ∷ 0 ∷ 0 ∷ []) ++ ((v ++ drop (length v) (0 ∷ 0 ∷ 0 ∷ 0 ∷ [])) ++ rest)) ≡ accepted_data (value_back v)
unfolding four
in_place [] rest h = refl
in_place (a ∷ []) rest h = refl
in_place (a ∷ b ∷ []) rest h = refl
in_place (a ∷ b ∷ c ∷ []) rest h = refl
in_place (a ∷ b ∷ c ∷ d ∷ []) rest h = refl
in_place (a ∷ b ∷ c ∷ d ∷ e ∷ v) rest h = absurd (omega arith)

-- the value that was read stands behind the code, filled with 00
pub value_in_place : (fault : Option Fault) (v now rest : Bytes) (n : ℕ) → (fault ≡ None → length v ≤ 4) → Ok n ≡ answer fault (length v)
    → now ≡ leaves fault (v ++ drop (length v) (0 ∷ 0 ∷ 0 ∷ 0 ∷ [])) (0 ∷ 0 ∷ 0 ∷ 0 ∷ [])
    → ◌≡◌ {A = Result Bytes Fault} (Ok (take 8 ((0 ∷ 0 ∷ 0 ∷ 0 ∷ []) ++ (now ++ rest)))) (answer fault (accepted_data (value_back v)))
value_in_place None v now rest n few taken e = ap (λ x. Ok (take 8 ((0 ∷ 0 ∷ 0 ∷ 0 ∷ []) ++ (x ++ rest)))) e ∙ ap Ok (in_place v rest (few refl))
value_in_place (Some f) v now rest n few taken e = cc
