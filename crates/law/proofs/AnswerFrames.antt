-- The bytes of an answer tell its data, and only a damaged body is answered by the code of one.
use Rattle.std.proofs.Common.{◌≡◌, ℕ, false, cond, eqb, List, [], ◌∷◌, drop, Some, None, Option, sym, refl, ap, ◌∙◌, inl, inr, arith}
use Rattle.std.proofs.lemmas.Bool.{cases_Bool, cond-true, cond-false, eqb-true}
use Rattle.wire.specs.Checking.{frame_in}
use Rattle.wire.specs.Frames.{Frame}
use Rattle.wire.specs.Framing.{body_of}
use Rattle.wire.specs.Line.{stuff, framed}
use Rattle.wire.proofs.Frames.{frame_back}
use Rattle.dictionary.specs.Objects.{Bytes, Objects}
use Rattle.command.specs.Answers.{four, refused_data, accepted_data}
use Rattle.command.specs.Checks.{Check, OpCode, Len, Node, NoChain, Toggle, NAgainstLen, SumOver, LastShort, Index, Subindex, ReadOfWo, WriteOfRo, OnRun, OverLength, UnderLength, OverHigh, UnderLow}
use Rattle.command.specs.Checks.{OpenChain, fault_of, fault}
use Rattle.command.specs.Commands.{by_fault, answer, brings_back, carry}
use Rattle.command.specs.Frames.{verb}
use Rattle.law.specs.Calls.{answer_frame, code_in, damaged_code}

-- every pair of 0x90 read as one
abbrev unstuff : List ℕ → List ℕ
unstuff [] = []
unstuff (b ∷ []) = b ∷ []
unstuff (b ∷ c ∷ bytes) = cond (eqb b 0x90) (0x90 ∷ unstuff bytes) (b ∷ unstuff (c ∷ bytes))

unstuff_other : (x : ℕ) (bytes : List ℕ) → eqb x 0x90 ≡ false → unstuff (x ∷ bytes) ≡ x ∷ unstuff bytes
unstuff_other x [] e = refl
unstuff_other x (y ∷ bytes) e = cond-false (eqb x 0x90) _ _ e

unstuffed : (xs : List ℕ) → unstuff (stuff xs) ≡ xs
unstuffed [] = refl
unstuffed (x ∷ xs) =
    elim (cases_Bool (eqb x 0x90)) [
      | inl e ↦
          ap unstuff (cond-true (eqb x 0x90) (0x90 ∷ 0x90 ∷ stuff xs) (x ∷ stuff xs) e)
          ∙ ap (λ l. 0x90 ∷ l) (unstuffed xs) ∙ ap (λ c. c ∷ xs) (sym (eqb-true x 0x90 e))
      | inr e ↦
          ap unstuff (cond-false (eqb x 0x90) (0x90 ∷ 0x90 ∷ stuff xs) (x ∷ stuff xs) e)
          ∙ unstuff_other x (stuff xs) e ∙ ap (λ l. x ∷ l) (unstuffed xs)
    ]

framed_is : (x y : Bytes) → framed x ≡ framed y → x ≡ y
framed_is x y e = sym (unstuffed x) ∙ ap (λ l. unstuff (drop 2 l)) e ∙ unstuffed y

content_is : (x : Bytes) → (frame_in (body_of 0 x)).content ≡ x
content_is x = ap (λ (f : Frame). f.content) (frame_back (record { opcode = 0; content = x }))

-- an answer's bytes tell its data
pub answer_is : (x y : Bytes) → answer_frame x ≡ answer_frame y → x ≡ y
answer_is x y e = sym (content_is x) ∙ ap (λ l. (frame_in l).content) (framed_is (body_of 0 x) (body_of 0 y) e) ∙ content_is y

-- no check has the code of a damaged body, nor has an accepted command

other_code : (k : Check) → code_in (refused_data (fault_of k)) ≡ damaged_code → ⊥
unfolding four
other_code OpCode e = omega (arith, e)
other_code Len e = omega (arith, e)
other_code Node e = omega (arith, e)
other_code NoChain e = omega (arith, e)
other_code Toggle e = omega (arith, e)
other_code NAgainstLen e = omega (arith, e)
other_code SumOver e = omega (arith, e)
other_code LastShort e = omega (arith, e)
other_code Index e = omega (arith, e)
other_code Subindex e = omega (arith, e)
other_code ReadOfWo e = omega (arith, e)
other_code WriteOfRo e = omega (arith, e)
other_code OnRun e = omega (arith, e)
other_code OverLength e = omega (arith, e)
other_code UnderLength e = omega (arith, e)
other_code OverHigh e = omega (arith, e)
other_code UnderLow e = omega (arith, e)

other_by : (x : Option Check) (w : Bytes) → code_in (by_fault x (λ k. refused_data (fault_of k)) (accepted_data w)) ≡ damaged_code → ⊥
unfolding four
other_by (Some k) w e = other_code k e
other_by None w e = omega (arith, e)

pub carried_code : (node : ℕ) (d : Objects) (c : OpenChain) (f : Frame) → code_in (carry node d c f).data_back ≡ damaged_code → ⊥
unfolding answer carry
carried_code node d c f e = other_by (fault node d c f) (brings_back (verb f) d c f) e
