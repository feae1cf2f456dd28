-- Wrong ports are unlawful: the model's output is the only lawful one, and theirs differs from it.
use Rattle.std.proofs.Common.{◌≡◌, Bool, true, false, ◌&&◌, List, [], ◌∷◌, ◌++◌, length, get_or, sym, refl, ap, ◌∙◌, arith}
use Rattle.std.proofs.lemmas.Bool.{true≢false, eq-eqb}
use Rattle.wire.specs.Checking.{fits, same_bytes}
use Rattle.wire.specs.Checksum.{takes, register, words, checksum_of}
use Rattle.dictionary.specs.Objects.{Bytes}
use Rattle.command.specs.Answers.{four, answer_control}
use Rattle.command.specs.Checks.{first, fault}
use Rattle.command.specs.Commands.{answer, next_chain, write_of, carry}
use Rattle.command.specs.Frames.{verb, len, node_of, address, payload, declared, read_toggle, write_toggle, size, marked, part}
use Rattle.law.specs.Calls.{Call}
use Rattle.law.specs.Worked.{board, number_at, then_frames, output, write_number, first_answer, second_answer}
use Rattle.law.specs.Unlawful.{Unlawful, WrongPorts}
use Rattle.law.proofs.AnswerFrames.{answer_is}
use Rattle.law.proofs.Model.{run}
use Rattle.law.proofs.Worked.{outputs, leaves}

-- lists of lines compared
abbrev same_lines : List Bytes → List Bytes → Bool
same_lines [] [] = true
same_lines [] (y ∷ ys) = false
same_lines (x ∷ xs) [] = false
same_lines (x ∷ xs) (y ∷ ys) = same_bytes x y && same_lines xs ys

same_byte_list : (xs : Bytes) → same_bytes xs xs ≡ true
same_byte_list [] = refl
same_byte_list (x ∷ xs) = rw (eq-eqb x x refl) (same_byte_list xs)

same_itself : (xs : List Bytes) → same_lines xs xs ≡ true
same_itself [] = refl
same_itself (x ∷ xs) = rw (same_byte_list x) (same_itself xs)

-- another output than the model's
other : (made : List Call) (lines right : List Bytes) → output (run 1 (board []) made).events ≡ right → (right ≡ lines → ⊥) → Unlawful made lines
other made lines right e differ events d c l o = differ (sym (outputs [] made right e events d c l) ∙ o)

differs : (made : List Call) (lines right : List Bytes) → output (run 1 (board []) made).events ≡ right → same_lines right lines ≡ false → Unlawful made lines
differs made lines right e n = other made lines right e (λ q. true≢false (sym (same_itself right) ∙ ap (same_lines right) q ∙ n))

abbrev first_line : List Bytes → Bytes
first_line [] = []
first_line (x ∷ xs) = x

abbrev second_line : List Bytes → Bytes
second_line [] = []
second_line (x ∷ xs) = first_line xs

pub wrong_ports_lem : WrongPorts
unfolding takes register words checksum_of fits verb len node_of address payload declared read_toggle write_toggle size marked part first fault four answer_control answer next_chain write_of carry run
wrong_ports_lem =
    record {
      writes_nothing = λ events d c l o.
          let e : 0x90 ∷ 0x00 ∷ [] ≡ 0xE8 ∷ 0x03 ∷ [] = sym (leaves [] (then_frames [] (write_number 0x90 0 ∷ [])) number_at (0x90 ∷ 0x00 ∷ []) refl events d c l) ∙ o in
          omega (arith, ap (λ x. get_or x 0 0) e);
      always_refuses = λ code. other _ _ (first_answer ∷ []) refl
          (λ q. omega (arith, ap length (answer_is (four 0 ++ (0xE8 ∷ 0x03 ∷ 0 ∷ 0 ∷ [])) (four code) (ap first_line q))));
      one_fixed_answer = λ x. other _ _ (first_answer ∷ second_answer ∷ []) refl
          (λ q. let e : first_answer ≡ second_answer = ap first_line q ∙ sym (ap second_line q) in omega (arith, ap (λ l. get_or l 3 0) e));
      made_up_length = differs _ _ _ refl refl;
      denies_chain = differs _ _ _ refl refl;
      deaf_after_first = λ x. other _ _ (first_answer ∷ first_answer ∷ []) refl (λ q. omega (arith, ap (λ (l : List Bytes). length l) q));
      keeps_older_chain = differs _ _ _ refl refl;
      joins_repeated = differs _ _ _ refl refl;
      refused_segment_kept = differs _ _ _ refl refl;
      silence_closes = differs _ _ _ refl refl;
    }
