-- The worked examples hold: the definitions compute them.
use Rattle.std.proofs.Common.{◌≡◌, ℕ, zero, suc, Bool, true, false, ◌&&◌, List, [], ◌∷◌, ◌++◌, take, Some, None, Option, sym, refl, ap, ◌∙◌, arith}
use Rattle.std.proofs.lemmas.Bool.{and_parts}
use Rattle.wire.specs.declared.receiving.Phase.TheVariants.{Hunting, PastMark}
use Rattle.wire.specs.Checksum.{takes, register, words, checksum_of}
use Rattle.wire.specs.Line.{Marked, Completes}
use Rattle.wire.specs.Receiving.{Step, moves, step}
use Rattle.wire.specs.Worked.{request, write_request, three_lines, Worked}
use Rattle.wire.proofs.Hearing.{steps_append, heard, reported, marked}
use Rattle.wire.proofs.Steps.{steps, after}

abbrev none : Option (List ℕ) → Bool
none (Some body) = false
none None = true

none_is : (o : Option (List ℕ)) → none o ≡ true → o ≡ None
none_is (Some body) e = cc
none_is None e = refl

-- neither this step nor one that the bytes bring completes a body
abbrev quiet : Step → List ℕ → Bool
quiet s [] = none s.body
quiet s (b ∷ bytes) = none s.body && quiet (step s.phase s.gathered b) bytes

quiet_front : (s : Step) (bytes : List ℕ) (k : ℕ) → quiet s bytes ≡ true → (steps s (take k bytes)).body ≡ None
quiet_front s [] zero e = none_is s.body e
quiet_front s [] (suc k) e = none_is s.body e
quiet_front s (b ∷ bytes) zero e = none_is s.body (and_parts (none s.body) (quiet (step s.phase s.gathered b) bytes) e).0
quiet_front s (b ∷ bytes) (suc k) e =
    quiet_front (step s.phase s.gathered b) bytes k (and_parts (none s.body) (quiet (step s.phase s.gathered b) bytes) e).1

unheard : (k : ℕ) (body : List ℕ) → Completes (three_lines ++ take k request) body → ⊥
unheard k body h =
    let f : None ≡ Some body
    = sym (quiet_front (after three_lines) request k refl) ∙ ap (λ s. s.body) (sym (steps_append (moves Hunting []) three_lines (take k request)))
    ∙ ap (λ s. s.body) (reported (three_lines ++ take k request) body h) in
    cc

no_mark : Marked (0x90 ∷ 0x90 ∷ 0x02 ∷ []) → ⊥
no_mark m =
    let f : Hunting ≡ PastMark = ap (λ s. s.phase) (marked (0x90 ∷ 0x90 ∷ 0x02 ∷ []) m) in
    cc

pub worked : Worked
unfolding takes register words checksum_of
worked =
    record {
      sum_one = refl;
      sum_two = refl;
      mark = record {
        before = 0x90 ∷ 0x90 ∷ 0x90 ∷ [];
        odd = record { before = []; pairs = 1; apart = λ e. absurd (omega arith); run = refl };
        stx = refl;
      };
      no_mark = no_mark;
      first_heard = (heard request _ refl, refl);
      second_heard = (heard (request ++ write_request) _ refl, refl);
      fourth_unheard = unheard;
      fifth_heard = (heard (three_lines ++ (request ++ request)) _ refl, refl);
      guide_request = refl;
      guide_answer = refl;
    }
