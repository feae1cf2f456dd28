-- The parts of a line, one after another. Assumes nothing.
use Rattle.std.proofs.Common.{◌≡◌, ℕ, ◌-◌, ◌≤◌, ltb, List, [], ◌∷◌, ◌++◌, length, get_or, take, drop, Some, codes, Option, sym, ap, ◌∙◌, arith}
use Rattle.std.specs.Fmt.{◌++?◌}
use Rattle.std.proofs.lemmas.Bool.{cond-false, le-ltb}
use Rattle.recording.specs.Spelling.{spelled_byte, spelled_bytes}
use Rattle.sniffer.specs.Reporting.{parts_line, body_line_lem}

-- what the parts of a body's line print
abbrev printed : List ℕ → Option (List ℕ) → Option (List ℕ) → List ℕ → Option (List ℕ)
printed name opcode words content =
    Some name ++? Some (codes " opcode=") ++? opcode ++? Some (codes " len=") ++? words ++? Some (codes " data=" ++ (spelled_bytes content ++ 0x0A ∷ []))

pub body_printed : (name body : List ℕ) (opcode words : Option (List ℕ)) → 4 ≤ length body → opcode ≡ Some (spelled_byte (get_or body 0 0))
    → words ≡ Some (spelled_byte (get_or body 1 0)) → printed name opcode words (take (length body - 2 - 2) (drop 2 body)) ≡ Some (body_line_lem name body)
body_printed name body opcode words long e f =
    let content = take (length body - 4) (drop 2 body) in
    let less : length body - 2 - 2 ≡ length body - 4 = omega arith in
    let parts = parts_line name (get_or body 0 0) (get_or body 1 0) content in
    ap (λ o. printed name o words (take (length body - 2 - 2) (drop 2 body))) e
    ∙ ap (λ o. printed name (Some (spelled_byte (get_or body 0 0))) o (take (length body - 2 - 2) (drop 2 body))) f
    ∙ ap (λ n. printed name (Some (spelled_byte (get_or body 0 0))) (Some (spelled_byte (get_or body 1 0))) (take n (drop 2 body))) less
    ∙ ap Some (sym (cond-false (ltb (length body) 4) [] parts (le-ltb (length body) 4 long)))
