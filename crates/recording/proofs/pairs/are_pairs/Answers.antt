-- Whole couples are each a pair of digits, and no character is left over.
use Rattle.std.proofs.Common.{◌≡◌, ◌+◌, ◌*◌, ◌/◌, length, sym, ap, ◌∙◌, rules, tests}
use Rattle.std.specs.List.{list_all}
use Rattle.std.proofs.lemmas.Iterator.{YieldsList-from_slice}
use Rattle.std.proofs.lemmas.Iterator.Search.{all_from_yields_List}
use Rattle.recording.proofs.Couples.{is_pair, all_pairs, odd_none}
use Rattle.recording.proofs.pairs.are_pairs.Goals as goal

pub returns-then-is_empty : goal.returns-then-is_empty
returns-then-is_empty c =
    let text = c.args.text.now in
    let even : length text ≡ 2 * (length text / 2) = search rules in
    all_from_yields_List is_pair _ _ _ c.all.ensures.ran (YieldsList-from_slice _ c.iter.ensures.rest) (λ x b q k. search (rules, tests))
    ∙ ap (list_all is_pair) c.as_chunks.ensures.front ∙ all_pairs (length text / 2) text even

pub returns-else-is_empty : goal.returns-else-is_empty
returns-else-is_empty c =
    let text = c.args.text.now in
    let odd : length text ≡ 2 * (length text / 2) + 1 = search rules in
    c.if-is_empty.false ∙ sym (odd_none (length text / 2) text odd)
