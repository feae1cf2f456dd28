use Rattle.wire.proofs.Apart.{split_is}
use Rattle.wire.proofs.checked.split.Goals as goal

pub returns : goal.returns
returns c =
    split_is c.args.bytes.now _ _ _ _ _ c.in_ok-summed.ensures.cases c.in_ok-opcode.ensures.cases (λ i. (c.type_inv.bytes i).fits) c.if-data-words.false c.from_le_bytes.ensures
