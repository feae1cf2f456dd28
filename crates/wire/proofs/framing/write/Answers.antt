use Rattle.std.proofs.Common.{◌≡◌, ◌≤◌, false, length, ap, ◌∙◌, arith}
use Rattle.wire.specs.Framing.{misfit}
use Rattle.wire.proofs.Parts.{lays, reads, rewrites}
use Rattle.wire.proofs.framing.write.Goals as goal

pub returns : goal.returns
returns c =
    let op = c.args.opcode in
    let content = c.args.«data».now in
    let memory = c.args.memory.now in
    let room : misfit content ≡ false → 1030 ≤ length memory = λ fits. grind (arith, c.fits_body.ensures, c.else-fits_body.either) in
    let same = lays op content memory room in
    let result = c.lay.ensures.result ∙ ap (λ w. w.result) same in
    let left = c.lay.ensures.memory ∙ ap (λ w. w.memory) same in
    record {
      result = result;
      memory = left;
      carried = λ stretch. rewrites op content memory stretch _ _ result left;
      reads_back = λ stretch n shut. reads op content memory stretch _ _ n result left shut;
    }
