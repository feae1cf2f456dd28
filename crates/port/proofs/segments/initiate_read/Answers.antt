use Rattle.port.proofs.SegmentInitiates.{all_sent}
use Rattle.port.proofs.segments.initiate_read.Goals as goal

pub returns-then-len-le-LONGEST_PART : goal.returns-then-len-le-LONGEST_PART
returns-then-len-le-LONGEST_PART g c = λ k.
    all_sent (g.D.Dictionary.meaning c.args.dict.now) k c.args.staging.now c.stage.new.staging c.args.at c.stage.ensures.staging c.in_ok-len.len c.in_ok-len.ensures.answer _
    c.first_segment-answer.ensures c.if-len-le-LONGEST_PART.true
