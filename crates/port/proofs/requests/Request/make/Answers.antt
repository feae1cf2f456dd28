use Rattle.port.proofs.Granting.{granted, silence_request}
use Rattle.port.proofs.requests.Request.make.Goals as goal

pub returns-in-Byte : goal.returns-in-Byte
returns-in-Byte g c =
    let i = c.in-Byte in
    let e = c.byte.ensures in
    granted c.args.port.now c.byte.new.self (g.D.Dictionary.meaning c.args.dict.now) (g.D.Dictionary.meaning c.byte.new.dict) c.args.frame.now c.args.staging.now c.args.answer.now
    c.min-f.result c.min-m.result c.min-a.result _ _ _ c.min-f.ensures c.min-m.ensures c.min-a.ensures c.byte.new.frame c.byte.new.staging c.byte.new.answer i.byte c.byte.result
    e.lawful e.steps c.byte.auto.frame c.byte.auto.staging c.byte.auto.answer c.args.self i.is e.node

pub returns-in-Silence : goal.returns-in-Silence
returns-in-Silence g c =
    silence_request c.args.port.now c.silence.new.self c.args.frame.now c.args.staging.now c.args.answer.now c.args.self c.in-Silence.is c.silence.ensures.node c.silence.ensures.lawful
    (g.D.Dictionary.meaning c.args.dict.now)
