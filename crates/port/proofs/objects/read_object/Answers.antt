use Rattle.port.proofs.ObjectCalls.{never_refused}
use Rattle.port.proofs.objects.read_object.Goals as goal

pub returns-in_err-value : goal.returns-in_err-value
returns-in_err-value g c =
    never_refused (g.D.Dictionary.meaning c.args.dict.now) (g.D.Dictionary.sound c.args.dict.now) c.args.at c.in_ok-readable_number.ensures c.value.result _ c.value.ensures c.in_err-value.was _
