use Rattle.std.proofs.Common.{sym, ◌∙◌}
use Rattle.layers.specs.Axes.{axis_number}
use Rattle.layers.proofs.LayerLaws.{after_below}
use Rattle.layers.proofs.shift.ShiftDictionary.write.Goals as goal

pub returns-clause-after : goal.returns-clause-after
returns-clause-after g c =
    let s = c.args.self.now in
    after_below (axis_number s.axis) (g.D.Dictionary.meaning s.below) (g.D.Dictionary.meaning c.write.new.self) c.args.at c.in_ok-at.at c.args.bytes.now (sym c.unshift.ensures ∙ c.in_ok-at.was) c.write.ensures.after
