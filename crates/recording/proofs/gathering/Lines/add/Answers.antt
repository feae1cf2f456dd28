-- A character is written after those that are kept, while there is room.
use Rattle.std.proofs.Common.{sym, ap, ◌∙◌}
use Rattle.recording.specs.Gathering.{adding}
use Rattle.recording.proofs.Kept.{keeps_more, keeps_all}
use Rattle.recording.proofs.gathering.Lines.add.Goals as goal

pub returns-then-self-lt-MOST_KEPT : goal.returns-then-self-lt-MOST_KEPT
returns-then-self-lt-MOST_KEPT c =
    let s = c.self.inside in
    keeps_more s.text s.count c.args.character s.begun s.number c.self.told c.if-self-lt-MOST_KEPT.true ∙ ap (adding c.args.character) c.self.view_is

pub returns-else-self-lt-MOST_KEPT : goal.returns-else-self-lt-MOST_KEPT
returns-else-self-lt-MOST_KEPT c =
    let s = c.self.inside in
    sym c.self.view_is
    ∙ keeps_all s.text s.count c.args.character s.begun s.number c.self.told c.self.invariant c.if-self-lt-MOST_KEPT.false
    ∙ ap (adding c.args.character) c.self.view_is
