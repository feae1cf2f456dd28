-- A line that is neither empty nor S alone is spelled in digit pairs.
use Rattle.std.proofs.Common.{◌≡◌, ◌<◌, ◌≤◌, length, get_or, sym, ◌∙◌, rules}
use Rattle.recording.proofs.Couples.{other_line}
use Rattle.recording.proofs.reading.read_line.Goals as goal

pub returns-in_default-clause-told : goal.returns-in_default-clause-told
returns-in_default-clause-told c =
    let line = c.args.line.now in
    let some : 1 ≤ length line = search rules in
    let no_s : length line < 2 → get_or line 0 0 ≡ 0x53 → ⊥ = search rules in
    c.read_pairs.ensures ∙ sym (other_line line some no_s)
