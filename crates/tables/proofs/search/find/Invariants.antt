use Rattle.std.proofs.Common.{◌*◌, ◌^◌, ◌≤◌}
use Rattle.tables.proofs.Searching.{Passed}
use Rattle.tables.proofs.search.find.Given as goal

abbrev pub invariant-loop-position : goal.invariant-loop-position
invariant-loop-position g l =
    (l.place ≤ l.position * 2 ^ 32) × Passed g.R.Addressed.key l.pool l.at l.front l.position l.place l.absent
