use Rattle.std.proofs.Common.{◌+◌, ◌*◌, ◌≤◌, length}
use Rattle.rows_fetches.proofs.documents.play_each.Given as goal

-- there are calls left for the rows that follow
abbrev pub invariant-loop-row : goal.invariant-loop-row
invariant-loop-row g l =
    g.S.Share.belongs l.share l.pass × (129024 * length l.rows ≤ (g.S.Share.account l.pass).left + 129024 * l.row-index)
