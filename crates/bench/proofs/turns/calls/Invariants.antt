use Rattle.std.proofs.Common.{◌+◌, ◌≤◌}
use Rattle.bench.proofs.turns.calls.Given as goal

abbrev pub invariant-loop-made : goal.invariant-loop-made
invariant-loop-made g l = g.S.Share.belongs l.share l.pass × (l.count ≤ (g.S.Share.account l.pass).left + l.made)
