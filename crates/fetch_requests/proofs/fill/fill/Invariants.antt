use Rattle.std.proofs.Common.{◌≡◌, drop}
use Rattle.fetch_requests.specs.Making.{filled}
use Rattle.fetch_requests.proofs.fill.fill.Given as goal

abbrev pub invariant-loop-pair : goal.invariant-loop-pair
invariant-loop-pair l = filled l.guard l.pairs l.fn.headers ≡ filled l.guard (drop l.pair-index l.pairs) l.headers
