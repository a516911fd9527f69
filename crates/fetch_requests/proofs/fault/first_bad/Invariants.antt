use Rattle.std.proofs.Common.{◌≡◌, drop}
use Rattle.fetch_requests.specs.Making.{first_bad}
use Rattle.fetch_requests.proofs.fault.first_bad.Given as goal

abbrev pub invariant-loop-index : goal.invariant-loop-index
invariant-loop-index l = first_bad 0 l.pairs ≡ first_bad l.index (drop l.index l.pairs)
