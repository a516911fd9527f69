use Rattle.std.proofs.Common.{◌≡◌, drop}
use Rattle.policy_checks.specs.RequestOrigins.{tainted_from}
use Rattle.policy_checks.proofs.request_origin.tainted_from.Given as goal

abbrev pub invariant-loop-next : goal.invariant-loop-next
invariant-loop-next l =
    tainted_from l.origin l.url l.urls ≡ tainted_from l.origin l.earlier (drop l.next-index l.urls)
