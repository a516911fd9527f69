use Rattle.std.proofs.Common.{◌≡◌, ◌++◌, drop}
use Rattle.link_tcp.proofs.routes.copy_of.Given as goal

abbrev pub invariant-loop-route : goal.invariant-loop-route
invariant-loop-route l = l.copy ++ drop l.route-index l.route-items ≡ l.routes
