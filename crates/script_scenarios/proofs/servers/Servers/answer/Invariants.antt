use Rattle.std.proofs.Common.{◌≡◌, drop}
use Rattle.script_scenarios.specs.Servers.{answer}
use Rattle.script_scenarios.proofs.servers.Servers.answer.Given as goal

abbrev pub invariant-loop-server : goal.invariant-loop-server
invariant-loop-server l =
    answer l.self l.origin l.method l.target ≡ answer (drop l.server-index l.self) l.origin l.method l.target
