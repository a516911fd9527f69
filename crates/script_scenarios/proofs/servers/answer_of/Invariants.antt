use Rattle.std.proofs.Common.{◌≡◌, drop}
use Rattle.script_scenarios.specs.Servers.{answer_of}
use Rattle.script_scenarios.proofs.servers.answer_of.Given as goal

abbrev pub invariant-loop-rule : goal.invariant-loop-rule
invariant-loop-rule l = answer_of l.rules l.method l.target ≡ answer_of (drop l.rule-index l.rules) l.method l.target
