use Rattle.std.proofs.Common.{ap, arith}
use Rattle.script_scenarios.specs.Scripts.{count}
use Rattle.script_scenarios.proofs.CommandLemmas.{count-steps_of}
use Rattle.script_scenarios.proofs.command.Script.len.Goals as goal

pub returns : goal.returns
returns c =
    omega (
      arith,
      c.len.ensures,
      count-steps_of c.self.inside.commands.items,
      c.self.inside.commands.ok.0,
      ap count c.self.view_is,
    )
