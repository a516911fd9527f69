use Rattle.std.proofs.Common.{ap, ◌∙◌}
use Rattle.script_scenarios.specs.Commands.{step_of, steps_of}
use Rattle.script_scenarios.specs.Scripts.{Steps, and_step}
use Rattle.script_scenarios.proofs.CommandLemmas.{push-steps_of}
use Rattle.script_scenarios.proofs.command.Script.push.Goals as goal

pub returns-clause-ok : goal.returns-clause-ok
returns-clause-ok c =
    ap steps_of c.in_ok-push.ensures.items ∙ push-steps_of c.self.inside.commands.items c.args.command
    ∙ ap (λ (s : Steps). and_step s (step_of c.args.command)) c.self.view_is
