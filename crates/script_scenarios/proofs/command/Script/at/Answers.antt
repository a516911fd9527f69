use Rattle.std.proofs.Common.{arith, ap, sym, ◌∙◌}
use Rattle.script_scenarios.specs.Scripts.{Steps, count, step_at}
use Rattle.script_scenarios.proofs.CommandLemmas.{at-steps_of, count-steps_of}
use Rattle.script_scenarios.proofs.command.Script.at.Goals as goal

pub index-requires : goal.index-requires
index-requires c = omega (
  arith,
  c.requires,
  ap count c.self.view_is,
  count-steps_of c.self.inside.commands.items,
  c.self.inside.commands.ok.0,
)

pub returns : goal.returns
returns c =
    ap (λ (s : Steps). step_at c.args.index s) (sym c.self.view_is)
    ∙ at-steps_of c.self.inside.commands.items c.args.index c.index.result.now
    (omega (arith, c.requires, ap count c.self.view_is, count-steps_of c.self.inside.commands.items)) c.index.ensures
