use Rattle.std.proofs.Common.{rules, subst}
use Rattle.script_generated.proofs.GeneratedLemmas.{generated-valid}
use Rattle.script_scenarios.specs.declared.scenario.Scenario.{Scenario}
use Rattle.script_scenarios.specs.Valid.{IsValid}
use Rattle.script_generated.proofs.generated.generate.Goals as goal

pub returns-clause-valid : goal.returns-clause-valid
returns-clause-valid c =
    subst (λ (s : Scenario). IsValid s) (search rules) (generated-valid c.args.n c.requires.few)
