use Rattle.value_json.specs.Trees.{data_of}
use Rattle.script_reading.proofs.ValidLemmas.{scenario_as-IsValid}
use Rattle.script_reading.proofs.read.scenario_of.Goals as goal

pub returns-in-Ok-clause-valid : goal.returns-in-Ok-clause-valid
returns-in-Ok-clause-valid c =
    scenario_as-IsValid c.format_of.result (data_of c.args.tree.now) c.in-Ok.scenario c.in-Ok.ensures
