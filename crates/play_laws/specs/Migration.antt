-- A scenario of the first format as one of the second that means the same.
use Rattle.std.specs.Prelude.{◌≡◌, codes, Some, Ok}
use Rattle.serde_json.specs.Data.{number, unsigned, object, Members, put}
use Rattle.script_reading.specs.declared.format.Format.TheVariants.{First}
use Rattle.script_scenarios.specs.declared.scenario.Scenario.{Scenario}
use Rattle.script_reading.specs.Formats.{format_of}
use Rattle.script_reading.specs.Scenarios.{scenario_of_tree}

-- the members of the root, with 2 as its `format`, and with the body limit of the first format
abbrev pub migrated : Members → Members
migrated members =
    put (codes "body_limit") (number (unsigned 262144)) (put (codes "format") (number (unsigned 2)) members)

-- what the root is read as in the first format it is read as in the second one too
abbrev pub IsMigratedAlike : Members → Scenario → Type 0
IsMigratedAlike members scenario =
    format_of (object members) ≡ First → scenario_of_tree (Some (object members)) ≡ Ok scenario
    → scenario_of_tree (Some (object (migrated members))) ≡ Ok scenario
