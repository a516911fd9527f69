-- The scenarios whose reports are played: those of few enough documents (this project's own).
use Rattle.std.specs.Prelude.{ℕ, nat_lt, length, codes, Result, Ok, Err, if◌then◌else◌}
use Rattle.value_text.specs.Texts.{Text}
use Rattle.script_reading.specs.declared.place.Place.{Place}
use Rattle.script_reading.specs.Scenarios.{scenario_of}
use Rattle.script_scenarios.specs.declared.scenario.Scenario.{Scenario}

-- the most documents whose reports are played
abbrev pub most_documents : ℕ
most_documents = 16

-- the place of a scenario that has more
abbrev pub documents_place : Place
documents_place = record { text = codes "/documents" }

-- the scenario, unless it has more
abbrev pub unless_many : Scenario → Result Scenario Place
unless_many scenario = if nat_lt most_documents (length scenario.documents) then Err documents_place else Ok scenario

abbrev pub few_documents : Result Scenario Place → Result Scenario Place
few_documents (Ok scenario) = unless_many scenario
few_documents (Err place) = Err place

-- the scenario that the bytes are, of few enough documents, or the first place at which they are refused
abbrev pub reported_scenario : Text → Result Scenario Place
reported_scenario bytes = few_documents (scenario_of bytes)
