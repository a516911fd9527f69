-- The words of other crates of which the specs and the contracts speak, each brought in once.
pub use Rattle.std.specs.List.{All, range_with_len}
pub use Rattle.fetch_wire.specs.Exchanges.{Answering}
pub use Rattle.fetch_wire.specs.Wires.{over_link}
pub use Rattle.script_events.specs.declared.events.Transcript.{Transcript}
pub use Rattle.script_runs.specs.Documents.{EachDocument}
pub use Rattle.script_scenarios.specs.Valid.{IsValid}
pub use Rattle.script_scenarios.specs.declared.document.Document.{Document}
pub use Rattle.script_scenarios.specs.declared.scenario.Scenario.{Scenario}
