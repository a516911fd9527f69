-- The terms of other crates of which these definitions speak, each brought in once; `Words` is about the command line.
pub use Rattle.book_calls.specs.declared.entry.Entry.{Entry}
pub use Rattle.fetch_wire.specs.Exchanges.{Answering}
pub use Rattle.link_traits.specs.Links.{LinkTold}
pub use Rattle.link_traits.specs.Sinks.{FailedOnce, SinkTold}
pub use Rattle.link_traits.specs.Sources.{SourceTold}
pub use Rattle.play_definitions.specs.Plays.{IsPlay, by_rules, ways_to_servers}
pub use Rattle.play_isolation.specs.Isolated.{AllAreAlone, IsIsolated}
pub use Rattle.play_seats.specs.Links.{way_of}
pub use Rattle.play_seats.specs.Makers.{HasTakenBack}
pub use Rattle.play_text.specs.Summary.{summary_text}
pub use Rattle.play_text.specs.Text.{play_text}
pub use Rattle.play_links.specs.Links.{IsPlayOverLinks, WasRefused}
pub use Rattle.program_shell.specs.Complaints.{HasComplained, IsAnswer}
pub use Rattle.program_shell.specs.Inputs.{Reads, Refuses}
pub use Rattle.program_shell.specs.Program.{AnswersInput, AnswersText, IsDone, IsExcused, IsPlayed, IsWritten}
pub use Rattle.program_shell.specs.declared.status.Status.{Status}
pub use Rattle.script_events.specs.declared.events.Transcript.{Transcript}
pub use Rattle.script_generated.specs.Generated.{generated}
pub use Rattle.script_reading.specs.Scenarios.{scenario_of}
pub use Rattle.script_reading.specs.declared.place.Place.{Place}
pub use Rattle.script_runs.specs.Documents.{EachDocument}
pub use Rattle.script_scenarios.specs.declared.scenario.Scenario.{Scenario}
pub use Rattle.value_text.specs.Texts.{Text}
