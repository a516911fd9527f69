-- The words of other crates of which these definitions speak, each brought in once.
pub use Rattle.std.specs.List.{AllByRecursion}
pub use Rattle.book_calls.specs.Book.{after as book_behind, reply as reply_of_book}
pub use Rattle.book_calls.specs.Entries.{Legal, entries_of}
pub use Rattle.book_calls.specs.Ops.{InRange}
pub use Rattle.book_calls.specs.Past.{is_of_key, pasts_of}
pub use Rattle.book_calls.specs.declared.book.Book.{Book}
pub use Rattle.book_calls.specs.declared.entry.Entry.{Entry}
pub use Rattle.book_calls.specs.declared.op.Op.{Op}
pub use Rattle.book_calls.specs.declared.op.Reply.{Reply}
pub use Rattle.fetch_acts.specs.declared.act.Input.{Input}
pub use Rattle.fetch_laws.specs.Apart.{Made, replies_on, views_on, woven}
pub use Rattle.fetch_wire.specs.Exchanges.{Answering}
pub use Rattle.play_definitions.specs.Plays.{IsPlay, IsPlayOver, IsTranscript, Way, opening_book}
pub use Rattle.script_scenarios.specs.ValidScripts.{AreValid}
pub use Rattle.script_events.specs.declared.events.Transcript.{Transcript}
pub use Rattle.script_runs.specs.Documents.{EachDocument}
pub use Rattle.script_runs.specs.Play.{Play, PlayRun, run_play}
pub use Rattle.script_runs.specs.Runs.{document_client, document_run}
pub use Rattle.script_scenarios.specs.declared.document.Document.{Document}
pub use Rattle.script_scenarios.specs.declared.scenario.Scenario.{Scenario}
pub use Rattle.value_requests.specs.declared.client.Cookie.{Cookie}
pub use Rattle.value_text.specs.Texts.{Text}
