-- The words of other crates of which these definitions speak, each brought in once.
pub use Rattle.std.specs.List.{All, AllByRecursion, range_with_len}
pub use Rattle.book_calls.specs.Accounts.{Account}
pub use Rattle.book_calls.specs.Book.{after, empty}
pub use Rattle.book_calls.specs.Entries.{HasTurnsFrom, Legal, entries_of}
pub use Rattle.book_calls.specs.declared.book.Book.{Book}
pub use Rattle.book_calls.specs.declared.entry.Entry.{Entry}
pub use Rattle.book_calls.specs.declared.op.Op.{Op}
pub use Rattle.book_calls.specs.declared.op.Op.TheVariants.{Note}
pub use Rattle.fetch_definitions.specs.Fetch.{fetch}
pub use Rattle.fetch_acts.specs.Process.{Process, ended}
pub use Rattle.fetch_acts.specs.Traces.{Driven, Trace, with_events}
pub use Rattle.fetch_acts.specs.declared.act.Act.{Act}
pub use Rattle.fetch_acts.specs.declared.act.Act.TheVariants.{Ask, Send, Tell}
pub use Rattle.fetch_acts.specs.declared.act.Input.{Input}
pub use Rattle.fetch_laws.specs.Laws.{most_asks}
pub use Rattle.link_traits.specs.Links.{LinkTold, Received}
pub use Rattle.link_traits.specs.Sources.{IsAtEnd}
pub use Rattle.fetch_wire.specs.Exchanges.{Answering, Exchange, Exchanges, IsIdle}
pub use Rattle.fetch_wire.specs.Wires.{exchange_of, over_link}
pub use Rattle.fetch_wire.specs.declared.wire.Wire.{Wire}
pub use Rattle.script_events.specs.declared.events.Ending.{Ending}
pub use Rattle.script_events.specs.declared.events.Ending.TheVariants.{Memory}
pub use Rattle.script_events.specs.declared.events.Event.{Event}
pub use Rattle.script_events.specs.declared.events.Transcript.{Transcript}
pub use Rattle.script_runs.specs.Documents.{EachDocument}
pub use Rattle.script_runs.specs.Play.{Play, events_of, over, run_play}
pub use Rattle.script_runs.specs.Runs.{Progress, Setting, after_events, at_time, document_client, document_run}
pub use Rattle.script_runs.specs.Runs.{most_fetches, setting}
pub use Rattle.script_runs.specs.Traces.{PlayTrace}
pub use Rattle.script_scenarios.specs.Servers.{answer}
pub use Rattle.script_scenarios.specs.Valid.{IsValid}
pub use Rattle.script_scenarios.specs.declared.document.Document.{Document}
pub use Rattle.script_scenarios.specs.declared.hosts.KnownHost.{KnownHost}
pub use Rattle.script_scenarios.specs.declared.scenario.Scenario.{Scenario}
pub use Rattle.script_scenarios.specs.declared.servers.Server.{Server}
pub use Rattle.value_bytes.specs.declared.memory.OutOfMemory.{OutOfMemory}
pub use Rattle.value_requests.specs.Requests.{IsClient, IsRequest}
pub use Rattle.value_requests.specs.Targets.{IsSendable}
pub use Rattle.value_requests.specs.declared.response.Outcome.{Outcome}
