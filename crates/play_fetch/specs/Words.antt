-- The words of other crates of which the specs and the contracts speak, each brought in once.
pub use Rattle.book_calls.specs.Ops.{InRange}
pub use Rattle.book_calls.specs.declared.entry.Entry.{Entry}
pub use Rattle.fetch_definitions.specs.Fetch.{fetch}
pub use Rattle.fetch_machine.specs.Machine.{Does, Leads, rest}
pub use Rattle.fetch_definitions.specs.Then.{Context, context_of}
pub use Rattle.fetch_machine.specs.declared.place.Fetching.{Fetching}
pub use Rattle.fetch_machine.specs.declared.place.Step.{Step}
pub use Rattle.fetch_acts.specs.Process.{Process, act, fits}
pub use Rattle.fetch_acts.specs.Within.{asks, price_of}
pub use Rattle.fetch_acts.specs.declared.act.Act.{Act}
pub use Rattle.fetch_acts.specs.declared.act.Act.TheVariants.{Ask, Send}
pub use Rattle.fetch_acts.specs.declared.act.Input.{Input}
pub use Rattle.fetch_laws.specs.Laws.{most_asks}
pub use Rattle.link_traits.specs.Sources.{IsAtEnd}
pub use Rattle.fetch_wire.specs.Exchanges.{Answering}
pub use Rattle.fetch_wire.specs.Wires.{over_link}
pub use Rattle.script_events.specs.declared.events.Event.{Event}
pub use Rattle.script_runs.specs.Play.{events_of}
pub use Rattle.script_runs.specs.Runs.{Progress, after_events, at_time}
pub use Rattle.value_bytes.specs.declared.memory.OutOfMemory.{OutOfMemory}
pub use Rattle.value_requests.specs.Requests.{IsClient, IsRequest}
pub use Rattle.value_requests.specs.Targets.{IsSendable}
