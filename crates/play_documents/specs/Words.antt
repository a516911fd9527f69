-- The words of other crates of which the specs and the contracts speak, each brought in once.
pub use Rattle.fetch_acts.specs.declared.act.Input.{Input}
pub use Rattle.fetch_requests.specs.Loading.{new_load}
pub use Rattle.fetch_requests.specs.Making.{new_request}
pub use Rattle.fetch_wire.specs.Exchanges.{Answering, IsIdle}
pub use Rattle.fetch_wire.specs.Wires.{exchange_of, over_link}
pub use Rattle.link_traits.specs.Sources.{IsAtEnd}
pub use Rattle.play_definitions.specs.Words.{most_asks}
pub use Rattle.script_scenarios.specs.Commands.{step_of}
pub use Rattle.script_scenarios.specs.Scripts.{fetch as fetch_step, load as load_step}
pub use Rattle.script_scenarios.specs.ValidScripts.{AreValid, IsValidInit, IsValidLoad, IsValidStep}
pub use Rattle.script_events.specs.declared.events.Ending.{Ending}
pub use Rattle.script_events.specs.declared.events.Ending.TheVariants.{Finished, Memory}
pub use Rattle.script_events.specs.declared.events.Event.{Event}
pub use Rattle.script_filling.specs.Filled.{filled_init, filled_load}
pub use Rattle.script_filling.specs.Results.{lent_result}
pub use Rattle.script_runs.specs.Play.{Play}
pub use Rattle.script_runs.specs.Runs.{Next, Setting, after_events, asked, beginning, chosen, command_started}
pub use Rattle.script_runs.specs.Runs.{document_client, document_run, fetched, finished, limit_before, most_commands}
pub use Rattle.script_runs.specs.Runs.{most_fetches, repeated, script_run, started, unless_limit}
pub use Rattle.script_scenarios.specs.Valid.{IsValid, IsValidDocument}
pub use Rattle.script_scenarios.specs.declared.document.Document.{Document}
pub use Rattle.value_bytes.specs.declared.memory.OutOfMemory.{OutOfMemory}
pub use Rattle.value_requests.specs.Requests.{IsClient, IsRequest}
