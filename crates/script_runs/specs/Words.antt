-- The words of other crates of which these definitions speak, each brought in once.
pub use Rattle.book_calls.specs.declared.op.Reply.{Reply}
pub use Rattle.book_calls.specs.declared.op.Reply.TheVariants.{Done}
pub use Rattle.fetch_acts.specs.Process.{Process, act, ended, fits}
pub use Rattle.fetch_acts.specs.declared.act.Act.{Act}
pub use Rattle.fetch_acts.specs.declared.act.Act.TheVariants.{Ask, ReadBody, ReadHead, Send, Tell}
pub use Rattle.fetch_acts.specs.declared.act.Input.{Input}
pub use Rattle.fetch_acts.specs.declared.act.Input.TheVariants.{Replied}
pub use Rattle.fetch_definitions.specs.Fetch.{fetch}
pub use Rattle.fetch_definitions.specs.Then.{Context, context_of}
pub use Rattle.fetch_requests.specs.Loading.{new_load}
pub use Rattle.fetch_requests.specs.Making.{new_request}
pub use Rattle.policy_csp_text.specs.declared.policy.Policy.{Policy}
pub use Rattle.script_scenarios.specs.Scripts.{Step, Steps}
pub use Rattle.script_scenarios.specs.declared.command.Test.{Test}
pub use Rattle.script_lines.specs.Lengths.{event_length}
pub use Rattle.script_events.specs.declared.events.Ending.{Ending}
pub use Rattle.script_events.specs.declared.events.Ending.TheVariants.{Commands, Fetches, Finished, Text}
pub use Rattle.script_events.specs.declared.events.Event.{Event}
pub use Rattle.script_events.specs.declared.events.Event.TheVariants.{Call, Sent, Told}
pub use Rattle.script_filling.specs.Filled.{filled_init, filled_load}
pub use Rattle.script_filling.specs.Results.{holds, last_result}
pub use Rattle.script_scenarios.specs.declared.document.Document.{Document}
pub use Rattle.value_requests.specs.Clients.{client_of}
pub use Rattle.value_requests.specs.declared.client.Client.{Client}
pub use Rattle.value_requests.specs.declared.client.Cookie.{Cookie}
pub use Rattle.value_requests.specs.declared.fault.TypeFault.{TypeFault}
pub use Rattle.value_requests.specs.declared.policy.Destination.{Destination}
pub use Rattle.value_requests.specs.declared.request.Request.{Request}
pub use Rattle.value_requests.specs.declared.response.Outcome.{Outcome}
pub use Rattle.value_text.specs.Trims.{http_whitespace, trimmed}
