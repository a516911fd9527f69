-- The words of other crates of which these definitions speak, each brought in once.
pub use Rattle.std.specs.Borrow.{Bor}
pub use Rattle.std.specs.List.{filter_map, flat_map}
pub use Rattle.std.specs.Option.{option_map_or}
pub use Rattle.fetch_definitions.specs.Fetch.{fetch}
pub use Rattle.json.specs.Print.{quoted}
pub use Rattle.policy_csp_text.specs.declared.policy.Directive.{Directive}
pub use Rattle.policy_csp_text.specs.declared.policy.Policy.{Policy}
pub use Rattle.script_events.specs.declared.events.Ending.{Ending}
pub use Rattle.script_events.specs.declared.events.Event.{Event}
pub use Rattle.script_events.specs.declared.events.Event.TheVariants.{Result, Told}
pub use Rattle.script_runs.specs.Play.{Play}
pub use Rattle.script_runs.specs.Runs.{Next, Setting, at_time, beginning, document_client, embed, fetch_limit}
pub use Rattle.script_runs.specs.Runs.{fetch_started, finished, setting, showing, unless_limit}
pub use Rattle.script_scenarios.specs.declared.document.Document.{Document}
pub use Rattle.url.specs.Parts.{Parts, has_credentials}
pub use Rattle.value_headers.specs.declared.headers.Header.{Header}
pub use Rattle.value_origins.specs.Origins.{is_http, tuple_origin}
pub use Rattle.value_requests.specs.Lines.{header}
pub use Rattle.value_requests.specs.Names.{directive_name}
pub use Rattle.value_requests.specs.Urls.{is_short_url, url_against, utf8_text, without_fragment}
pub use Rattle.value_requests.specs.declared.client.Cookie.{Cookie}
pub use Rattle.value_requests.specs.declared.mode.RedirectMode.TheVariants.{Follow}
pub use Rattle.value_requests.specs.declared.mode.ReferrerPolicy.TheVariants.{Empty}
pub use Rattle.value_requests.specs.declared.mode.Tainting.TheVariants.{Basic}
pub use Rattle.value_requests.specs.declared.policy.Violation.{Violation}
pub use Rattle.value_requests.specs.declared.request.Referrer.TheVariants.{Client}
pub use Rattle.value_requests.specs.declared.request.Request.{Request}
pub use Rattle.value_text.specs.Texts.{Text}
pub use Rattle.value_text.specs.Words.{words}
