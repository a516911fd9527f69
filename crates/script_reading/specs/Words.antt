-- The words of other crates of which these definitions speak, each brought in once.
pub use Rattle.std.specs.List.{flat_map, range_with_len}
pub use Rattle.std.specs.Str.{str_eq_ignore_ascii_case}
pub use Rattle.link_traits.specs.declared.routes.Route.{Route}
pub use Rattle.policy_csp_text.specs.Policies.{policies_of}
pub use Rattle.policy_csp_text.specs.declared.policy.Policy.{Policy}
pub use Rattle.script_scenarios.specs.Scripts.{Steps, fetch, no_steps, repeat, step, wait}
pub use Rattle.value_requests.specs.HostNames.{is_host_name}
pub use Rattle.script_scenarios.specs.Texts.{is_cookie_value}
pub use Rattle.script_scenarios.specs.declared.document.Document.{Document}
pub use Rattle.script_scenarios.specs.declared.hosts.KnownHost.{KnownHost}
pub use Rattle.script_scenarios.specs.declared.scenario.Scenario.{Scenario}
pub use Rattle.script_scenarios.specs.declared.servers.Rule.{Rule}
pub use Rattle.script_scenarios.specs.declared.servers.Server.{Server}
pub use Rattle.script_steps.specs.Scripts.{document_script_of}
pub use Rattle.serde_json.specs.Data.{Data}
pub use Rattle.serde_json.specs.Read.{read}
pub use Rattle.url.specs.Parts.{Parts}
pub use Rattle.url.specs.declared.host.Host.TheVariants.{Domain}
pub use Rattle.value_headers.specs.Headers.{all_appended}
pub use Rattle.value_headers.specs.declared.headers.Header.{Header}
pub use Rattle.value_json.specs.Reading.{Read, any, given, has_key, items_of, list_of, number_of, only_keys, optional}
pub use Rattle.value_json.specs.Reading.{pair_of, required, some_of, text_that, truth_of, ◌>>=◌}
pub use Rattle.value_requests.specs.OriginTexts.{is_origin_text}
pub use Rattle.value_requests.specs.ReferrerPolicies.{policy_of_header}
pub use Rattle.value_requests.specs.Urls.{utf8_text}
pub use Rattle.value_requests.specs.declared.client.Cookie.{Cookie}
pub use Rattle.value_requests.specs.declared.init.Init.{Init}
pub use Rattle.value_requests.specs.declared.init.Pair.{Pair}
pub use Rattle.value_requests.specs.declared.mode.ReferrerPolicy.{ReferrerPolicy}
pub use Rattle.value_text.specs.Texts.{Text}
pub use Rattle.value_text.specs.Tokens.{is_token}
pub use Rattle.value_text.specs.Values.{is_header_value}
