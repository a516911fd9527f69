-- The words of other crates of which these definitions speak, each brought in once.
pub use Rattle.c_fetch.specs.Asked.{destination_of}
pub use Rattle.c_fetch.specs.Beginning.{request_for}
pub use Rattle.c_fetch.specs.Setups.{Setup}
pub use Rattle.c_fetch.specs.declared.asked.Asked.{Asked}
pub use Rattle.c_rules.specs.Answers.{and_then}
pub use Rattle.c_rules.specs.Reading.{web_url_in}
pub use Rattle.c_rules.specs.declared.refusal.Refusal.{Refusal}
pub use Rattle.c_rules.specs.declared.refusal.Refusal.TheVariants.{NoRequest, NotHttp}
pub use Rattle.fetch_answers.specs.Endings.{response_of}
pub use Rattle.fetch_answers.specs.Following.{moved_to}
pub use Rattle.fetch_rules.specs.Referrers.{with_referrer}
pub use Rattle.fetch_rules.specs.Switch.{switch_of, with_tainting}
pub use Rattle.fetch_rules.specs.declared.switch.Switch.{Switch}
pub use Rattle.fetch_rules.specs.declared.switch.Switch.TheVariants.{Preflights}
pub use Rattle.link_http1.specs.Requests.{request_bytes}
pub use Rattle.policy_checks.specs.RequestOrigins.{serialized_request_origin}
pub use Rattle.policy_csp.specs.Violations.{request_violations, response_violations}
pub use Rattle.policy_csp_text.specs.declared.policy.Policy.{Policy}
pub use Rattle.policy_checks.specs.Mixed.{is_blocked, is_upgraded}
pub use Rattle.policy_preflight.specs.Preflight.{preflight_of}
pub use Rattle.policy_preflight.specs.Verdict.{verdict}
pub use Rattle.policy_preflight.specs.declared.answer.Checked.{Checked}
pub use Rattle.policy_preflight.specs.declared.answer.Checked.TheVariants.{Refused}
pub use Rattle.policy_safelist.specs.UnsafeNames.{unsafe_names}
pub use Rattle.url.specs.Parts.{Parts}
pub use Rattle.value_headers.specs.declared.headers.Header.{Header}
pub use Rattle.value_requests.specs.Requests.{current_url, is_http_url, most_redirects}
pub use Rattle.value_requests.specs.declared.client.Client.{Client}
pub use Rattle.value_requests.specs.declared.error.NetError.TheVariants.{PreflightHeader}
pub use Rattle.value_requests.specs.declared.fault.TypeFault.{TypeFault}
pub use Rattle.value_requests.specs.declared.hop.Head.{Head}
pub use Rattle.value_requests.specs.declared.hop.Hop.{Hop}
pub use Rattle.value_requests.specs.declared.mode.Tainting.{Tainting}
pub use Rattle.value_requests.specs.declared.policy.Violation.{Violation}
pub use Rattle.value_requests.specs.declared.request.Request.{Request}
pub use Rattle.value_requests.specs.declared.response.Response.{Response}
pub use Rattle.value_text.specs.Texts.{Text}
