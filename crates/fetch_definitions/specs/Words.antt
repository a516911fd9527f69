-- The words of other crates of which these definitions speak, each brought in once.
pub use Rattle.book_calls.specs.declared.op.Op.{Op}
pub use Rattle.book_calls.specs.declared.op.Reply.TheVariants.{Yes}
pub use Rattle.fetch_acts.specs.Process.{Process, act, ended}
pub use Rattle.fetch_acts.specs.declared.act.Act.TheVariants.{Ask, ReadBody, ReadHead, Send, Tell}
pub use Rattle.fetch_acts.specs.declared.act.Input.{Input}
pub use Rattle.fetch_acts.specs.declared.act.Input.TheVariants.{BodyIs, HeadBad, HeadIs, HeadLong, Replied, Sent}
pub use Rattle.fetch_answers.specs.Endings.{after_body as outcome_of, ended_under}
pub use Rattle.fetch_answers.specs.Following.{redirected_request}
pub use Rattle.fetch_answers.specs.Judging.{refusal_after}
pub use Rattle.fetch_answers.specs.Redirects.{redirection}
pub use Rattle.fetch_answers.specs.declared.answers.Ended.{Ended}
pub use Rattle.fetch_answers.specs.declared.answers.Ended.TheVariants.{Over, Reads}
pub use Rattle.fetch_answers.specs.declared.answers.Redirection.{Redirection}
pub use Rattle.fetch_answers.specs.declared.answers.Redirection.TheVariants.{Goes, Refuses, Stays}
pub use Rattle.fetch_requests.specs.Heads.{hop_of}
pub use Rattle.fetch_rules.specs.Blocking.{refusal_before}
pub use Rattle.fetch_rules.specs.KnownHosts.{match_of, note_of}
pub use Rattle.fetch_rules.specs.Questions.{clear_of, covers_of, learn_of}
pub use Rattle.fetch_rules.specs.Referrers.{with_referrer}
pub use Rattle.fetch_rules.specs.Switch.{switch_of, with_tainting}
pub use Rattle.fetch_rules.specs.Upgrading.{secured_where, upgraded}
pub use Rattle.fetch_rules.specs.declared.switch.Switch.{Switch}
pub use Rattle.policy_checks.specs.RequestOrigins.{serialized_request_origin}
pub use Rattle.policy_csp.specs.Violations.{request_violations, response_violations}
pub use Rattle.policy_csp_text.specs.declared.policy.Policy.{Policy}
pub use Rattle.policy_preflight.specs.Preflight.{preflight_of}
pub use Rattle.policy_preflight.specs.Verdict.{verdict}
pub use Rattle.policy_preflight.specs.declared.answer.Checked.{Checked}
pub use Rattle.policy_preflight.specs.declared.answer.Checked.TheVariants.{Pass, Refused}
pub use Rattle.policy_safelist.specs.UnsafeNames.{unsafe_names}
pub use Rattle.value_requests.specs.Requests.{current_url, is_http_url, most_redirects}
pub use Rattle.value_requests.specs.declared.client.Client.{Client}
pub use Rattle.value_requests.specs.declared.client.Cookie.{Cookie}
pub use Rattle.value_requests.specs.declared.error.NetError.{NetError}
pub use Rattle.value_requests.specs.declared.error.NetError.TheVariants.{BadHead, CspRequest, HeadTooBig, LinkFault}
pub use Rattle.value_requests.specs.declared.error.NetError.TheVariants.{Scheme, TooManyRedirects}
pub use Rattle.value_requests.specs.declared.hop.Head.{Head}
pub use Rattle.value_requests.specs.declared.policy.Violation.{Violation}
pub use Rattle.value_requests.specs.declared.request.Request.{Request}
pub use Rattle.value_requests.specs.declared.response.BodyEnd.{BodyEnd}
pub use Rattle.value_requests.specs.declared.response.BodyEnd.TheVariants.{Null}
pub use Rattle.value_requests.specs.declared.response.Outcome.TheVariants.{Error}
pub use Rattle.value_requests.specs.declared.response.Response.{Response}
pub use Rattle.value_text.specs.Texts.{Text}
