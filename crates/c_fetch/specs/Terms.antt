-- The terms of other crates of which these definitions speak, each brought in once; `Words` is a type of this crate.
pub use Rattle.std.specs.List.{flat_map}
pub use Rattle.book_calls.specs.Ops.{time_of}
pub use Rattle.book_calls.specs.declared.op.Op.{Op}
pub use Rattle.book_calls.specs.declared.op.Op.TheVariants.{Clear, Covers, Learn, Match, Note}
pub use Rattle.book_hosts.specs.declared.sts.Sts.{Sts}
pub use Rattle.book_preflights.specs.declared.question.Lesson.{Lesson}
pub use Rattle.book_preflights.specs.declared.question.Question.{Question}
pub use Rattle.c_rules.specs.Answers.{and_then}
pub use Rattle.c_rules.specs.Origins.{origin_text}
pub use Rattle.c_rules.specs.Reading.{web_url_in}
pub use Rattle.c_rules.specs.Referrers.{policy_in_force}
pub use Rattle.c_rules.specs.declared.refusal.Refusal.{Refusal}
pub use Rattle.c_rules.specs.declared.refusal.Refusal.TheVariants.{NotHeader}
pub use Rattle.fetch_acts.specs.declared.act.Act.{Act}
pub use Rattle.fetch_acts.specs.declared.act.Act.TheVariants.{Ask, ReadBody, ReadHead, Send, Tell}
pub use Rattle.fetch_definitions.specs.Fetch.{fetch}
pub use Rattle.fetch_definitions.specs.Then.{Context, context_of}
pub use Rattle.fetch_requests.specs.Loading.{new_load}
pub use Rattle.fetch_requests.specs.Making.{new_request}
pub use Rattle.fetch_session.specs.Sessions.{act_of, outcome_of, standing_of}
pub use Rattle.fetch_session.specs.Standings.{Standing, begun}
pub use Rattle.fetch_session.specs.declared.document.Document.{Document}
pub use Rattle.fetch_session.specs.declared.session.Session.{Session}
pub use Rattle.link_http1.specs.Requests.{request_bytes}
pub use Rattle.link_http1.specs.declared.framing.Framing.TheVariants.{Nothing}
pub use Rattle.policy_csp_text.specs.Policies.{policies_of}
pub use Rattle.policy_csp_text.specs.declared.policy.Policy.{Policy}
pub use Rattle.value_headers.specs.declared.headers.Header.{Header}
pub use Rattle.value_requests.specs.Clients.{client_of}
pub use Rattle.value_requests.specs.Errors.{error_name, error_number}
pub use Rattle.value_requests.specs.Names.{directive_name, kind_name}
pub use Rattle.value_requests.specs.declared.error.NetError.{NetError}
pub use Rattle.value_requests.specs.declared.error.NetError.TheVariants.{PreflightHeader}
pub use Rattle.value_requests.specs.declared.fault.TypeFault.{TypeFault}
pub use Rattle.value_requests.specs.declared.hop.Hop.{Hop}
pub use Rattle.value_requests.specs.declared.init.CrossOrigin.TheVariants.{Absent}
pub use Rattle.value_requests.specs.declared.init.Init.{Init}
pub use Rattle.value_requests.specs.declared.init.LoadInit.{LoadInit}
pub use Rattle.value_requests.specs.declared.mode.Credentials.TheVariants.{SameOrigin}
pub use Rattle.value_requests.specs.declared.mode.Mode.TheVariants.{Cors}
pub use Rattle.value_requests.specs.declared.mode.RedirectMode.TheVariants.{Follow}
pub use Rattle.value_requests.specs.declared.mode.ReferrerPolicy.{ReferrerPolicy}
pub use Rattle.value_requests.specs.declared.mode.ReferrerPolicy.TheVariants.{Empty}
pub use Rattle.value_requests.specs.declared.policy.Destination.{Destination}
pub use Rattle.value_requests.specs.declared.policy.Violation.{Violation}
pub use Rattle.value_requests.specs.declared.request.Request.{Request}
pub use Rattle.value_requests.specs.declared.response.BodyEnd.{BodyEnd}
pub use Rattle.value_requests.specs.declared.response.Outcome.{Outcome}
pub use Rattle.value_requests.specs.declared.response.Outcome.TheVariants.{Answer, Error, Loaded}
pub use Rattle.value_requests.specs.declared.response.Response.{Response}
pub use Rattle.value_text.specs.Texts.{Text}
pub use Rattle.value_text.specs.Trims.{http_whitespace, trimmed}
pub use Rattle.value_text.specs.Values.{is_header_value}
