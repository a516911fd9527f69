-- The words of other crates of which these definitions speak, each brought in once.
pub use Rattle.std.specs.Bool.{then_some}
pub use Rattle.std.specs.Option.{option_or}
pub use Rattle.policy_checks.specs.CorsCheck.{passes_check}
pub use Rattle.policy_checks.specs.PermittedNames.{has_name_among}
pub use Rattle.policy_checks.specs.ResourcePolicy.{is_blocked}
pub use Rattle.policy_csp.specs.Violations.{has_enforced, response_violations}
pub use Rattle.policy_csp_text.specs.declared.policy.Policy.{Policy}
pub use Rattle.policy_filter.specs.Blocks.{is_nosniff_blocked, is_type_blocked}
pub use Rattle.policy_filter.specs.Filtered.{filtered}
pub use Rattle.policy_filter.specs.Laws.{follows_or_fetches, is_fetch, is_opaque_tainted}
pub use Rattle.policy_filter.specs.Views.{is_error, is_manual, permitted_view}
pub use Rattle.policy_integrity.specs.Matching.{matches}
pub use Rattle.policy_integrity.specs.Metadata.{metadata_of}
pub use Rattle.url.specs.Parts.{Parts, has_credentials}
pub use Rattle.value_lists.specs.Extract.{extracted}
pub use Rattle.value_headers.specs.Headers.{without}
pub use Rattle.value_lists.specs.declared.extract.Extracted.{Extracted}
pub use Rattle.value_lists.specs.declared.extract.Extracted.TheVariants.{Absent, Items}
pub use Rattle.value_lists.specs.declared.extract.Rule.TheVariants.{Single}
pub use Rattle.value_headers.specs.declared.headers.Header.{Header}
pub use Rattle.value_origins.specs.Origins.{have_same_origin, is_origin_of}
pub use Rattle.value_origins.specs.declared.origin.Origin.{Origin}
pub use Rattle.value_requests.specs.Methods.{is_get_or_head}
pub use Rattle.value_requests.specs.Modes.{is_cors_mode, is_cors_tainted, is_follow}
pub use Rattle.value_requests.specs.ReferrerPolicies.{policy_of_header, policy_or}
pub use Rattle.value_requests.specs.Requests.{current_url, is_http_url, most_redirects}
pub use Rattle.value_requests.specs.Statuses.{is_redirect_status}
pub use Rattle.value_requests.specs.Urls.{unless_long, url_against}
pub use Rattle.value_requests.specs.declared.error.NetError.{NetError}
pub use Rattle.value_requests.specs.declared.error.NetError.TheVariants.{BadLocation, Coding, Corp, CorsCheck}
pub use Rattle.value_requests.specs.declared.error.NetError.TheVariants.{CspResponse, Integrity, Mime, NoSniff}
pub use Rattle.value_requests.specs.declared.error.NetError.TheVariants.{RedirectCredentials, RedirectMode}
pub use Rattle.value_requests.specs.declared.error.NetError.TheVariants.{RedirectScheme, TooManyRedirects}
pub use Rattle.value_requests.specs.declared.hop.Head.{Head}
pub use Rattle.value_requests.specs.declared.hop.Hop.{Hop}
pub use Rattle.value_requests.specs.declared.mode.Tainting.{Tainting}
pub use Rattle.value_requests.specs.declared.policy.Destination.{Destination}
pub use Rattle.value_requests.specs.declared.request.Request.{Request}
pub use Rattle.value_requests.specs.declared.response.BodyEnd.{BodyEnd}
pub use Rattle.value_requests.specs.declared.response.BodyEnd.TheVariants.{Whole}
pub use Rattle.value_requests.specs.declared.response.Outcome.{Outcome}
pub use Rattle.value_requests.specs.declared.response.Outcome.TheVariants.{Answer, Error, Loaded}
pub use Rattle.value_requests.specs.declared.response.Response.{Response}
pub use Rattle.value_text.specs.Texts.{Text}
pub use Rattle.value_text.specs.Wildcards.{authorization}
