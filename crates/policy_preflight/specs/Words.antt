-- The words of other crates of which these definitions speak, each brought in once.
pub use Rattle.std.specs.List.{find, join_with_byte, list_all, list_any}
pub use Rattle.std.specs.Str.{str_eq_ignore_ascii_case}
pub use Rattle.policy_checks.specs.CorsCheck.{passes_check, passes_cors_check}
pub use Rattle.policy_checks.specs.OriginHeader.{referrer_value}
pub use Rattle.policy_checks.specs.PermittedNames.{preflight_view}
pub use Rattle.policy_checks.specs.RequestOrigins.{serialized_request_origin}
pub use Rattle.url.specs.Parts.{Parts}
pub use Rattle.value_lists.specs.Extract.{extracted}
pub use Rattle.value_headers.specs.Headers.{combined, contains}
pub use Rattle.value_lists.specs.declared.extract.Extracted.{Extracted}
pub use Rattle.value_lists.specs.declared.extract.Extracted.TheVariants.{Absent, Failure, Items}
pub use Rattle.value_lists.specs.declared.extract.Rule.TheVariants.{Digits, Tokens}
pub use Rattle.value_headers.specs.declared.headers.Header.{Header}
pub use Rattle.value_origins.specs.Origins.{origin_of}
pub use Rattle.value_requests.specs.Lines.{Line, accept_encoding, all_appended_where, connection, line, line_where}
pub use Rattle.value_requests.specs.Lines.{user_agent}
pub use Rattle.value_requests.specs.Methods.{is_safelisted_method}
pub use Rattle.value_requests.specs.Modes.{is_include}
pub use Rattle.value_requests.specs.Requests.{IsRequest, current_url}
pub use Rattle.value_requests.specs.Statuses.{is_ok_status}
pub use Rattle.value_requests.specs.Targets.{host_value, origin_text, target_of}
pub use Rattle.value_requests.specs.declared.hop.Head.{Head}
pub use Rattle.value_requests.specs.declared.hop.Hop.{Hop}
pub use Rattle.value_requests.specs.declared.mode.Credentials.{Credentials}
pub use Rattle.value_requests.specs.declared.request.Request.{Request}
pub use Rattle.value_text.specs.Ascii.{comma}
pub use Rattle.value_text.specs.Digits.{capped_digits}
pub use Rattle.value_text.specs.Texts.{Text}
pub use Rattle.value_text.specs.Tokens.{is_token}
pub use Rattle.value_text.specs.Wildcards.{authorization, has_wildcard}
