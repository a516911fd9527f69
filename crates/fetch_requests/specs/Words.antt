-- The words of other crates of which these definitions speak, each brought in once.
pub use Rattle.std.specs.Bool.{then_some}
pub use Rattle.policy_checks.specs.OriginHeader.{origin_value, referrer_value}
pub use Rattle.policy_safelist.specs.Forbidden.{is_forbidden_method}
pub use Rattle.policy_safelist.specs.Guards.{list_after, outcome}
pub use Rattle.policy_safelist.specs.declared.guard.Guard.{Guard}
pub use Rattle.url.specs.Parts.{Parts, has_credentials}
pub use Rattle.value_headers.specs.Headers.{all_appended, appended, contains}
pub use Rattle.value_headers.specs.declared.headers.Header.{Header}
pub use Rattle.value_origins.specs.Origins.{origin_of}
pub use Rattle.value_requests.specs.Lines.{Line, accept_encoding, all_appended_where, connection, header, line}
pub use Rattle.value_requests.specs.Lines.{line_where, user_agent}
pub use Rattle.value_requests.specs.Methods.{is_get_or_head, is_post_or_put, is_safelisted_method, normalized}
pub use Rattle.value_requests.specs.Requests.{current_url}
pub use Rattle.value_requests.specs.Targets.{host_value, origin_text, target_of}
pub use Rattle.value_requests.specs.Urls.{unless_long, url_against}
pub use Rattle.value_requests.specs.declared.client.Client.{Client}
pub use Rattle.value_requests.specs.declared.client.Cookie.{Cookie}
pub use Rattle.value_requests.specs.declared.fault.TypeFault.{TypeFault}
pub use Rattle.value_requests.specs.declared.fault.TypeFault.TheVariants.{BadHeader, BadMethod, BadUrl, BodyWithGet}
pub use Rattle.value_requests.specs.declared.fault.TypeFault.TheVariants.{ForbiddenMethod, LongUrl, NavigateMode}
pub use Rattle.value_requests.specs.declared.fault.TypeFault.TheVariants.{NoCorsMethod, TooLong, UrlCredentials}
pub use Rattle.value_requests.specs.declared.hop.Hop.{Hop}
pub use Rattle.value_requests.specs.declared.init.CrossOrigin.{CrossOrigin}
pub use Rattle.value_requests.specs.declared.init.CrossOrigin.TheVariants.{Absent, Anonymous, UseCredentials}
pub use Rattle.value_requests.specs.declared.init.Init.{Init}
pub use Rattle.value_requests.specs.declared.init.LoadInit.{LoadInit}
pub use Rattle.value_requests.specs.declared.init.Pair.{Pair}
pub use Rattle.value_requests.specs.declared.mode.Credentials.{Credentials}
pub use Rattle.value_requests.specs.declared.mode.Mode.{Mode}
pub use Rattle.value_requests.specs.declared.mode.Mode.TheVariants.{Navigate, NoCors}
pub use Rattle.value_requests.specs.declared.mode.RedirectMode.TheVariants.{Follow}
pub use Rattle.value_requests.specs.declared.mode.Tainting.{Tainting}
pub use Rattle.value_requests.specs.declared.mode.Tainting.TheVariants.{Basic}
pub use Rattle.value_requests.specs.declared.policy.Destination.{Destination}
pub use Rattle.value_requests.specs.declared.request.Referrer.{Referrer}
pub use Rattle.value_requests.specs.declared.request.Request.{Request}
pub use Rattle.value_text.specs.Texts.{Text}
pub use Rattle.value_text.specs.Tokens.{is_token}
pub use Rattle.value_text.specs.Values.{is_header_value}
