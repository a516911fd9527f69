-- The terms of other crates of which these definitions speak, each brought in once; `Words` is a type of c_fetch.
pub use Rattle.book_calls.specs.declared.book.Book.{Book}
pub use Rattle.c_fetch.specs.Asked.{Change, chosen, header_added, load_of, text_set}
pub use Rattle.c_fetch.specs.Settings.{cookie_added, settings_of, with_policies}
pub use Rattle.c_fetch.specs.Setups.{Setup}
pub use Rattle.c_fetch.specs.declared.asked.Asked.{Asked}
pub use Rattle.c_fetch.specs.declared.asked.Choice.{Choice}
pub use Rattle.c_fetch.specs.declared.asked.Words.{Words}
pub use Rattle.c_handle.specs.Codes.{code_of, told, yes_or_no}
pub use Rattle.c_handle.specs.Things.{TextBy, code_by, held_book, held_client}
pub use Rattle.c_handle.specs.Things.{held_headers, held_request}
pub use Rattle.c_handle.specs.declared.codes.TheConstants.{NO_SUCH_NUMBER, OK, WRONG_HANDLE}
pub use Rattle.c_handle.specs.declared.thing.Thing.{Thing}
pub use Rattle.c_rules.specs.Cors.{is_kept_by_resource_policy}
pub use Rattle.c_rules.specs.Headers.{appending}
pub use Rattle.c_rules.specs.Hosts.{after_field, is_known_host, says}
pub use Rattle.c_rules.specs.declared.refusal.Refusal.{Refusal}
pub use Rattle.policy_checks.specs.CorsCheck.{passes_cors_check}
pub use Rattle.value_headers.specs.Headers.{combined}
pub use Rattle.value_headers.specs.declared.headers.Header.{Header}
pub use Rattle.value_requests.specs.declared.init.CrossOrigin.{CrossOrigin}
pub use Rattle.value_requests.specs.declared.mode.Credentials.{Credentials}
pub use Rattle.value_requests.specs.declared.mode.Mode.{Mode}
pub use Rattle.value_requests.specs.declared.mode.RedirectMode.{RedirectMode}
pub use Rattle.value_requests.specs.declared.mode.ReferrerPolicy.{ReferrerPolicy}
pub use Rattle.value_requests.specs.declared.policy.Destination.{Destination}
pub use Rattle.value_text.specs.Texts.{Text}
pub use Rattle.value_text.specs.Wildcards.{is_wildcard}
