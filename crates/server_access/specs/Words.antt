-- The words of other crates of which these definitions speak, each brought in once.
pub use Rattle.std.specs.List.{join_with_byte, list_all, list_any}
pub use Rattle.std.specs.Str.{str_to_ascii_lowercase}
pub use Rattle.book_calls.specs.Book.{empty}
pub use Rattle.book_calls.specs.Entries.{Legal}
pub use Rattle.fetch_acts.specs.Process.{ended}
pub use Rattle.fetch_acts.specs.declared.act.Input.{Input}
pub use Rattle.fetch_definitions.specs.Fetch.{fetch}
pub use Rattle.fetch_definitions.specs.Then.{Context}
pub use Rattle.fetch_requests.specs.Making.{new_request}
pub use Rattle.fetch_rules.specs.Blocking.{refusal_before}
pub use Rattle.fetch_rules.specs.Switch.{needs_preflight}
pub use Rattle.fetch_wire.specs.Exchanges.{Answering, is_fault}
pub use Rattle.httparse.specs.Grammar.{is_uri_byte, is_value_byte}
pub use Rattle.link_http1.specs.Blocks.{is_line_byte}
pub use Rattle.link_http1.specs.Heads.{most_lines}
pub use Rattle.link_http1.specs.RequestHeads.{IsRead}
pub use Rattle.link_http1.specs.Requests.{request_bytes}
pub use Rattle.link_http1.specs.declared.request_head.Asked.{Asked}
pub use Rattle.play_definitions.specs.Driving.{LeadsOn}
pub use Rattle.play_definitions.specs.Worlds.{World}
pub use Rattle.policy_checks.specs.RequestOrigins.{serialized_request_origin}
pub use Rattle.policy_safelist.specs.UnsafeNames.{unsafe_names}
pub use Rattle.script_events.specs.declared.events.Event.{Event}
pub use Rattle.script_events.specs.declared.events.Event.TheVariants.{Sent}
pub use Rattle.server_tables.specs.Reading.{may_be_listed, most_in_line, table_of}
pub use Rattle.server_tables.specs.Served.{IsServed}
pub use Rattle.server_tables.specs.Tables.{allows, lists, row_of}
pub use Rattle.server_tables.specs.declared.table.Row.{Row}
pub use Rattle.url.specs.Parts.{IsValid}
pub use Rattle.value_headers.specs.Headers.{contains}
pub use Rattle.value_headers.specs.declared.headers.Header.{Header}
pub use Rattle.value_origins.specs.Origins.{is_origin_of, tuple_origin}
pub use Rattle.value_requests.specs.Methods.{is_safelisted_method}
pub use Rattle.value_requests.specs.Modes.{is_include}
pub use Rattle.value_requests.specs.Requests.{IsClient, current_url, is_http_url}
pub use Rattle.value_requests.specs.declared.client.Cookie.{Cookie}
pub use Rattle.value_requests.specs.declared.error.NetError.{NetError}
pub use Rattle.value_requests.specs.declared.hop.Hop.{Hop}
pub use Rattle.value_requests.specs.declared.init.Init.{Init}
pub use Rattle.value_requests.specs.declared.mode.Mode.TheVariants.{Cors}
pub use Rattle.value_requests.specs.declared.request.Request.{Request}
pub use Rattle.value_requests.specs.declared.response.BodyEnd.{BodyEnd}
pub use Rattle.value_requests.specs.declared.response.BodyEnd.TheVariants.{Null, TooBig, Whole}
pub use Rattle.value_requests.specs.declared.response.Outcome.{Outcome}
pub use Rattle.value_requests.specs.declared.response.Outcome.TheVariants.{Answer, Error}
pub use Rattle.value_text.specs.Ascii.{comma}
pub use Rattle.value_text.specs.Texts.{Text}
pub use Rattle.value_text.specs.Tokens.{is_token}
pub use Rattle.value_text.specs.Wildcards.{authorization}
