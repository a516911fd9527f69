-- Names of headers: those that a server is asked about first, those that it exposes, and those that no script may set.
use Rattle.std.specs.Prelude.{ℕ, ◌&&◌, Bool, List, slice_get, Option, Result, Ok, Err, if◌then◌else◌}
use Rattle.value_text.specs.Texts.{Text}
use Rattle.value_text.specs.Tokens.{is_token}
use Rattle.value_text.specs.Values.{is_header_value}
use Rattle.policy_filter.specs.Exposed.{exposed_names}
use Rattle.value_headers.specs.declared.headers.Header.{Header}
use Rattle.policy_safelist.specs.Forbidden.{is_forbidden_header}
use Rattle.policy_safelist.specs.UnsafeNames.{unsafe_names}
use Rattle.c_rules.specs.declared.refusal.Refusal.{Refusal}
use Rattle.c_rules.specs.declared.refusal.Refusal.TheVariants.{NotHeader}

-- "CORS-unsafe request-header names" of a header list, that at an index; no list is refused
abbrev pub unsafe_name_at : List Header → ℕ → Result (Option Text) Refusal
unsafe_name_at list at = Ok (slice_get (unsafe_names list) at)

-- "CORS-exposed header-name list" of an answer's header list, the name at an index; no list is refused
abbrev pub exposed_name_at : Bool → List Header → ℕ → Result (Option Text) Refusal
exposed_name_at include list at = Ok (slice_get (exposed_names include list) at)

-- "forbidden request-header", of a name and a value that are a header
abbrev pub is_forbidden : Text → Text → Result Bool Refusal
is_forbidden name value =
    if is_token name && is_header_value value then Ok (is_forbidden_header name value) else Err NotHeader
