-- Header lists of given names and values.
use Rattle.std.specs.Prelude.{◌&&◌, List, Option, Result, Ok, Err, if◌then◌else◌}
use Rattle.value_text.specs.Texts.{Text}
use Rattle.value_text.specs.Tokens.{is_token}
use Rattle.value_text.specs.Values.{is_header_value}
use Rattle.value_headers.specs.Headers.{appended, combined}
use Rattle.value_headers.specs.declared.headers.Header.{Header}
use Rattle.c_rules.specs.declared.refusal.Refusal.{Refusal}
use Rattle.c_rules.specs.declared.refusal.Refusal.TheVariants.{NotHeader}

-- "append" of a name and a value that are a header
abbrev pub appending : Text → Text → List Header → Result (List Header) Refusal
appending name value list =
    if is_token name && is_header_value value then Ok (appended name value list) else Err NotHeader

-- "get"; no name is refused
abbrev pub value_of : Text → List Header → Result (Option Text) Refusal
value_of name list = Ok (combined name list)
