-- `*` in a list of methods or header names, where it covers all of them but one ("CORS non-wildcard request-header
-- name", Fetch, section 2.2.2).
use Rattle.std.specs.Prelude.{Bool, List, bytes_eq, codes}
use Rattle.std.specs.List.{list_any}
use Rattle.std.specs.Str.{str_eq_ignore_ascii_case}
use Rattle.value_text.specs.Texts.{Text}

-- the text is the wildcard
abbrev pub is_wildcard : Text → Bool
is_wildcard text = bytes_eq text (codes "*")

-- the list has the wildcard
abbrev pub has_wildcard : List Text → Bool
has_wildcard texts = list_any is_wildcard texts

-- the header name that the wildcard does not cover, in lower case: names are compared ASCII case aside
abbrev pub authorization : Text
authorization = codes "authorization"

-- "CORS non-wildcard request-header name"
abbrev pub is_non_wildcard_name : Text → Bool
is_non_wildcard_name name = str_eq_ignore_ascii_case name authorization
