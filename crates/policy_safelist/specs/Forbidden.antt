-- Forbidden methods and forbidden request-headers (Fetch, sections 2.2.1 and 2.2.2). The lists are
-- closed as they are written here.
use Rattle.std.specs.Prelude.{Bool, ◌||◌, ◌&&◌, List, [], ◌∷◌, length, take, codes}
use Rattle.std.specs.List.{list_any}
use Rattle.std.specs.Str.{str_eq_ignore_ascii_case}
use Rattle.value_text.specs.Texts.{Text}
use Rattle.value_lists.specs.Split.{split}
use Rattle.policy_safelist.specs.Names.{is_among}

-- the forbidden methods
abbrev pub forbidden_methods : List Text
forbidden_methods = codes "CONNECT" ∷ codes "TRACE" ∷ codes "TRACK" ∷ []

-- "forbidden method", in any case
abbrev pub is_forbidden_method : Text → Bool
is_forbidden_method method = is_among forbidden_methods method

-- the names that only the user agent sets
abbrev pub forbidden_names : List Text
forbidden_names =
    codes "Accept-Charset" ∷ codes "Accept-Encoding" ∷ codes "Access-Control-Request-Headers"
    ∷ codes "Access-Control-Request-Method" ∷ codes "Connection" ∷ codes "Content-Length" ∷ codes "Cookie"
    ∷ codes "Cookie2" ∷ codes "Date" ∷ codes "DNT" ∷ codes "Expect" ∷ codes "Host" ∷ codes "Keep-Alive"
    ∷ codes "Origin" ∷ codes "Referer" ∷ codes "Set-Cookie" ∷ codes "TE" ∷ codes "Trailer"
    ∷ codes "Transfer-Encoding" ∷ codes "Upgrade" ∷ codes "Via" ∷ []

-- the prefixes of the other names that only the user agent sets
abbrev pub forbidden_prefixes : List Text
forbidden_prefixes = codes "proxy-" ∷ codes "sec-" ∷ []

-- the text begins with the prefix, in any case
abbrev pub begins_with : Text → Text → Bool
begins_with prefix text = str_eq_ignore_ascii_case (take (length prefix) text) prefix

-- the name begins with one of the prefixes
abbrev pub has_forbidden_prefix : Text → Bool
has_forbidden_prefix name = list_any (λ prefix. begins_with prefix name) forbidden_prefixes

-- the names whose values override the method
abbrev pub override_names : List Text
override_names = codes "X-HTTP-Method" ∷ codes "X-HTTP-Method-Override" ∷ codes "X-Method-Override" ∷ []

-- the value is for a method to override with, and one of its split values is a forbidden method
abbrev pub overrides_with_forbidden_method : Text → Text → Bool
overrides_with_forbidden_method name value =
    is_among override_names name && list_any is_forbidden_method (split value)

-- "forbidden request-header"
abbrev pub is_forbidden_header : Text → Text → Bool
is_forbidden_header name value =
    is_among forbidden_names name || has_forbidden_prefix name || overrides_with_forbidden_method name value
