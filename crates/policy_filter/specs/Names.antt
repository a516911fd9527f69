-- Names of response headers: those that are forbidden and those that are CORS-safelisted (Fetch, section 2.2.2).
use Rattle.std.specs.Prelude.{Bool, not, ◌&&◌, ◌||◌, List, [], ◌∷◌, codes}
use Rattle.value_text.specs.Texts.{Text}
use Rattle.value_headers.specs.declared.headers.Header.{Header}
use Rattle.policy_checks.specs.PermittedNames.{has_name_among}

-- the forbidden response-header names
abbrev pub forbidden_names : List Text
forbidden_names = codes "Set-Cookie" ∷ codes "Set-Cookie2" ∷ []

-- "forbidden response-header name": the header has one
abbrev pub is_forbidden : Header → Bool
is_forbidden header = has_name_among forbidden_names header

-- the names that are CORS-safelisted whatever is exposed
abbrev pub safelisted_names : List Text
safelisted_names =
    codes "Cache-Control" ∷ codes "Content-Language" ∷ codes "Content-Length" ∷ codes "Content-Type"
    ∷ codes "Expires" ∷ codes "Last-Modified" ∷ codes "Pragma" ∷ []

-- "CORS-safelisted response-header name", given a list of exposed names: the header has one
abbrev pub is_safelisted : List Text → Header → Bool
is_safelisted exposed header =
    has_name_among safelisted_names header || (has_name_among exposed header && not (is_forbidden header))
