-- Methods (Fetch, section 2.2.1): which are CORS-safelisted, and how they are normalised.
use Rattle.std.specs.Prelude.{Bool, ◌||◌, List, [], ◌∷◌, codes, bytes_eq, if◌then◌else◌}
use Rattle.std.specs.List.{list_any}
use Rattle.std.specs.Str.{str_eq_ignore_ascii_case, str_to_ascii_uppercase}
use Rattle.value_text.specs.Texts.{Text}

-- the methods that need no preflight
abbrev pub safelisted_methods : List Text
safelisted_methods = codes "GET" ∷ codes "HEAD" ∷ codes "POST" ∷ []

-- "CORS-safelisted method"
abbrev pub is_safelisted_method : Text → Bool
is_safelisted_method method = list_any (λ listed. bytes_eq listed method) safelisted_methods

-- the methods that are written in upper case whatever their case
abbrev pub normalized_methods : List Text
normalized_methods =
    codes "DELETE" ∷ codes "GET" ∷ codes "HEAD" ∷ codes "OPTIONS" ∷ codes "POST" ∷ codes "PUT" ∷ []

-- the method, in any case, is one of these
abbrev pub is_normalized : Text → Bool
is_normalized method = list_any (λ listed. str_eq_ignore_ascii_case listed method) normalized_methods

-- "normalize a method": these are in upper case, others keep their case
abbrev pub normalized : Text → Text
normalized method = if is_normalized method then str_to_ascii_uppercase method else method

-- GET or HEAD, whose requests have no body
abbrev pub is_get_or_head : Text → Bool
is_get_or_head method = bytes_eq method (codes "GET") || bytes_eq method (codes "HEAD")

-- POST or PUT, with which an empty body is told
abbrev pub is_post_or_put : Text → Bool
is_post_or_put method = bytes_eq method (codes "POST") || bytes_eq method (codes "PUT")
