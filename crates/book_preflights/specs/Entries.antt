-- The entries of one key and what they match (Fetch, "CORS-preflight cache").
use Rattle.std.specs.Prelude.{ℕ, Bool, true, false, ◌+◌, ◌&&◌, ◌||◌, not, nat_lt, List, Option, Some, None}
use Rattle.std.specs.List.{list_all, list_any}
use Rattle.std.specs.Str.{bytes_eq, str_eq_ignore_ascii_case}
use Rattle.value_text.specs.Texts.{Text}
use Rattle.value_text.specs.Wildcards.{is_non_wildcard_name, is_wildcard}
use Rattle.book_preflights.specs.declared.entry.Allowed.{Allowed}
use Rattle.book_preflights.specs.declared.entry.Allowed.TheVariants.{Method, HeaderName}
use Rattle.book_preflights.specs.declared.entry.CacheEntry.{CacheEntry}
use Rattle.book_preflights.specs.declared.question.Question.{Question}

-- the entry is younger than its age
abbrev pub is_alive : ℕ → CacheEntry → Bool
is_alive now entry = nat_lt now (entry.made + entry.age)

-- the entry is of this origin and this URL
abbrev pub is_of : Text → Text → CacheEntry → Bool
is_of origin url entry = bytes_eq entry.origin origin && bytes_eq entry.url url

-- "cache entry match", the key aside: equal origin and URL, and a question with credentials only
-- finds an entry that was made with them
abbrev pub is_entry_match : Text → Text → Bool → CacheEntry → Bool
is_entry_match origin url include entry =
    is_of origin url entry && (not include || entry.include)

-- what an entry allows is this method or every method
abbrev pub allows_method : Text → Allowed → Bool
allows_method method (Method allowed) = bytes_eq allowed method || is_wildcard allowed
allows_method method (HeaderName allowed) = false

-- what an entry allows is this header name, ASCII case aside, or the wildcard where that covers the name
abbrev pub allows_name : Text → Allowed → Bool
allows_name name (Method allowed) = false
allows_name name (HeaderName allowed) =
    str_eq_ignore_ascii_case allowed name || (is_wildcard allowed && not (is_non_wildcard_name name))

-- "method cache entry match" or "header-name cache entry match" of one entry
abbrev pub allows : Allowed → Allowed → Bool
allows (Method method) allowed = allows_method method allowed
allows (HeaderName name) allowed = allows_name name allowed

-- the entry is alive, matches, and allows the method or the header name
abbrev pub is_match : Text → Text → Bool → ℕ → Allowed → CacheEntry → Bool
is_match origin url include now wanted entry =
    is_alive now entry && is_entry_match origin url include entry && allows wanted entry.allowed

-- some entry matches the method or the header name of the question
abbrev pub has_match : Question → ℕ → List CacheEntry → Allowed → Bool
has_match question now entries wanted =
    list_any (is_match question.origin question.url question.include now wanted) entries

-- the method, if the question has one, is matched
abbrev pub has_method_match : Question → ℕ → List CacheEntry → Option Text → Bool
has_method_match question now entries None = true
has_method_match question now entries (Some method) = has_match question now entries (Method method)

-- the method, if given, and every header name are matched
abbrev pub covered : Question → ℕ → List CacheEntry → Bool
covered question now entries =
    has_method_match question now entries question.method
    && list_all (λ name. has_match question now entries (HeaderName name)) question.names
