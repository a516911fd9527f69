-- "CORS-unsafe request-header names" (Fetch, section 2.2.2).
use Rattle.std.specs.Prelude.{ℕ, Bool, ◌||◌, not, nat_lt, List, length, map, filter, sum_by}
use Rattle.value_text.specs.Texts.{Text}
use Rattle.value_headers.specs.declared.headers.Header.{Header}
use Rattle.policy_safelist.specs.Safelisted.{is_safelisted}
use Rattle.policy_safelist.specs.Sets.{sorted_lowercase_set}

-- the header is safelisted
abbrev pub is_safelisted_header : Header → Bool
is_safelisted_header header = is_safelisted header.name header.value

-- "safelistValueSize": how many bytes the values of the safelisted headers have
abbrev pub safelisted_size : List Header → ℕ
safelisted_size headers = sum_by (λ header. length header.value) (filter is_safelisted_header headers)

-- the headers that are not safelisted, or all where the safelisted ones are too long together
abbrev pub unsafe_headers : Bool → List Header → List Header
unsafe_headers too_long headers = filter (λ header. too_long || not (is_safelisted_header header)) headers

-- the names of the unsafe headers, in order; the safelisted ones are unsafe too where their values
-- have more than 1,024 bytes together
abbrev pub names_of_unsafe : List Header → List Text
names_of_unsafe headers =
    map (λ header. header.name) (unsafe_headers (nat_lt 1024 (safelisted_size headers)) headers)

-- "CORS-unsafe request-header names"
abbrev pub unsafe_names : List Header → List Text
unsafe_names headers = sorted_lowercase_set (names_of_unsafe headers)
