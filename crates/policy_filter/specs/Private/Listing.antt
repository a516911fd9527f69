-- Exposed names, as the headers of one list are looked up in them.
use Rattle.std.specs.Prelude.{◌≡◌, Bool, true, not, ◌&&◌, ◌||◌, List, bytes_eq}
use Rattle.std.specs.List.{list_any}
use Rattle.std.specs.Str.{str_to_ascii_lowercase}
use Rattle.value_text.specs.Texts.{Text}
use Rattle.value_headers.specs.declared.headers.Header.{Header}
use Rattle.policy_checks.specs.PermittedNames.{has_name_among}
use Rattle.value_requests.specs.TextSets.{has_text}
use Rattle.policy_filter.specs.declared.exposed.Exposure.{Exposure}
use Rattle.policy_filter.specs.declared.listed.Exposed.{Exposed}
use Rattle.policy_filter.specs.declared.listed.Exposed.TheVariants.{All, Few, Many}
use Rattle.policy_filter.specs.Names.{is_forbidden, is_safelisted, safelisted_names}
use Rattle.policy_filter.specs.Private.Exposing.{is_safelisted_in}

-- the header has a CORS-safelisted response-header name
abbrev pub is_safelisted_among : Exposed → Header → Bool
is_safelisted_among All header = not (is_forbidden header)
is_safelisted_among (Few names) header = is_safelisted names header
is_safelisted_among (Many found) header =
    has_name_among safelisted_names header || (has_text found header.name && not (is_forbidden header))

-- the header's name is this one, and is in the set in lower case
abbrev pub is_found : List Text → Text → Header → Bool
is_found lower name header = has_text lower (str_to_ascii_lowercase header.name) && bytes_eq header.name name

-- one of the headers has this name, byte for byte
abbrev pub is_there : List Header → Text → Bool
is_there headers name = list_any (λ header. bytes_eq header.name name) headers

-- of the headers of the list, the same have a CORS-safelisted response-header name
abbrev pub Agree : List Header → Exposed → Exposure → Type 0
Agree headers exposed exposure =
    (header : Header) → is_there headers header.name ≡ true
    → is_safelisted_among exposed header ≡ is_safelisted_in exposure header
