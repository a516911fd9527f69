-- "append" to a Headers object with a guard, and its "validate" (Fetch, section 5.1).
use Rattle.std.specs.Prelude.{Bool, ◌&&◌, not, List, [], ◌∷◌, ◌++◌, codes, Option, Some, None, if◌then◌else◌}
use Rattle.value_text.specs.Texts.{Text}
use Rattle.value_text.specs.Tokens.{is_token}
use Rattle.value_text.specs.Values.{is_header_value}
use Rattle.value_headers.specs.Headers.{appended, combined}
use Rattle.value_headers.specs.declared.headers.Header.{Header}
use Rattle.policy_safelist.specs.Forbidden.{is_forbidden_header}
use Rattle.policy_safelist.specs.Names.{is_among}
use Rattle.policy_safelist.specs.Safelisted.{is_safelisted}
use Rattle.policy_safelist.specs.declared.guard.Guard.{Guard}
use Rattle.policy_safelist.specs.declared.guard.Guard.TheVariants.{Request, NoCors}
use Rattle.policy_safelist.specs.declared.guard.Appended.{Appended}
use Rattle.policy_safelist.specs.declared.guard.Appended.TheVariants.{Kept, Ignored, BadName, BadValue}

-- the no-CORS-safelisted request-header names; Range is none
abbrev pub no_cors_names : List Text
no_cors_names = codes "Accept" ∷ codes "Accept-Language" ∷ codes "Content-Language" ∷ codes "Content-Type" ∷ []

-- the value, with what is there of its name, a comma and a space before it
abbrev pub value_behind : Option Text → Text → Text
value_behind None value = value
value_behind (Some there) value = there ++ (codes ", " ++ value)

-- "no-CORS-safelisted request-header"
abbrev pub is_no_cors_safelisted : Text → Text → Bool
is_no_cors_safelisted name value = is_among no_cors_names name && is_safelisted name value

-- the guard lets the header in: under "request" it is not forbidden; under "request-no-cors" it is
-- no-CORS-safelisted with the value that its name has then
abbrev pub allows : Guard → Text → Text → List Header → Bool
allows Request name value headers = not (is_forbidden_header name value)
allows NoCors name value headers = is_no_cors_safelisted name (value_behind (combined name headers) value)

-- what comes of appending a name and a value: a bad name or value is refused whatever the guard is
abbrev pub outcome : Guard → Text → Text → List Header → Appended
outcome guard name value headers =
    if not (is_token name) then BadName
    else if not (is_header_value value) then BadValue
    else if allows guard name value headers then Kept
    else Ignored

-- the list after it: only what is kept changes it
abbrev pub list_after : Appended → Text → Text → List Header → List Header
list_after Kept name value headers = appended name value headers
list_after Ignored name value headers = headers
list_after BadName name value headers = headers
list_after BadValue name value headers = headers
