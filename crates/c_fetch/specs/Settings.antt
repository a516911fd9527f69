-- The settings of a document that fetches, of texts.
use Rattle.std.specs.Prelude.{◌≡◌, Bool, List, [], ◌∷◌, ◌++◌, Result, Ok, Err, if◌then◌else◌}
use Rattle.c_fetch.specs.Terms.{Document, NotHeader, Policy, ReferrerPolicy, Refusal, Text, and_then, client_of}
use Rattle.c_fetch.specs.Terms.{flat_map, is_header_value, origin_text, policies_of, policy_in_force, web_url_in}
use Rattle.c_fetch.specs.Setups.{Setup}
use Rattle.c_fetch.specs.declared.policy_value.PolicyValue.{PolicyValue}

-- the settings of a document of a URL under a top, with a referrer policy; without policies and cookies
abbrev pub settings_of : Text → Text → ReferrerPolicy → Result Setup Refusal
settings_of url top policy =
    and_then (web_url_in url) (λ url. and_then (web_url_in top)
    (λ top. Ok (record { client = client_of url top (policy_in_force policy); policies = []; cookies = [] })))

-- with the value of one more policy header
abbrev pub with_policies : Text → Bool → Setup → Setup
with_policies value enforced settings =
    record settings { policies = settings.policies ++ (record { value = value; enforced = enforced }) ∷ [] }

-- with one more cookie of an origin
abbrev pub with_cookie : Text → Text → Setup → Setup
with_cookie origin value settings =
    record settings { cookies = settings.cookies ++ (record { origin = origin; value = value }) ∷ [] }

-- with one more cookie of an origin, where the value is a header value
abbrev pub cookie_where : Text → Setup → Text → Result Setup Refusal
cookie_where value settings origin =
    if is_header_value value then Ok (with_cookie origin value settings) else Err NotHeader

-- with one more cookie of the origin of a URL, or why not
abbrev pub cookie_added : Text → Text → Setup → Result Setup Refusal
cookie_added url value settings = and_then (origin_text url) (cookie_where value settings)

-- the policies of a value
abbrev pub policies_of_value : PolicyValue → List Policy
policies_of_value given = policies_of given.enforced given.value

-- the policies of all values, in order
abbrev pub policies_in : List PolicyValue → List Policy
policies_in values = flat_map policies_of_value values

-- the document of the settings
abbrev pub IsDocumentOf : Setup → Document → Type 0
IsDocumentOf settings document =
    (document.client ≡ settings.client) × (document.policies ≡ policies_in settings.policies)
    × (document.cookies ≡ settings.cookies)
