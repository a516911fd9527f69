-- What the headers of a document say: its policies and its referrer policy (HTML, "create and initialize a Document
-- object"; CSP 3, section 2.2, "parse a response's Content Security Policies"; Referrer Policy, section 8.1).
use Rattle.std.specs.Prelude.{true, false, List, [], map, codes, if◌then◌else◌}
use Rattle.value_requests.specs.declared.mode.ReferrerPolicy.TheVariants as policy
use Rattle.script_reading.specs.Words.{Header, Pair, Policy, ReferrerPolicy, all_appended, flat_map, policies_of}
use Rattle.script_reading.specs.Words.{policy_of_header, str_eq_ignore_ascii_case}

-- the policies of a header: enforced ones, or report-only ones, where it is one of the two that have some
abbrev pub policies_of_header : Pair → List Policy
policies_of_header header =
    if str_eq_ignore_ascii_case header.name (codes "Content-Security-Policy") then policies_of true header.value
    else if str_eq_ignore_ascii_case header.name (codes "Content-Security-Policy-Report-Only")
    then policies_of false header.value else []

-- the policies of the headers, in order
abbrev pub policies_of_headers : List Pair → List Policy
policies_of_headers headers = flat_map policies_of_header headers

-- a policy that was named, or the default one
abbrev pub policy_or_default : ReferrerPolicy → ReferrerPolicy
policy_or_default policy.Empty = policy.StrictOriginWhenCrossOrigin
policy_or_default named = named

-- a name and a value as a header
abbrev pub header_of_pair : Pair → Header
header_of_pair pair = record { name = pair.name; value = pair.value }

-- the names and values, appended to a header list in order
abbrev pub listed : List Pair → List Header
listed pairs = all_appended (map header_of_pair pairs) []

-- the referrer policy that the headers name, or the default one
abbrev pub policy_of_headers : List Pair → ReferrerPolicy
policy_of_headers pairs = policy_or_default (policy_of_header (listed pairs))
