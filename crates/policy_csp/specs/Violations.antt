-- The policies that a request or its response violates (CSP 3, section 4.1: "report Content Security Policy violations
-- for request", "should request be blocked by Content Security Policy?" and "should response to request be blocked by
-- Content Security Policy?").
use Rattle.std.specs.Prelude.{ℕ, Bool, true, false, ◌+◌, ◌&&◌, not, List, [], ◌∷◌, map, codes, bytes_eq, if◌then◌else◌}
use Rattle.std.specs.Prelude.{Option, Some, None}
use Rattle.std.specs.List.{list_any}
use Rattle.std.specs.Option.{option_map_or}
use Rattle.url.specs.Parts.{Parts, serialize}
use Rattle.value_text.specs.Texts.{Text}
use Rattle.policy_csp_text.specs.declared.policy.Policy.{Policy}
use Rattle.value_origins.specs.declared.origin.Origin.{Origin}
use Rattle.value_requests.specs.declared.policy.Violation.{Violation}
use Rattle.value_requests.specs.declared.request.Request.{Request}
use Rattle.value_requests.specs.Requests.{is_http_url, no_url}
use Rattle.value_requests.specs.Urls.{stripped}
use Rattle.policy_csp.specs.declared.compiled.CompiledPolicy.{CompiledPolicy}
use Rattle.policy_csp.specs.Directives.{deciding_sources, effective_directive, fallback_list}
use Rattle.policy_csp.specs.Reading.{read_policy}
use Rattle.policy_csp.specs.SourceLists.{passes}

-- ---- one policy

-- "does request violate policy?": there is a directive that decides about its destination, and its source list does not
-- let the request through
abbrev pub is_violated : CompiledPolicy → Request → Origin → Bool
is_violated policy request document =
    option_map_or (λ sources. not (passes sources request document request.destination))
    (deciding_sources (fallback_list (effective_directive request.destination)) policy.directives) false

-- "strip URL for use in reports": without user name, password and fragment; of a URL that is neither http nor https the
-- scheme alone
abbrev pub stripped_for_report : Parts → Text
stripped_for_report url = if is_http_url url then serialize (stripped url) else url.scheme

-- the URL of the request: the first of the URL list, which is never empty in a request
abbrev pub first_url : List Parts → Parts
first_url [] = no_url
first_url (url ∷ urls) = url

-- "create a violation object for request, and policy": by the policy's number; what is told of the URL is that which
-- the request was made for, and not where a redirect led it
abbrev pub violation : ℕ → CompiledPolicy → Request → Violation
violation number policy request = record {
  policy = number;
  enforced = policy.enforced;
  directive = effective_directive request.destination;
  url = stripped_for_report (first_url request.urls);
}

-- ---- all policies

-- the policy is asked: each is, or those of one disposition, enforced or report-only
abbrev pub is_asked : Option Bool → CompiledPolicy → Bool
is_asked None policy = true
is_asked (Some true) policy = policy.enforced
is_asked (Some false) policy = not policy.enforced

-- the violations of those of the policies that are asked, which are numbered from this number on
abbrev pub violations_from : ℕ → Option Bool → List CompiledPolicy → Request → Origin → List Violation
violations_from number asked [] request document = []
violations_from number asked (policy ∷ policies) request document =
    if is_asked asked policy && is_violated policy request document
    then violation number policy request ∷ violations_from (number + 1) asked policies request document
    else violations_from (number + 1) asked policies request document

-- the violations of a request by the policies of one disposition, enforced or report-only, in order
abbrev pub request_violations : List Policy → Request → Origin → Bool → List Violation
request_violations policies request document enforced =
    violations_from 0 (Some enforced) (map read_policy policies) request document

-- the violations of a response to the request by all policies, in order
abbrev pub response_violations : List Policy → Request → Origin → List Violation
response_violations policies request document =
    violations_from 0 None (map read_policy policies) request document

-- one of the violations is of an enforced policy
abbrev pub has_enforced : List Violation → Bool
has_enforced violations = list_any (λ violation. violation.enforced) violations

-- ---- upgrades

-- an enforced policy has the directive
abbrev pub upgrades_policy : CompiledPolicy → Bool
upgrades_policy policy =
    policy.enforced
    && list_any (λ directive. bytes_eq directive.name (codes "upgrade-insecure-requests")) policy.directives

-- "upgrade-insecure-requests" is a directive of an enforced policy (Upgrade Insecure Requests; that every http URL is
-- then upgraded is this project's own choice)
abbrev pub upgrades : List Policy → Bool
upgrades policies = list_any upgrades_policy (map read_policy policies)
