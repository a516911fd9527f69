-- Which responses a cross-origin resource policy blocks (Fetch, "cross-origin resource policy check").
use Rattle.std.specs.Prelude.{Bool, false, not, ◌&&◌, ◌||◌, List, codes, if◌then◌else◌}
use Rattle.value_text.specs.Texts.{Text}
use Rattle.value_headers.specs.declared.headers.Header.{Header}
use Rattle.value_headers.specs.Headers.{has_value}
use Rattle.value_origins.specs.declared.origin.Origin.{Origin}
use Rattle.value_origins.specs.Origins.{same_origin, tuple_origin}
use Rattle.value_origins.specs.Sites.{same_site}
use Rattle.value_requests.specs.declared.request.Request.{Request}
use Rattle.value_requests.specs.Requests.{current_url}
use Rattle.policy_checks.specs.OriginHeader.{is_https}

-- the value of `Cross-Origin-Resource-Policy` is this text; another value than the three that there are is as none
abbrev pub has_resource_policy : Text → List Header → Bool
has_resource_policy text headers = has_value (codes "Cross-Origin-Resource-Policy") text headers

-- the origin of a URL is of one site with the request's origin, and no insecure origin looks into a secure one
abbrev pub is_within_site : Origin → Origin → Bool
is_within_site origin url = same_site origin url && (is_https origin.scheme || not (is_https url.scheme))

-- "cross-origin resource policy check" fails: `same-origin` keeps the answer of a URL with this origin from requests of
-- another origin, `same-site` from those of another site; `cross-origin` and an absent header keep it from none
abbrev pub corp_blocks : Origin → Origin → List Header → Bool
corp_blocks origin url headers =
    if has_resource_policy (codes "same-origin") headers then not (same_origin origin url)
    else if has_resource_policy (codes "same-site") headers then not (is_within_site origin url)
    else false

-- the cross-origin resource policy check of a request fails
abbrev pub is_blocked : Request → List Header → Bool
is_blocked request headers = corp_blocks request.origin (tuple_origin (current_url request)) headers
