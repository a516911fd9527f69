-- The referrer of a request (Referrer Policy, section 8.3, "determine request's Referrer", and section 8.4,
-- "strip url for use as a referrer"), for http and https URLs.
use Rattle.std.specs.Prelude.{Bool, not, ◌&&◌, length, nat_lt, codes, Option, Some, None, if◌then◌else◌}
use Rattle.url.specs.Parts.{Parts, serialize}
use Rattle.value_origins.specs.Origins.{have_same_origin}
use Rattle.value_origins.specs.Trust.{is_trustworthy_url}
use Rattle.value_requests.specs.Urls.{stripped}
use Rattle.value_requests.specs.declared.mode.ReferrerPolicy.{ReferrerPolicy}
use Rattle.value_requests.specs.declared.mode.ReferrerPolicy.TheVariants as policy

-- "strip url for use as a referrer" with the origin-only flag: stripped, and also with the path `/` and without query
-- ("determine request's Referrer", step 5)
abbrev pub origin_only : Parts → Parts
origin_only url = record (stripped url) { path = codes "/"; query = None }

-- the text of the stripped URL is longer than 4,096 bytes
abbrev pub is_too_long : Parts → Bool
is_too_long url = nat_lt 4096 (length (serialize (stripped url)))

-- the stripped URL, or the origin alone in place of one that is too long (steps 4 and 6)
abbrev pub whole : Parts → Parts
whole url = if is_too_long url then origin_only url else stripped url

-- from a potentially trustworthy URL to one that is not
abbrev pub is_downgrade : Parts → Parts → Bool
is_downgrade source target = is_trustworthy_url source && not (is_trustworthy_url target)

-- "determine request's Referrer", step 8: what each policy tells the target of the source. The empty policy is that of
-- no request: "main fetch" puts the client's in its place.
abbrev pub determine : ReferrerPolicy → Parts → Parts → Option Parts
determine policy.Empty source target = None
determine policy.NoReferrer source target = None
determine policy.Origin source target = Some (origin_only source)
determine policy.UnsafeUrl source target = Some (whole source)
determine policy.SameOrigin source target =
    if have_same_origin source target then Some (whole source) else None
determine policy.OriginWhenCrossOrigin source target =
    if have_same_origin source target then Some (whole source) else Some (origin_only source)
determine policy.StrictOrigin source target =
    if is_downgrade source target then None else Some (origin_only source)
determine policy.StrictOriginWhenCrossOrigin source target =
    if have_same_origin source target then Some (whole source)
    else if is_downgrade source target then None
    else Some (origin_only source)
determine policy.NoReferrerWhenDowngrade source target =
    if is_downgrade source target then None else Some (whole source)
