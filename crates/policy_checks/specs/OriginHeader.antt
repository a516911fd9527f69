-- The headers that tell where a request comes from: Origin ("append a request `Origin` header", Fetch,
-- section 3.2), and Referer (Fetch, section 4.6).
use Rattle.std.specs.Prelude.{◌&&◌, Bool, true, false, not, codes, bytes_eq, Option, Some, None}
use Rattle.std.specs.Prelude.{if◌then◌else◌}
use Rattle.url.specs.Parts.{Parts, serialize}
use Rattle.value_text.specs.Texts.{Text}
use Rattle.value_origins.specs.declared.origin.Origin.{Origin}
use Rattle.value_origins.specs.Origins.{is_origin_of}
use Rattle.value_requests.specs.declared.mode.ReferrerPolicy.{ReferrerPolicy}
use Rattle.value_requests.specs.declared.mode.ReferrerPolicy.TheVariants as policy
use Rattle.value_requests.specs.declared.request.Referrer.{Referrer}
use Rattle.value_requests.specs.declared.request.Referrer.TheVariants as referrer
use Rattle.value_requests.specs.declared.request.Request.{Request}
use Rattle.value_requests.specs.Methods.{is_get_or_head}
use Rattle.value_requests.specs.Modes.{is_cors_mode, is_cors_tainted}
use Rattle.policy_checks.specs.RequestOrigins.{serialized_request_origin}

-- ---- Origin

-- a text that is the scheme https
abbrev pub is_https : Text → Bool
is_https scheme = bytes_eq scheme (codes "https")

-- from an https origin to a URL that is not https
abbrev pub is_downgrade : Origin → Parts → Bool
is_downgrade origin url = is_https origin.scheme && not (is_https url.scheme)

-- the policy keeps the origin from a URL
abbrev pub hides_origin : ReferrerPolicy → Origin → Parts → Bool
hides_origin policy.NoReferrer origin url = true
hides_origin policy.NoReferrerWhenDowngrade origin url = is_downgrade origin url
hides_origin policy.StrictOrigin origin url = is_downgrade origin url
hides_origin policy.StrictOriginWhenCrossOrigin origin url = is_downgrade origin url
hides_origin policy.SameOrigin origin url = not (is_origin_of origin url)
hides_origin _ origin url = false

-- the origin as it is told to a URL, where the tainting is not cors
abbrev pub told_origin : Request → Parts → Text
told_origin request url =
    if not (is_cors_mode request.mode) && hides_origin request.policy request.origin url then codes "null"
    else serialized_request_origin request

-- the value of Origin, where there is one
abbrev pub origin_value : Request → Parts → Option Text
origin_value request url =
    if is_cors_tainted request.tainting then Some (serialized_request_origin request)
    else if is_get_or_head request.method then None
    else Some (told_origin request url)

-- ---- Referer

-- the text of a referrer that is a URL
abbrev pub referrer_value : Referrer → Option Text
referrer_value (referrer.Address url) = Some (serialize url)
referrer_value _ = None
