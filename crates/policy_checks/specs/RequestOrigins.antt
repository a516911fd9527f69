-- Tainted origins, and the serialised origin of a request (Fetch, section 2.2.5).
use Rattle.std.specs.Prelude.{◌&&◌, ◌||◌, Bool, false, not, List, [], ◌∷◌, codes, if◌then◌else◌}
use Rattle.url.specs.Parts.{Parts}
use Rattle.value_text.specs.Texts.{Text}
use Rattle.value_origins.specs.declared.origin.Origin.{Origin}
use Rattle.value_origins.specs.Origins.{have_same_origin, is_origin_of, serialized}
use Rattle.value_requests.specs.declared.request.Request.{Request}

-- a redirect from this URL to another origin, while the request's origin was not that of the URL
abbrev pub taints : Origin → Parts → Parts → Bool
taints origin url next =
    not (have_same_origin url next) && not (is_origin_of origin url)

-- "redirect-tainted": some URL of a list and the one after it taint
abbrev pub tainted_from : Origin → Parts → List Parts → Bool
tainted_from origin url [] = false
tainted_from origin url (next ∷ urls) = taints origin url next || tainted_from origin next urls

-- a URL list has a tainted origin
abbrev pub has_tainted_origin : Origin → List Parts → Bool
has_tainted_origin origin [] = false
has_tainted_origin origin (url ∷ urls) = tainted_from origin url urls

-- "serializing a request origin": `null` for a tainted origin, and else the origin's text
abbrev pub serialized_request_origin : Request → Text
serialized_request_origin request =
    if has_tainted_origin request.origin request.urls then codes "null" else serialized request.origin
