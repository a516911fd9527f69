-- The text of a request's origin is never `*`.
use Rattle.std.proofs.Common.{◌≡◌, ◌≢◌, ℕ, ◌++◌, Bool, true, false, List, ap, arith, codes, cond, length, length-append}
use Rattle.std.proofs.Common.{refl}
use Rattle.policy_checks.specs.RequestOrigins.{has_tainted_origin, serialized_request_origin}
use Rattle.value_origins.specs.Origins.{host_text, port_text, serialized}
use Rattle.value_origins.specs.declared.origin.Origin.{Origin}
use Rattle.value_requests.specs.declared.request.Request.{Request}

-- a text that is longer than a byte is not `*`
longer : (a c d : List ℕ) → a ++ codes "://" ++ c ++ d ≢ codes "*"
longer a c d = λ is.
    let e : length (a ++ codes "://" ++ c ++ d) ≡ 1 = ap length is in
    let three : length (codes "://") ≡ 3 = refl in
    omega (
      arith,
      e,
      three,
      length-append (a ++ codes "://" ++ c) d,
      length-append (a ++ codes "://") c,
      length-append a (codes "://"),
    )

no-star-by : (tainted : Bool) (origin : Origin) → cond tainted (codes "null") (serialized origin) ≢ codes "*"
no-star-by true origin = λ is. let e : 4 ≡ 1 = ap length is in omega (arith, e)
no-star-by false origin = longer origin.scheme (host_text origin.host) (port_text origin.scheme origin.port)

pub no-star : (request : Request) → serialized_request_origin request ≢ codes "*"
no-star request = no-star-by (has_tainted_origin request.origin request.urls) request.origin
