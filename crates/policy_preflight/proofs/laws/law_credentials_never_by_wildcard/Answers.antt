use Rattle.std.proofs.Common.{◌≡◌, Bool, false, subst, sym}
use Rattle.policy_checks.specs.CorsCheck.{passes_cors_check}
use Rattle.policy_checks.specs.RequestOrigins.{serialized_request_origin}
use Rattle.policy_preflight.proofs.OriginLemmas.{no-star}
use Rattle.policy_preflight.proofs.laws.law_credentials_never_by_wildcard.Goals as goal

pub returns : goal.returns
returns c = λ request headers include star.
    subst (λ (b : Bool). passes_cors_check (serialized_request_origin request) b headers ≡ false) (sym include)
    (c.law_star_passes_no_other.ensures (serialized_request_origin request) headers (no-star request) star)
