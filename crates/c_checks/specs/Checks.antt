-- Mixed content and policies: what is asked of a request before it is sent.
use Rattle.std.specs.Prelude.{Bool, true, false, List, Result, Ok}
use Rattle.c_checks.specs.Words.{Asked, Client, Policy, Refusal, Request, Setup, Text, Violation, and_then, is_blocked}
use Rattle.c_checks.specs.Words.{is_upgraded, request_violations, response_violations}
use Rattle.c_checks.specs.Requested.{request_at}
use Rattle.c_checks.specs.declared.checks.Check.{Check}
use Rattle.c_checks.specs.declared.checks.Check.TheVariants.{Enforced, ReportOnly, Response}

-- "upgrade a mixed content request to a potentially trustworthy URL, if appropriate": it is upgraded
abbrev pub is_mixed_upgraded : Setup → Asked → Text → Result Bool Refusal
is_mixed_upgraded settings asked redirect =
    and_then (request_at settings asked redirect)
    (λ request. Ok (is_upgraded request settings.client.origin settings.client.top))

-- "should fetching request be blocked as mixed content?"
abbrev pub is_mixed_blocked : Setup → Asked → Text → Result Bool Refusal
is_mixed_blocked settings asked redirect =
    and_then (request_at settings asked redirect)
    (λ request. Ok (is_blocked request settings.client.origin settings.client.top))

-- the violations by a check of a client's request
abbrev pub violations_by : Check → List Policy → Client → Request → List Violation
violations_by Enforced policies client request = request_violations policies request client.origin true
violations_by ReportOnly policies client request = request_violations policies request client.origin false
violations_by Response policies client request = response_violations policies request client.origin

abbrev pub violations_of : Check → List Policy → Setup → Asked → Text → Result (List Violation) Refusal
violations_of check policies settings asked redirect =
    and_then (request_at settings asked redirect)
    (λ request. Ok (violations_by check policies settings.client request))
