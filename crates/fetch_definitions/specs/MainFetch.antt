-- Main fetch up to the response (Fetch, section 4.1): what is done with a request before it is sent.
-- Read it from the end: the last definition is the top one, and each hands on to those above it.
use Rattle.std.specs.Prelude.{true, false, List, [], ◌∷◌, Option, Some, None, Err, if◌then◌else◌}
use Rattle.value_requests.specs.declared.mode.Tainting.TheVariants as tainting
use Rattle.fetch_rules.specs.declared.switch.Switch.TheVariants.{Fetches, Preflights, Refuses}
use Rattle.fetch_definitions.specs.Words.{Ask, CspRequest, Input, NetError, Op, Process, Request, Scheme, Switch}
use Rattle.fetch_definitions.specs.Words.{Violation}
use Rattle.fetch_definitions.specs.Words.{act, current_url, is_http_url, match_of, refusal_before, request_violations}
use Rattle.fetch_definitions.specs.Words.{secured_where, switch_of, upgraded, with_referrer, with_tainting}
use Rattle.fetch_definitions.specs.HttpFetch.{http_fetch}
use Rattle.fetch_definitions.specs.PreflightFetch.{with_preflight}
use Rattle.fetch_definitions.specs.Then.{Context, Onward, Then, said_yes, tell_all}

-- the switch of main fetch (step 12): HTTP fetch with a tainting, with a preflight, or a network error
abbrev pub switched_by : Onward → Context → Then → Request → Switch → Process
switched_by onward context next request (Fetches kind) = http_fetch onward context next (with_tainting kind request)
switched_by onward context next request Preflights =
    with_preflight onward context next (with_tainting tainting.Cors request)
switched_by onward context next request (Refuses error) = next request (Err error)

-- the same by the request
abbrev pub switched : Onward → Context → Then → Request → Process
switched onward context next request = switched_by onward context next request (switch_of request)

-- the book said whether the host is known: a request to a known host is made over https (step 10)
abbrev pub after_match : Onward → Context → Then → Request → Input → Process
after_match onward context next request input =
    switched onward context next (secured_where (said_yes input) request)

-- the book is asked for the host, where there is a question (step 10)
abbrev pub matched_by : Onward → Context → Then → Request → Option Op → Process
matched_by onward context next request None = switched onward context next request
matched_by onward context next request (Some question) =
    act request (Ask question) (after_match onward context next request)

-- the same by the request
abbrev pub matched : Onward → Context → Then → Request → Process
matched onward context next request = matched_by onward context next request (match_of context.now request)

-- enforced policies are violated: each violation is told, and the request is blocked (step 7); else the request gets
-- its referrer policy and its referrer (steps 8 and 9)
abbrev pub unless_violated : Onward → Context → Then → Request → List Violation → Process
unless_violated onward context next request [] = matched onward context next (with_referrer context.client request)
unless_violated onward context next request (violation ∷ violations) =
    tell_all request (violation ∷ violations) (next request (Err CspRequest))

-- a bad port and mixed content block the request before its enforced policies are asked (step 7)
abbrev pub unless_refused : Onward → Context → Then → Request → Option NetError → Process
unless_refused onward context next request (Some error) = next request (Err error)
unless_refused onward context next request None =
    unless_violated onward context next request
    (request_violations context.policies request context.client.origin true)

-- the same by the request
abbrev pub checked : Onward → Context → Then → Request → Process
checked onward context next request =
    unless_refused onward context next request (refusal_before context.client request)

-- main fetch: a URL that is neither http nor https is refused (as in step 12: no other scheme is fetched here);
-- violated report-only policies are told (step 4); the request is upgraded (steps 5 and 6) and checked
abbrev pub main_fetch : Onward → Context → Then → Request → Process
main_fetch onward context next request =
    if is_http_url (current_url request)
    then tell_all request (request_violations context.policies request context.client.origin false)
    (checked onward context next (upgraded context.client context.policies request))
    else next request (Err Scheme)
