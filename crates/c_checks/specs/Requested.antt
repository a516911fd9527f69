-- The request that rules look at: what a client asks for, and perhaps after a redirect.
use Rattle.std.specs.Prelude.{◌==◌, ◌&&◌, length, nat_lt, Result, Ok, Err, if◌then◌else◌}
use Rattle.c_checks.specs.Words.{Asked, NoRequest, Parts, Refusal, Request, Setup, Text, TypeFault, and_then}
use Rattle.c_checks.specs.Words.{current_url, is_http_url, most_redirects, moved_to, request_for, web_url_in}

-- a request, or none
abbrev pub request_or_refusal : Result Request TypeFault → Result Request Refusal
request_or_refusal (Ok request) = Ok request
request_or_refusal (Err fault) = Err NoRequest

-- the request that a client makes of what is asked for
abbrev pub request_of : Setup → Asked → Result Request Refusal
request_of settings asked = request_or_refusal (request_for settings asked)

-- the request after a redirect to a URL that keeps its method and names no policy, which a request at an http or https
-- URL can follow
abbrev pub redirected_to : Request → Parts → Result Request Refusal
redirected_to request url =
    if is_http_url (current_url request) && nat_lt request.redirects most_redirects
    then Ok (moved_to url request) else Err NoRequest

-- the request after such a redirect to the URL that a text gives; an empty text stands for no redirect
abbrev pub redirected_by : Text → Request → Result Request Refusal
redirected_by redirect request =
    if length redirect == 0 then Ok request else and_then (web_url_in redirect) (redirected_to request)

-- the request of what is asked for, perhaps after a redirect
abbrev pub request_at : Setup → Asked → Text → Result Request Refusal
request_at settings asked redirect = and_then (request_of settings asked) (redirected_by redirect)
