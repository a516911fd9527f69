-- A whole fetch, as one recursive definition (Fetch, section 4.1 to 4.8): main fetch, again after each redirect, and
-- at its end the checks of the response and the reading of its body.
-- Read it from the end: the last definition is the top one, and each hands on to those above it.
use Rattle.std.specs.Prelude.{ℕ, zero, suc, ◌-◌, Ok, Err}
use Rattle.fetch_definitions.specs.Words.{Ended, Error, Input, Over, Process, ReadBody, Reads, Request, Response}
use Rattle.fetch_definitions.specs.Words.{TooManyRedirects, act, ended, ended_under, most_redirects, outcome_of}
use Rattle.fetch_definitions.specs.Words.{response_violations}
use Rattle.fetch_definitions.specs.MainFetch.{main_fetch}
use Rattle.fetch_definitions.specs.Then.{Context, Onward, Then, body_of, tell_all}

-- ---- the end

-- the body is at its end
abbrev pub after_body : Request → Response → Input → Process
after_body request response input = ended (outcome_of request response (body_of input))

-- the fetch is over, or the body is read
abbrev pub ends : Request → Ended → Process
ends request (Over outcome) = ended outcome
ends request (Reads response) = act request ReadBody (after_body request response)

-- the end of a fetch: a network error is its outcome; of a response the violated policies are told, and then it is
-- blocked, handed over, or its body is read (main fetch, steps 14 to 23)
abbrev pub finished : Context → Then
finished context request (Err error) = ended (Error error)
finished context request (Ok head) =
    tell_all request (response_violations context.policies request context.client.origin)
    (ends request (ended_under context.policies context.client.origin request head))

-- ---- the whole

-- main fetch again, after at most so many redirects more; where none is left the last was refused before
abbrev pub again : ℕ → Context → Onward
again zero context next request = next request (Err TooManyRedirects)
again (suc left) context next request = main_fetch (again left context) context next request

-- how a redirect of the request goes on
abbrev pub onward_of : Context → Request → Onward
onward_of context request = again (most_redirects - request.redirects) context

-- a whole fetch
abbrev pub fetch : Context → Request → Process
fetch context request = main_fetch (onward_of context request) context (finished context) request
