-- HTTP fetch and HTTP-redirect fetch (Fetch, sections 4.4 to 4.6): the request is sent, the head of its answer is read
-- and judged, and a redirect goes on.
-- Read it from the end: the last definition is the top one, and each hands on to those above it.
use Rattle.std.specs.Prelude.{Bool, Option, Some, None, Result, Ok, Err, if◌then◌else◌}
use Rattle.fetch_definitions.specs.Words.{Goes, Head, Input, LinkFault, NetError, Process, ReadHead, Redirection}
use Rattle.fetch_definitions.specs.Words.{Refuses}
use Rattle.fetch_definitions.specs.Words.{Request, Send, Stays, act, hop_of, note_of, redirected_request, redirection}
use Rattle.fetch_definitions.specs.Words.{refusal_after}
use Rattle.fetch_definitions.specs.Then.{Context, Onward, Then, head_of, then_ask_where, was_sent}

-- HTTP-redirect fetch: the answer is the response (its step 4), or is refused (steps 5 to 10), or main fetch goes on at
-- the new URL (step 22)
abbrev pub redirected : Onward → Then → Request → Head → Redirection → Process
redirected onward next request head Stays = next request (Ok head)
redirected onward next request head (Refuses error) = next request (Err error)
redirected onward next request head (Goes url) = onward next (redirected_request request head url)

-- the answer is judged by its checks (HTTP fetch, steps 4.4, 5 and 6)
abbrev pub judged : Onward → Then → Request → Head → Option NetError → Process
judged onward next request head (Some error) = next request (Err error)
judged onward next request head None = redirected onward next request head (redirection request head)

-- the head of the answer has come, or a network error: known hosts are noted by the head before it is judged
abbrev pub answered : Onward → Context → Then → Request → Result Head NetError → Process
answered onward context next request (Err error) = next request (Err error)
answered onward context next request (Ok head) =
    then_ask_where request (note_of context.now request head)
    (judged onward next request head (refusal_after request head))

-- the same of an input
abbrev pub after_head : Onward → Context → Then → Request → Input → Process
after_head onward context next request input = answered onward context next request (head_of input)

-- the head of the answer is read, unless the link failed
abbrev pub read_head : Onward → Context → Then → Request → Bool → Process
read_head onward context next request sent =
    if sent then act request ReadHead (after_head onward context next request) else next request (Err LinkFault)

-- the request is on its way, or the link failed
abbrev pub after_sent : Onward → Context → Then → Request → Input → Process
after_sent onward context next request input = read_head onward context next request (was_sent input)

-- HTTP fetch: the request is sent (step 4.3)
abbrev pub http_fetch : Onward → Context → Then → Request → Process
http_fetch onward context next request =
    act request (Send (hop_of context.cookies request)) (after_sent onward context next request)
