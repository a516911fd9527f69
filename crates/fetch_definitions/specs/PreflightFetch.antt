-- HTTP fetch with a CORS-preflight (Fetch, section 4.4 "HTTP fetch" and section 4.8 "CORS-preflight fetch"): the
-- preflight cache is asked, a preflight is sent where it does not cover the request, and after an error what is known
-- of the request, as it is by then, is taken back.
-- Read it from the end: the last definition is the top one, and each hands on to those above it.
use Rattle.std.specs.Prelude.{Bool, List, Result, Ok, Err, if◌then◌else◌}
use Rattle.fetch_definitions.specs.Words.{Ask, Checked, Head, Input, LinkFault, NetError, Pass, Process, ReadHead}
use Rattle.fetch_definitions.specs.Words.{Refused}
use Rattle.fetch_definitions.specs.Words.{Request, Send, Text, act, clear_of, covers_of, learn_of, note_of}
use Rattle.fetch_definitions.specs.Words.{preflight_of}
use Rattle.fetch_definitions.specs.Words.{serialized_request_origin, unsafe_names, verdict}
use Rattle.fetch_definitions.specs.HttpFetch.{http_fetch}
use Rattle.fetch_definitions.specs.Then.{Context, Onward, Then, head_of, said_yes, then_ask, then_ask_where, was_sent}

-- an error takes back what the preflight cache has learned of the request as it then is (main fetch, step 12, the case
-- with a preflight), and is passed on
abbrev pub clearing : Context → Then → Then
clearing context next request (Ok head) = next request (Ok head)
clearing context next request (Err error) =
    then_ask request (clear_of context.client request context.now) (next request (Err error))

-- the CORS-unsafe request-header names of a request
abbrev pub names_of : Request → List Text
names_of request = unsafe_names request.headers

-- the verdict on the answer to the preflight: what it allows is learned (CORS-preflight fetch, steps 7.12 to 7.15), and
-- the request itself is sent
abbrev pub preflight_judged : Onward → Context → Then → Request → Checked → Process
preflight_judged onward context next request (Refused error) = next request (Err error)
preflight_judged onward context next request (Pass age methods names) =
    then_ask request (learn_of context.client request age methods names context.now)
    (http_fetch onward context next request)

-- the head of the answer to the preflight has come, or a network error: known hosts are noted by it too
abbrev pub preflight_answered : Onward → Context → Then → Request → Result Head NetError → Process
preflight_answered onward context next request (Err error) = next request (Err error)
preflight_answered onward context next request (Ok head) =
    then_ask_where request (note_of context.now request head)
    (preflight_judged onward context next request
    (verdict request (serialized_request_origin request) (names_of request) head))

-- the same of an input
abbrev pub after_preflight_head : Onward → Context → Then → Request → Input → Process
after_preflight_head onward context next request input =
    preflight_answered onward context next request (head_of input)

-- the head of the answer is read, unless the link failed
abbrev pub read_preflight_head : Onward → Context → Then → Request → Bool → Process
read_preflight_head onward context next request sent =
    if sent then act request ReadHead (after_preflight_head onward context next request)
    else next request (Err LinkFault)

-- the preflight is on its way, or the link failed
abbrev pub after_preflight_sent : Onward → Context → Then → Request → Input → Process
after_preflight_sent onward context next request input =
    read_preflight_head onward context next request (was_sent input)

-- "CORS-preflight fetch": the preflight is sent (step 6)
abbrev pub preflight_fetch : Onward → Context → Then → Request → Process
preflight_fetch onward context next request =
    act request (Send (preflight_of request (names_of request))) (after_preflight_sent onward context next request)

-- the preflight cache covers the request, or a preflight goes before it (HTTP fetch, step 4.1)
abbrev pub covered_or_not : Onward → Context → Then → Request → Bool → Process
covered_or_not onward context next request covered =
    if covered then http_fetch onward context next request else preflight_fetch onward context next request

-- the same of an input
abbrev pub after_covers : Onward → Context → Then → Request → Input → Process
after_covers onward context next request input = covered_or_not onward context next request (said_yes input)

-- HTTP fetch with a CORS-preflight: the cache is asked (step 4.1), and an error from here on is followed by a clear
abbrev pub with_preflight : Onward → Context → Then → Request → Process
with_preflight onward context next request =
    act request (Ask (covers_of context.client request context.now))
    (after_covers onward context (clearing context next) request)
