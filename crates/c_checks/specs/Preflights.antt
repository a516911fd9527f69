-- The preflight of a request, and the verdict on its answer.
use Rattle.std.specs.Prelude.{Option, Some, None, option_map, Result, Ok, Err, if◌then◌else◌}
use Rattle.c_checks.specs.Words.{Asked, Checked, Client, Head, Hop, NotHttp, PreflightHeader, Preflights, Refusal}
use Rattle.c_checks.specs.Words.{Refused, Request, Setup, Switch, Text, and_then, current_url, is_http_url}
use Rattle.c_checks.specs.Words.{preflight_of, request_bytes, serialized_request_origin, switch_of, unsafe_names}
use Rattle.c_checks.specs.Words.{verdict, with_referrer}
use Rattle.c_checks.specs.Requested.{request_of}

-- the preflight of a request with its referrer, where main fetch sends one
abbrev pub preflight_where : Switch → Request → Option Hop
preflight_where Preflights request = Some (preflight_of request (unsafe_names request.headers))
preflight_where _ request = None

-- the same of a client's request at an http or https URL
abbrev pub preflight_by : Client → Request → Result (Option Hop) Refusal
preflight_by client request =
    if is_http_url (current_url request)
    then Ok (preflight_where (switch_of request) (with_referrer client request)) else Err NotHttp

-- the preflight of what is asked for, if one is sent
abbrev pub preflight : Setup → Asked → Result (Option Hop) Refusal
preflight settings asked = and_then (request_of settings asked) (preflight_by settings.client)

-- the verdict on the head that answers it
abbrev pub verdict_by : Head → Request → Checked
verdict_by head request = verdict request (serialized_request_origin request) (unsafe_names request.headers) head

abbrev pub preflight_verdict : Setup → Asked → Head → Result Checked Refusal
preflight_verdict settings asked head =
    and_then (request_of settings asked) (λ request. Ok (verdict_by head request))

-- the bytes of the preflight
abbrev pub preflight_bytes : Setup → Asked → Result (Option Text) Refusal
preflight_bytes settings asked =
    and_then (preflight settings asked) (λ hop. Ok (option_map request_bytes hop))

-- the name of the header that a verdict refuses, if it does so for a header
abbrev pub name_refused : Checked → Option Text
name_refused (Refused (PreflightHeader name)) = Some name
name_refused _ = None

abbrev pub refused_name : Setup → Asked → Head → Result (Option Text) Refusal
refused_name settings asked head =
    and_then (preflight_verdict settings asked head) (λ checked. Ok (name_refused checked))
