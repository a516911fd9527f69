-- The last result of a script, as its conditions and its templates see it (this project's own; Fetch, sections 5.5 and
-- 5.6, for what a script may read of a response).
use Rattle.std.specs.Prelude.{ℕ, Bool, true, false, ◌==◌, List, [], ◌∷◌, drop, codes, decimal, bytes_eq, Option}
use Rattle.std.specs.Prelude.{Some, None, option_map, option_and_then, unwrap_or, if◌then◌else◌}
use Rattle.std.specs.Borrow.{Bor}
use Rattle.std.specs.Option.{option_or}
use Rattle.value_text.specs.Texts.{Text}
use Rattle.value_text.specs.Mime.{is_text}
use Rattle.value_headers.specs.Headers.{combined}
use Rattle.value_requests.specs.declared.response.BodyEnd.{BodyEnd}
use Rattle.value_requests.specs.declared.response.BodyEnd.TheVariants.{Whole}
use Rattle.value_requests.specs.declared.response.Outcome.{Outcome}
use Rattle.value_requests.specs.declared.response.Outcome.TheVariants as outcome
use Rattle.value_requests.specs.declared.response.Response.{Response}
use Rattle.value_requests.specs.Names.{kind_name}
use Rattle.value_requests.specs.Statuses.{is_ok_status}
use Rattle.script_scenarios.specs.declared.command.Test.{Test}
use Rattle.script_scenarios.specs.declared.command.Test.TheVariants.{IsOk, IsError, TypeIs, StatusIs, BodyIs}
use Rattle.script_events.specs.declared.events.Event.{Event}
use Rattle.script_events.specs.declared.events.Event.TheVariants as event

-- ---- the last result

-- the event says what a fetch or a load came to
abbrev pub is_result : Event → Bool
is_result (event.Result outcome) = true
is_result (event.LoadFailed error) = true
is_result (event.TypeError fault) = true
is_result (event.LoadError fault) = true
is_result _ = false

-- the event, where it is a result
abbrev pub result_in : Event → Option Event
result_in shown = if is_result shown then Some shown else None

-- the last result among events
abbrev pub last_result : List Event → Option Event
last_result [] = None
last_result (shown ∷ events) = option_or (last_result events) (result_in shown)

-- ---- its parts

-- the type of what a fetch came to, or a load that succeeded
abbrev pub outcome_type : Outcome → Text
outcome_type (outcome.Answer response) = kind_name response.kind
outcome_type outcome.Loaded = codes "loaded"
outcome_type (outcome.Error error) = codes "error"

-- the type of a result
abbrev pub result_type : Event → Text
result_type (event.Result outcome) = outcome_type outcome
result_type (event.TypeError fault) = codes "type-error"
result_type (event.LoadFailed error) = codes "failed"
result_type (event.LoadError fault) = codes "failed"
result_type _ = []

-- the type of the last result
abbrev pub type_of : Option Event → Text
type_of None = codes "none"
type_of (Some shown) = result_type shown

-- the response of a result, where it is one
abbrev pub response_of : Event → Option Response
response_of (event.Result (outcome.Answer response)) = Some response
response_of _ = None

abbrev pub response_in : Option Event → Option Response
response_in last = option_and_then response_of last

-- the status of a response, or 0 where there is none
abbrev pub status_of : Option Response → ℕ
status_of None = 0
status_of (Some response) = response.status

-- the URL of a response, or nothing where there is none
abbrev pub url_of : Option Response → Text
url_of None = []
url_of (Some response) = unwrap_or response.url []

-- the bytes of a body that came whole
abbrev pub whole_body : BodyEnd → Option Text
whole_body (Whole bytes) = Some bytes
whole_body _ = None

abbrev pub body_in : Option Response → Option Text
body_in None = None
body_in (Some response) = whole_body response.body

-- what "get" gives of a response's headers for a name, or nothing
abbrev pub header_of : Text → Option Response → Text
header_of name None = []
header_of name (Some response) = unwrap_or (combined name response.headers) []

-- ---- templates

-- the value of a placeholder's name; without a response the status is 0, without a result the type is `none`, and
-- whatever else is not there is empty
abbrev pub value_of : Option Event → Text → Text
value_of last name =
    if bytes_eq name (codes "status") then decimal (status_of (response_in last))
    else if bytes_eq name (codes "type") then type_of last
    else if bytes_eq name (codes "url") then url_of (response_in last)
    else if bytes_eq name (codes "body") then unwrap_or (body_in (response_in last)) []
    else header_of (drop 7 name) (response_in last)

-- ---- conditions

-- a network error, or a fault for which there was no request
abbrev pub is_error : Option Event → Bool
is_error (Some (event.Result (outcome.Error error))) = true
is_error (Some (event.LoadFailed error)) = true
is_error (Some (event.TypeError fault)) = true
is_error (Some (event.LoadError fault)) = true
is_error _ = false

-- the condition holds of the last result
abbrev pub holds : Test → Option Event → Bool
holds IsOk last = is_ok_status (status_of (response_in last))
holds IsError last = is_error last
holds (TypeIs name) last = bytes_eq (type_of last) name
holds (StatusIs status) last = status_of (response_in last) == status
holds (BodyIs bytes) last = is_text bytes (body_in (response_in last))

-- ---- lent results

-- a result that is lent, as itself
abbrev pub lent_result : Option (Bor Event) → Option Event
lent_result last = option_map (λ shown. shown.now) last
