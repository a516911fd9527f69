-- What holds of a request at the places where a fetch waits.
use Rattle.std.specs.Prelude.{Bool, true, false, ◌&&◌, IsTrue}
use Rattle.value_requests.specs.declared.request.Request.{Request}
use Rattle.value_requests.specs.Requests.{current_url, is_determined, is_http_url}
use Rattle.fetch_machine.specs.declared.place.Place.{Place}
use Rattle.fetch_machine.specs.declared.place.Place.TheVariants as place

-- its current URL is http or https
abbrev pub is_at_http : Request → Bool
is_at_http request = is_http_url (current_url request)

-- and its referrer was determined, so that it can be sent
abbrev pub is_sendable : Request → Bool
is_sendable request = is_at_http request && is_determined request.referrer

-- the request can be sent
abbrev pub IsReady : Request → Type 0
IsReady request = IsTrue (is_sendable request)

-- a request whose policies are asked is for an http or https URL, and one that is on its way can be sent
abbrev pub is_ready_at : Place → Request → Bool
is_ready_at (place.Reporting violations at) request = is_at_http request
is_ready_at (place.Blocking violations at) request = is_at_http request
is_ready_at (place.Ending violations at end) request = true
is_ready_at (place.BodyReading response) request = true
is_ready_at (place.Clearing error) request = true
is_ready_at _ request = is_sendable request

-- a level owes a clear before its switch
abbrev pub owes_early : Place → Bool → Bool
owes_early (place.Reporting violations at) owes = owes
owes_early (place.Blocking violations at) owes = owes
owes_early place.Matching owes = owes
owes_early _ owes = false
