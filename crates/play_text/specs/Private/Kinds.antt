-- The events that the summary of a play counts, by their kind (private contracts).
use Rattle.std.specs.Prelude.{Bool}
use Rattle.script_events.specs.declared.events.Event.{Event}
use Rattle.play_text.specs.declared.summary.Kind.{Kind}
use Rattle.play_text.specs.declared.summary.Kind.TheVariants.{Fetch, Request, Response, Error}
use Rattle.play_text.specs.Summary.{is_fetch, is_request, is_response, is_error}

-- whether an event is of the kind
abbrev pub is_of : Kind → Event → Bool
is_of Fetch event = is_fetch event
is_of Request event = is_request event
is_of Response event = is_response event
is_of Error event = is_error event
