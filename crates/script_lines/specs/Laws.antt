-- Laws of the lines of an event.
use Rattle.std.specs.Prelude.{◌≡◌, length}
use Rattle.script_events.specs.declared.events.Event.{Event}
use Rattle.script_lines.specs.Lengths.{event_length}
use Rattle.script_lines.specs.Lines.{event_text}

-- the lines of an event are as long as it says
abbrev pub HaveLengths : Type 0
HaveLengths = (event : Event) → length (event_text event) ≡ event_length event
