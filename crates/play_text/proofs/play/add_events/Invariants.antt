use Rattle.std.proofs.Common.{◌≡◌, ◌++◌, drop}
use Rattle.std.specs.List.{flat_map}
use Rattle.script_lines.specs.Lines as spec
use Rattle.play_text.proofs.play.add_events.Given as goal

abbrev pub invariant-loop-event : goal.invariant-loop-event
invariant-loop-event l =
    l.text ++ flat_map spec.event_text (drop l.event-index l.events)
    ≡ l.fn.text ++ flat_map spec.event_text l.events
