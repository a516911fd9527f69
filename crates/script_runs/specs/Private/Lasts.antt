-- Where the last result among events is (private contracts).
use Rattle.std.specs.Prelude.{◌≡◌, ◌<◌, ℕ, List, length, slice_get, Option, Some, None, if◌then◌else◌}
use Rattle.script_events.specs.declared.events.Event.{Event}
use Rattle.script_filling.specs.Results.{is_result, last_result}

-- where it is once an event was added after so many
abbrev pub last_index : Option ℕ → ℕ → Event → Option ℕ
last_index last count event = if is_result event then Some count else last

-- it is there
abbrev pub IsLast : Option ℕ → List Event → Type 0
IsLast None events = last_result events ≡ None
IsLast (Some index) events = (index < length events) × (last_result events ≡ slice_get events index)
