-- What a script asks for, with the parts of the last result in the place of placeholders (this project's own; Fetch,
-- section 5.6, for what a script asks of `fetch`).
use Rattle.std.specs.Prelude.{map, Option, option_map}
use Rattle.value_text.specs.Trims.{http_whitespace, trimmed}
use Rattle.value_requests.specs.declared.init.Init.{Init}
use Rattle.value_requests.specs.declared.init.LoadInit.{LoadInit}
use Rattle.value_requests.specs.declared.init.Pair.{Pair}
use Rattle.script_scenarios.specs.Templates.{filled}
use Rattle.script_events.specs.declared.events.Event.{Event}
use Rattle.script_filling.specs.Results.{value_of}

-- a header's value, its placeholders replaced, and normalised then (Fetch, section 2.2.2)
abbrev pub filled_pair : Option Event → Pair → Pair
filled_pair last pair =
    record { name = pair.name; value = trimmed http_whitespace (filled (value_of last) pair.value) }

-- what a call of `fetch` asks for, with the parts of the last result in the place of placeholders: in its URL, in the
-- values of its headers and in its body
abbrev pub filled_init : Option Event → Init → Init
filled_init last init = record init {
  url = filled (value_of last) init.url;
  headers = map (filled_pair last) init.headers;
  body = option_map (filled (value_of last)) init.body;
}

-- what a load asks for, the same in its URL
abbrev pub filled_load : Option Event → LoadInit → LoadInit
filled_load last init = record init { url = filled (value_of last) init.url }
