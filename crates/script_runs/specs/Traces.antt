-- What a document's run does in a world that answers it.
use Rattle.std.specs.Prelude.{List, [], ◌∷◌, ◌++◌, IsTrue}
use Rattle.fetch_acts.specs.declared.act.Act.{Act}
use Rattle.fetch_acts.specs.declared.act.Input.{Input}
use Rattle.fetch_acts.specs.Process.{fits}
use Rattle.value_requests.specs.declared.request.Request.{Request}
use Rattle.script_events.specs.declared.events.Event.{Event}
use Rattle.script_runs.specs.Play.{Play, emit, step, events_of}

-- By the answers of a world, and by what the world comes to with each event that the run itself shows: with exactly
-- these items of a tape the first run shows these events, and goes on as the second in the world that is left.
pub data PlayTrace {World : Type 0} (answers : World → Act → Input → World → Type 0)
    (settles : Event → World → World → Type 0) : Play → World → List Input → List Event → Play → World → Type 0 where
  stop : {p : Play} {world : World} → PlayTrace answers settles p world [] [] p world
  shown : {p q : Play} {world mid last : World} {tape : List Input} {events : List Event} → (event : Event)
      → settles event world mid → PlayTrace answers settles p mid tape events q last
      → PlayTrace answers settles (emit event p) world tape (event ∷ events) q last
  stepped : {q : Play} {world mid last : World} {tape : List Input} {events : List Event}
      → (request : Request) (first : Act) (after : Input → Play) (input : Input) → answers world first input mid
      → IsTrue (fits first input) → PlayTrace answers settles (after input) mid tape events q last
      → PlayTrace answers settles (step request first after) world (input ∷ tape) (events_of first input ++ events)
      q last
