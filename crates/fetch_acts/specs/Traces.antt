-- What a process does in a world that answers it.
use Rattle.std.specs.Prelude.{◌≡◌, List, [], ◌∷◌, ◌++◌, Some, IsTrue}
use Rattle.value_requests.specs.declared.request.Request.{Request}
use Rattle.value_requests.specs.declared.response.Outcome.{Outcome}
use Rattle.fetch_acts.specs.Process.{Process, act, ended, fits}
use Rattle.fetch_acts.specs.Readings.{shown}
use Rattle.fetch_acts.specs.declared.act.Act.{Act}
use Rattle.fetch_acts.specs.declared.act.Input.{Input}

-- By exchanges, from a world: with exactly these items of a tape the first process shows these events, and goes on as
-- the second in the world that is left.
pub data Trace {World Event : Type 0} (exchange : World → Act → Input → List Event → World → Type 0) : Process
    → World → List Input → List Event → Process → World → Type 0 where
  stop : {p : Process} {world : World} → Trace exchange p world [] [] p world
  stepped : {q : Process} {world mid last : World} {tape : List Input} {made events : List Event}
      → (request : Request) (first : Act) (after : Input → Process) (input : Input)
      → exchange world first input made mid → IsTrue (fits first input)
      → Trace exchange (after input) mid tape events q last
      → Trace exchange (act request first after) world (input ∷ tape) (made ++ events) q last

-- an exchange in a world that answers, with the events that an act and its input show
abbrev pub with_events : {World Event : Type 0} → (World → Act → Input → World → Type 0) → (Act → Input → List Event)
    → World → Act → Input → List Event → World → Type 0
with_events answers events_of world first input made mid =
    answers world first input mid × (made ≡ events_of first input)

-- A drive from one world to another: for some tape each item is the world's answer, and what was shown is what the
-- process shows over that tape.
pub record Driven {World Event : Type 0} (answers : World → Act → Input → World → Type 0)
    (events_of : Act → Input → List Event) (whole : Process) (old : World) (events : List Event) (outcome : Outcome)
    (new : World) : Type 0 where
  pub tape : List Input
  pub trace : Trace (with_events answers events_of) whole old tape events (ended outcome) new
  pub shows : shown events_of whole tape ≡ record { events = events; outcome = Some outcome }
