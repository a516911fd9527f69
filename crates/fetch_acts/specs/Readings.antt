-- What may be read of a process over a tape: its run, or what a drive of it shows.
use Rattle.std.specs.Prelude.{List, [], ◌∷◌, ◌++◌, Option, Some, None, if◌then◌else◌}
use Rattle.value_requests.specs.declared.response.Outcome.{Outcome}
use Rattle.fetch_acts.specs.Process.{Process, Run, act, began, ended, fits, nothing}
use Rattle.fetch_acts.specs.declared.act.Act.{Act}
use Rattle.fetch_acts.specs.declared.act.Input.{Input}

-- What is read at the end; where the tape ends or its first item does not fit; of an act and what follows it; and of an
-- item that fits and what follows it.
pub record Reading (R : Type 0) : Type 0 where
  pub done : Outcome → R
  pub none : R
  pub begun : Act → R → R
  pub took : Act → Input → R → R

-- what is read from an act on
abbrev pub read_on : {R : Type 0} → Reading R → Act → (Input → List Input → R) → List Input → R
read_on reading first after [] = reading.none
read_on reading first after (input ∷ tape) =
    if fits first input then reading.took first input (after input tape) else reading.none

-- what is read of a process over a tape
abbrev pub read : {R : Type 0} → Reading R → Process → List Input → R
read reading (ended outcome) tape = reading.done outcome
read reading (act request first after) tape =
    reading.begun first (read_on reading first (λ input. read reading (after input)) tape)

-- the run is a reading
abbrev pub runs : Reading Run
runs = record {
  done = λ outcome. record { acts = []; outcome = Some outcome };
  none = nothing;
  begun = began;
  took = λ first input rest. rest;
}

-- What a process shows, and its outcome where it came to one.
pub record Shown (Event : Type 0) : Type 0 where
  pub events : List Event
  pub outcome : Option Outcome

-- these events, and then what the rest shows
abbrev pub before : {Event : Type 0} → List Event → Shown Event → Shown Event
before events rest = record { events = events ++ rest.events; outcome = rest.outcome }

-- what is shown is a reading, by the events of each act and its input
abbrev pub showing : {Event : Type 0} → (Act → Input → List Event) → Reading (Shown Event)
showing events_of = record {
  done = λ outcome. record { events = []; outcome = Some outcome };
  none = record { events = []; outcome = None };
  begun = λ first rest. rest;
  took = λ first input rest. before (events_of first input) rest;
}

-- what a process shows over a tape
abbrev pub shown : {Event : Type 0} → (Act → Input → List Event) → Process → List Input → Shown Event
shown events_of = read (showing events_of)
