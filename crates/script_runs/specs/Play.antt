-- A document's run as a tree: what it shows, the acts of its fetches, and its ending (this project's own; Fetch,
-- section 5.6, where a script calls `fetch`).
use Rattle.std.specs.Prelude.{ℕ, List, [], ◌∷◌, ◌++◌, Option, Some, None, if◌then◌else◌}
use Rattle.script_runs.specs.Words.{Act, Ask, Call, Done, Ending, Event, Input, ReadBody, ReadHead, Replied, Reply}
use Rattle.script_runs.specs.Words.{Request, Send, Sent, Tell, Told, fits}

-- A run is over, with an ending and the clock then; or it shows an event and goes on; or it acts for a
-- request and goes on from the input that comes.
pub data Play : Type 0 where
  over : Ending → ℕ → Play
  emit : Event → Play → Play
  step : Request → Act → (Input → Play) → Play

-- the reply that an input brings
abbrev pub reply_of : Input → Reply
reply_of (Replied reply) = reply
reply_of _ = Done

-- what an act shows when its input has come: a call of the book with its reply, a request that was sent, also one that
-- failed, and a violation; what is read shows nothing
abbrev pub events_of : Act → Input → List Event
events_of (Ask op) input = Call op (reply_of input) ∷ []
events_of (Send hop) input = Sent hop ∷ []
events_of ReadHead input = []
events_of ReadBody input = []
events_of (Tell violation) input = Told violation ∷ []

-- What a run has shown, and its ending with the clock where it came to one.
pub record PlayRun : Type 0 where
  pub events : List Event
  pub ending : Option (Ending × ℕ)

-- the events, and then what the rest showed
abbrev pub shows : List Event → PlayRun → PlayRun
shows events rest = record { events = events ++ rest.events; ending = rest.ending }

-- nothing was shown
abbrev pub unseen : PlayRun
unseen = record { events = []; ending = None }

-- what follows an act over a tape: nothing where the tape ends or its first item does not fit
abbrev pub play_on : Act → (Input → List Input → PlayRun) → List Input → PlayRun
play_on first after [] = unseen
play_on first after (input ∷ tape) =
    if fits first input then shows (events_of first input) (after input tape) else unseen

-- the run over a tape, as far as the tape goes and its items fit
abbrev pub run_play : Play → List Input → PlayRun
run_play (over ending clock) tape = record { events = []; ending = Some (ending, clock) }
run_play (emit event rest) tape = shows (event ∷ []) (run_play rest tape)
run_play (step request first after) tape = play_on first (λ input. run_play (after input)) tape
