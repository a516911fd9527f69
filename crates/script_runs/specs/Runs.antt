-- A document's run: its script's commands in order, each fetch with what it shows and what it came to
-- (Fetch, section 5.6, for each `fetch` of a script), its clock, and the limits at which a run ends early.
use Rattle.std.specs.Prelude.{ℕ, zero, suc, ◌+◌, nat_le, nat_lt, List, [], ◌∷◌, ◌++◌, map, sum_by, Option, Some}
use Rattle.std.specs.Prelude.{None, option_map, Result, Ok, Err, if◌then◌else◌}
use Rattle.value_requests.specs.declared.policy.Destination.TheVariants as destination
use Rattle.value_requests.specs.declared.response.Outcome.TheVariants as outcome
use Rattle.script_scenarios.specs.Scripts as script
use Rattle.script_events.specs.declared.events.Event.TheVariants as event
use Rattle.script_runs.specs.Words.{Client, Commands, Context, Cookie, Destination, Document, Ending, Event, Fetches}
use Rattle.script_runs.specs.Words.{Finished, Outcome, Policy, Process, Request, Step, Steps, Test, Text, TypeFault}
use Rattle.script_runs.specs.Words.{act, client_of, context_of, ended, event_length, fetch, filled_init, filled_load}
use Rattle.script_runs.specs.Words.{holds, http_whitespace, last_result, new_load, new_request, trimmed}
use Rattle.script_runs.specs.Play.{Play, over, emit, step, events_of}

-- What the fetches of a document have in common: its client, the document's policies, and the table of cookies.
pub record Setting : Type 0 where
  pub client : Client
  pub policies : List Policy
  pub cookies : List Cookie

-- a setting of these
abbrev pub setting : Client → List Policy → List Cookie → Setting
setting client policies cookies = record { client = client; policies = policies; cookies = cookies }

-- what a fetch is lent at a time
abbrev pub at_time : Setting → ℕ → Context
at_time lent now = context_of lent.client lent.policies lent.cookies now

-- How far a run has come: its clock, in seconds, how many commands and how many fetches have started, and the events
-- so far.
pub record Progress : Type 0 where
  pub clock : ℕ
  pub commands : ℕ
  pub fetches : ℕ
  pub shown : List Event

-- what follows, by how far the run has come
abbrev pub Next : Type 0
Next = Progress → Play

-- ---- what is shown

-- how far a run has come once these events were shown too
abbrev pub after_events : List Event → Progress → Progress
after_events events progress = record progress { shown = progress.shown ++ events }

-- an event is shown, and then what follows
abbrev pub showing : Event → Next → Next
showing event next progress = emit event (next (after_events (event ∷ []) progress))

-- a fetch inside a run, and what follows its outcome
abbrev pub embed : Process → (Outcome → Next) → Next
embed (ended outcome) next progress = next outcome progress
embed (act request first after) next progress =
    step request first (λ input. embed (after input) next (after_events (events_of first input) progress))

-- ---- the limits

abbrev pub most_commands : ℕ
most_commands = 16384

abbrev pub most_fetches : ℕ
most_fetches = 1024

abbrev pub most_printed : ℕ
most_printed = 8388608

-- how many bytes the lines of events have
abbrev pub text_length : List Event → ℕ
text_length events = sum_by event_length events

-- the limit that a run has reached before a fetch
abbrev pub fetch_limit : Progress → Option Ending
fetch_limit progress =
    if nat_le most_fetches progress.fetches then Some Fetches
    else if nat_lt most_printed (text_length progress.shown) then Some Text
    else None

-- the limit that a command has of its own kind
abbrev pub own_limit : Step → Progress → Option Ending
own_limit (script.fetch init) progress = fetch_limit progress
own_limit (script.load init) progress = fetch_limit progress
own_limit _ progress = None

-- the limit that a run has reached before a command
abbrev pub limit_before : Step → Progress → Option Ending
limit_before one progress = if nat_le most_commands progress.commands then Some Commands else own_limit one progress

-- ---- what is shown of a fetch and of a load

-- a fetch or a load starts, with this number
abbrev pub start_event : Destination → ℕ → Event
start_event destination.Fetch number = event.Fetch number
start_event kind number = event.Load number kind

-- there is no request
abbrev pub fault_event : Destination → TypeFault → Event
fault_event destination.Fetch fault = event.TypeError fault
fault_event kind fault = event.LoadError fault

-- what a load came to: it succeeded, or failed by its network error
abbrev pub load_event : Outcome → Event
load_event (outcome.Error error) = event.LoadFailed error
load_event came = event.Result came

-- what a fetch or a load came to
abbrev pub outcome_event : Destination → Outcome → Event
outcome_event destination.Fetch came = event.Result came
outcome_event kind came = load_event came

-- ---- commands

-- the fetch of a request at the run's time, or the fault where none was made
abbrev pub fetched : Setting → Destination → Result Request TypeFault → Next → Next
fetched lent kind (Err fault) next progress = showing (fault_event kind fault) next progress
fetched lent kind (Ok request) next progress =
    embed (fetch (at_time lent progress.clock) request) (λ came. showing (outcome_event kind came) next) progress

-- a command has started
abbrev pub started : Progress → Progress
started progress = record progress { commands = progress.commands + 1 }

-- a fetch or a load has started
abbrev pub fetch_started : Progress → Progress
fetch_started progress = record progress { fetches = progress.fetches + 1 }

-- a fetch or a load: its number, and what comes of its request
abbrev pub asked : Setting → Destination → Result Request TypeFault → Next → Next
asked lent kind made next progress =
    showing (start_event kind progress.fetches) (fetched lent kind made next) (fetch_started progress)

-- this many seconds have passed
abbrev pub waited : ℕ → Progress → Progress
waited seconds progress = record progress { clock = progress.clock + seconds }

-- a part of a script, this many times
abbrev pub repeated : ℕ → (Next → Next) → Next → Next
repeated zero part next progress = next progress
repeated (suc n) part next progress = part (repeated n part next) progress

-- a run ends at its clock
abbrev pub ends : Ending → Next
ends ending progress = over ending progress.clock

-- a run that has reached a limit is over; else it goes on
abbrev pub unless_limit : Option Ending → Next → Next
unless_limit (Some ending) next progress = ends ending progress
unless_limit None next progress = next progress

-- the last result of a run
abbrev pub last_of : Progress → Option Event
last_of progress = last_result progress.shown

-- one of two parts of a script, by a condition on the last result
abbrev pub chosen : Test → (Next → Next) → (Next → Next) → Next → Next
chosen test part other next progress =
    if holds test (last_of progress) then part next progress else other next progress

abbrev mutual
  -- what a command does
  pub command_run : Setting → Step → Next → Next
  command_run lent (script.fetch init) next progress =
      asked lent destination.Fetch (new_request lent.client (filled_init (last_of progress) init)) next progress
  command_run lent (script.load init) next progress =
      asked lent init.kind (new_load lent.client (filled_load (last_of progress) init)) next progress
  command_run lent (script.wait seconds) next progress = next (waited seconds progress)
  command_run lent (script.repeat times part) next progress = repeated times (script_run lent part) next progress
  command_run lent (script.choose test part other) next progress =
      chosen test (script_run lent part) (script_run lent other) next progress

  -- the commands, in order, up to a limit
  pub script_run : Setting → Steps → Next → Next
  script_run lent script.no_steps next progress = next progress
  script_run lent (script.step one more) next progress =
      unless_limit (limit_before one progress)
      (λ begun. command_run lent one (script_run lent more next) (started begun)) progress

-- a command that has started, and what it does
abbrev pub command_started : Setting → Step → Next → Next
command_started lent one next progress = command_run lent one next (started progress)

-- at this time nothing has started or been shown
abbrev pub beginning : ℕ → Progress
beginning base = record { clock = base; commands = 0; fetches = 0; shown = [] }

-- after the last command
abbrev pub finished : Next
finished progress = ends Finished progress

-- the client of a document
abbrev pub document_client : Document → Client
document_client document = client_of document.url document.top document.policy

-- a document's setting: its client, and its policies
abbrev pub setting_of : List Cookie → Document → Setting
setting_of cookies document = setting (document_client document) document.policies cookies

-- the whole run, from a time on
abbrev pub document_run : List Cookie → ℕ → Document → Play
document_run cookies base document = script_run (setting_of cookies document) document.script finished (beginning base)
