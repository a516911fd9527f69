-- What a fetch that waits will do, as a process: the meaning of the places of the machine. Only the contracts of its
-- calls cite it.
use Rattle.std.specs.Prelude.{◌≡◌, ℕ, zero, suc, Bool, true, false, List, [], drop, Some, Result, Ok, Err}
use Rattle.fetch_acts.specs.Process.{IsPlain, Process, Run, act, began, ended, followed, run}
use Rattle.fetch_acts.specs.declared.act.Act.{Act}
use Rattle.value_bytes.specs.declared.memory.OutOfMemory.{OutOfMemory}
use Rattle.fetch_machine.specs.declared.place.Fetching.{Fetching}
use Rattle.fetch_machine.specs.declared.place.Level.{Level}
use Rattle.fetch_machine.specs.declared.place.Place.{Place}
use Rattle.fetch_machine.specs.declared.place.Place.TheVariants as place
use Rattle.fetch_machine.specs.declared.place.Step.{Step}
use Rattle.fetch_machine.specs.declared.place.Step.TheVariants.{Going, Over}
use Rattle.fetch_definitions.specs.Fetch.{after_body, ends, finished, onward_of}
use Rattle.fetch_definitions.specs.HttpFetch.{after_head, after_sent, http_fetch, judged}
use Rattle.fetch_definitions.specs.MainFetch.{after_match, checked}
use Rattle.fetch_definitions.specs.PreflightFetch.{after_covers, after_preflight_head, after_preflight_sent, clearing}
use Rattle.fetch_definitions.specs.PreflightFetch.{preflight_judged}
use Rattle.fetch_definitions.specs.Words.{CspRequest, Input, Request, refusal_after, upgraded}
use Rattle.fetch_definitions.specs.Then.{Context, Onward, Then, tell_all}

-- so many clears after an error, and then the end
abbrev pub clears : Context → ℕ → Then
clears context zero = finished context
clears context (suc owed) = clearing context (clears context owed)

-- one clear more, where this level owes one
abbrev pub owing : Context → Bool → Then → Then
owing context true next = clearing context next
owing context false next = next

-- what follows what a level comes to
abbrev pub next_of : Context → ℕ → Bool → Then
next_of context owed owes = owing context owes (clears context owed)

-- a rule at a level: what it does with the level's request, and what follows
abbrev pub at_level : Context → Level → (Onward → Context → Then → Request → Process) → Process
at_level context level rule =
    rule (onward_of context level.request.value) context (next_of context level.owed level.owes) level.request.value

-- how it goes on from an input at a place
abbrev pub from_place : Onward → Context → Then → Request → Place → Input → Process
from_place onward context next request (place.Reporting violations at) input =
    tell_all request (drop at violations)
    (checked onward context next (upgraded context.client context.policies request))
from_place onward context next request (place.Blocking violations at) input =
    tell_all request (drop at violations) (next request (Err CspRequest))
from_place onward context next request place.Matching input = after_match onward context next request input
from_place onward context next request place.Covering input = after_covers onward context next request input
from_place onward context next request place.PreflightSending input =
    after_preflight_sent onward context next request input
from_place onward context next request place.PreflightReading input =
    after_preflight_head onward context next request input
from_place onward context next request (place.PreflightNoting verdict) input =
    preflight_judged onward context next request verdict
from_place onward context next request place.Learning input = http_fetch onward context next request
from_place onward context next request place.Sending input = after_sent onward context next request input
from_place onward context next request place.HeadReading input = after_head onward context next request input
from_place onward context next request (place.Noting head) input =
    judged onward next request head (refusal_after request head)
from_place onward context next request (place.Ending violations at end) input =
    tell_all request (drop at violations) (ends request end)
from_place onward context next request (place.BodyReading response) input = after_body request response input
from_place onward context next request (place.Clearing error) input = next request (Err error)

-- how it goes on from an input at a place of a level
abbrev pub rest_at : Context → Level → Place → Input → Process
rest_at context level place input =
    at_level context level (λ onward c next request. from_place onward c next request place input)

-- how it goes on from an input
abbrev pub rest : Context → Fetching → Input → Process
rest context fetching = rest_at context fetching.level fetching.place

-- The step asks for what the process does first, at the time of the context, and goes on as it does.
pub record IsGoing (context : Context) (fetching : Fetching) (first : Act) (whole : Process) : Type 0 where
  pub last : fetching.last.value ≡ first
  pub now : fetching.now ≡ context.now
  pub plain : IsPlain first
  pub process : whole ≡ act fetching.level.request.value first (rest context fetching)

-- the step is what the process does first
abbrev pub Does : Context → Step → Process → Type 0
Does context (Going fetching first) process = IsGoing context fetching first process
Does context (Over outcome) process = process ≡ ended outcome

-- the step is what the process does first, unless memory was refused
abbrev pub Leads : Context → Result Step OutOfMemory → Process → Type 0
Leads context (Ok step) process = Does context step process
Leads context (Err refused) process = Unit {0}

-- what a fetch that waits does over a tape
abbrev pub rest_of : Context → Fetching → List Input → Run
rest_of context fetching = followed fetching.last.value (λ input. run (rest context fetching input))

-- the step's act and what is left of the fetch, or its outcome, are what a run over any tape is
abbrev pub RunsAs : Context → Step → (List Input → Run) → Type 0
RunsAs context (Going fetching first) runs =
    (tape : List Input) → runs tape ≡ began first (rest_of context fetching tape)
RunsAs context (Over outcome) runs = (tape : List Input) → runs tape ≡ record { acts = []; outcome = Some outcome }

-- the level with another request
abbrev pub IsLevelWith : Request → Level → Level → Type 0
IsLevelWith request level made =
    (made.request.value ≡ request) × (made.owed ≡ level.owed) × (made.owes ≡ level.owes)
