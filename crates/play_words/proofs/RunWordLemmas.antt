-- Each event of a document's run is plain.
use Rattle.std.proofs.Common.{ℕ, List, [], ◌∷◌}
use Rattle.std.specs.List.{AllByRecursion}
use Rattle.std.proofs.lemmas.Bool.{cond_both}
use Rattle.value_lemmas.proofs.Lists.{AllByRecursion-append}
use Rattle.value_requests.specs.declared.client.Cookie.{Cookie}
use Rattle.value_requests.specs.declared.fault.TypeFault.{TypeFault}
use Rattle.value_requests.specs.declared.policy.Destination.{Destination}
use Rattle.value_requests.specs.declared.policy.Destination.TheVariants as destination
use Rattle.value_requests.specs.declared.response.Outcome.{Outcome}
use Rattle.value_requests.specs.declared.response.Outcome.TheVariants as outcome
use Rattle.fetch_acts.specs.declared.act.Act.{Act}
use Rattle.fetch_acts.specs.declared.act.Act.TheVariants.{Ask, ReadBody, ReadHead, Send, Tell}
use Rattle.fetch_acts.specs.declared.act.Input.{Input}
use Rattle.fetch_acts.specs.Process.{Process, act, ended, fits}
use Rattle.fetch_definitions.specs.Fetch.{fetch}
use Rattle.script_scenarios.specs.declared.document.Document.{Document}
use Rattle.script_runs.specs.Play.{Play, emit, events_of, over, run_play, shows, step, unseen}
use Rattle.script_runs.specs.Runs.{Next, Progress, after_events, at_time, document_client, document_run, embed}
use Rattle.script_runs.specs.Runs.{fault_event, load_event, outcome_event, setting_of, showing, start_event}
use Rattle.script_runs.proofs.ScriptLemmas.{good-document}
use Rattle.play_text.specs.Plain.{IsPlainEvent, IsPlainOutcome}
use Rattle.play_words.specs.Given.{HasGiven}
use Rattle.play_words.proofs.MadeWordLemmas.{client-word, made-word}
use Rattle.play_words.proofs.ProcessWordLemmas.{IsPlainAct, IsPlainProcess, plain-fetch}

-- what the run shows is plain
abbrev IsPlainPlay : Play → Type 0
IsPlainPlay (over ending clock) = Unit {0}
IsPlainPlay (emit shown rest) = IsPlainEvent shown × IsPlainPlay rest
IsPlainPlay (step request first after) = IsPlainAct first × ((input : Input) → IsPlainPlay (after input))

-- ---- the events of a run that itself shows

start-plain : (kind : Destination) (number : ℕ) → IsPlainEvent (start_event kind number)
start-plain destination.Fetch number = tt
start-plain kind number = tt

fault-plain : (kind : Destination) (fault : TypeFault) → IsPlainEvent (fault_event kind fault)
fault-plain destination.Fetch fault = tt
fault-plain kind fault = tt

load-plain : (came : Outcome) → IsPlainOutcome came → IsPlainEvent (load_event came)
load-plain (outcome.Error reason) plain = plain
load-plain (outcome.Answer response) plain = plain
load-plain outcome.Loaded plain = plain

outcome-plain : (kind : Destination) (came : Outcome) → IsPlainOutcome came → IsPlainEvent (outcome_event kind came)
outcome-plain destination.Fetch came plain = plain
outcome-plain kind came plain = load-plain came plain

-- ---- a fetch inside a run

plain-embed : (process : Process) (next : Outcome → Next) (progress : Progress) → IsPlainProcess process
    → ((came : Outcome) (later : Progress) → IsPlainOutcome came → IsPlainPlay (next came later))
    → IsPlainPlay (embed process next progress)
plain-embed (ended came) next progress plain goes = goes came progress plain
plain-embed (act request first after) next progress plain goes = (
  plain.0,
  λ input. plain-embed (after input) next (after_events (events_of first input) progress) (plain.1 input) goes,
)

document-plain : (cookies : List Cookie) (base : ℕ) (document : Document) → HasGiven document
    → IsPlainPlay (document_run cookies base document)
document-plain cookies base document has =
    let client = client-word document has in
    good-document cookies base document IsPlainPlay (record {
      at_end = λ ending clock. tt;
      at_start = λ kind number rest good. (start-plain kind number, good);
      at_fault = λ kind fault rest good. (fault-plain kind fault, good);
      at_fetch = λ kind request next progress made stands good.
          let context = at_time (setting_of cookies document) progress.clock in
          plain-embed (fetch context request) (λ came. showing (outcome_event kind came) next) progress
          (plain-fetch context client.key request (made-word (document_client document) client request made))
          (λ came later plain. (
            outcome-plain kind came plain,
            good (after_events (outcome_event kind came ∷ []) later) tt,
          ));
    })

-- ---- its events

act-plain : (first : Act) (input : Input) → IsPlainAct first → AllByRecursion IsPlainEvent (events_of first input)
act-plain (Ask op) input plain = (plain, tt)
act-plain (Send hop) input plain = (plain, tt)
act-plain ReadHead input plain = tt
act-plain ReadBody input plain = tt
act-plain (Tell violation) input plain = (plain, tt)

run-plain : (play : Play) (tape : List Input) → IsPlainPlay play
    → AllByRecursion IsPlainEvent (run_play play tape).events
run-plain (over ending clock) tape plain = tt
run-plain (emit shown rest) tape plain = (plain.0, run-plain rest tape plain.1)
run-plain (step request first after) [] plain = tt
run-plain (step request first after) (input ∷ tape) plain =
    let rest = run_play (after input) tape in
    cond_both (fits first input) (shows (events_of first input) rest) unseen
    (λ ran. AllByRecursion IsPlainEvent ran.events)
    (λ _. AllByRecursion-append IsPlainEvent (events_of first input) rest.events (act-plain first input plain.0)
    (run-plain (after input) tape (plain.1 input))) (λ _. tt)

-- each event of a run of a document whose URLs texts give is plain
pub events-plain : (cookies : List Cookie) (base : ℕ) (document : Document) (tape : List Input) → HasGiven document
    → AllByRecursion IsPlainEvent (run_play (document_run cookies base document) tape).events
events-plain cookies base document tape has =
    run-plain (document_run cookies base document) tape (document-plain cookies base document has)
