-- The documents of a play.
use Rattle.std.proofs.Common.{◌≡◌, ℕ, List, [], ◌∷◌, ◌++◌, refl, ap, sym, ◌∙◌}
use Rattle.std.proofs.Common.{append_assoc}
use Rattle.std.proofs.lemmas.List.{append-nil, map-append}
use Rattle.book_calls.specs.declared.entry.Entry.{Entry}
use Rattle.book_calls.specs.Book.{empty}
use Rattle.book_calls.specs.Entries.{Legal, entries_of}
use Rattle.book_calls.specs.Past.{PastsAnswer}
use Rattle.fetch_acts.specs.declared.act.Act.{Act}
use Rattle.fetch_acts.specs.declared.act.Act.TheVariants.{Ask, Send, ReadHead, ReadBody, Tell}
use Rattle.fetch_acts.specs.declared.act.Input.{Input}
use Rattle.script_events.specs.declared.events.Event.{Event}
use Rattle.script_events.specs.declared.events.Event.TheVariants as event
use Rattle.script_events.specs.declared.events.Transcript.{Transcript}
use Rattle.script_scenarios.specs.declared.document.Document.{Document}
use Rattle.script_scenarios.specs.declared.scenario.Scenario.{Scenario}
use Rattle.fetch_laws.specs.Apart.{Made, views_on}
use Rattle.script_runs.specs.Play.{Play, PlayRun, events_of, run_play}
use Rattle.script_runs.specs.Runs.{document_client, document_run}
use Rattle.script_runs.specs.Traces.{PlayTrace, shown, stepped, stop}
use Rattle.script_runs.specs.Documents.{EachDocument}
use Rattle.fetch_wire.specs.Exchanges.{Answering}
use Rattle.play_definitions.specs.Worlds.{Outside, Settles, World, WorldAnswers}
use Rattle.play_isolation.specs.Calls.{call_of, calls_in, calls_of}
use Rattle.play_isolation.specs.Isolated.{AllAreAlone, alone_in, run_in, run_of}
use Rattle.play_isolation.specs.Laws.{IsIn, PlaysAlone, WorldsAlike}
use Rattle.play_isolation.specs.Alone.{alone, pasts}
use Rattle.play_isolation.specs.Apart.{plan_of}
use Rattle.play_definitions.specs.Plays.{IsTranscript, Way, opening_book, with_hosts}
use Rattle.play_isolation.proofs.AloneLemmas.{calls-append, calls-silent}
use Rattle.play_isolation.proofs.BlindLemmas.{ShowsNoCall, silent-document}
use Rattle.play_isolation.proofs.HistoryLemmas.{runs-alone}

-- ---- the calls of a trace are the entries that it makes

-- a call more
asked-calls : (own own' : List Entry) (entry : Entry) (made : List Made) → own' ≡ own ++ entry ∷ []
    → made ≡ call_of entry ∷ [] → calls_of own' ≡ calls_of own ++ made
asked-calls own own' entry made is are = rw (is, are) (map-append call_of own (entry ∷ []))

-- none more
same-calls : (own own' : List Entry) → own' ≡ own → calls_of own' ≡ calls_of own ++ []
same-calls own own' is = ap calls_of is ∙ sym (append-nil (calls_of own))

module _ {State : Type 0} (by : Answering State) (limit document : ℕ) where
  act-calls : (a b : World State) (first : Act) (input : Input) → WorldAnswers by limit document a first input b
      → calls_of b.own ≡ calls_of a.own ++ calls_in (events_of first input)
  act-calls a b (Ask op) input is =
      asked-calls a.own b.own is.asked.entry (calls_in (events_of (Ask op) input)) is.asked.own_is
      (rw (is.asked.input_is, is.asked.op_is) refl)
  act-calls a b (Send hop) input is = same-calls a.own b.own is.1.own_is
  act-calls a b ReadHead input is = same-calls a.own b.own is.own_is
  act-calls a b ReadBody input is = same-calls a.own b.own is.own_is
  act-calls a b (Tell violation) input is = same-calls a.own b.own (ap (λ (w : World State). w.own) is.1)

  event-own : (a b : World State) (one : Event) → Settles one a b → b.own ≡ a.own
  event-own a b (event.Result outcome) is = ap (λ (o : Outside State). o.own) is.outside_is
  event-own a b (event.LoadFailed error) is = ap (λ (o : Outside State). o.own) is.outside_is
  event-own a b one is = ap (λ (w : World State). w.own) is

  trace-calls : {p q : Play} {a b : World State} {t : List Input} {e : List Event}
      → PlayTrace (WorldAnswers by limit document) Settles p a t e q b → ShowsNoCall p
      → calls_of b.own ≡ calls_of a.own ++ calls_in e
  trace-calls {a = a} stop silent = sym (append-nil (calls_of a.own))
  trace-calls {a = a} {b = b} (shown {mid = mid} {events = events} one is x) silent =
      trace-calls x silent.1
      ∙ ap (λ (l : List Entry). calls_of l ++ calls_in events) (event-own a mid one is)
      ∙ ap (λ (l : List Made). calls_of a.own ++ l) (sym (calls-silent one events silent.0))
  trace-calls {a = a} {b = b} (stepped {mid = mid} {events = events} request first after input is fit x) silent =
      trace-calls x (silent input)
      ∙ ap (λ (l : List Made). l ++ calls_in events) (act-calls a mid first input is)
      ∙ append_assoc (calls_of a.own) (calls_in (events_of first input)) (calls_in events)
      ∙ ap (λ (l : List Made). calls_of a.own ++ l) (sym (calls-append (events_of first input) events))

-- ---- a document of a play

module _ {State : Type 0} (by : Answering State) (scenario : Scenario) (base : ℕ) (history : List Entry) (number : ℕ)
    (document : Document) (old new : Way State) (transcript : Transcript)
    (is : IsTranscript by scenario base history number document old new transcript) where
  abbrev whole : Play
  whole = run_in scenario base document

  abbrev tape : List Input
  tape = is.run_is.ran.tape

  run-is : run_play whole tape ≡ run_of transcript
  run-is = is.run_is.ran.runs

  pub transcript-in : Legal (opening_book scenario) history → IsIn (opening_book scenario) history number whole tape
  unfolding run-is
  transcript-in legal =
      let ran = is.run_is.ran in
      let opened : ran.first.own ≡ [] = ap (λ o. o.own) ran.from in
      let closed : ran.last.own ≡ entries_of number history = ap (λ o. o.own) ran.to in
      let made : calls_of ran.last.own ≡ calls_of ran.first.own ++ calls_in transcript.events =
      trace-calls by scenario.body_limit number ran.trace (silent-document scenario.cookies base document) in
      record {
        legal = legal;
        calls = ap (λ (r : PlayRun). calls_in r.events) run-is
            ∙ sym (ap calls_of (sym closed) ∙ made
            ∙ ap (λ (l : List Entry). calls_of l ++ calls_in transcript.events) opened);
      }

  pub transcript-alone : PastsAnswer → Legal (opening_book scenario) history
      → run_of transcript ≡ alone_in scenario base history number document (views_on (plan_of whole) tape)
  unfolding run-is transcript-in
  transcript-alone law legal =
      sym run-is
      ∙ runs-alone law scenario.cookies base document (opening_book scenario) history number tape
      (transcript-in legal)

-- ---- all of them

module _ {State : Type 0} (by : Answering State) (scenario : Scenario) (base : ℕ) (history : List Entry)
    (law : PastsAnswer) (legal : Legal (opening_book scenario) history) where
  all-alone : {number : ℕ} {documents : List Document} {olds news : List (Way State)} {transcripts : List Transcript}
      (runs : EachDocument (IsTranscript by scenario base history) number documents olds news transcripts)
      → AllAreAlone runs
  all-alone EachDocument.none = tt
  all-alone (EachDocument.one_more {number = number} {document = document} {old = old} {new = new}
      {transcript = transcript} is more) =
      (transcript-alone by scenario base history number document old new transcript is law legal, all-alone more)

pub plays-alone : PastsAnswer → (State : Type 0) → PlaysAlone State
plays-alone law State by scenario base olds news transcripts history play =
    all-alone by scenario base history law play.legal play.runs

-- ---- two plays

pub worlds-alike : PastsAnswer → (State Other : Type 0) → WorldsAlike State Other
worlds-alike law State Other by otherwise scenario other base history others number another document old new before
    behind transcript different alike legal legals one two past view =
    let key = (document_client document).key in
    let seen = views_on (plan_of (run_in scenario base document)) one.run_is.ran.tape in
    transcript-alone by scenario base history number document old new transcript one law legal
    ∙ ap (λ hosts. alone (with_hosts hosts empty) (run_in scenario base document) (pasts number key history) seen)
    alike.hosts
    ∙ ap (λ cookies. alone (opening_book other) (document_run cookies base document)
    (pasts number key history) seen) alike.cookies
    ∙ ap (λ earlier. alone (opening_book other) (run_in other base document) earlier seen) past
    ∙ ap (alone (opening_book other) (run_in other base document) (pasts another key others)) view
    ∙ sym (transcript-alone otherwise other base others another document before behind different two law legals)
