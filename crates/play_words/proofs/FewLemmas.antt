-- A document's run makes few calls of the shared book, and so does a play.
use Rattle.std.proofs.Common.{◌≡◌, ◌+◌, ◌-◌, ◌*◌, ◌==◌, ◌<◌, ◌≤◌, ◌≢◌, ℕ, zero, suc, Bool, true, false, cond}
use Rattle.std.proofs.Common.{List, [], ◌∷◌, length, Option, Some, None, Result, Ok, Err, ap, refl, subst, sym}
use Rattle.std.proofs.Common.{◌∙◌, arith, inl, inr, length-append, nat_le}
use Rattle.std.specs.List.{AllByRecursion}
use Rattle.std.proofs.lemmas.Bool.{cases_eq, cond_both}
use Rattle.std.proofs.lemmas.Bool.Decides.{Decides-eqb, nat_tests}
use Rattle.std.proofs.lemmas.List.{length-map}
use Rattle.value_requests.specs.declared.fault.TypeFault.{TypeFault}
use Rattle.value_requests.specs.declared.policy.Destination.{Destination}
use Rattle.value_requests.specs.declared.policy.Destination.TheVariants as destination
use Rattle.value_requests.specs.declared.request.Request.{Request}
use Rattle.value_requests.specs.declared.response.Outcome.{Outcome}
use Rattle.book_calls.specs.declared.entry.Entry.{Entry}
use Rattle.book_calls.specs.Entries.{Legal, entries_of}
use Rattle.fetch_acts.specs.declared.act.Act.{Act}
use Rattle.fetch_acts.specs.declared.act.Act.TheVariants.{Ask, ReadBody, ReadHead, Send, Tell}
use Rattle.fetch_acts.specs.declared.act.Input.{Input}
use Rattle.fetch_acts.specs.Process.{Process, act, ended, fits}
use Rattle.fetch_acts.specs.Within.{AnyAct, Anything, Paid, Within, asks, price_of}
use Rattle.fetch_acts.proofs.WithinLemmas.{within-more}
use Rattle.fetch_definitions.specs.Fetch.{fetch}
use Rattle.fetch_requests.specs.Loading.{new_load}
use Rattle.fetch_requests.specs.Making.{new_request}
use Rattle.fetch_laws.specs.Prices.{fetch_price}
use Rattle.fetch_laws.proofs.OwnLemmas.{any-within, asks-at-most}
use Rattle.fetch_wire.specs.Exchanges.{Answering}
use Rattle.script_events.specs.declared.events.Ending.{Ending}
use Rattle.script_events.specs.declared.events.Ending.TheVariants.{Commands, Fetches}
use Rattle.script_events.specs.declared.events.Transcript.{Transcript}
use Rattle.script_filling.specs.Filled.{filled_init, filled_load}
use Rattle.script_filling.specs.Results.{holds}
use Rattle.script_scenarios.specs.Scripts.{Step, Steps}
use Rattle.script_scenarios.specs.Scripts as script
use Rattle.script_scenarios.specs.declared.document.Document.{Document}
use Rattle.script_scenarios.specs.declared.scenario.Scenario.{Scenario}
use Rattle.script_runs.specs.Documents.{EachDocument}
use Rattle.script_runs.specs.Play.{Play, emit, events_of, over, run_play, shows, step, unseen}
use Rattle.script_runs.specs.Runs.{Next, Progress, Setting, after_events, asked, at_time, beginning, command_run}
use Rattle.script_runs.specs.Runs.{document_run, embed, fault_event, fetch_started, fetched, finished, last_of}
use Rattle.script_runs.specs.Runs.{limit_before, most_commands, outcome_event, repeated, script_run}
use Rattle.script_runs.specs.Runs.{setting_of, showing, start_event, started, unless_limit, waited}
use Rattle.play_definitions.specs.Plays.{IsTranscript, Way, opening_book}
use Rattle.play_isolation.specs.Calls.{call_of, calls_in}
use Rattle.play_words.specs.Laws.{CallsFew, PlaysFew}
use Rattle.play_isolation.proofs.AloneLemmas.{calls-append, calls-silent}
use Rattle.play_isolation.proofs.BlindLemmas.{ShowsNoCall, silent-document}
use Rattle.play_isolation.proofs.PlayLemmas.{transcript-in}

-- the run asks the book at most this often
abbrev AtMost : ℕ → Play → Type 0
AtMost most (over ending clock) = Unit {0}
AtMost most (emit shown rest) = AtMost most rest
AtMost most (step request first after) = Paid (price_of asks first) most (λ left. (input : Input)
    → AtMost left (after input))

at-more : (most more : ℕ) (play : Play) → AtMost most play → most ≤ more → AtMost more play
at-more most more (over ending clock) is le = tt
at-more most more (emit shown rest) is le = at-more most more rest is le
at-more most more (step request first after) is le =
    record { left = is.left; enough = omega (arith, is.enough, le); rest = is.rest }

-- ---- a fetch

embed-most : (most more : ℕ) (process : Process) (next : Outcome → Next) (progress : Progress)
    → Within (price_of asks) Anything AnyAct most process
    → ((came : Outcome) (later : Progress) → later.fetches ≡ progress.fetches → AtMost more (next came later))
    → AtMost (most + more) (embed process next progress)
embed-most most more (ended came) next progress within goes =
    at-more more (most + more) (next came progress) (goes came progress refl) (omega arith)
embed-most most more (act request first after) next progress within goes = record {
  left = within.1.left + more;
  enough = omega (arith, within.1.enough);
  rest = λ input. embed-most within.1.left more (after input) next (after_events (events_of first input) progress)
      (within.1.rest input tt) goes;
}

-- how often the fetches that may still start ask at most
abbrev left_of : Progress → ℕ
left_of progress = 126 * (1024 - progress.fetches)

-- what follows asks no more
abbrev FitsNext : Next → Type 0
FitsNext next = (progress : Progress) → AtMost (left_of progress) (next progress)

below : (commands fetches : Bool) (rest : Option Ending)
    → cond commands (Some Commands) (cond fetches (Some Fetches) rest) ≡ None → fetches ≡ false
below true fetches rest none = absurd (cc)
below false true rest none = absurd (cc)
below false false rest none = refl

not-most : (n : ℕ) → nat_le 1024 n ≡ false → n < 1024
not-most n is = grind (arith, nat_tests)

module _ (lent : Setting) where
  few-fetched : (kind : Destination) (made : Result Request TypeFault) (next : Next) → FitsNext next
      → (progress : Progress) → AtMost (126 + left_of progress) (fetched lent kind made next progress)
  few-fetched kind (Err fault) next few progress =
      let later = after_events (fault_event kind fault ∷ []) progress in
      at-more (left_of progress) (126 + left_of progress) (next later) (few later) (omega arith)
  few-fetched kind (Ok request) next few progress =
      let context = at_time lent progress.clock in
      embed-most 126 (left_of progress) (fetch context request) (λ came. showing (outcome_event kind came) next) progress
      (within-more (price_of asks) Anything AnyAct (fetch_price asks context request) 126 (fetch context request)
      (any-within asks context request) (asks-at-most context request))
      (λ came later same. let shown = after_events (outcome_event kind came ∷ []) later in
      subst (λ (n : ℕ). AtMost (126 * (1024 - n)) (next shown)) same (few shown))

  few-asked : (kind : Destination) (made : Result Request TypeFault) (next : Next) → FitsNext next
      → (progress : Progress) → progress.fetches < 1024
      → AtMost (left_of progress) (asked lent kind made next progress)
  few-asked kind made next few progress early =
      let later = after_events (start_event kind progress.fetches ∷ []) (fetch_started progress) in
      at-more (126 + left_of later) (left_of progress) (fetched lent kind made next later)
      (few-fetched kind made next few later) (omega (arith, early))

  few-repeated : (times : ℕ) (part : Next → Next) → ((next : Next) → FitsNext next → FitsNext (part next))
      → (next : Next) → FitsNext next → FitsNext (repeated times part next)
  few-repeated zero part fits next few = few
  few-repeated (suc n) part fits next few = fits (repeated n part next) (few-repeated n part fits next few)

  few-unless : (one : Step) (next : Next) (progress : Progress) (limit : Option Ending)
      → limit_before one progress ≡ limit
      → (limit_before one progress ≡ None → AtMost (left_of progress) (next (started progress)))
      → AtMost (left_of progress) (unless_limit limit (λ begun. next (started begun)) progress)
  few-unless one next progress (Some ending) is few = tt
  few-unless one next progress None is few = few is

  mutual
    few-command : (one : Step) (next : Next) → FitsNext next → (progress : Progress)
        → limit_before one progress ≡ None → AtMost (left_of progress) (command_run lent one next (started progress))
    few-command (script.fetch init) next few progress none =
        few-asked destination.Fetch (new_request lent.client (filled_init (last_of (started progress)) init)) next few
        (started progress) (not-most progress.fetches (below (nat_le most_commands progress.commands)
        (nat_le 1024 progress.fetches) _ none))
    few-command (script.load init) next few progress none =
        few-asked init.kind (new_load lent.client (filled_load (last_of (started progress)) init)) next few
        (started progress) (not-most progress.fetches (below (nat_le most_commands progress.commands)
        (nat_le 1024 progress.fetches) _ none))
    few-command (script.wait seconds) next few progress none = few (waited seconds (started progress))
    few-command (script.repeat times part) next few progress none =
        few-repeated times (script_run lent part) (λ rest fits. few-script part rest fits) next few (started progress)
    few-command (script.choose test part other) next few progress none =
        cond_both (holds test (last_of (started progress))) (script_run lent part next (started progress))
        (script_run lent other next (started progress)) (AtMost (left_of progress))
        (λ _. few-script part next few (started progress)) (λ _. few-script other next few (started progress))

    few-script : (steps : Steps) (next : Next) → FitsNext next → FitsNext (script_run lent steps next)
    few-script script.no_steps next few = few
    few-script (script.step one more) next few = λ progress.
        few-unless one (command_run lent one (script_run lent more next)) progress (limit_before one progress) refl
        (λ none. few-command one (script_run lent more next) (few-script more next few) progress none)

-- ---- its calls

act-few : (first : Act) (input : Input) → length (calls_in (events_of first input)) ≤ price_of asks first
act-few (Ask op) input = omega arith
act-few (Send hop) input = omega arith
act-few ReadHead input = omega arith
act-few ReadBody input = omega arith
act-few (Tell violation) input = omega arith

run-few : (most : ℕ) (play : Play) (tape : List Input) → AtMost most play → ShowsNoCall play
    → length (calls_in (run_play play tape).events) ≤ most
run-few most (over ending clock) tape few silent = omega arith
run-few most (emit shown rest) tape few silent =
    omega (
      arith,
      ap length (calls-silent shown (run_play rest tape).events silent.0),
      run-few most rest tape few silent.1,
    )
run-few most (step request first after) [] few silent = omega arith
run-few most (step request first after) (input ∷ tape) few silent =
    let rest = run_play (after input) tape in
    cond_both (fits first input) (shows (events_of first input) rest) unseen
    (λ ran. length (calls_in ran.events) ≤ most)
    (λ _. omega (
      arith,
      few.enough,
      act-few first input,
      ap length (calls-append (events_of first input) rest.events),
      length-append (calls_in (events_of first input)) (calls_in rest.events),
      run-few few.left (after input) tape (few.rest input) (silent input),
    )) (λ _. omega arith)

pub calls-few : CallsFew
calls-few cookies base document tape =
    run-few 129024 (document_run cookies base document) tape
    (few-script (setting_of cookies document) document.script finished (λ progress. tt) (beginning base))
    (silent-document cookies base document)

-- ---- the entries of a history

-- how many entries are of the documents below this number
abbrev total : ℕ → List Entry → ℕ
total zero history = 0
total (suc n) history = length (entries_of n history) + total n history

-- one more entry, of this document or of another
entries-more : (number : ℕ) (entry : Entry) (history : List Entry) → entry.document ≡ number
    → length (entries_of number (entry ∷ history)) ≡ suc (length (entries_of number history))
entries-more number entry history same =
    cond_both (entry.document == number) (entry ∷ entries_of number history) (entries_of number history)
    (λ (l : List Entry). length l ≡ suc (length (entries_of number history))) (λ _. refl)
    (λ other. absurd (let no : true ≡ false = sym ((Decides-eqb entry.document number).1 same) ∙ other in cc))

entries-same : (number : ℕ) (entry : Entry) (history : List Entry) → entry.document ≢ number
    → length (entries_of number (entry ∷ history)) ≡ length (entries_of number history)
entries-same number entry history other =
    cond_both (entry.document == number) (entry ∷ entries_of number history) (entries_of number history)
    (λ (l : List Entry). length l ≡ length (entries_of number history))
    (λ same. absurd (other ((Decides-eqb entry.document number).0 same))) (λ _. refl)

total-same : (count : ℕ) (entry : Entry) (history : List Entry) → count ≤ entry.document
    → total count (entry ∷ history) ≡ total count history
total-same zero entry history far = refl
total-same (suc n) entry history far =
    let other : entry.document ≢ n = λ same. omega (arith, far, same) in
    omega (arith, entries-same n entry history other, total-same n entry history (omega (arith, far)))

total-more : (count : ℕ) (entry : Entry) (history : List Entry) → entry.document < count
    → total count (entry ∷ history) ≡ suc (total count history)
total-more zero entry history near = absurd (omega (arith, near))
total-more (suc n) entry history near =
    elim (cases_eq entry.document n) [
      | inl same ↦
          omega (arith, entries-more n entry history same, total-same n entry history (omega (arith, same)))
      | inr other ↦
          omega (arith, entries-same n entry history other, total-more n entry history (omega (arith, near, other)))
    ]

total-all : (count : ℕ) (history : List Entry) → AllByRecursion (λ (entry : Entry). entry.document < count) history
    → length history ≤ total count history
total-all count [] named = omega arith
total-all count (entry ∷ history) named =
    omega (arith, total-more count entry history named.0, total-all count history named.1)

total-few : (most count : ℕ) (history : List Entry)
    → ((number : ℕ) → number < count → length (entries_of number history) ≤ most)
    → total count history ≤ count * most
total-few most zero history few = omega arith
total-few most (suc n) history few =
    let rest = total-few most n history (λ number near. few number (omega (arith, near))) in
    grind (arith, rest, few n (omega arith))

-- ---- plays

module _ {State : Type 0} (by : Answering State) (scenario : Scenario) (base : ℕ) (history : List Entry)
    (legal : Legal (opening_book scenario) history) where
  own-few : (number : ℕ) (document : Document) (old new : Way State) (transcript : Transcript)
      → IsTranscript by scenario base history number document old new transcript
      → length (entries_of number history) ≤ 129024
  own-few number document old new transcript is =
      let calls = (transcript-in by scenario base history number document old new transcript is legal).calls in
      omega (
        arith,
        ap length calls,
        length-map (entries_of number history) call_of,
        calls-few scenario.cookies base document is.run_is.ran.tape,
      )

  each-few : {number : ℕ} {documents : List Document} {olds news : List (Way State)} {transcripts : List Transcript}
      → EachDocument (IsTranscript by scenario base history) number documents olds news transcripts
      → (one : ℕ) → number ≤ one → one < number + length documents → length (entries_of one history) ≤ 129024
  each-few EachDocument.none one from under = absurd (omega (arith, from, under))
  each-few (EachDocument.one_more {number = number} {document = document} {old = old} {new = new}
      {transcript = transcript} is more) one from under =
      elim (cases_eq one number) [
        | inl same ↦ subst (λ (n : ℕ). length (entries_of n history) ≤ 129024) (sym same)
            (own-few number document old new transcript is)
        | inr other ↦ each-few more one (omega (arith, from, other)) (omega (arith, under))
      ]

pub plays-few : (State : Type 0) → PlaysFew State
plays-few State by scenario base olds news transcripts history play =
    let count = length scenario.documents in
    omega (
      arith,
      total-all count history play.named,
      total-few 129024 count history
          (λ number near. each-few by scenario base history play.legal play.runs number (omega arith)
          (omega (arith, near))),
    )
