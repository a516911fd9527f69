-- Laws of documents' runs, over every tape and every history: a run depends on the replies of the shared book and on
-- what the document may learn of the answers alone; and the replies on what was done under the document's key, and
-- noted of known hosts, alone (this project's own definition).
use Rattle.std.specs.Prelude.{◌≡◌, ◌≤◌, ◌^◌, ℕ, true, List}
use Rattle.play_isolation.specs.Words.{AllByRecursion, Answering, AreValid, Book, Cookie, Document, Entry, InRange}
use Rattle.play_isolation.specs.Words.{Input, IsPlayOver, IsTranscript, Legal, Made, Play, Scenario, Transcript}
use Rattle.play_isolation.specs.Words.{Way, document_client, document_run, is_of_key, opening_book}
use Rattle.play_isolation.specs.Words.{replies_on, run_play, views_on}
use Rattle.play_isolation.specs.Alone.{alone, pasts}
use Rattle.play_isolation.specs.Apart.{apart, plan_of}
use Rattle.play_isolation.specs.Calls.{calls_in, document_calls}
use Rattle.play_isolation.specs.Isolated.{AllAreAlone, run_in, run_of}

-- ---- runs over tapes

-- a document's run over a tape is that over the replies of the book to its calls and the views of its answers
abbrev pub RunsApart : Type 0
RunsApart =
    (cookies : List Cookie) (base : ℕ) (document : Document) (tape : List Input)
    → let whole = document_run cookies base document in
    run_play whole tape ≡ apart whole (replies_on (plan_of whole) tape) (views_on (plan_of whole) tape)

-- each call of a document's run is one that a document of its key makes
abbrev pub CallsOwn : Type 0
CallsOwn =
    (cookies : List Cookie) (base : ℕ) (document : Document) (tape : List Input)
    → AllByRecursion (λ (call : Made). is_of_key (document_client document).key call.op ≡ true)
    (calls_in (run_play (document_run cookies base document) tape).events)

-- where the script is valid and the run begins at 2^40 seconds at the latest, each of its calls is in range
abbrev pub CallsInRange : Type 0
CallsInRange =
    (cookies : List Cookie) (base : ℕ) (document : Document) (tape : List Input) → AreValid document.script
    → base ≤ 2 ^ 40
    → AllByRecursion (λ (call : Made). InRange call.op)
    (calls_in (run_play (document_run cookies base document) tape).events)

-- ---- runs in a history

-- The calls of a run over a tape are those of its document in a legal history from the opening book.
pub record IsIn (opening : Book) (history : List Entry) (number : ℕ) (whole : Play) (tape : List Input) : Type 0 where
  pub legal : Legal opening history
  pub calls : calls_in (run_play whole tape).events ≡ document_calls number history

-- then the run is what the document would do alone
abbrev pub RunsAlone : Type 0
RunsAlone =
    (cookies : List Cookie) (base : ℕ) (document : Document) (opening : Book) (history : List Entry) (number : ℕ)
    (tape : List Input) → let whole = document_run cookies base document in
    IsIn opening history number whole tape
    → run_play whole tape
    ≡ alone opening whole (pasts number (document_client document).key history) (views_on (plan_of whole) tape)

-- in two histories from one opening book: where the pasts of the calls of a document are equal, and the views of its
-- answers, its runs are
abbrev pub RunsAlike : Type 0
RunsAlike =
    (cookies : List Cookie) (base : ℕ) (document : Document) (opening : Book) (history others : List Entry)
    (number another : ℕ) (tape different : List Input) → let whole = document_run cookies base document in
    let key = (document_client document).key in
    IsIn opening history number whole tape → IsIn opening others another whole different
    → pasts number key history ≡ pasts another key others
    → views_on (plan_of whole) tape ≡ views_on (plan_of whole) different
    → run_play whole tape ≡ run_play whole different

-- ---- plays

-- in a play what each document sends and sees is what it would alone
abbrev pub PlaysAlone : Type 0 → Type 0
PlaysAlone State =
    (by : Answering State) (scenario : Scenario) (base : ℕ) (olds news : List (Way State))
    (transcripts : List Transcript) (history : List Entry)
    → (play : IsPlayOver by scenario base olds news transcripts history) → AllAreAlone play.runs

-- Two scenarios have the same known hosts and cookies.
pub record AreAlike (scenario other : Scenario) : Type 0 where
  pub hosts : scenario.hosts ≡ other.hosts
  pub cookies : scenario.cookies ≡ other.cookies

-- In plays of two such scenarios that begin at one time a document has the same events, ending and clock, whatever else
-- there is in them, whatever answers and whether it fails, where the pasts of the document's calls are equal, and the
-- views of its answers.
abbrev pub WorldsAlike : Type 0 → Type 0 → Type 0
WorldsAlike State Other =
    (by : Answering State) (otherwise : Answering Other) (scenario other : Scenario) (base : ℕ)
    (history others : List Entry) (number another : ℕ) (document : Document) (old new : Way State)
    (before behind : Way Other) (transcript different : Transcript) → AreAlike scenario other
    → Legal (opening_book scenario) history → Legal (opening_book other) others
    → (one : IsTranscript by scenario base history number document old new transcript)
    → (two : IsTranscript otherwise other base others another document before behind different)
    → pasts number (document_client document).key history ≡ pasts another (document_client document).key others
    → views_on (plan_of (run_in scenario base document)) one.run_is.ran.tape
    ≡ views_on (plan_of (run_in other base document)) two.run_is.ran.tape
    → run_of transcript ≡ run_of different
