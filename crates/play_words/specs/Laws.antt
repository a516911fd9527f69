-- Laws of what is printed of a play: how many calls its history has, and that each text of it can be read back (this
-- project's own).
use Rattle.std.specs.Prelude.{◌≤◌, ◌*◌, ◌^◌, ℕ, IsTrue, length, List}
use Rattle.play_text.specs.Plain.{IsPlainEvent, IsPlainTranscript}
use Rattle.play_text.specs.Words.{has_words}
use Rattle.play_isolation.specs.Words.{AllByRecursion, Answering, AreValid, Cookie, Document, Entry, InRange, Input}
use Rattle.play_isolation.specs.Words.{IsPlayOver, Op, Scenario, Transcript, Way, document_run, run_play}
use Rattle.play_isolation.specs.Calls.{calls_in}
use Rattle.play_words.specs.Given.{HasGiven}

-- how many calls a document's run makes at most: 1,024 fetches make at most 126 each
abbrev pub most_calls : ℕ
most_calls = 129024

-- a document's run makes at most so many
abbrev pub CallsFew : Type 0
CallsFew =
    (cookies : List Cookie) (base : ℕ) (document : Document) (tape : List Input)
    → length (calls_in (run_play (document_run cookies base document) tape).events) ≤ most_calls

-- what a run of a document shows is plain where texts give its URLs: so each of its calls has words
abbrev pub EventsPlain : Type 0
EventsPlain =
    (cookies : List Cookie) (base : ℕ) (document : Document) (tape : List Input) → HasGiven document
    → AllByRecursion IsPlainEvent (run_play (document_run cookies base document) tape).events

-- ---- what is printed of plays

-- The texts of the document's URLs give them, and its script is valid.
pub record IsReady (document : Document) : Type 0 where
  pub given : HasGiven document
  pub script : AreValid document.script

-- the op is in range and has words
abbrev pub IsToldOp : Op → Type 0
IsToldOp op = InRange op × IsTrue (has_words op)

-- Each transcript is plain, and the op of each entry of the history is in range and has words.
pub record AreTold (transcripts : List Transcript) (history : List Entry) : Type 0 where
  pub are_plain : AllByRecursion IsPlainTranscript transcripts
  pub ops : AllByRecursion (λ (entry : Entry). IsToldOp entry.op) history

-- so are those of a play of such documents that begins at 2^40 seconds at the latest
abbrev pub PlaysTold : Type 0 → Type 0
PlaysTold State =
    (by : Answering State) (scenario : Scenario) (base : ℕ) (olds news : List (Way State))
    (transcripts : List Transcript) (history : List Entry) → base ≤ 2 ^ 40
    → AllByRecursion IsReady scenario.documents → IsPlayOver by scenario base olds news transcripts history
    → AreTold transcripts history

-- a play has at most so many entries for each document
abbrev pub PlaysFew : Type 0 → Type 0
PlaysFew State =
    (by : Answering State) (scenario : Scenario) (base : ℕ) (olds news : List (Way State))
    (transcripts : List Transcript) (history : List Entry)
    → IsPlayOver by scenario base olds news transcripts history
    → length history ≤ length scenario.documents * most_calls
