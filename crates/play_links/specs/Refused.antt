-- What was played of a play that was refused: nothing, or each document, whole or up to where memory was refused to it
-- (this project's own).
use Rattle.std.specs.Prelude.{◌≡◌, ◌⊎◌, ℕ, ◌+◌, ◌<◌, ◌≤◌, List, [], length}
use Rattle.std.specs.List.{AllByRecursion}
use Rattle.book_calls.specs.declared.entry.Entry.{Entry}
use Rattle.book_calls.specs.Entries.{Legal, entries_of}
use Rattle.script_events.specs.declared.events.Transcript.{Transcript}
use Rattle.script_runs.specs.Documents.{EachDocument}
use Rattle.script_runs.specs.Runs.{document_run}
use Rattle.script_scenarios.specs.declared.document.Document.{Document}
use Rattle.script_scenarios.specs.declared.scenario.Scenario.{Scenario}
use Rattle.fetch_wire.specs.Exchanges.{Answering}
use Rattle.play_definitions.specs.Worlds.{most_calls}
use Rattle.play_definitions.specs.Playing.{RunCameTo}
use Rattle.play_definitions.specs.Plays.{Way, opening_book, outside_on}

-- From one moment of its link to another, the run of the document of this number came to its transcript's ending, or to
-- where memory was refused. It made the calls of the document's entries of the history, in order, and no others. The
-- calls that it may still make fell by as many at most as a whole script makes.
pub record RanInHistory {State : Type 0} (by : Answering State) (scenario : Scenario) (base : ℕ) (history : List Entry)
    (number : ℕ) (document : Document) (old new : Way State) (transcript : Transcript) : Type 0 where
  pub before : ℕ
  pub behind : ℕ
  pub came : RunCameTo by scenario.body_limit number (document_run scenario.cookies base document)
      (outside_on old [] before) transcript.events transcript.ending transcript.clock
      (outside_on new (entries_of number history) behind)
  pub few : before ≤ behind + most_calls

-- Each document was played over its link, with one history of the shared book: it is legal from the book that the
-- scenario opens with, each entry names a document, and each document's run made just the calls of its entries. (Turns
-- rise; a call that was refused memory had a turn, and has no entry.)
pub record WasPlayed {State : Type 0} (by : Answering State) (scenario : Scenario) (base : ℕ)
    (olds news : List (Way State)) : Type 0 where
  pub history : List Entry
  pub legal : Legal (opening_book scenario) history
  pub named : AllByRecursion (λ (entry : Entry). entry.document < length scenario.documents) history
  pub transcripts : List Transcript
  pub runs : EachDocument (RanInHistory by scenario base history) 0 scenario.documents olds news transcripts

-- over links from their first moments to their last: each link is as it was, or each document was played
abbrev pub NoneOrAllPlayed : {State : Type 0} → Answering State → Scenario → ℕ → List (Way State) → List (Way State)
    → Type 0
NoneOrAllPlayed by scenario base olds news = (news ≡ olds) ⊎ WasPlayed by scenario base olds news
