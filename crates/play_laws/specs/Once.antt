-- Laws of plays over links that tell and do not fail: what determines a play, and the calls of a document.
use Rattle.std.specs.Prelude.{◌≡◌, ℕ, List, Some}
use Rattle.book_calls.specs.Entries.{AreInOrderFrom}
use Rattle.play_isolation.specs.Words.{Answering, Document, Entry, IsPlay, IsTranscript, Scenario, Transcript, Way}
use Rattle.play_isolation.specs.Words.{entries_of}
use Rattle.play_isolation.specs.Calls.{PartAtReply}

-- A link tells its state at the first, and has not failed since.
pub record TellsWithoutFaults {State : Type 0} (old new : Way State) : Type 0 where
  pub state : State
  pub told : old.state ≡ Some state
  pub none : new.faults ≡ 0

-- A scenario, a time, a history and links that tell and do not fail determine the tape of a document's run, and what it
-- sends and sees.
abbrev pub TapesOnce : Type 0 → Type 0
TapesOnce State =
    (by : Answering State) (scenario : Scenario) (base : ℕ) (history : List Entry) (number : ℕ) (document : Document)
    (old new : Way State) (transcript different : Transcript) → TellsWithoutFaults old new
    → (one : IsTranscript by scenario base history number document old new transcript)
    → (two : IsTranscript by scenario base history number document old new different)
    → (one.run_is.ran.tape ≡ two.run_is.ran.tape) × (transcript ≡ different)

-- In two histories a document's runs over such links make the same calls, up to the first that is replied to otherwise:
-- what was replied so far determines the next call, or that there is none.
abbrev pub CallsFollow : Type 0 → Type 0
CallsFollow State =
    (by : Answering State) (scenario : Scenario) (base : ℕ) (history others : List Entry) (number : ℕ)
    (document : Document) (old new : Way State) (transcript different : Transcript) → TellsWithoutFaults old new
    → IsTranscript by scenario base history number document old new transcript
    → IsTranscript by scenario base others number document old new different
    → PartAtReply (entries_of number history) (entries_of number others)

-- so a scenario has one play over its servers with a history
abbrev pub PlaysOnce : Type 0
PlaysOnce =
    (scenario : Scenario) (transcripts others : List Transcript) (history : List Entry)
    → IsPlay scenario transcripts history → IsPlay scenario others history → transcripts ≡ others

-- and one play over them whose history is in order of documents
abbrev pub OnceInOrder : Type 0
OnceInOrder =
    (scenario : Scenario) (transcripts others : List Transcript) (history different : List Entry)
    → IsPlay scenario transcripts history → IsPlay scenario others different
    → AreInOrderFrom 0 history → AreInOrderFrom 0 different → (transcripts ≡ others) × (history ≡ different)
