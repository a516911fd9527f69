-- The documents of a play, one by one (this project's own).
use Rattle.std.specs.Prelude.{ℕ, ◌+◌, List, [], ◌∷◌}
use Rattle.script_events.specs.declared.events.Transcript.{Transcript}
use Rattle.script_scenarios.specs.declared.document.Document.{Document}

-- Each document, with its states before and after and with its transcript, is as `Is` says of its number; the numbers
-- go on from this one.
pub data EachDocument {State : Type 0} (Is : ℕ → Document → State → State → Transcript → Type 0)
    : ℕ → List Document → List State → List State → List Transcript → Type 0 where
  none : {number : ℕ} → EachDocument Is number [] [] [] []
  one_more : {number : ℕ} {document : Document} {old new : State} {transcript : Transcript}
      {documents : List Document} {olds news : List State} {transcripts : List Transcript}
      → Is number document old new transcript
      → EachDocument Is (number + 1) documents olds news transcripts
      → EachDocument Is number (document ∷ documents) (old ∷ olds) (new ∷ news) (transcript ∷ transcripts)
