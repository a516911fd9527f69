-- What a play does to the seat of each document: its pass of the shared book, and its link (this project's own; each
-- document fetches by itself, Fetch, section 4, and the book alone is shared).
use Rattle.std.specs.Prelude.{ℕ, ◌+◌, ◌≡◌, ◌≢◌, ◌≤◌, ◌⊎◌, List, length, map}
use Rattle.play_definitions.specs.declared.seating.Seating.{Seating}
use Rattle.play_definitions.specs.Playing.{RunCameTo}
use Rattle.play_definitions.specs.Words.{Account, All, Answering, Book, Document, EachDocument, LinkTold, Memory}
use Rattle.play_definitions.specs.Words.{Scenario, Transcript, document_client, document_run, range_with_len}
use Rattle.play_definitions.specs.Worlds.{Outside, most_calls, outside}

-- What is seen of a seat: the document that its pass is for, the book that its share was opened with, and what is
-- outside of the document.
pub record Seat (State : Type 0) : Type 0 where
  pub document : ℕ
  pub opening : Book
  pub outside : Outside State

abbrev pub seat_of : {P L State : Type 0} → (P → Account) → (L → LinkTold State) → Seating L P → Seat State
seat_of account told seating = record {
  document = (account seating.pass).document;
  opening = (account seating.pass).opening;
  outside = outside account told seating.pass seating.link;
}

-- one seat for each document, in their order, each with calls enough for a whole script
pub record AreSeated {State : Type 0} (documents : List Document) (seats : List (Seat State)) : Type 0 where
  pub each : map (λ seat. seat.document) seats ≡ range_with_len 0 (length documents)
  pub calls : All (λ seat. most_calls ≤ seat.outside.left) seats

-- The document of this number was played on a seat, whose pass is for it: its transcript is what its run comes to in
-- the seat's world.
pub record DocumentCameTo {State : Type 0} (by : Answering State) (scenario : Scenario) (base number : ℕ)
    (document : Document) (old new : Seat State) (transcript : Transcript) : Type 0 where
  pub number_is : transcript.document ≡ number
  pub key_is : transcript.ending ≢ Memory → transcript.key ≡ (document_client document).key
  pub came : RunCameTo by scenario.body_limit number (document_run scenario.cookies base document) old.outside
      transcript.events transcript.ending transcript.clock new.outside
  pub few : old.outside.left ≤ new.outside.left + most_calls
  pub document_is : new.document ≡ number
  pub opening_is : new.opening ≡ old.opening

-- Each document was played on its seat.
pub record AllCameTo {State : Type 0} (by : Answering State) (scenario : Scenario) (base : ℕ)
    (olds news : List (Seat State)) : Type 0 where
  pub transcripts : List Transcript
  pub played : EachDocument (DocumentCameTo by scenario base) 0 scenario.documents olds news transcripts

-- Memory was refused to what surrounds the documents: none was played, and the seats are as they were; or each was, and
-- there was no room for the list of their transcripts.
abbrev pub AreRefused : {State : Type 0} → Answering State → Scenario → ℕ → List (Seat State) → List (Seat State)
    → Type 0
AreRefused by scenario base olds news = (news ≡ olds) ⊎ AllCameTo by scenario base olds news
