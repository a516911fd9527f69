-- Seats in rows, each beside what its document has shown.
use Rattle.std.specs.Prelude.{ℕ, ◌<◌, ◌≡◌, ◌≤◌, List, Some, length, map, slice_get}
use Rattle.play_threads.specs.declared.seating.Row.{Row}
use Rattle.play_definitions.specs.declared.seating.Seating.{Seating}
use Rattle.play_definitions.specs.Seats.{DocumentCameTo, Seat}
use Rattle.play_threads.specs.Words.{Answering, Document, Scenario, Transcript}
use Rattle.play_definitions.specs.Worlds.{most_calls}

module _ {L P : Type 0} where
  abbrev pub seatings_of : List (Row L P) → List (Seating L P)
  seatings_of rows = map (λ row. row.seating) rows

  abbrev pub transcripts_of : List (Row L P) → List Transcript
  transcripts_of rows = map (λ row. row.transcript) rows

-- By what a share means by a pass, and by what is seen of a seat:
module _ {L P State : Type 0} (belongs : P → Type 0) (seen : Seating L P → Seat State) where
  -- the document of this number can be played in the row
  pub record CanPlay (scenario : Scenario) (number : ℕ) (row : Row L P) : Type 0 where
    pub number_is : number < length scenario.documents
    pub belongs_to : belongs row.seating.pass
    pub document_is : (seen row.seating).document ≡ number
    pub calls : most_calls ≤ (seen row.seating).outside.left

  -- it was played there
  pub record RowCameTo (by : Answering State) (scenario : Scenario) (base number : ℕ) (old new : Row L P) : Type 0 where
    pub belongs_to : belongs new.seating.pass
    pub played : (one : Document) → slice_get scenario.documents number ≡ Some one
        → DocumentCameTo by scenario base number one (seen old.seating) (seen new.seating) new.transcript
