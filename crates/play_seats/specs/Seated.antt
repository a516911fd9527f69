-- Documents that are seated, each with its pass of the shared book and its link (this project's own).
use Rattle.std.specs.Prelude.{◌≡◌, List, [], ◌∷◌, length, map}
use Rattle.atomic_table.specs.Seated.{TableId}
use Rattle.book_calls.specs.declared.entry.Entry.{Entry}
use Rattle.book_calls.specs.Entries.{entries_of}
use Rattle.link_traits.specs.Links.{LinkTold}
use Rattle.play_definitions.specs.Seats.{Seat, seat_of}
use Rattle.play_definitions.specs.declared.seating.Seating.{Seating}
use Rattle.script_scenarios.specs.declared.scenario.Scenario.{Scenario}
use Rattle.book_turns.specs.Passes.{account_of}
use Rattle.book_turns.specs.declared.pass.TurnPass.{TurnPass}
use Rattle.play_definitions.specs.Plays.{opening_book}
use Rattle.play_seats.specs.Passes.{ArePasses}

-- what is seen of a seat with a pass of the shared book
abbrev pub seat_seen : {L State : Type 0} → (L → LinkTold State) → Seating L TurnPass → Seat State
seat_seen told seating = seat_of account_of told seating

abbrev pub passes_in : {L : Type 0} → List (Seating L TurnPass) → List TurnPass
passes_in seats = map (λ seating. seating.pass) seats

abbrev pub links_in : {L : Type 0} → List (Seating L TurnPass) → List L
links_in seats = map (λ seating. seating.link) seats

-- a seat whose pass has made no call
pub record IsFresh {State : Type 0} (seat : Seat State) : Type 0 where
  pub own_is : seat.outside.own ≡ []
  pub left_is : seat.outside.left ≡ 4294967295

-- its pass's own entries are its document's of the history
abbrev pub HasOwn : {State : Type 0} → List Entry → Seat State → Type 0
HasOwn history seat = entries_of seat.document history ≡ seat.outside.own

-- The passes are the first one of this book alone, and each document has a seat, with the pass that was made for it.
pub record AreReady {L : Type 0} (id : TableId) (scenario : Scenario) (passes : List TurnPass)
    (seats : List (Seating L TurnPass)) : Type 0 where
  pub first : TurnPass
  pub alone : passes ≡ first ∷ []
  pub made : ArePasses id (opening_book scenario) (length scenario.documents) first (passes_in seats)
