-- Documents that were seated and played, and whose links are taken back.
use Rattle.std.specs.Prelude.{◌≡◌, ℕ, List, length, map, Option}
use Rattle.link_traits.specs.Links.{Lendings, LinkTold, faults_told}
use Rattle.play_definitions.specs.declared.seating.Seating.{Seating}
use Rattle.book_turns.specs.declared.pass.TurnPass.{TurnPass}
use Rattle.play_definitions.specs.Plays.{Way}
use Rattle.play_seats.specs.Lendings.{AreTaken}
use Rattle.play_seats.specs.Links.{grown_by_all, way_of}
use Rattle.play_seats.specs.Seated.{links_in}

-- The links of these seats were taken back, in order, and their faults were counted. Of what is told of the links, as
-- they were and as they came back, this holds.
pub record AreUnseated {L State : Type 0} (told : L → LinkTold State) (lent lent' : Option (Lendings L))
    (count count' : ℕ) (seats : List (Seating L TurnPass)) (AreSo : List (Way State) → List (Way State) → Type 0)
    : Type 0 where
  pub back : List L
  pub many : length back ≡ length seats
  pub taken : AreTaken lent lent' back
  pub counted : count' ≡ grown_by_all count (map (faults_told told) back)
  pub are_so : AreSo (map (way_of told) (links_in seats)) (map (way_of told) back)
