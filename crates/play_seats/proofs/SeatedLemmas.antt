-- Documents that are seated, each with a new pass.
use Rattle.std.proofs.Common.{◌≡◌, ℕ, ◌≤◌, List, ◌∙◌, ap, arith, length, map, refl, subst, sym}
use Rattle.std.specs.List.{All, range_with_len}
use Rattle.std.proofs.lemmas.List.{length-map}
use Rattle.std.proofs.lemmas.List.Elements.{All-map}
use Rattle.std.proofs.lemmas.List.FromFn.{length-range_with_len}
use Rattle.std.proofs.lemmas.Simd.{map-map}
use Rattle.atomic_table.specs.Seated.{TableId}
use Rattle.play_definitions.specs.Worlds.{most_calls}
use Rattle.play_definitions.specs.Seats.{AreSeated, Seat}
use Rattle.play_definitions.specs.declared.seating.Seating.{Seating}
use Rattle.script_scenarios.specs.declared.scenario.Scenario.{Scenario}
use Rattle.book_turns.specs.declared.pass.TurnPass.{TurnPass}
use Rattle.play_seats.specs.Passes.{IsNew}
use Rattle.play_definitions.specs.Plays.{opening_book}
use Rattle.play_seats.specs.Seated.{links_in, passes_in, seat_seen}
use Rattle.play_seats.proofs.ListLemmas.{unmap}
use Rattle.link_traits.specs.Links.{LinkTold}

-- as many items as numbers
pub as-many : {X : Type 0} (number : X → ℕ) (items : List X) (count : ℕ)
    → map number items ≡ range_with_len 0 count → length items ≡ count
as-many number items count is =
    sym (length-map items number) ∙ ap length is ∙ length-range_with_len 0 count

-- as many seats as documents, where they have these passes
pub as-seated : {L : Type 0} (passes : List TurnPass) (seats : List (Seating L TurnPass)) (count : ℕ)
    → passes_in seats ≡ passes → map (λ (p : TurnPass). p.document) passes ≡ range_with_len 0 count
    → length seats ≡ count
as-seated {L} passes seats count are documents =
    sym (length-map seats (λ (s : Seating L TurnPass). s.pass)) ∙ ap length are
    ∙ as-many (λ (p : TurnPass). p.document) passes count documents

-- the documents of seats are those of their passes
pub documents-in : {L : Type 0} (seats : List (Seating L TurnPass)) (count : ℕ)
    → map (λ (s : Seating L TurnPass). s.pass.document) seats ≡ range_with_len 0 count
    → map (λ (p : TurnPass). p.document) (passes_in seats) ≡ range_with_len 0 count
documents-in {L} seats count is =
    map-map (λ (p : TurnPass). p.document) (λ (s : Seating L TurnPass). s.pass) seats ∙ is

-- as many links as seats at first
pub many-links : {L : Type 0} (made back : List (Seating L TurnPass)) (count : ℕ)
    → map (λ (p : TurnPass). p.document) (passes_in made) ≡ range_with_len 0 count
    → map (λ (s : Seating L TurnPass). s.pass.document) back ≡ range_with_len 0 count
    → length (links_in back) ≡ length made
many-links {L} made back count first last =
    length-map back (λ (s : Seating L TurnPass). s.link)
    ∙ as-many (λ (s : Seating L TurnPass). s.pass.document) back count last
    ∙ sym (as-seated (passes_in made) made count refl first)

module _ {L State : Type 0} (told : L → LinkTold State) (id : TableId) (scenario : Scenario)
    (passes : List TurnPass) (seats : List (Seating L TurnPass)) where
  -- seats of new passes are ready
  pub ready-seats : All (IsNew id (opening_book scenario)) passes
      → map (λ (p : TurnPass). p.document) passes ≡ range_with_len 0 (length scenario.documents)
      → passes_in seats ≡ passes → AreSeated scenario.documents (map (seat_seen told) seats)
  ready-seats new documents are = record {
    each = map-map (λ (s : Seat State). s.document) (seat_seen told) seats
        ∙ sym (map-map (λ (p : TurnPass). p.document) (λ (s : Seating L TurnPass). s.pass) seats)
        ∙ ap (map (λ (p : TurnPass). p.document)) are ∙ documents;
    calls = All-map (λ (s : Seat State). most_calls ≤ s.outside.left) (seat_seen told) seats
        (λ k d lt. let n = unmap (IsNew id (opening_book scenario)) (λ (s : Seating L TurnPass). s.pass) seats
        (subst (All (IsNew id (opening_book scenario))) (sym are) new) k d lt in omega (arith, n.left_is));
  }

-- they are passes of the book
pub belong-at : {L : Type 0} (id : TableId) (scenario : Scenario) (passes : List TurnPass)
    (seats : List (Seating L TurnPass)) → All (IsNew id (opening_book scenario)) passes → passes_in seats ≡ passes
    → All (λ (s : Seating L TurnPass). s.pass.seat.table_id ≡ id) seats
belong-at {L} id scenario passes seats new are k d lt =
    (unmap (IsNew id (opening_book scenario)) (λ (s : Seating L TurnPass). s.pass) seats
    (subst (All (IsNew id (opening_book scenario))) (sym are) new) k d lt).belongs

pub belong-passes : {L : Type 0} (id : TableId) (seats : List (Seating L TurnPass))
    → All (λ (s : Seating L TurnPass). s.pass.seat.table_id ≡ id) seats
    → All (λ (p : TurnPass). p.seat.table_id ≡ id) (passes_in seats)
belong-passes {L} id seats belong =
    All-map (λ (p : TurnPass). p.seat.table_id ≡ id) (λ (s : Seating L TurnPass). s.pass) seats belong
