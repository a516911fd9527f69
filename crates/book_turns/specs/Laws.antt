-- Which passes are all of a book, and turn numbers where no call was refused.
use Rattle.std.specs.Prelude.{◌≡◌, ◌≢◌, ℕ, ◌<◌, List, ◌∷◌, length}
use Rattle.std.specs.List.{All, count_by}
use mathlib.Core.Option.{some}
use lib.ListN.{get_elem?}
use Rattle.atomic_table.specs.Seated.{TableId}
use Rattle.book_calls.specs.declared.book.Book.{Book}
use Rattle.book_calls.specs.declared.entry.Entry.{Entry}
use Rattle.book_turns.specs.Counts.{times}
use Rattle.book_turns.specs.Passes.{HasEveryPass, IsOneHistory, calls_of, is_of, made_of, own_of}
use Rattle.book_turns.specs.declared.pass.TurnPass.{TurnPass}

-- the first pass, and passes of other documents among which is one for each that it has made, are all
-- passes of the book
abbrev pub AreAllPasses : Type 0
AreAllPasses = (id : TableId) (first : TurnPass) (others : List TurnPass)
    → first.seat.table_id ≡ id → first.document ≡ 4294967295
    → All (λ p. (p.seat.table_id ≡ id) × (p.document ≢ 4294967295)) others
    → ((d : ℕ) → 0 < times d (made_of first) → 0 < count_by (is_of d) others)
    → HasEveryPass id (first ∷ others)

-- where each call on these passes has its entry, each turn number is the entry's place in the history
abbrev pub TurnsArePlaces : Type 0
TurnsArePlaces = (passes : List TurnPass) (book : Book) (history : List Entry) → IsOneHistory passes book history
    → 0 < count_by (is_of 4294967295) passes → All (λ p. calls_of p ≡ length (own_of p)) passes
    → (i : ℕ) (e : Entry) → get_elem? history i ≡ some e → e.turn ≡ i
