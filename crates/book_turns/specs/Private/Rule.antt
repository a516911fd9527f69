-- The rule of the turn lock. Word 0 is the ticket that is drawn next, word 1 the one that is served, and the
-- slot has the desk. The number 4294967295 is the document of the first pass, and the most calls on a pass.
use Rattle.std.specs.Prelude.{◌≡◌, ◌≢◌, ℕ, ◌+◌, ◌*◌, Bool, ◌<◌, ◌≤◌, true, false, List, [], ◌∷◌, length}
use Rattle.std.specs.Prelude.{slice_index, Some}
use Rattle.std.specs.declared.option.Option.{Option}
use mathlib.Core.Option.{some}
use lib.ListN.{get_elem?}
use Rattle.atomic_table.specs.Table.{State}
use Rattle.book_calls.specs.declared.book.Book.{Book}
use Rattle.book_calls.specs.declared.entry.Entry.{Entry}
use Rattle.book_calls.specs.Entries.{book_after, Legal, entries_of, AllTurnsBelow, StartsWith}
use Rattle.book_turns.specs.Private.Sums.{total, one, often}
use Rattle.book_turns.specs.declared.desk.Desk.{Desk}
use Rattle.book_turns.specs.declared.view.View.{View}
use Rattle.book_turns.specs.declared.view.Ended.{Ended}

-- the desk with this book and this history
abbrev pub desk : Book → List Entry → Desk
desk book history = record { book = book; history = history }

-- what the first pass knows at first
abbrev pub first_view : Book → View
first_view opening = record {
  live = true;
  document = 4294967295;
  opening = opening;
  draws = 0;
  waits = false;
  ticket = 0;
  served = false;
  noted = false;
  item = [];
  own = [];
  seen = [];
  made = [];
  ended = [];
  next = 0;
}

-- what a view and the ended passes that it keeps have drawn, and how many passes they are
abbrev pub drawn : View → ℕ
drawn v = v.draws + total (λ e. e.draws) v.ended

abbrev pub passes_of : View → ℕ
passes_of v = one v.live + length v.ended

-- whether the pass waits, as a number
abbrev pub waiting : View → ℕ
waiting v = one v.waits

-- each entry is of one of these documents
abbrev pub HasDocument : List Entry → List ℕ → Type 0
HasDocument [] docs = Unit {0}
HasDocument (e ∷ es) docs = (0 < often e.document docs) × HasDocument es docs

-- an ended pass: its own entries are all that the history has of its document
pub record FitsEnded (history : List Entry) (docs : List ℕ) (document : ℕ) (e : Ended) : Type 0 where
  pub own : entries_of e.document history ≡ e.own
  pub seen : StartsWith history e.seen
  pub known : 0 < often e.document docs
  pub apart : document ≢ e.document

-- what a live pass knows, part by part
pub record FitsLive (opening : Book) (history : List Entry) (docs : List ℕ) (knows : Book) (document : ℕ)
    (mine view : List Entry) (others : List ℕ) : Type 0 where
  pub opening_is : knows ≡ opening
  pub own : entries_of document history ≡ mine
  pub seen : StartsWith history view
  pub known : 0 < often document docs
  pub made : document ≡ 4294967295 → docs ≡ 4294967295 ∷ others

-- a pass that has its turn
pub record FitsServed (now : ℕ) (history : List Entry) (live waits : Bool) (ticket : ℕ)
    (view : List Entry) : Type 0 where
  pub live_is : live ≡ true
  pub waits_is : waits ≡ true
  pub ticket_is : ticket ≡ now
  pub seen : view ≡ history

-- what each pass knows
pub record Fits (tickets now : ℕ) (opening : Book) (history : List Entry) (docs : List ℕ) (v : View) : Type 0 where
  pub live : v.live ≡ true → FitsLive opening history docs v.opening v.document v.own v.seen v.made
  pub few : v.draws ≤ 4294967295 * one v.live
  pub few_ended : total (λ e. e.draws) v.ended ≤ 4294967295 * length v.ended
  pub ended : (k : ℕ) (e : Ended) → get_elem? v.ended k ≡ some e → FitsEnded history docs v.document e
  pub waits : v.waits ≡ true → (now ≤ v.ticket) × (v.ticket < tickets)
  pub served : v.served ≡ true → FitsServed now history v.live v.waits v.ticket v.seen
  pub noted : v.noted ≡ true → v.served ≡ true
  -- the first pass alone keeps ended ones
  pub leads : (v.live ≡ true → v.document ≢ 4294967295) → v.ended ≡ []

-- two passes
pub record Apart (v w : View) : Type 0 where
  pub documents : v.live ≡ true → w.live ≡ true → v.document ≢ w.document
  pub tickets : v.waits ≡ true → w.waits ≡ true → v.ticket ≢ w.ticket
  pub ended : v.live ≡ true → (k : ℕ) (e : Ended) → get_elem? w.ended k ≡ some e → v.document ≢ e.document

-- what holds between any two steps
pub record Keeps (s : State (Option Desk) View) : Type 0 where
  pub opening : Book
  pub history : List Entry
  -- the document of the first pass, and those in made
  pub docs : List ℕ
  pub two : length s.words ≡ 2
  pub legal : Legal opening history
  pub turns : AllTurnsBelow (slice_index s.words 1) history
  pub named : HasDocument history docs
  pub queue : slice_index s.words 1 + total waiting s.views ≡ slice_index s.words 0
  pub sum : total drawn s.views ≡ slice_index s.words 0
  pub count : total passes_of s.views ≡ length docs
  pub once : (d : ℕ) → often d docs ≤ 1
  pub small : (d : ℕ) → 4294967296 ≤ d → often d docs ≡ 0
  pub fits : (i : ℕ) (v : View) → get_elem? s.views i ≡ some v
      → Fits (slice_index s.words 0) (slice_index s.words 1) opening history docs v
  pub apart : (i j : ℕ) (v w : View) → i ≢ j → get_elem? s.views i ≡ some v → get_elem? s.views j ≡ some w
      → Apart v w
  -- where no pass is served, the desk is at home
  pub home : ((i : ℕ) (v : View) → get_elem? s.views i ≡ some v → v.served ≡ false)
      → get_elem? s.homes 0 ≡ some (some (Some (desk (book_after opening history) history)))
