-- What each step tells: of the step, the seat before, the number found and the seat after.
use Rattle.std.specs.Prelude.{◌≡◌, ◌≢◌, ℕ, ◌+◌, ◌^◌, ◌<◌, true, false, List, [], ◌∷◌, ◌++◌, length, drop}
use Rattle.std.specs.Prelude.{Some, None, Result, Ok, Err}
use Rattle.std.specs.declared.option.Option.{Option}
use Rattle.atomic_table.specs.Table.{Me, Step}
use Rattle.book_calls.specs.declared.entry.Entry.{Entry}
use Rattle.book_calls.specs.Book.{after, empty, reply}
use Rattle.book_calls.specs.Entries.{entry, book_after, entries_of, Legal, AllTurnsBelow, StartsWith}
use Rattle.book_calls.specs.declared.op.Op.{Op}
use Rattle.book_calls.specs.declared.op.Reply.{Reply}
use Rattle.value_bytes.specs.declared.memory.OutOfMemory.{OutOfMemory}
use Rattle.book_turns.specs.declared.desk.Desk.{Desk}
use Rattle.book_turns.specs.declared.view.View.{View}
use Rattle.book_turns.specs.declared.view.Ended.{Ended}
use Rattle.book_turns.specs.Private.Rule.{desk}

-- a seat: what its pass knows, and what it holds
abbrev pub Sat : Type 0
Sat = Me (Option Desk) View

-- what a step tells
abbrev pub Tells : Type 1
Tells = Step (Option Desk) → Sat → ℕ → Sat → Type 0

-- what the pass knows with one ticket more, for which it waits
abbrev pub drew : View → ℕ → View
drew v n = record v { waits = true; ticket = n; draws = v.draws + 1 }

-- there was room for one more ticket
abbrev pub Draws : Tells
Draws st m n w = (n + 1 < 2 ^ 64) × (w ≡ (drew m.0 n, m.1))

-- the history when the turn came: it begins with what was seen, and its entries of the document are the pass's own
pub record Served (m : Sat) (h : List Entry) (w : Sat) : Type 0 where
  pub legal : Legal m.0.opening h
  pub turns : AllTurnsBelow m.0.ticket h
  pub later : StartsWith h m.0.seen
  pub own : entries_of m.0.document h ≡ m.0.own
  pub is : w ≡ (record m.0 { served = true; seen = h }, (0, Some (desk (book_after m.0.opening h) h)) ∷ m.1)

-- where the ticket that is served is the pass's own, its turn has come
abbrev pub Looks : Tells
Looks st m n w = (n ≡ m.0.ticket → Served m w.0.seen w) × (n ≢ m.0.ticket → w ≡ m)

-- the history on the desk that a seat holds
abbrev pub held : List (ℕ × Option Desk) → List Entry
held [] = []
held ((k, Some d) ∷ xs) = d.history
held ((k, None) ∷ xs) = []

-- the item is what the desk has that wasn't seen: an entry, or nothing
abbrev pub noting : View → List Entry → View
noting v h = record v { noted = true; item = drop (length v.seen) h }

abbrev pub Notes : Tells
Notes st m n w = w ≡ (noting m.0 (held m.1), m.1)

-- the turn is over: what was noted is its own, and seen
abbrev pub passed : View → View
passed v = record v {
  waits = false;
  served = false;
  noted = false;
  item = [];
  seen = v.seen ++ v.item;
  own = v.own ++ v.item;
}

abbrev pub Passes : Tells
Passes st m n w = w ≡ (passed m.0, [])

-- the document that the next pass is to have
abbrev pub Names : Tells
Names st m n w = w ≡ (record m.0 { next = st.first }, m.1)

-- a pass that has made another, and that one
abbrev pub forked_left : View → View
forked_left v = record v { made = v.next ∷ v.made }

abbrev pub forked_right : View → View
forked_right v = record {
  live = true;
  document = v.next;
  opening = v.opening;
  draws = 0;
  waits = false;
  ticket = 0;
  served = false;
  noted = false;
  item = [];
  own = [];
  seen = v.seen;
  made = [];
  ended = [];
  next = 0;
}

-- what is kept of a pass that ends, and the pass that keeps it
abbrev pub ending : View → Ended
ending v = record { document = v.document; draws = v.draws; own = v.own; seen = v.seen }

abbrev pub joined : View → View → View
joined v w = record v { ended = ending w ∷ v.ended }

-- what is left of a pass that has ended
abbrev pub spent : View
spent = record {
  live = false;
  document = 0;
  opening = empty;
  draws = 0;
  waits = false;
  ticket = 0;
  served = false;
  noted = false;
  item = [];
  own = [];
  seen = [];
  made = [];
  ended = [];
  next = 0;
}

-- what an op does to the desk
abbrev pub Made : ℕ → ℕ → Op → Desk → Desk → Result Reply OutOfMemory → Type 0
Made turn document op d d' (Ok r) =
    (r ≡ reply d.book op) × (d' ≡ desk (after d.book op) (d.history ++ entry turn document op r ∷ []))
Made turn document op d d' (Err e) = d' ≡ d
