-- Histories of the book: what they leave, which are legal, and the entries of a document.
use Rattle.std.specs.Prelude.{◌≡◌, ℕ, ◌+◌, ◌≤◌, ◌<◌, List, [], ◌∷◌, ◌++◌, ◌==◌, filter, if◌then◌else◌}
use Rattle.std.specs.List.{AllByRecursion}
use Rattle.book_calls.specs.declared.book.Book.{Book}
use Rattle.book_calls.specs.declared.entry.Entry.{Entry}
use Rattle.book_calls.specs.declared.op.Op.{Op}
use Rattle.book_calls.specs.declared.op.Reply.{Reply}
use Rattle.book_calls.specs.Book.{reply, after}

-- an entry
abbrev pub entry : ℕ → ℕ → Op → Reply → Entry
entry turn document op answer = record { turn = turn; document = document; op = op; reply = answer }

-- the book after all entries
abbrev pub book_after : Book → List Entry → Book
book_after book [] = book
book_after book (e ∷ es) = book_after (after book e.op) es

-- turn numbers rise from this one on, and each reply is that of the book after the entries before
abbrev pub LegalFrom : Book → ℕ → List Entry → Type 0
LegalFrom book turn [] = Unit {0}
LegalFrom book turn (e ∷ es) =
    (turn ≤ e.turn) × (e.reply ≡ reply book e.op) × LegalFrom (after book e.op) (e.turn + 1) es

-- a legal history of the book
abbrev pub Legal : Book → List Entry → Type 0
Legal book history = LegalFrom book 0 history

-- the entries of a document, in order
abbrev pub entries_of : ℕ → List Entry → List Entry
entries_of document history = filter (λ e. e.document == document) history

-- all turn numbers are below this one
abbrev pub AllTurnsBelow : ℕ → List Entry → Type 0
AllTurnsBelow turn history = AllByRecursion (λ e. e.turn < turn) history

-- entry by entry, the turns are this number and those that follow it
abbrev pub HasTurnsFrom : ℕ → List Entry → Type 0
HasTurnsFrom turn [] = Unit {0}
HasTurnsFrom turn (entry ∷ history) = (entry.turn ≡ turn) × HasTurnsFrom (turn + 1) history

-- the entries are in order of their documents, from this one on
abbrev pub AreInOrderFrom : ℕ → List Entry → Type 0
AreInOrderFrom number [] = Unit {0}
AreInOrderFrom number (entry ∷ entries) = (number ≤ entry.document) × AreInOrderFrom entry.document entries

-- the history begins with what was seen of it
abbrev pub StartsWith : List Entry → List Entry → Type 0
StartsWith history seen = (rest : List Entry) × (history ≡ seen ++ rest)

-- a call of the document added this op and reply, as the last entry of its own and of what it has
-- seen, which is a legal history of the opening book
pub record Extends (opening : Book) (document : ℕ) (op : Op) (answer : Reply)
    (own own' seen seen' : List Entry) : Type 0 where
  pub entry : Entry
  pub document_is : entry.document ≡ document
  pub op_is : entry.op ≡ op
  pub reply_is : entry.reply ≡ answer
  pub own_is : own' ≡ own ++ entry ∷ []
  pub legal : Legal opening seen'
  pub between : List Entry
  pub seen_is : seen' ≡ (seen ++ between) ++ entry ∷ []

-- a history that is legal stays so where an entry with the next turn and the book's reply is added,
-- and the book is then the one after that entry's op
abbrev pub GrowsByAnEntry : Type 0
GrowsByAnEntry = (opening : Book) (turn : ℕ) (history : List Entry) (e : Entry)
    → Legal opening history → AllTurnsBelow turn history
    → e.turn ≡ turn → e.reply ≡ reply (book_after opening history) e.op
    → Legal opening (history ++ e ∷ [])
    × (book_after opening (history ++ e ∷ []) ≡ after (book_after opening history) e.op)

-- an entry more is the last of its own document, and leaves the entries of every other one
abbrev pub IsLastOfItsDocument : Type 0
IsLastOfItsDocument = (document : ℕ) (history : List Entry) (e : Entry)
    → entries_of document (history ++ e ∷ [])
    ≡ (if e.document == document then entries_of document history ++ e ∷ [] else entries_of document history)
