-- What a document's questions depend on: the notes of hosts, and what was learnt and cleared under its key.
use Rattle.std.specs.Prelude.{◌≡◌, ℕ, Bool, ◌==◌, true, false, List, [], ◌∷◌, ◌++◌, filter, if◌then◌else◌}
use Rattle.std.specs.List.{AllByRecursion}
use Rattle.std.specs.Str.{bytes_eq}
use Rattle.value_text.specs.Texts.{Text}
use Rattle.book_calls.specs.declared.book.Book.{Book}
use Rattle.book_calls.specs.declared.entry.Entry.{Entry}
use Rattle.book_calls.specs.declared.op.Op.{Op}
use Rattle.book_calls.specs.declared.op.Op.TheVariants.{Match, Note, Covers, Learn, Clear}
use Rattle.book_calls.specs.Book.{reply}
use Rattle.book_calls.specs.Entries.{Legal, book_after, entries_of}

-- the op may change what a document of this key is told: it is a Note, or a Learn or Clear of the key
abbrev pub may_change : Text → Op → Bool
may_change key (Match host now) = false
may_change key (Note host sts now) = true
may_change key (Covers question now) = false
may_change key (Learn lesson now) = bytes_eq lesson.key key
may_change key (Clear other origin url now) = bytes_eq other key

-- the entries that may
abbrev pub past : Text → List Entry → List Entry
past key history = filter (λ e. may_change key e.op) history

-- the op is one that a document of this key makes
abbrev pub is_of_key : Text → Op → Bool
is_of_key key (Match host now) = true
is_of_key key (Note host sts now) = true
is_of_key key (Covers question now) = bytes_eq question.key key
is_of_key key (Learn lesson now) = bytes_eq lesson.key key
is_of_key key (Clear other origin url now) = bytes_eq other key

-- the book after the past of a key replies to the ops of that key as the book after all entries:
-- whatever else documents of other keys did, though hosts are bounded, entries expire, and documents of
-- different keys share origins and URLs
abbrev pub PastReplies : Type 0
PastReplies = (key : Text) (opening : Book) (history : List Entry) (op : Op) → is_of_key key op ≡ true
    → reply (book_after opening (past key history)) op ≡ reply (book_after opening history) op

-- before each entry of a document, the past of its key: of these entries, and of those before it
abbrev pub pasts_from : ℕ → Text → List Entry → List Entry → List (List Entry)
pasts_from document key before [] = []
pasts_from document key before (e ∷ es) =
    if e.document == document then past key before ∷ pasts_from document key (before ++ e ∷ []) es
    else pasts_from document key (before ++ e ∷ []) es

-- the pasts of a document with this key in a history: one before each of its entries
abbrev pub pasts_of : ℕ → Text → List Entry → List (List Entry)
pasts_of document key history = pasts_from document key [] history

-- there is a past for each entry, and the opening book after it replies to the op what the entry says
abbrev pub Answer : Book → List (List Entry) → List Entry → Type 0
Answer opening [] [] = Unit {0}
Answer opening [] (e ∷ es) = ⊥
Answer opening (before ∷ pasts) [] = ⊥
Answer opening (before ∷ pasts) (e ∷ es) =
    (e.reply ≡ reply (book_after opening before) e.op) × Answer opening pasts es

-- in a legal history the replies to a document whose ops are all of its key are those of the book after
-- their pasts
abbrev pub PastsAnswer : Type 0
PastsAnswer = (opening : Book) (history : List Entry) (document : ℕ) (key : Text)
    → Legal opening history → AllByRecursion (λ e. is_of_key key e.op ≡ true) (entries_of document history)
    → Answer opening (pasts_of document key history) (entries_of document history)
