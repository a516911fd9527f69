-- A document's calls of the shared book, replied to by the document's entries of a given history (this project's own).
use Rattle.std.specs.Prelude.{◌≡◌, ◌≢◌, ℕ, ◌+◌, ◌-◌, ◌≤◌, ◌==◌, ◌&&◌, Bool, true, false}
use Rattle.std.specs.Prelude.{List, [], ◌∷◌, ◌++◌, length, take, drop}
use Rattle.std.specs.Prelude.{Option, Some, None}
use Rattle.value_text.specs.Texts.{Text}
use Rattle.book_calls.specs.Accounts.{Account}
use Rattle.book_calls.specs.declared.book.Book.{Book}
use Rattle.book_calls.specs.declared.entry.Entry.{Entry}
use Rattle.book_calls.specs.declared.op.Op.{Op}
use Rattle.book_calls.specs.declared.op.Op.TheVariants.{Match, Note, Covers, Learn, Clear}
use Rattle.book_calls.specs.declared.op.Reply.{Reply}
use Rattle.book_calls.specs.declared.op.Reply.TheVariants.{Yes, Done}
use Rattle.book_calls.specs.Book.{yes_or_no}
use Rattle.book_calls.specs.Entries.{entries_of, entry}
use Rattle.book_preflights.specs.declared.question.Question.{Question}
use Rattle.audit_replay.specs.Legality.{AreRight}

-- What is seen of a pass: the document, the book that the history opens with, the history, how many of its entries were
-- passed, the calls that it does not have, and how many calls were made.
pub record Tape : Type 0 where
  pub document : ℕ
  pub opening : Book
  pub history : List Entry
  pub at : ℕ
  pub strays : List Op
  pub calls : ℕ

-- ---- calls that the history does not have

-- a question asks for no method
abbrev pub lacks_method : Option Text → Bool
lacks_method None = true
lacks_method (Some method) = false

-- a question asks for nothing, so it is answered yes whatever the book is
abbrev pub asks_nothing : Question → Bool
asks_nothing question = lacks_method question.method && length question.names == 0

-- what a call is replied to that the history does not have
abbrev pub stray_reply : Op → Reply
stray_reply (Match host now) = Yes
stray_reply (Note host sts now) = Done
stray_reply (Covers question now) = yes_or_no (asks_nothing question)
stray_reply (Learn lesson now) = Done
stray_reply (Clear key origin url now) = Done

-- an op after which each book replies so
abbrev pub before_stray : Op → Op
before_stray (Match host now) = Note host (record { age = 1; subdomains = false }) now
before_stray (Note host sts now) = Clear [] [] [] 0
before_stray (Covers question now) = Clear question.key question.origin question.url now
before_stray (Learn lesson now) = Clear [] [] [] 0
before_stray (Clear key origin url now) = Clear [] [] [] 0

-- from a turn on, each stray call of a document, after such an op of another document
abbrev pub stray_entries : ℕ → ℕ → List Op → List Entry
stray_entries document turn [] = []
stray_entries document turn (op ∷ ops) =
    entry turn (document + 1) (before_stray op) Done ∷ entry (turn + 1) document op (stray_reply op)
    ∷ stray_entries document (turn + 2) ops

-- ---- the account of a pass

-- what it has seen: the entries that were passed, and then its stray calls
abbrev pub seen_on : Tape → List Entry
seen_on tape = take tape.at tape.history ++ stray_entries tape.document tape.at tape.strays

abbrev pub account_of : Tape → Account
account_of tape = record {
  document = tape.document;
  opening = tape.opening;
  own = entries_of tape.document (seen_on tape);
  seen = seen_on tape;
  left = 4294967295 - tape.calls;
}

-- ---- what every pass is

-- the op of the first entry
abbrev pub first_op : List Entry → Option Op
first_op [] = None
first_op (e ∷ es) = Some e.op

-- the first stray call is not that of the document's next entry
abbrev pub IsParted : List Entry → List Op → Type 0
IsParted next [] = Unit {0}
IsParted next (op ∷ ops) = first_op next ≢ Some op

-- The history is one that its opening book gives; the first stray call, where there is one, is none that the history
-- has in its place.
pub record IsTape (tape : Tape) : Type 0 where
  pub right : AreRight tape.opening 0 tape.history
  pub within : tape.at ≤ length tape.history
  pub few : tape.calls ≤ 4294967295
  pub parted : IsParted (entries_of tape.document (drop tape.at tape.history)) tape.strays

-- The calls that were made are the document's entries of the history: there was no other, and none is left.
pub record IsUsedUp (tape : Tape) : Type 0 where
  pub none_strayed : tape.strays ≡ []
  pub none_left : entries_of tape.document (drop tape.at tape.history) ≡ []
