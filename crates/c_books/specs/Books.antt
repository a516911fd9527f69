-- What the calls tell of a book as a text.
use Rattle.std.specs.Prelude.{◌≡◌, ℕ, Option, Some, Result, Ok, Err}
use Rattle.value_text.specs.Texts.{Text}
use Rattle.book_calls.specs.declared.book.Book.{Book}
use Rattle.book_text.specs.Reading.{read_book}
use Rattle.book_text.specs.Texts.{book_text}
use Rattle.book_text.specs.declared.refusal.Reason.{Reason}
use Rattle.book_text.specs.declared.refusal.Reason.TheVariants.{NoBook, OtherFormat, BadLine, Order, Full, TooLong}
use Rattle.book_text.specs.declared.refusal.Refusal.{Refusal}
use Rattle.c_handle.specs.Things.{held_book, TextBy}
use Rattle.c_handle.specs.declared.codes.TheConstants.{NO, OK}
use Rattle.c_handle.specs.declared.thing.Thing.{Thing}
use Rattle.c_handle.specs.declared.thing.Thing.TheVariants as thing
use Rattle.c_books.specs.declared.books.TheConstants.{REASON_NO_BOOK, REASON_OTHER_FORMAT, REASON_BAD_LINE}
use Rattle.c_books.specs.declared.books.TheConstants.{REASON_ORDER, REASON_FULL, REASON_TOO_LONG}

-- the text of a book is written
abbrev pub IsTextOf : Option Thing → Text → Text → ℕ → ℕ → ℕ → Type 0
IsTextOf held = TextBy (held_book held) (λ book. Ok (Some (book_text book)))

-- the text of the book that is held is read back as that book
abbrev pub IsReadBack : Option Thing → Text → Type 0
IsReadBack held text = (book : Book) → held_book held ≡ Some book → read_book text ≡ Ok book

-- the numbers of the reasons
abbrev pub AreReasons : Type 0
AreReasons = (REASON_NO_BOOK ≡ 0) × (REASON_OTHER_FORMAT ≡ 1) × (REASON_BAD_LINE ≡ 2) × (REASON_ORDER ≡ 3)
    × (REASON_FULL ≡ 4) × (REASON_TOO_LONG ≡ 5)

-- the number of a reason
abbrev pub reason_number : Reason → ℕ
reason_number NoBook = REASON_NO_BOOK
reason_number OtherFormat = REASON_OTHER_FORMAT
reason_number BadLine = REASON_BAD_LINE
reason_number Order = REASON_ORDER
reason_number Full = REASON_FULL
reason_number TooLong = REASON_TOO_LONG

-- the handle holds the book that was read; or it holds what it held, and the refusal is told
abbrev pub IsRead : Result Book Refusal → ℕ → ℕ → ℕ → ℕ → ℕ → Option Thing → Option Thing → Type 0
IsRead (Ok book) line_before line reason_before reason code before held =
    (code ≡ OK) × (held ≡ Some (thing.Book book)) × (line ≡ line_before) × (reason ≡ reason_before)
IsRead (Err refusal) line_before line reason_before reason code before held =
    (code ≡ NO) × (held ≡ before) × (line ≡ refusal.line) × (reason ≡ reason_number refusal.reason)
