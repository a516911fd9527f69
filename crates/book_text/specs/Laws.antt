-- What is written is read back, and only that (this project's own).
use Rattle.std.specs.Prelude.{◌≡◌, Ok}
use Rattle.value_text.specs.Texts.{Text}
use Rattle.book_calls.specs.declared.book.Book.{Book}
use Rattle.book_text.specs.Reading.{read_book}
use Rattle.book_text.specs.Texts.{IsBook, book_text}

-- the text of each book is read back as that book
abbrev pub ReadsWritten : Type 0
ReadsWritten = (book : Book) → IsBook book → read_book (book_text book) ≡ Ok book

-- and what is read as a book is the text of that book, which is one
abbrev pub ReadsOnlyWritten : Type 0
ReadsOnlyWritten = (text : Text) (book : Book) → read_book text ≡ Ok book → (text ≡ book_text book) × IsBook book
