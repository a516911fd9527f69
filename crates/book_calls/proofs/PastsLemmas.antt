-- The pasts of a document: the book after each of them replies as the history says.
use Rattle.std.proofs.Common.{◌≡◌, ℕ, ◌+◌, ◌==◌, Bool, true, false, cond, List, [], ◌∷◌, ◌++◌, sym, ◌∙◌, subst}
use Rattle.std.specs.List.{AllByRecursion}
use Rattle.book_calls.specs.declared.book.Book.{Book}
use Rattle.book_calls.specs.declared.entry.Entry.{Entry}
use Rattle.book_calls.specs.Book.{reply}
use Rattle.book_calls.specs.Entries.{LegalFrom, book_after, entries_of}
use Rattle.book_calls.specs.Past.{Answer, PastReplies, PastsAnswer, is_of_key, past, pasts_from}
use Rattle.book_calls.proofs.EntryLemmas.{book_after-append}

module _ (law : PastReplies) (opening : Book) (document : ℕ) (key : List ℕ) where
  abbrev AreOfKey : List Entry → Type 0
  AreOfKey entries = AllByRecursion (λ e. is_of_key key e.op ≡ true) entries

  -- one entry more, of the document or of another
  answer-by : (before : List Entry) (e : Entry) (pasts : List (List Entry)) (own : List Entry) (mine : Bool)
      → e.reply ≡ reply (book_after opening before) e.op → (AreOfKey own → Answer opening pasts own)
      → AreOfKey (cond mine (e ∷ own) own)
      → Answer opening (cond mine (past key before ∷ pasts) pasts) (cond mine (e ∷ own) own)
  answer-by before e pasts own true is rest all = (is ∙ sym (law key opening before e.op all.0), rest all.1)
  answer-by before e pasts own false is rest all = rest all

  answer-from : (turn : ℕ) (before history : List Entry) → LegalFrom (book_after opening before) turn history
      → AreOfKey (entries_of document history)
      → Answer opening (pasts_from document key before history) (entries_of document history)
  answer-from turn before [] legal all = tt
  answer-from turn before (e ∷ es) legal all =
      answer-by before e (pasts_from document key (before ++ e ∷ []) es) (entries_of document es)
      (e.document == document) legal.1
      (answer-from (e.turn + 1) (before ++ e ∷ []) es
      (subst (λ (book : Book). LegalFrom book (e.turn + 1) es)
      (sym (book_after-append opening before (e ∷ []))) legal.2))
      all

pub pasts-answer : PastReplies → PastsAnswer
pasts-answer law opening history document key legal all = answer-from law opening document key 0 [] history legal all
