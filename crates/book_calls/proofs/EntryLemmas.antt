-- Histories one entry longer, and parts of histories.
use Rattle.std.proofs.Common.{◌≡◌, ◌≢◌, ℕ, ◌+◌, ◌<◌, ◌≤◌, Bool, true, false, cond, eqb, List, []}
use Rattle.std.proofs.Common.{◌∷◌, ◌++◌, refl, sym, ap, ◌∙◌, arith, append_assoc, eq-eqb, ne_eqb, subst}
use Rattle.std.specs.List.{AllByRecursion}
use Rattle.std.proofs.lemmas.List.{append-nil}
use Rattle.book_calls.specs.declared.book.Book.{Book}
use Rattle.book_calls.specs.declared.entry.Entry.{Entry}
use Rattle.book_calls.specs.Book.{reply, after}
use Rattle.book_calls.specs.Entries.{AllTurnsBelow, GrowsByAnEntry, HasTurnsFrom, IsLastOfItsDocument, Legal, LegalFrom}
use Rattle.book_calls.specs.Entries.{StartsWith, book_after, entries_of}
use Rattle.book_calls.specs.Solo.{AreOf}

pub book_after-append : (book : Book) (xs ys : List Entry) → book_after book (xs ++ ys)
    ≡ book_after (book_after book xs) ys
book_after-append book [] ys = refl
book_after-append book (e ∷ es) ys = book_after-append (after book e.op) es ys

pub LegalFrom-snoc : (book : Book) (t n : ℕ) (history : List Entry) (e : Entry) → LegalFrom book t history → t ≤ n
    → AllTurnsBelow n history → e.turn ≡ n → e.reply ≡ reply (book_after book history) e.op
    → LegalFrom book t (history ++ e ∷ [])
LegalFrom-snoc book t n [] e legal low below turn is = (omega arith, is, tt)
LegalFrom-snoc book t n (x ∷ xs) e legal low below turn is =
    let next : x.turn + 1 ≤ n = omega (arith, below.0) in
    (legal.0, legal.1, LegalFrom-snoc (after book x.op) (x.turn + 1) n xs e legal.2 next below.1 turn is)

pub grown : GrowsByAnEntry
grown opening turn history e legal below at is = (
  LegalFrom-snoc opening 0 turn history e legal (omega arith) below at is,
  book_after-append opening history (e ∷ []),
)

pub AllTurnsBelow-mono : (m n : ℕ) (history : List Entry) → m ≤ n → AllTurnsBelow m history → AllTurnsBelow n history
AllTurnsBelow-mono m n [] le all = tt
AllTurnsBelow-mono m n (x ∷ xs) le all = (omega (arith, all.0), AllTurnsBelow-mono m n xs le all.1)

pub AllTurnsBelow-snoc : (n : ℕ) (history : List Entry) (e : Entry) → AllTurnsBelow n history → e.turn < n
    → AllTurnsBelow n (history ++ e ∷ [])
AllTurnsBelow-snoc n [] e all lt = (lt, tt)
AllTurnsBelow-snoc n (x ∷ xs) e all lt = (all.0, AllTurnsBelow-snoc n xs e all.1 lt)

cond-append : (b : Bool) (x : Entry) (xs ys : List Entry) → cond b (x ∷ (xs ++ ys)) (xs ++ ys) ≡ cond b (x ∷ xs) xs
    ++ ys
cond-append true x xs ys = refl
cond-append false x xs ys = refl

pub entries_of-append : (document : ℕ) (xs ys : List Entry) → entries_of document (xs ++ ys) ≡ entries_of document xs
    ++ entries_of document ys
entries_of-append document [] ys = refl
entries_of-append document (e ∷ es) ys =
    ap (λ (r : List Entry). cond (eqb e.document document) (e ∷ r) r) (entries_of-append document es ys)
    ∙ cond-append (eqb e.document document) e (entries_of document es) (entries_of document ys)

pub entries_of-snoc_same : (document : ℕ) (history : List Entry) (e : Entry) → e.document ≡ document
    → entries_of document (history ++ e ∷ []) ≡ entries_of document history ++ e ∷ []
entries_of-snoc_same document history e is = entries_of-append document history (e ∷ [])
    ∙ ap (λ (b : Bool). entries_of document history ++ cond b (e ∷ []) []) (eq-eqb e.document document is)

pub entries_of-snoc_other : (document : ℕ) (history : List Entry) (e : Entry) → e.document ≢ document
    → entries_of document (history ++ e ∷ []) ≡ entries_of document history
entries_of-snoc_other document history e apart = entries_of-append document history (e ∷ [])
    ∙ (ap (λ (b : Bool). entries_of document history ++ cond b (e ∷ []) []) (ne_eqb e.document document apart)
    ∙ append-nil (entries_of document history))

last-by : (b : Bool) (xs : List Entry) (e : Entry) → xs ++ cond b (e ∷ []) [] ≡ cond b (xs ++ e ∷ []) xs
last-by true xs e = refl
last-by false xs e = append-nil xs

pub last-of-its-document : IsLastOfItsDocument
last-of-its-document document history e = entries_of-append document history (e ∷ [])
    ∙ last-by (eqb e.document document) (entries_of document history) e

pub StartsWith-refl : (history : List Entry) → StartsWith history history
StartsWith-refl history = ([], sym (append-nil history))

pub StartsWith-more : (history more seen : List Entry) → StartsWith history seen → StartsWith (history ++ more) seen
StartsWith-more history more seen s = (s.0 ++ more, ap (λ (l : List Entry). l ++ more) s.1 ∙ append_assoc seen s.0 more)

pub StartsWith-nil : (history : List Entry) → StartsWith history []
StartsWith-nil history = (history, refl)

pub StartsWith-trans : (a b c : List Entry) → StartsWith a b → StartsWith b c → StartsWith a c
StartsWith-trans a b c s t = (t.0 ++ s.0, s.1 ∙ (ap (λ (l : List Entry). l ++ s.0) t.1 ∙ append_assoc c t.0 s.0))

-- ---- the entries of one document

-- they are all that the document has of them
pub entries_of-all : (document : ℕ) (entries : List Entry) → AreOf document entries
    → entries_of document entries ≡ entries
entries_of-all document [] all = refl
entries_of-all document (e ∷ es) all =
    ap (λ (b : Bool). cond b (e ∷ entries_of document es) (entries_of document es)) (eq-eqb e.document document all.0)
    ∙ ap (λ (l : List Entry). e ∷ l) (entries_of-all document es all.1)

-- a document has none among those of others
pub entries_of-none : (document : ℕ) (entries : List Entry) → AllByRecursion (λ (e : Entry). e.document ≢ document) entries
    → entries_of document entries ≡ []
entries_of-none document [] apart = refl
entries_of-none document (e ∷ es) apart =
    ap (λ (b : Bool). cond b (e ∷ entries_of document es) (entries_of document es))
    (ne_eqb e.document document apart.0) ∙ entries_of-none document es apart.1

-- what follows of a document's number holds of each entry
pub each-document : (P Q : ℕ → Type 0) (entries : List Entry) → ((n : ℕ) → P n → Q n)
    → AllByRecursion (λ (e : Entry). P e.document) entries → AllByRecursion (λ (e : Entry). Q e.document) entries
each-document P Q [] so all = tt
each-document P Q (e ∷ es) so all = (so e.document all.0, each-document P Q es so all.1)

-- ---- a history that goes on

legal-lower : (book : Book) (n m : ℕ) (entries : List Entry) → LegalFrom book m entries → HasTurnsFrom n entries
    → LegalFrom book n entries
legal-lower book n m [] legal turns = tt
legal-lower book n m (e ∷ es) legal turns = (omega (arith, turns.0), legal.1, legal.2)

legal-append : (book : Book) (turn from : ℕ) (history entries : List Entry) → LegalFrom book turn history
    → LegalFrom (book_after book history) from entries → HasTurnsFrom turn (history ++ entries)
    → LegalFrom book turn (history ++ entries)
legal-append book turn from [] entries legal goes turns = legal-lower book turn from entries goes turns
legal-append book turn from (e ∷ es) entries legal goes turns = (
  legal.0,
  legal.1,
  legal-append (after book e.op) (e.turn + 1) from es entries legal.2 goes
      (subst (λ (n : ℕ). HasTurnsFrom (n + 1) (es ++ entries)) (sym turns.0) turns.1),
)

module _ (opening book : Book) (history entries longer : List Entry) (at : book ≡ book_after opening history)
    (grown : longer ≡ history ++ entries) where
  -- it leaves the book that the new entries leave
  pub book-on : (left : Book) → left ≡ book_after book entries → left ≡ book_after opening longer
  book-on left is = is ∙ (ap (λ (b : Book). book_after b entries) at
      ∙ (sym (book_after-append opening history entries) ∙ ap (book_after opening) (sym grown)))

  -- and is legal where they are, and its turns have no gap
  pub legal-on : Legal opening history → Legal book entries → HasTurnsFrom 0 longer → Legal opening longer
  legal-on legal goes turns = subst (Legal opening) (sym grown)
      (legal-append opening 0 0 history entries legal (subst (λ (b : Book). Legal b entries) at goes)
      (subst (HasTurnsFrom 0) grown turns))
