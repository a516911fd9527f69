-- A history that goes on by the entries of one document more.
use Rattle.std.proofs.Common.{◌≡◌, ◌≢◌, ℕ, ◌+◌, ◌<◌, ◌≤◌, List, [], ◌∷◌, ◌++◌, ap, ◌∙◌, arith}
use Rattle.std.specs.List.{AllByRecursion}
use Rattle.std.proofs.lemmas.List.{append-nil}
use Rattle.book_calls.specs.declared.entry.Entry.{Entry}
use Rattle.book_calls.specs.Entries.{AreInOrderFrom, entries_of}
use Rattle.book_calls.specs.Solo.{AreOf}
use Rattle.book_calls.proofs.EntryLemmas.{each-document, entries_of-all, entries_of-append, entries_of-none}

-- ---- the entries of a document

-- between those of documents before it and behind it
pub own-among : (document : ℕ) (before entries behind : List Entry) → AreOf document entries
    → AllByRecursion (λ (e : Entry). e.document < document) before
    → AllByRecursion (λ (e : Entry). document + 1 ≤ e.document) behind
    → entries_of document (before ++ (entries ++ behind)) ≡ entries
own-among document before entries behind of below above =
    entries_of-append document before (entries ++ behind)
    ∙ ap (λ (l : List Entry). l ++ entries_of document (entries ++ behind))
    (entries_of-none document before (each-document (λ n. n < document) (λ n. n ≢ document) before
    (λ n lt same. omega (arith, lt, same)) below))
    ∙ entries_of-append document entries behind
    ∙ ap (λ (l : List Entry). l ++ entries_of document behind) (entries_of-all document entries of)
    ∙ ap (λ (l : List Entry). entries ++ l)
    (entries_of-none document behind (each-document (λ n. document + 1 ≤ n) (λ n. n ≢ document) behind
    (λ n lt same. omega (arith, lt, same)) above))
    ∙ append-nil entries

-- ---- order

pub order-above : (number : ℕ) (entries : List Entry) → AreInOrderFrom number entries
    → AllByRecursion (λ (e : Entry). number ≤ e.document) entries
order-above number [] order = tt
order-above number (e ∷ es) order = (
  order.0,
  each-document (λ n. e.document ≤ n) (λ n. number ≤ n) es (λ n le. omega (arith, le, order.0))
      (order-above e.document es order.1),
)

pub order-from : (number other : ℕ) (entries : List Entry) → number ≤ other → AreInOrderFrom other entries
    → AreInOrderFrom number entries
order-from number other [] le order = tt
order-from number other (e ∷ es) le order = (omega (arith, le, order.0), order.1)

-- a document's entries, before those in order from it on
pub order-of : (number document : ℕ) (entries behind : List Entry) → number ≤ document → AreOf document entries
    → AreInOrderFrom document behind → AreInOrderFrom number (entries ++ behind)
order-of number document [] behind le of order = order-from number document behind le order
order-of number document (e ∷ es) behind le of order = (
  omega (arith, le, of.0),
  order-of e.document document es behind (omega (arith, of.0)) of.1 order,
)
