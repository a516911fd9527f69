-- Runs whose calls are those of a document in a legal history.
use Rattle.std.proofs.Common.{◌≡◌, ℕ, true, List, [], ◌∷◌, map, refl, ap, subst, sym, ◌∙◌, arith, None}
use Rattle.std.specs.List.{AllByRecursion}
use Rattle.book_calls.specs.declared.book.Book.{Book}
use Rattle.book_calls.specs.declared.entry.Entry.{Entry}
use Rattle.book_calls.specs.Book.{after, reply}
use Rattle.book_calls.specs.Entries.{book_after, entries_of}
use Rattle.book_calls.specs.Past.{Answer, PastsAnswer, is_of_key, pasts_of}
use Rattle.fetch_laws.specs.Apart.{Made}
use Rattle.fetch_laws.proofs.ApartLemmas.{SayReplies}
use Rattle.script_runs.specs.Runs.{document_client, document_run}
use Rattle.play_isolation.specs.Alone.{after_ops, ops_of, pasts, reply_after}
use Rattle.play_isolation.specs.Calls.{calls_of, document_calls}
use Rattle.play_isolation.specs.Laws.{CallsInRange, CallsOwn, RunsAlike, RunsAlone, RunsApart}
use Rattle.play_isolation.proofs.AloneLemmas.{run-apart, run-by}
use Rattle.play_isolation.proofs.BlindLemmas.{blind-document, silent-document}
use Rattle.play_isolation.proofs.OwnLemmas.{document-calls, range-calls}

pub runs-apart : RunsApart
runs-apart cookies base document tape =
    run-apart None (document_run cookies base document) tape (blind-document cookies base document)

pub calls-own : CallsOwn
calls-own cookies base document tape = document-calls cookies base document tape

pub calls-in_range : CallsInRange
calls-in_range cookies base document tape valid soon =
    range-calls cookies base document tape valid (omega (arith, soon))

-- the book after entries is the book after their ops
book-ops : (book : Book) (entries : List Entry) → book_after book entries ≡ after_ops book (ops_of entries)
book-ops book [] = refl
book-ops book (e ∷ es) = book-ops (after book e.op) es

-- the books after the pasts of entries say what their calls were replied
pasts-answer : (opening : Book) (before : List (List Entry)) (own : List Entry) → Answer opening before own
    → SayReplies (reply_after opening) (map ops_of before) (calls_of own)
pasts-answer opening [] [] is = tt
pasts-answer opening [] (e ∷ es) is = absurd is
pasts-answer opening (past ∷ before) [] is = absurd is
pasts-answer opening (past ∷ before) (e ∷ es) is = (
  ap (λ (book : Book). reply book e.op) (sym (book-ops opening past)) ∙ sym is.0,
  pasts-answer opening before es is.1,
)

-- entries whose calls are of a key
entries-own : (key : List ℕ) (entries : List Entry)
    → AllByRecursion (λ (call : Made). is_of_key key call.op ≡ true) (calls_of entries)
    → AllByRecursion (λ (e : Entry). is_of_key key e.op ≡ true) entries
entries-own key [] are = tt
entries-own key (e ∷ es) are = (are.0, entries-own key es are.1)

-- by the law of the book on pasts
pub runs-alone : PastsAnswer → RunsAlone
runs-alone law cookies base document opening history number tape is =
    let key = (document_client document).key in
    let whole = document_run cookies base document in
    let own : AllByRecursion (λ (call : Made). is_of_key key call.op ≡ true) (document_calls number history) =
    subst (AllByRecursion (λ (call : Made). is_of_key key call.op ≡ true)) is.calls
    (document-calls cookies base document tape) in
    let answer : SayReplies (reply_after opening) (pasts number key history) (document_calls number history) =
    pasts-answer opening (pasts_of number key history) (entries_of number history)
    (law opening history number key is.legal (entries-own key (entries_of number history) own)) in
    run-by (reply_after opening) None whole tape (pasts number key history) (blind-document cookies base document)
    (silent-document cookies base document)
    (subst (SayReplies (reply_after opening) (pasts number key history)) (sym is.calls) answer)

pub runs-alike : PastsAnswer → RunsAlike
runs-alike law cookies base document opening history others number another tape different is are past view = rw (
  runs-alone law cookies base document opening history number tape is,
  runs-alone law cookies base document opening others another different are,
  past,
  view,
) refl
