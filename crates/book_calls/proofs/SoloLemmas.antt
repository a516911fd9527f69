-- A call on the one pass.
use Rattle.std.proofs.Common.{◌≡◌, ℕ, suc, ◌+◌, ◌<◌, Bool, true, false, List, [], ◌∷◌, ◌++◌, refl, sym, ap, ◌∙◌}
use Rattle.std.proofs.Common.{append_assoc, arith, drop, length, subst, Result, Ok, Err, IfOk, OnOk, OnErr}
use Rattle.std.proofs.lemmas.List.{append-nil, drop-append-le, length-append}
use Rattle.value_bytes.specs.declared.memory.OutOfMemory.{OutOfMemory}
use Rattle.book_calls.specs.declared.book.Book.{Book}
use Rattle.book_calls.specs.declared.entry.Entry.{Entry}
use Rattle.book_calls.specs.declared.op.Op.{Op}
use Rattle.book_calls.specs.declared.op.Op.TheVariants.{Match, Note, Covers, Learn, Clear}
use Rattle.book_calls.specs.declared.op.Reply.{Reply}
use Rattle.book_hosts.specs.Hosts.{matches_host}
use Rattle.book_preflights.specs.Cache.{covers}
use Rattle.book_calls.specs.Book.{after, reply, yes_or_no}
use Rattle.book_calls.specs.Entries.{AllTurnsBelow, Extends, HasTurnsFrom, Legal, book_after, entry}
use Rattle.book_calls.specs.Ops.{is_answer, is_question}
use Rattle.book_calls.specs.Private.Solo.{IsSolo, solo_of}
use Rattle.book_calls.specs.Solo.{AreOf}
use Rattle.book_calls.proofs.EntryLemmas.{LegalFrom-snoc, book_after-append}

pub yes_or_no-answers : (b : Bool) → is_answer (yes_or_no b) ≡ true
yes_or_no-answers true = refl
yes_or_no-answers false = refl

-- a reply is of the kind that its op asks for
pub reply-kind : (book : Book) (op : Op) → is_answer (reply book op) ≡ is_question op
reply-kind book (Match host now) = yes_or_no-answers (matches_host book.hosts host now)
reply-kind book (Note host sts now) = refl
reply-kind book (Covers question now) = yes_or_no-answers (covers question now book.cache)
reply-kind book (Learn lesson now) = refl
reply-kind book (Clear key origin url now) = refl

pub kind-of : (book : Book) (op : Op) (result : Result Reply OutOfMemory)
    → IfOk result (λ answer. answer ≡ reply book op) → IfOk result (λ answer. is_answer answer ≡ is_question op)
kind-of book op (Ok answer) is = ap is_answer is ∙ reply-kind book op
kind-of book op (Err error) is = tt

-- ---- turns that are places

-- each is below where they go on
turns-below : (turn : ℕ) (history : List Entry) → HasTurnsFrom turn history
    → AllTurnsBelow (turn + length history) history
turns-below turn [] turns = tt
turns-below turn (e ∷ es) turns = (
  omega (arith, turns.0),
  subst (λ (n : ℕ). AllTurnsBelow n es) (further turn (length es)) (turns-below (turn + 1) es turns.1),
)
  where
    further : (n k : ℕ) → n + 1 + k ≡ n + suc k
    further n k = omega arith

-- and so they stay with one more there
turns-snoc : (turn : ℕ) (history : List Entry) (e : Entry) → HasTurnsFrom turn history
    → e.turn ≡ turn + length history → HasTurnsFrom turn (history ++ e ∷ [])
turns-snoc turn [] e turns at = (omega (arith, at), tt)
turns-snoc turn (x ∷ xs) e turns at =
    (turns.0, turns-snoc (turn + 1) xs e turns.1 (at ∙ further turn (length xs)))
  where
    further : (n k : ℕ) → n + suc k ≡ n + 1 + k
    further n k = omega arith

-- the turns of a last part
turns-back : (turn : ℕ) (front back : List Entry) → HasTurnsFrom turn (front ++ back)
    → HasTurnsFrom (turn + length front) back
turns-back turn [] back turns = subst (λ (n : ℕ). HasTurnsFrom n back) (last turn) turns
  where
    last : (n : ℕ) → n ≡ n + 0
    last n = omega arith
turns-back turn (x ∷ xs) back turns =
    subst (λ (n : ℕ). HasTurnsFrom n back) (further turn (length xs)) (turns-back (turn + 1) xs back turns.1)
  where
    further : (n k : ℕ) → n + 1 + k ≡ n + suc k
    further n k = omega arith

-- ---- entries of one document

of-snoc : (document : ℕ) (entries : List Entry) (e : Entry) → AreOf document entries → e.document ≡ document
    → AreOf document (entries ++ e ∷ [])
of-snoc document [] e all is = (is, tt)
of-snoc document (x ∷ xs) e all is = (all.0, of-snoc document xs e all.1 is)

-- ---- a call

module _ (document : ℕ) (book book' opening : Book) (behind history history' : List Entry) (calls : ℕ) (op : Op)
    (solo : IsSolo book history (solo_of document opening behind history calls)) (turn : ℕ)
    (at : turn ≡ length history) where
  abbrev next : Reply → Entry
  next answer = entry turn document op answer

  abbrev entries : List Entry
  entries = drop (length behind) history

  many : length history ≡ length behind + length entries
  many = ap length solo.grown ∙ length-append behind entries

  entries-grown : (answer : Reply) → history' ≡ history ++ next answer ∷ []
      → drop (length behind) history' ≡ entries ++ next answer ∷ []
  entries-grown answer grown = ap (drop (length behind)) grown
      ∙ drop-append-le (length behind) history (next answer ∷ []) (omega (arith, many))

  below : AllTurnsBelow (length history) entries
  below =
      let turns : HasTurnsFrom (0 + length behind) entries =
      turns-back 0 behind entries (subst (HasTurnsFrom 0) solo.grown solo.turns) in
      let same : 0 + length behind + length entries ≡ length history = omega (arith, many) in
      subst (λ (n : ℕ). AllTurnsBelow n entries) same (turns-below (0 + length behind) entries turns)

  legal-next : (answer : Reply) → answer ≡ reply book op → Legal opening (entries ++ next answer ∷ [])
  legal-next answer is = LegalFrom-snoc opening 0 (length history) entries (next answer) solo.legal (omega arith)
      below at (is ∙ ap (λ (x : Book). reply x op) solo.book_is)

  pub solo_next : calls < 4294967295 → (result : Result Reply OutOfMemory)
      → IfOk result (λ answer. answer ≡ reply book op) → OnOk result (book' ≡ after book op)
      → IfOk result (λ answer. history' ≡ history ++ next answer ∷ [])
      → OnErr result ((history' ≡ history) × (book' ≡ book))
      → IsSolo book' history' (solo_of document opening behind history' (calls + 1))
  solo_next few (Ok answer) is changed grown refused =
      let e : Entry = next answer in
      let longer = entries-grown answer grown in
      record {
        grown = grown ∙ (ap (λ (l : List Entry). l ++ e ∷ []) solo.grown
            ∙ (append_assoc behind entries (e ∷ []) ∙ ap (λ (l : List Entry). behind ++ l) (sym longer)));
        book_is = changed ∙ (ap (λ (x : Book). after x op) solo.book_is
            ∙ (sym (book_after-append opening entries (e ∷ [])) ∙ ap (book_after opening) (sym longer)));
        legal = subst (Legal opening) (sym longer) (legal-next answer is);
        of_document = subst (AreOf document) (sym longer) (of-snoc document entries e solo.of_document refl);
        turns = subst (HasTurnsFrom 0) (sym grown) (turns-snoc 0 history e solo.turns (omega (arith, at)));
        few = omega arith;
      }
  solo_next few (Err error) is changed grown refused =
      let same : drop (length behind) history' ≡ entries = ap (drop (length behind)) refused.0 in
      record {
        grown = refused.0 ∙ (solo.grown ∙ ap (λ (l : List Entry). behind ++ l) (sym same));
        book_is = refused.1 ∙ (solo.book_is ∙ ap (book_after opening) (sym same));
        legal = subst (Legal opening) (sym same) solo.legal;
        of_document = subst (AreOf document) (sym same) solo.of_document;
        turns = subst (HasTurnsFrom 0) (sym refused.0) solo.turns;
        few = omega arith;
      }

  pub solo_extends : (result : Result Reply OutOfMemory) → IfOk result (λ answer. answer ≡ reply book op)
      → IfOk result (λ answer. history' ≡ history ++ next answer ∷ [])
      → IfOk result (λ answer. Extends opening document op answer entries (drop (length behind) history') entries
      (drop (length behind) history'))
  solo_extends (Err error) is grown = tt
  solo_extends (Ok answer) is grown =
      let e : Entry = next answer in
      let longer = entries-grown answer grown in
      record {
        entry = e;
        document_is = refl;
        op_is = refl;
        reply_is = refl;
        own_is = longer;
        legal = subst (Legal opening) (sym longer) (legal-next answer is);
        between = [];
        seen_is = longer ∙ ap (λ (x : List Entry). x ++ e ∷ []) (sym (append-nil entries));
      }
