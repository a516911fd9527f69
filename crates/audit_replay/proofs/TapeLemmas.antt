-- Calls that a history replies to, and stray ones.
use Rattle.std.proofs.Common.{◌≡◌, ◌≢◌, ◌≤◌, ◌<◌, ◌+◌, ℕ, zero, suc, Bool, true, false, cond, List, [], ◌∷◌, ◌++◌}
use Rattle.std.proofs.Common.{length, take}
use Rattle.std.proofs.Common.{drop, get_or, refl, ap, sym, subst, ◌∙◌, arith, append_assoc, length-append, length-drop}
use Rattle.std.proofs.Common.{length-take}
use Rattle.std.proofs.Common.{Option, Some, None, Result, Ok, Err}
use mathlib.Core.Bool.{or-true}
use Rattle.std.proofs.lemmas.Bool.{and_from, and_left, or_from, or_left}
use Rattle.std.proofs.lemmas.Bool.Decides.{Decides-eqb, nat_tests}
use Rattle.std.proofs.lemmas.Grind.{common_steps}
use Rattle.std.proofs.lemmas.List.{append-nil, take-append-drop, take_at, get_or-append-add}
use Rattle.std.proofs.lemmas.Option.{get_or_from_slice_get}
use Rattle.std.specs.Prelude.{◌==◌, ◌&&◌, ◌||◌, not, filter, map, nat_lt, position, bytes_eq, IfOk, MatchBool}
use Rattle.std.specs.List.{list_all, list_any, position_or_len, slice_get}
use Rattle.book_calls.proofs.SoloLemmas.{reply-kind}
use Rattle.value_lemmas.proofs.Lists.{position_or_len-no, position_or_len-yes}
use Rattle.value_lemmas.proofs.Bytes.{bytes_eq-self}
use Rattle.value_bytes.specs.declared.memory.OutOfMemory.{OutOfMemory}
use Rattle.book_calls.specs.declared.book.Book.{Book}
use Rattle.book_calls.specs.declared.entry.Entry.{Entry}
use Rattle.book_calls.specs.declared.op.Op.{Op}
use Rattle.book_calls.specs.declared.op.Op.TheVariants.{Match, Note, Covers, Learn, Clear}
use Rattle.book_calls.specs.declared.op.Reply.{Reply}
use Rattle.book_calls.specs.declared.op.Reply.TheVariants.{Done}
use Rattle.book_calls.specs.Book.{after, reply, yes_or_no}
use Rattle.book_calls.specs.Entries.{Extends, Legal, LegalFrom, book_after, entries_of, entry}
use Rattle.book_calls.specs.Ops.{is_answer, is_question}
use Rattle.book_calls.proofs.EntryLemmas.{entries_of-append, entries_of-snoc_other, entries_of-snoc_same}
use Rattle.book_hosts.specs.declared.hosts.KnownHost.{KnownHost}
use Rattle.book_hosts.specs.Hosts.{known_host, matches_host, noted, stands_for}
use Rattle.book_preflights.specs.declared.entry.Allowed.{Allowed}
use Rattle.book_preflights.specs.declared.entry.Allowed.TheVariants.{Method, HeaderName}
use Rattle.book_preflights.specs.declared.entry.CacheEntry.{CacheEntry}
use Rattle.book_preflights.specs.declared.question.Question.{Question}
use Rattle.book_preflights.specs.Cache.{cleared, covers}
use Rattle.book_preflights.specs.Entries.{allows, covered, has_match, has_method_match, is_alive, is_match}
use Rattle.book_preflights.specs.Entries.{is_of}
use Rattle.book_preflights.specs.Keys as keys
use Rattle.book_preflights.specs.declared.entry.Keyed.{Keyed}
use Rattle.audit_replay.specs.Legality.{AreRight}
use Rattle.audit_replay.specs.Private.Calls.{IsNext, IsNone, IsPassed, IsStrayed}
use Rattle.audit_replay.specs.Tapes.{account_of, asks_nothing, before_stray, first_op, IsTape}
use Rattle.audit_replay.specs.Tapes.{lacks_method}
use Rattle.audit_replay.specs.Tapes.{seen_on}
use Rattle.audit_replay.specs.Tapes.{stray_entries, stray_reply, Tape}

-- ---- what a book replies to a stray call

later : (now : ℕ) → nat_lt now (now + 1) ≡ true
later now = grind (arith, nat_tests)

any-middle : {X : Type 0} (p : X → Bool) (front back : List X) (x : X) → p x ≡ true
    → list_any p (front ++ x ∷ back) ≡ true
any-middle p [] back x is = or_left (p x) (list_any p back) is
any-middle p (y ∷ front) back x is = ap (λ (b : Bool). p y || b) (any-middle p front back x is) ∙ or-true (p y)

-- a host that was noted is known
noted-matches : (host : List ℕ) (now : ℕ) (hosts : List KnownHost)
    → matches_host (noted host (record { age = 1; subdomains = false }) now hosts) host now ≡ true
noted-matches host now hosts =
    any-middle (λ known. stands_for host known && nat_lt now known.until) _ _ (known_host host false (now + 1))
    (and_from (stands_for host (known_host host false (now + 1))) (nat_lt now (now + 1))
    (or_left (bytes_eq host host) _ (bytes_eq-self host)) (later now))

-- of what is left where all of a key that pass a test are gone, nothing of the key passes it
left-over : {X : Type 0} (key m : X → Bool) (a b : Bool) (x : X) (rest : List X) → (b ≡ false → m x ≡ false)
    → list_any m (filter key rest) ≡ false → key x ≡ a
    → list_any m (filter key (cond (not (a && b)) (x ∷ rest) rest)) ≡ false
left-over key m true true x rest other none is = none
left-over key m true false x rest other none is = rw is
    (or_from (m x) (list_any m (filter key rest)) (other refl) none)
left-over key m false b x rest other none is = rw is none

cleared-none : {X : Type 0} (key of m : X → Bool) → ((x : X) → of x ≡ false → m x ≡ false) → (xs : List X)
    → list_any m (filter key (filter (λ x. not (key x && of x)) xs)) ≡ false
cleared-none key of m other [] = refl
cleared-none key of m other (x ∷ xs) =
    left-over key m (key x) (of x) x (filter (λ x. not (key x && of x)) xs) (other x)
    (cleared-none key of m other xs) refl

any-map : {X Y : Type 0} (m : Y → Bool) (f : X → Y) (xs : List X) → list_any m (map f xs) ≡ list_any (λ x. m (f x)) xs
any-map m f [] = refl
any-map m f (x ∷ xs) = ap (λ (b : Bool). m (f x) || b) (any-map m f xs)

-- an entry of another origin or URL does not match
other-entry : (question : Question) (now : ℕ) (wanted : Allowed) (one : CacheEntry)
    → is_of question.origin question.url one ≡ false
    → is_match question.origin question.url question.include now wanted one ≡ false
other-entry question now wanted one e =
    by (is_alive now one) (is_of question.origin question.url one) (not question.include || one.include)
    (allows wanted one.allowed) e
  where
    by : (a b c d : Bool) → b ≡ false → (a && (b && c) && d) ≡ false
    by true b c d e = rw e refl
    by false b c d e = refl

-- no entry that was cleared matches
none-left : (question : Question) (now : ℕ) (wanted : Allowed) (cache : List Keyed)
    → has_match question now (keys.entries_of question.key (cleared question.key question.origin question.url cache))
    wanted
    ≡ false
none-left question now wanted cache =
    any-map (is_match question.origin question.url question.include now wanted) (λ (k : Keyed). k.entry)
    (filter (λ (k : Keyed). bytes_eq k.key question.key) (cleared question.key question.origin question.url cache))
    ∙ cleared-none (λ (k : Keyed). bytes_eq k.key question.key)
    (λ (k : Keyed). is_of question.origin question.url k.entry)
    (λ (k : Keyed). is_match question.origin question.url question.include now wanted k.entry)
    (λ k other. other-entry question now wanted k.entry other) cache

covers-none : (question : Question) (now : ℕ) (entries : List CacheEntry)
    → ((wanted : Allowed) → has_match question now entries wanted ≡ false)
    → covered question now entries ≡ asks_nothing question
covers-none question now entries none = by question.method question.names
  where
    some : (n : ℕ) → (suc n == 0) ≡ false
    some n = grind (arith, nat_tests)

    by : (method : Option (List ℕ)) (names : List (List ℕ))
        → (has_method_match question now entries method
        && list_all (λ name. has_match question now entries (HeaderName name)) names)
        ≡ (lacks_method method && length names == 0)
    by None [] = refl
    by None (name ∷ names) =
        and_left (has_match question now entries (HeaderName name))
        (list_all (λ name. has_match question now entries (HeaderName name)) names) (none (HeaderName name))
        ∙ sym (some (length names))
    by (Some method) names =
        and_left (has_match question now entries (Method method))
        (list_all (λ name. has_match question now entries (HeaderName name)) names) (none (Method method))

cleared-covers : (question : Question) (now : ℕ) (cache : List Keyed)
    → covers question now (cleared question.key question.origin question.url cache) ≡ asks_nothing question
cleared-covers question now cache =
    covers-none question now (keys.entries_of question.key (cleared question.key question.origin question.url cache))
    (λ wanted. none-left question now wanted cache)

pub stray-replied : (book : Book) (op : Op) → stray_reply op ≡ reply (after book (before_stray op)) op
stray-replied book (Match host now) = ap yes_or_no (sym (noted-matches host now book.hosts))
stray-replied book (Note host sts now) = refl
stray-replied book (Covers question now) = ap yes_or_no (sym (cleared-covers question now book.cache))
stray-replied book (Learn lesson now) = refl
stray-replied book (Clear key origin url now) = refl

before-done : (book : Book) (op : Op) → Done ≡ reply book (before_stray op)
before-done book (Match host now) = refl
before-done book (Note host sts now) = refl
before-done book (Covers question now) = refl
before-done book (Learn lesson now) = refl
before-done book (Clear key origin url now) = refl

-- ---- legal histories

pub strays-legal : (book : Book) (document turn : ℕ) (ops : List Op)
    → LegalFrom book turn (stray_entries document turn ops)
strays-legal book document turn [] = tt
strays-legal book document turn (op ∷ ops) = (
  omega arith,
  before-done book op,
  (
    omega arith,
    stray-replied book op,
    subst (λ (n : ℕ). LegalFrom (after (after book (before_stray op)) op) n (stray_entries document (turn + 2) ops))
        (sums turn) (strays-legal (after (after book (before_stray op)) op) document (turn + 2) ops),
  ),
)
  where
    sums : (n : ℕ) → n + 2 ≡ (n + 1) + 1
    sums n = omega arith

pub right-legal : (book : Book) (turn : ℕ) (history more : List Entry) → AreRight book turn history
    → LegalFrom (book_after book history) (turn + length history) more → LegalFrom book turn (history ++ more)
right-legal book turn [] more are legal = subst (λ (n : ℕ). LegalFrom book n more) (omega arith) legal
right-legal book turn (e ∷ history) more are legal = (
  omega (arith, are.0.turn_is),
  are.0.reply_is,
  subst (λ (n : ℕ). LegalFrom (after book e.op) n (history ++ more)) (ap (λ (n : ℕ). n + 1) (sym are.0.turn_is))
      (right-legal (after book e.op) (turn + 1) history more are.1
      (subst (λ (n : ℕ). LegalFrom (book_after (after book e.op) history) n more) (omega arith) legal)),
)

pub right-take : (book : Book) (turn n : ℕ) (history : List Entry) → AreRight book turn history
    → AreRight book turn (take n history)
right-take book turn zero history are = tt
right-take book turn (suc n) [] are = tt
right-take book turn (suc n) (e ∷ history) are = (are.0, right-take (after book e.op) (turn + 1) n history are.1)

-- the reply of an entry that is right is of its op's kind
pub right-kind : (book : Book) (turn : ℕ) (front : List Entry) (e : Entry) (back : List Entry)
    → AreRight book turn (front ++ e ∷ back) → is_answer e.reply ≡ is_question e.op
right-kind book turn [] e back are = ap is_answer are.0.reply_is ∙ reply-kind book e.op
right-kind book turn (x ∷ front) e back are = right-kind (after book x.op) (turn + 1) front e back are.1

pub legal-seen : (opening : Book) (history : List Entry) (document at : ℕ) (ops : List Op) → AreRight opening 0 history
    → at ≤ length history → Legal opening (take at history ++ stray_entries document at ops)
legal-seen opening history document at ops right within =
    let front = take at history in
    let count : length front ≡ at = omega (arith, within, length-take at history) in
    right-legal opening 0 front (stray_entries document at ops) (right-take opening 0 at history right)
    (subst (λ (n : ℕ). LegalFrom (book_after opening front) n (stray_entries document at ops))
    (sym count ∙ omega arith) (strays-legal (book_after opening front) document at ops))

-- ---- the next entry

record First {X : Type 0} (p : X → Bool) (xs : List X) : Type 0 where
  pub front : List X
  pub one : X
  pub back : List X
  pub is : xs ≡ front ++ one ∷ back
  pub none : filter p front ≡ []
  pub passes : p one ≡ true
  pub count : position_or_len p xs ≡ length front

none-more : {X : Type 0} (p : X → Bool) (x : X) (xs : List X) → p x ≡ false → filter p xs ≡ [] → filter p (x ∷ xs) ≡ []
none-more p x xs is none = rw is none

first-of : {X : Type 0} (p : X → Bool) (xs : List X) → position_or_len p xs < length xs → First p xs
first-of p [] below = absurd (omega (arith, below))
first-of {X = X} p (x ∷ xs) below = by (p x) refl (first-of p xs)
  where
    by : (b : Bool) → p x ≡ b → (position_or_len p xs < length xs → First p xs) → First p (x ∷ xs)
    by true is rest = record {
      front = [];
      one = x;
      back = xs;
      is = refl;
      none = refl;
      passes = is;
      count = position_or_len-yes p x xs is;
    }
    by false is rest =
        let step = position_or_len-no p x xs is in
        let more = rest (omega (arith, below, step)) in
        record {
          front = x ∷ more.front;
          one = more.one;
          back = more.back;
          is = ap (λ (l : List X). x ∷ l) more.is;
          none = none-more p x more.front is more.none;
          passes = more.passes;
          count = step ∙ omega (arith, more.count);
        }

none-of : {X : Type 0} (p : X → Bool) (xs : List X) → length xs ≤ position_or_len p xs → filter p xs ≡ []
none-of p [] far = refl
none-of p (x ∷ xs) far = grind (arith, common_steps, none-of p xs)

pub next-none : (document : ℕ) (rest : List Entry) → position (λ (e : Entry). e.document == document) rest ≡ None
    → entries_of document rest ≡ []
next-none document rest none = none-of (λ (e : Entry). e.document == document) rest (grind (arith, common_steps))

pub next-some : (tape : Tape) (index : ℕ)
    → position (λ (e : Entry). e.document == tape.document) (drop tape.at tape.history) ≡ Some index
    → IsNext tape (tape.at + index)
next-some tape index some =
    let rest = drop tape.at tape.history in
    let p = λ (e : Entry). e.document == tape.document in
    let here : (position_or_len p rest < length rest) × (position_or_len p rest ≡ index) = grind
    (arith, common_steps) in
    let cut = first-of p rest here.0 in
    record {
      between = cut.front;
      entry = cut.one;
      back = cut.back;
      rest_is = cut.is;
      none = cut.none;
      document_is = (Decides-eqb cut.one.document tape.document).0 cut.passes;
      index_is = omega (arith, here.1, cut.count);
    }

pub next-within : (tape : Tape) (index : ℕ) → tape.at ≤ length tape.history → IsNext tape index
    → index < length tape.history
next-within tape index within next =
    omega (
      arith,
      within,
      next.index_is,
      ap length next.rest_is,
      length-drop tape.at tape.history,
      length-append next.between (next.entry ∷ next.back),
    )

whole : (tape : Tape) (index : ℕ) (next : IsNext tape index)
    → tape.history ≡ take tape.at tape.history ++ (next.between ++ next.entry ∷ next.back)
whole tape index next =
    sym (take-append-drop tape.at tape.history) ∙ ap (λ (l : List Entry). take tape.at tape.history ++ l) next.rest_is

pub next-at : (tape : Tape) (index : ℕ) (e : Entry) → tape.at ≤ length tape.history → (next : IsNext tape index)
    → e ≡ get_or tape.history index e → e ≡ next.entry
next-at tape index e within next is =
    let front = take tape.at tape.history in
    let count : length front ≡ tape.at = omega (arith, within, length-take tape.at tape.history) in
    is ∙ ap (λ (l : List Entry). get_or l index e) (whole tape index next)
    ∙ ap (λ (n : ℕ). get_or (front ++ (next.between ++ next.entry ∷ next.back)) n e)
    (omega (arith, next.index_is, count))
    ∙ get_or-append-add front (next.between ++ next.entry ∷ next.back) (length next.between + 0) e
    ∙ get_or-append-add next.between (next.entry ∷ next.back) 0 e

pub next-first : (tape : Tape) (index : ℕ) → (next : IsNext tape index)
    → entries_of tape.document (drop tape.at tape.history) ≡ next.entry ∷ entries_of tape.document next.back
next-first tape index next =
    ap (entries_of tape.document) next.rest_is
    ∙ entries_of-append tape.document next.between (next.entry ∷ next.back)
    ∙ ap (λ (l : List Entry). l ++ entries_of tape.document (next.entry ∷ next.back)) next.none
    ∙ ap (λ (b : Bool). cond b (next.entry ∷ entries_of tape.document next.back) (entries_of tape.document next.back))
    ((Decides-eqb next.entry.document tape.document).1 next.document_is)

-- the op is not that of the next entry
pub differs : (tape : Tape) (index : ℕ) (e : Entry) (op : Op) → tape.at ≤ length tape.history
    → (next : IsNext tape index) → e ≡ get_or tape.history index e → (e.op ≡ op → ⊥) → IsNone tape op
differs tape index e op within next is other none same =
    let first : first_op (entries_of tape.document (drop tape.at tape.history)) ≡ Some next.entry.op =
    ap first_op (next-first tape index next) in
    let both : Some next.entry.op ≡ Some op = sym first ∙ same in
    let ops : next.entry.op ≡ op = cc in
    other (ap (λ (x : Entry). x.op) (next-at tape index e within next is) ∙ ops)

-- ---- the account after a call

front-one : (tape : Tape) (index : ℕ) → tape.at ≤ length tape.history → (next : IsNext tape index)
    → take (index + 1) tape.history ≡ take tape.at tape.history ++ (next.between ++ next.entry ∷ [])
front-one tape index within next =
    let front = take tape.at tape.history in
    let first = front ++ (next.between ++ next.entry ∷ []) in
    let count : length front ≡ tape.at = omega (arith, within, length-take tape.at tape.history) in
    let cut : tape.history ≡ first ++ next.back =
    whole tape index next
    ∙ sym (append_assoc front (next.between ++ next.entry ∷ []) next.back
    ∙ ap (λ (l : List Entry). front ++ l) (append_assoc next.between (next.entry ∷ []) next.back)) in
    ap (take (index + 1)) cut
    ∙ take_at first next.back (index + 1)
    (omega (
      arith,
      count,
      next.index_is,
      length-append front
          (next.between ++ next.entry ∷ []),
      length-append next.between (next.entry ∷ []),
    ))

-- what was passed is seen
passed-seen : (tape : Tape) (index : ℕ) → tape.at ≤ length tape.history → tape.strays ≡ [] → (next : IsNext tape index)
    → take (index + 1) tape.history ++ stray_entries tape.document (index + 1) tape.strays
    ≡ (seen_on tape ++ next.between) ++ next.entry ∷ []
passed-seen tape index within none next =
    ap (λ (ops : List Op). take (index + 1) tape.history ++ stray_entries tape.document (index + 1) ops) none
    ∙ append-nil (take (index + 1) tape.history) ∙ front-one tape index within next
    ∙ sym (append_assoc (take tape.at tape.history) next.between (next.entry ∷ []))
    ∙ ap (λ (l : List Entry). (l ++ next.between) ++ next.entry ∷ []) (sym (append-nil (take tape.at tape.history))
    ∙ ap (λ (ops : List Op). take tape.at tape.history ++ stray_entries tape.document tape.at ops) (sym none))

own-more : (document : ℕ) (seen between : List Entry) (e : Entry) → entries_of document between ≡ []
    → e.document ≡ document
    → entries_of document ((seen ++ between) ++ e ∷ []) ≡ entries_of document seen ++ e ∷ []
own-more document seen between e none is =
    entries_of-snoc_same document (seen ++ between) e is
    ∙ ap (λ (l : List Entry). l ++ e ∷ []) (entries_of-append document seen between
    ∙ ap (λ (l : List Entry). entries_of document seen ++ l) none ∙ append-nil (entries_of document seen))

-- an account that grew by a call
abbrev pub Grows : Tape → Op → Reply → Tape → Type 0
Grows old op said new = Extends (account_of old).opening (account_of old).document op said (account_of old).own
    (account_of new).own (account_of old).seen (account_of new).seen

pub passed-grows : (tape : Tape) (op : Op) (said : Reply) (new : Tape) → AreRight tape.opening 0 tape.history
    → tape.at ≤ length tape.history → IsPassed tape op said new → Grows tape op said new
passed-grows tape op said new right within passed =
    let next = passed.next in
    let seen = passed-seen tape passed.index within passed.none_strayed next in
    let grown : Grows tape op said (record tape { at = passed.index + 1 }) = record {
      entry = next.entry;
      document_is = next.document_is;
      op_is = passed.op_is;
      reply_is = passed.reply_is;
      own_is = ap (entries_of tape.document) seen
          ∙ own-more tape.document (seen_on tape) next.between next.entry next.none next.document_is;
      legal = legal-seen tape.opening tape.history tape.document (passed.index + 1) tape.strays right
          (omega (arith, next-within tape passed.index within next));
      between = next.between;
      seen_is = seen;
    } in
    subst (Grows tape op said) (sym passed.new_is) grown

record Snoc (document turn : ℕ) (ops : List Op) (op : Op) : Type 0 where
  pub at : ℕ
  pub is : stray_entries document turn (ops ++ op ∷ []) ≡ stray_entries document turn ops
      ++ (entry at (document + 1) (before_stray op) Done ∷ entry (at + 1) document op (stray_reply op) ∷ [])

stray-snoc : (document turn : ℕ) (ops : List Op) (op : Op) → Snoc document turn ops op
stray-snoc document turn [] op = record { at = turn; is = refl }
stray-snoc document turn (x ∷ ops) op =
    let more = stray-snoc document (turn + 2) ops op in
    record {
      at = more.at;
      is = ap (λ (l : List Entry). entry turn (document + 1) (before_stray x) Done
          ∷ entry (turn + 1) document x (stray_reply x) ∷ l) more.is;
    }

other-document : (n : ℕ) → n + 1 ≢ n
other-document n e = omega (arith, e)

pub strayed-grows : (tape : Tape) (op : Op) (said : Reply) (new : Tape) → AreRight tape.opening 0 tape.history
    → tape.at ≤ length tape.history → IsStrayed tape op said new → Grows tape op said new
strayed-grows tape op said new right within strayed =
    let one = stray-snoc tape.document tape.at tape.strays op in
    let fake = entry one.at (tape.document + 1) (before_stray op) Done in
    let e = entry (one.at + 1) tape.document op (stray_reply op) in
    let front = take tape.at tape.history in
    let old = stray_entries tape.document tape.at tape.strays in
    let seen : front ++ stray_entries tape.document tape.at (tape.strays ++ op ∷ []) ≡
    (seen_on tape ++ fake ∷ []) ++ e ∷ [] =
    ap (λ (l : List Entry). front ++ l) one.is ∙ sym (append_assoc front old (fake ∷ e ∷ []))
    ∙ sym (append_assoc (front ++ old) (fake ∷ []) (e ∷ [])) in
    let grown : Grows tape op said (record tape { strays = tape.strays ++ op ∷ [] }) = record {
      entry = e;
      document_is = refl;
      op_is = refl;
      reply_is = sym strayed.reply_is;
      own_is = ap (entries_of tape.document) seen
          ∙ own-more tape.document (seen_on tape) (fake ∷ []) e
          (entries_of-snoc_other tape.document [] fake (other-document tape.document)) refl;
      legal = legal-seen tape.opening tape.history tape.document tape.at (tape.strays ++ op ∷ []) right within;
      between = fake ∷ [];
      seen_is = seen;
    } in
    subst (Grows tape op said) (sym strayed.new_is) grown

-- the reply is of the op's kind
pub passed-kind : (tape : Tape) (op : Op) (said : Reply) (new : Tape) → AreRight tape.opening 0 tape.history
    → IsPassed tape op said new → is_answer said ≡ is_question op
passed-kind tape op said new right passed =
    let next = passed.next in
    let all : tape.history ≡ (take tape.at tape.history ++ next.between) ++ next.entry ∷ next.back =
    whole tape passed.index next ∙ sym
    (append_assoc (take tape.at tape.history) next.between (next.entry ∷ next.back)) in
    ap is_answer (sym passed.reply_is)
    ∙ right-kind tape.opening 0 (take tape.at tape.history ++ next.between) next.entry next.back
    (subst (AreRight tape.opening 0) all right)
    ∙ ap is_question passed.op_is

-- ---- whether all was used

tested : (ops : List Op) (b c : Bool) → b ≡ c → MatchBool c (ops ≡ []) (ops ≢ []) → MatchBool b (ops ≡ []) (ops ≢ [])
tested ops b c e is = subst (λ (x : Bool). MatchBool x (ops ≡ []) (ops ≢ [])) (sym e) is

more-than-none : (n : ℕ) → (suc n == 0) ≡ false
more-than-none n = grind (arith, nat_tests)

pub empty-by : (ops : List Op) (b : Bool) → b ≡ (length ops == 0) → MatchBool b (ops ≡ []) (ops ≢ [])
empty-by [] b e = tested [] b true e refl
empty-by (op ∷ ops) b e = tested (op ∷ ops) b false (e ∙ more-than-none (length ops)) (λ same. cc)

-- the next entry is passed, where it is of the op
pub passes : (tape new : Tape) (index : ℕ) (e : Entry) (op : Op) → IsTape tape → tape.strays ≡ []
    → IsNext tape index → slice_get tape.history index ≡ Some e → e.op ≡ op → new ≡ record tape { at = index + 1 }
    → IsPassed tape op e.reply new
passes tape new index e op is none next at same moved =
    let one : e ≡ next.entry =
    next-at tape index e is.within next (sym (get_or_from_slice_get tape.history index e e at)) in
    record {
      none_strayed = none;
      index = index;
      next = next;
      op_is = ap (λ (x : Entry). x.op) (sym one) ∙ same;
      reply_is = ap (λ (x : Entry). x.reply) (sym one);
      new_is = moved;
    }

-- ---- a call, which is counted first

pub passed-call : (old mid new : Tape) (op : Op) (said : Reply) → IsTape mid
    → mid ≡ record old { calls = old.calls + 1 } → IsPassed mid op said new → Grows old op said new
passed-call old mid new op said tape counted passed =
    let is : IsTape (record old { calls = old.calls + 1 }) = subst IsTape counted tape in
    passed-grows (record old { calls = old.calls + 1 }) op said new is.right is.within
    (subst (λ (t : Tape). IsPassed t op said new) counted passed)

pub passed-call-kind : (old mid new : Tape) (op : Op) (said : Reply) → IsTape mid
    → mid ≡ record old { calls = old.calls + 1 } → IsPassed mid op said new → is_answer said ≡ is_question op
passed-call-kind old mid new op said tape counted passed =
    let is : IsTape (record old { calls = old.calls + 1 }) = subst IsTape counted tape in
    passed-kind (record old { calls = old.calls + 1 }) op said new is.right
    (subst (λ (t : Tape). IsPassed t op said new) counted passed)

pub strayed-call : (old mid same new : Tape) (op : Op) (said : Result Reply OutOfMemory) → IsTape mid
    → mid ≡ record old { calls = old.calls + 1 } → same ≡ mid → IfOk said (λ reply. IsStrayed same op reply new)
    → IfOk said (λ reply. Grows old op reply new)
strayed-call old mid same new op (Err refused) tape counted stays strayed = tt
strayed-call old mid same new op (Ok reply) tape counted stays strayed =
    let is : IsTape (record old { calls = old.calls + 1 }) = subst IsTape counted tape in
    strayed-grows (record old { calls = old.calls + 1 }) op reply new is.right is.within
    (subst (λ (t : Tape). IsStrayed t op reply new) (stays ∙ counted) strayed)
