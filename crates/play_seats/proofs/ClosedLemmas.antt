-- What the seats of a play come to once their book is closed: one history, legal from the opening book, whose entries
-- are those of the documents' passes, and whose turns have no gap where each call has its entry.
use Rattle.std.proofs.Common.{◌≡◌, ◌≢◌, ℕ, suc, ◌+◌, ◌<◌, ◌≤◌, List, [], ◌∷◌, ◌++◌, length, map, refl, ap, sym, subst}
use Rattle.std.proofs.Common.{◌∙◌, arith, ◌⊎◌, inl, inr, zero, Bool, true, false, cond, eq-eqb}
use Rattle.std.specs.Prelude.{◌==◌}
use Rattle.std.specs.List.{All, AllByRecursion, range_with_len, count_by}
use Rattle.std.proofs.lemmas.Bool.Decides.{eqb_tells}
use Rattle.std.proofs.lemmas.List.Elements.{All-nil, All-cons, All-head, All-tail, All-map, recursion_from_All}
use Rattle.std.proofs.lemmas.List.Sums.{sum_by-cons}
use Rattle.std.proofs.lemmas.Simd.{map-map}
use Rattle.atomic_table.specs.Seated.{TableId}
use lib.ListN.{get_elem?}
use mathlib.Core.Option.{some}
use Rattle.book_calls.specs.declared.book.Book.{Book}
use Rattle.book_calls.specs.declared.entry.Entry.{Entry}
use Rattle.book_calls.specs.Entries.{HasTurnsFrom, Legal, book_after, entries_of}
use Rattle.script_events.specs.declared.events.Ending.{Ending}
use Rattle.script_events.specs.declared.events.Ending.TheVariants as ending
use Rattle.script_events.specs.declared.events.Event.{Event}
use Rattle.script_runs.specs.Play.{Play}
use Rattle.script_scenarios.specs.declared.scenario.Scenario.{Scenario}
use Rattle.link_traits.specs.Links.{LinkTold}
use Rattle.fetch_wire.specs.Exchanges.{Answering}
use Rattle.play_definitions.specs.Worlds.{Outside}
use Rattle.play_definitions.specs.Playing.{RunCameTo, RunPlayed}
use Rattle.play_definitions.specs.Seats.{Seat}
use Rattle.play_definitions.proofs.CallLemmas.{trace-calls}
use Rattle.play_definitions.specs.declared.seating.Seating.{Seating}
use Rattle.book_turns.specs.Counts.{times}
use Rattle.book_turns.specs.Passes.{HasEveryPass, IsOneHistory, calls_of, is_of, opening_of, own_of}
use Rattle.book_turns.specs.declared.pass.TurnPass.{TurnPass}
use Rattle.book_turns.proofs.Count.{turns-are-places}
use Rattle.book_turns.proofs.Whole.{whole_of}
use Rattle.play_definitions.specs.Plays.{Way, opening_book}
use Rattle.play_seats.specs.Links.{way_of}
use Rattle.play_seats.specs.Passes.{ArePasses, IsNew}
use Rattle.play_seats.specs.Seated.{IsFresh, links_in, passes_in, seat_seen}
use Rattle.play_seats.proofs.ListLemmas.{unmap}
use Rattle.play_seats.proofs.PassLemmas.{times-range}

-- ---- one document

-- a run that did not end for memory
pub ran-of : {State : Type 0} (by : Answering State) (limit document : ℕ) (whole : Play) (old : Outside State)
    (events : List Event) (ended : Ending) (clock : ℕ) (new : Outside State) → ended ≢ ending.Memory
    → RunCameTo by limit document whole old events ended clock new
    → RunPlayed by limit document whole old events ended clock new
ran-of by limit document whole old events ending.Finished clock new told x = x
ran-of by limit document whole old events ending.Fetches clock new told x = x
ran-of by limit document whole old events ending.Commands clock new told x = x
ran-of by limit document whole old events ending.Text clock new told x = x
ran-of by limit document whole old events ending.Memory clock new told x = absurd (told refl)

-- what is told of a seat's link
abbrev pub seat_way : {State : Type 0} → Seat State → Way State
seat_way seat =
    record { state = seat.outside.state; received = seat.outside.received; faults = seat.outside.faults }

-- These entries are the document's own besides, and it may make as many calls fewer.
pub record Grew {State : Type 0} (old new : Outside State) : Type 0 where
  pub more : List Entry
  pub own : new.own ≡ old.own ++ more
  pub fell : old.left ≡ new.left + length more

-- each call of a run has its entry
pub ran-calls : {State : Type 0} (by : Answering State) (limit document : ℕ) (whole : Play) (old : Outside State)
    (events : List Event) (ended : Ending) (clock : ℕ) (new : Outside State)
    → RunPlayed by limit document whole old events ended clock new → Grew old new
ran-calls {State} by limit document whole old events ended clock new ran =
    let made = trace-calls by limit document ran.trace in
    record {
      more = made.more;
      own = sym (ap (λ (o : Outside State). o.own) ran.to) ∙ made.own
          ∙ ap (λ (o : Outside State). o.own ++ made.more) ran.from;
      fell = omega (
        arith,
        made.fell,
        ap (λ (o : Outside State). o.left) ran.from,
        ap (λ (o : Outside State). o.left) ran.to,
      );
    }

-- every seat's calls are its pass's own: as many were made as entries are there
pub record HasCalled {State : Type 0} (seat : Seat State) : Type 0 where
  pub calls : seat.outside.left + length seat.outside.own ≡ 4294967295
  pub some : 0 < seat.outside.left

-- on a seat whose pass had made no call
pub called-on : {State : Type 0} (old new : Seat State) → IsFresh old → Grew old.outside new.outside
    → 0 < new.outside.left → HasCalled new
called-on old new fresh grew left = record {
  calls = omega (arith, grew.fell, fresh.left_is, ap length own);
  some = left;
}
  where
    own : new.outside.own ≡ grew.more
    own = grew.own ∙ ap (λ (l : List Entry). l ++ grew.more) fresh.own_is

-- no call was made on seats of new passes
pub fresh-new : {L State : Type 0} (told : L → LinkTold State) (id : TableId) (opening : Book)
    (seats : List (Seating L TurnPass)) → All (IsNew id opening) (passes_in seats)
    → All IsFresh (map (seat_seen told) seats)
fresh-new {L} told id opening seats new = All-map IsFresh (seat_seen told) seats
    (λ k d lt. let n = unmap (IsNew id opening) (λ (s : Seating L TurnPass). s.pass) seats new k d lt in
    record { own_is = n.own_is; left_is = n.left_is })

-- ---- turns

-- where entry i has turn i, the turns are those from 0 on
turns-from : (turn : ℕ) (history : List Entry)
    → ((i : ℕ) (e : Entry) → get_elem? history i ≡ some e → e.turn ≡ turn + i) → HasTurnsFrom turn history
turns-from turn [] each = tt
turns-from turn (e ∷ es) each = (
  omega (arith, each 0 e refl),
  turns-from (turn + 1) es (λ i x at. omega (arith, each (suc i) x at)),
)

-- ---- passes

-- how many passes are of a document is how often it is among theirs
count-times : (d : ℕ) (passes : List TurnPass)
    → count_by (is_of d) passes ≡ times d (map (λ (p : TurnPass). p.document) passes)
count-times d [] = refl
count-times d (p ∷ ps) = omega (
  arith,
  count-times d ps,
  sum_by-cons (λ (q : TurnPass). cond (is_of d q) 1 0) p ps,
  sum_by-cons (λ (x : ℕ). cond (x == d) 1 0) p.document (map (λ (q : TurnPass). q.document) ps),
)

-- the documents' passes are not the first one
others-apart : (count from : ℕ) (passes : List TurnPass) → from + count ≤ 4294967295
    → map (λ (p : TurnPass). p.document) passes ≡ range_with_len from count
    → All (λ (p : TurnPass). p.document ≢ 4294967295) passes
others-apart count from [] few is = All-nil (λ (p : TurnPass). p.document ≢ 4294967295)
others-apart zero from (p ∷ ps) few is = cc
others-apart (suc count) from (p ∷ ps) few is =
    let here : p.document ≡ from = cc in
    let rest : map (λ (q : TurnPass). q.document) ps ≡ range_with_len (from + 1) count = cc in
    All-cons (λ (q : TurnPass). q.document ≢ 4294967295) p ps (λ same. omega (arith, here, same, few))
    (others-apart count (from + 1) ps (omega (arith, few)) rest)

-- the first pass, and those of the documents, are all passes of the book
pub whole-passes : (id : TableId) (opening : Book) (count : ℕ) (first : TurnPass) (passes back : List TurnPass)
    → ArePasses id opening count first passes → count ≤ 128
    → All (λ (p : TurnPass). p.seat.table_id ≡ id) back
    → map (λ (p : TurnPass). p.document) back ≡ range_with_len 0 count → HasEveryPass id (first ∷ back)
whole-passes id opening count first passes back are few belong documents =
    let Apart : TurnPass → Type 0 = λ p. p.document ≢ 4294967295 in
    let apart = others-apart count 0 back (omega (arith, few)) documents in
    whole_of id first back are.first_is.belongs are.first_is.document_is (λ k d lt. (belong k d lt, apart k d lt))
    (λ d made. omega (
      arith,
      made,
      are.made d,
      ap (times d) documents,
      count-times d back,
    ))

-- ---- the history

-- where a document has no entry, no entry is its
none-of : (d : ℕ) (history : List Entry) → entries_of d history ≡ []
    → AllByRecursion (λ (e : Entry). e.document ≢ d) history
none-of d [] is = tt
none-of d (e ∷ es) is = elim (eqb_tells e.document d) [
  | inl same ↦
      let there : e ∷ entries_of d es ≡ [] =
      sym (ap (λ (b : Bool). cond b (e ∷ entries_of d es) (entries_of d es)) same.0) ∙ is in absurd (taken there)
  | inr apart ↦ (
    apart.1,
    none-of d es (sym (ap (λ (b : Bool). cond b (e ∷ entries_of d es) (entries_of d es)) apart.0) ∙ is),
  )
]
  where
    taken : (e ∷ entries_of d es ≡ []) → ⊥
    taken h = cc

-- an entry that is not the first pass's names a document
named-below : (count : ℕ) (first : TurnPass) (back : List TurnPass) (history : List Entry)
    → first.document ≡ 4294967295 → map (λ (p : TurnPass). p.document) back ≡ range_with_len 0 count
    → AllByRecursion (λ (e : Entry). 0 < count_by (is_of e.document) (first ∷ back)) history
    → AllByRecursion (λ (e : Entry). e.document ≢ 4294967295) history
    → AllByRecursion (λ (e : Entry). e.document < count) history
named-below count first back [] is documents named apart = tt
named-below count first back (e ∷ es) is documents named apart = (
  below named.0 (eqb_tells first.document e.document),
  named-below count first back es is documents named.1 apart.1,
)
  where
    below : 0 < count_by (is_of e.document) (first ∷ back)
        → ((first.document == e.document) ≡ true) × (first.document ≡ e.document)
        ⊎ ((first.document == e.document) ≡ false) × (first.document ≢ e.document) → e.document < count
    below there (inl same) = absurd (apart.0 (sym same.1 ∙ is))
    below there (inr other) =
        let stands : 0 < times e.document (range_with_len 0 count) = omega (
          arith,
          there,
          sum_by-cons (λ (q : TurnPass). cond (is_of e.document q) 1 0) first back,
          ap {B = ℕ} (λ (b : Bool). cond b 1 0) other.0,
          count-times e.document back,
          ap (times e.document) documents,
        ) in
        omega (arith, (times-range e.document 0 count stands).1)

-- ---- the whole

-- seats that were made with the book's passes, and their passes as they came back to a book that is closed
module _ {L State : Type 0} (told : L → LinkTold State) (scenario : Scenario) (id : TableId) (first : TurnPass)
    (made back : List (Seating L TurnPass)) (book : Book)
    (history : List Entry) (are : ArePasses id (opening_book scenario) (length scenario.documents) first
    (passes_in made))
    (documents : map (λ (p : TurnPass). p.document) (passes_in back) ≡ range_with_len 0 (length scenario.documents))
    (closed : IsOneHistory (first ∷ passes_in back) book history) where
  -- what is told of the links of seats
  pub ways-of : (seats : List (Seating L TurnPass))
      → map seat_way (map (seat_seen told) seats) ≡ map (way_of told) (links_in seats)
  ways-of seats =
      map-map seat_way (seat_seen told) seats
      ∙ sym (map-map (way_of told) (λ (s : Seating L TurnPass). s.link) seats)

  -- no call was made on the seats at first
  pub fresh-seats : All IsFresh (map (seat_seen told) made)
  fresh-seats = fresh-new told id (opening_book scenario) made are.new

  -- the entries of each document are its pass's own
  pub own-entries : All (λ (s : Seat State). entries_of s.document history ≡ s.outside.own)
      (map (seat_seen told) back)
  own-entries =
      let OwnOf : TurnPass → Type 0 = λ p. entries_of p.document history ≡ own_of p in
      All-map (λ (s : Seat State). entries_of s.document history ≡ s.outside.own) (seat_seen told) back
      (unmap OwnOf (λ (s : Seating L TurnPass). s.pass) back (All-tail OwnOf first (passes_in back) closed.own))

  pub legal-history : Legal (opening_book scenario) history
  legal-history =
      let Legals : TurnPass → Type 0 =
      λ p. p.document ≡ 4294967295 → Legal (opening_of p) history × (book ≡ book_after (opening_of p) history) in
      subst (λ (b : Book). Legal b history) are.first_is.opening_is
      (All-head Legals first (passes_in back) closed.legal are.first_is.document_is).0

  pub named-history : AllByRecursion (λ (e : Entry). e.document < length scenario.documents) history
  named-history =
      let OwnOf : TurnPass → Type 0 = λ p. entries_of p.document history ≡ own_of p in
      named-below (length scenario.documents) first (passes_in back) history are.first_is.document_is documents
      (recursion_from_All (λ (e : Entry). 0 < count_by (is_of e.document) (first ∷ passes_in back)) history
      closed.named)
      (none-of 4294967295 history (subst (λ (d : ℕ). entries_of d history ≡ own_of first) are.first_is.document_is
      (All-head OwnOf first (passes_in back) closed.own) ∙ are.first_is.own_is))

  -- where each call has its entry, the turns have no gap
  pub turns-closed : All HasCalled (map (seat_seen told) back) → HasTurnsFrom 0 history
  turns-closed all =
      let All_called : TurnPass → Type 0 = λ p. calls_of p ≡ length (own_of p) in
      let called : All (λ (s : Seating L TurnPass). HasCalled (seat_seen told s)) back =
      unmap HasCalled (seat_seen told) back all in
      let calls : All All_called (first ∷ passes_in back) = All-cons All_called first (passes_in back)
      (omega (arith, are.first_is.left_is, ap length are.first_is.own_is))
      (All-map All_called (λ (s : Seating L TurnPass). s.pass) back
      (λ k d lt. let c = called k d lt in omega (arith, c.calls, c.some))) in
      let present : 0 < count_by (is_of 4294967295) (first ∷ passes_in back) = omega (
        arith,
        sum_by-cons (λ (q : TurnPass). cond (is_of 4294967295 q) 1 0) first (passes_in back),
        ap {B = ℕ} (λ (b : Bool). cond b 1 0) (eq-eqb first.document 4294967295 are.first_is.document_is),
      ) in
      turns-from 0 history (λ i e at. turns-are-places (first ∷ passes_in back) book history closed present calls i e at
      ∙ sym (zero_before i))
    where
      zero_before : (n : ℕ) → 0 + n ≡ n
      zero_before n = omega arith
