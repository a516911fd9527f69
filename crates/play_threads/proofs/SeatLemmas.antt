-- Seats in rows: each row is ready for its document, and what was played in the rows was played on the seats.
use Rattle.std.proofs.lemmas.List.Elements.{All-map}
use Rattle.std.proofs.lemmas.List.FromFn.{length-range_with_len, get_or-range_with_len}
use Rattle.std.proofs.lemmas.Simd.{map-map}
use Rattle.std.proofs.Math.ListN.{drop_of_length-le}
use Rattle.script_runs.proofs.DocumentLemmas.{each-numbered}
use Rattle.script_scenarios.specs.declared.scenario.Scenario.{Scenario}
use Rattle.play_threads.specs.declared.seating.Row.{Row}
use Rattle.play_definitions.specs.declared.seating.Seating.{Seating}
use Rattle.play_threads.proofs.Words.{[], ℕ, ◌++◌, ◌+◌, ◌<◌, ◌∙◌, ◌∷◌, ◌≡◌, ◌≤◌, All, Answering, AreSeated, CanPlay}
use Rattle.play_threads.proofs.Words.{Document, DocumentCameTo, EachDocument, List, RowCameTo, Seat, Some, Transcript}
use Rattle.play_threads.proofs.Words.{ap}
use Rattle.play_threads.proofs.Words.{append-nil, arith, drop, get_or, get_or-map, length, length-map, map}
use Rattle.play_threads.proofs.Words.{most_calls}
use Rattle.play_threads.proofs.Words.{range_with_len, refl, seatings_of, slice_get, subst, suc, sym, take, take_all}
use Rattle.play_threads.proofs.Words.{transcripts_of, zero}

-- what a vector has after a write through a slice of it
pub written : {X : Type 0} (n : ℕ) (xs ys : List X) → length xs ≡ length ys → length ys ≡ n
    → take n (xs ++ drop (length xs) ys) ≡ xs
written n xs ys e d = ap (λ l. take n (xs ++ l)) (drop_of_length-le ys {i = length xs} (omega arith))
    ∙ (ap (take n) (append-nil xs) ∙ take_all n xs (omega arith))

module _ {L P State : Type 0} (seen : Seating L P → Seat State) where
  -- there is a row for each document
  rows-many : {documents : List Document} (rows : List (Row L P)) → AreSeated documents (map seen (seatings_of rows))
      → length rows ≡ length documents
  rows-many rows seated = simp (length-map, length-range_with_len) at (ap length seated.each)

  -- what was played in the rows was played on their seats
  played-from : {by : Answering State} {scenario : Scenario} {base : ℕ} (number : ℕ) (documents : List Document)
      (olds news : List (Row L P)) → length documents ≡ length olds → length news ≡ length olds
      → ((i : ℕ) (one : Document) (a b : Row L P) → i < length olds → slice_get documents i ≡ Some one
      → DocumentCameTo by scenario base (number + i) one (seen (get_or olds i a).seating)
      (seen (get_or news i b).seating) (get_or news i b).transcript)
      → EachDocument (DocumentCameTo by scenario base) number documents (map seen (seatings_of olds))
      (map seen (seatings_of news)) (transcripts_of news)
  played-from number [] [] [] many same each = EachDocument.none
  played-from number [] [] (n ∷ ns) many same each = absurd (omega (arith, same))
  played-from number [] (o ∷ os) news many same each = absurd (omega (arith, many))
  played-from number (d ∷ ds) [] news many same each = absurd (omega (arith, many))
  played-from number (d ∷ ds) (o ∷ os) [] many same each = absurd (omega (arith, same))
  played-from number (d ∷ ds) (o ∷ os) (n ∷ ns) many same each =
      EachDocument.one_more (rw (let e : number + 0 ≡ number = omega arith in e) at
      (each zero d o n (omega arith) refl))
      (played-from (number + 1) ds os ns (omega (arith, many)) (omega (arith, same))
      (λ i one a b within at. rw (let e : number + 1 + i ≡ number + suc i = omega arith in e)
      (each (suc i) one a b (omega arith) at)))

module _ {L P State : Type 0} (belongs : P → Type 0) (seen : Seating L P → Seat State) where
  -- the row at an index is ready for the document of that number
  pub ready : (scenario : Scenario) (rows : List (Row L P))
      → AreSeated scenario.documents (map seen (seatings_of rows))
      → All (λ (s : Seating L P). belongs s.pass) (seatings_of rows) → (i : ℕ) (d : Row L P) → i < length rows
      → CanPlay belongs seen scenario i (get_or rows i d)
  ready scenario rows seated belong i d within =
      let n = length scenario.documents in
      let seats = seatings_of rows in
      let many : length seats ≡ length rows = length-map rows (λ (r : Row L P). r.seating) in
      let all : length (map seen seats) ≡ length rows = length-map seats seen ∙ many in
      let here : get_or seats i d.seating ≡ (get_or rows i d).seating =
      get_or-map (λ (r : Row L P). r.seating) rows i d d.seating within in
      let seat : get_or (map seen seats) i (seen d.seating) ≡ seen (get_or rows i d).seating =
      get_or-map seen seats i d.seating (seen d.seating) (omega arith) ∙ ap seen here in
      let number = get_or-map (λ (s : Seat State). s.document) (map seen seats) i (seen d.seating) 0 (omega arith) in
      let counted : i < n = omega (arith, rows-many seen rows seated) in
      let numbered = get_or-range_with_len 0 n i 0 counted in
      let Calls : Seat State → Type 0 = λ s. most_calls ≤ s.outside.left in
      let Belongs : Seating L P → Type 0 = λ s. belongs s.pass in
      record {
        number_is = counted;
        belongs_to = subst Belongs here (belong i d.seating (omega arith));
        document_is = omega (
          arith,
          ap (λ (s : Seat State). s.document) seat,
          number,
          ap (λ (l : List ℕ). get_or l i 0) seated.each,
          numbered,
        );
        calls = subst Calls seat (seated.calls i (seen d.seating) (omega arith));
      }

  -- all of it, of seats that were moved into rows and back
  pub played-back : {by : Answering State} {scenario : Scenario} {base : ℕ} (olds news : List (Row L P))
      → length news ≡ length olds → AreSeated scenario.documents (map seen (seatings_of olds))
      → ((i : ℕ) (d : Row L P) → i < length olds
      → RowCameTo belongs seen by scenario base i (get_or olds i d) (get_or news i d))
      → EachDocument (DocumentCameTo by scenario base) 0 scenario.documents (map seen (seatings_of olds))
      (map seen (seatings_of news)) (transcripts_of news)
  played-back {scenario = scenario} olds news same seated each =
      played-from seen 0 scenario.documents olds news (sym (rows-many seen olds seated)) same
      (λ i one a b within at. rw (let e : 0 + i ≡ i = omega arith in e, any news i b a (omega (arith, same)))
      ((each i a within).played one at))
    where
      any : (rows : List (Row L P)) (i : ℕ) (a b : Row L P) → i < length rows → get_or rows i a ≡ get_or rows i b
      any [] i a b within = absurd (omega arith)
      any (r ∷ rs) zero a b within = refl
      any (r ∷ rs) (suc i) a b within = any rs i a b (omega arith)

  -- the passes are this share's
  pub belong-back : {by : Answering State} {scenario : Scenario} {base : ℕ} (olds news : List (Row L P))
      → length news ≡ length olds → ((i : ℕ) (d : Row L P) → i < length olds
      → RowCameTo belongs seen by scenario base i (get_or olds i d) (get_or news i d))
      → All (λ (s : Seating L P). belongs s.pass) (seatings_of news)
  belong-back olds news same each = All-map (λ (s : Seating L P). belongs s.pass) (λ (r : Row L P). r.seating) news
      (λ i d within. (each i d (omega (arith, same))).belongs_to)

-- before and after a play the passes are for the documents in their order
pub documents-before : {L P State : Type 0} (seen : Seating L P → Seat State) (scenario : Scenario)
    (seats : List (Seating L P)) → AreSeated scenario.documents (map seen seats)
    → map (λ (s : Seating L P). (seen s).document) seats ≡ range_with_len 0 (length scenario.documents)
documents-before seen scenario seats seated = sym (map-map (λ (s : Seat _). s.document) seen seats) ∙ seated.each

pub documents-after : {L P State : Type 0} (seen : Seating L P → Seat State) {by : Answering State}
    {scenario : Scenario} {base : ℕ} {olds : List (Seat State)} (after : List (Seating L P))
    {transcripts : List Transcript}
    → EachDocument (DocumentCameTo by scenario base) 0 scenario.documents olds (map seen after) transcripts
    → map (λ (s : Seating L P). (seen s).document) after ≡ range_with_len 0 (length scenario.documents)
documents-after seen after played = sym (map-map (λ (s : Seat _). s.document) seen after)
    ∙ each-numbered (λ (s : Seat _). s.document) (λ number document old new transcript is. is.document_is) played
