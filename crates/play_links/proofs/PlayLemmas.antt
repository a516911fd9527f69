-- What was played on seats, and the history of a closed book, are a play.
use Rattle.std.proofs.Common.{◌≡◌, ◌≢◌, ℕ, List, [], ◌∷◌, length, map, refl, ap, sym, subst, ◌∙◌, arith, inl, inr}
use Rattle.std.specs.List.{All, range_with_len}
use Rattle.book_calls.specs.declared.book.Book.{Book}
use Rattle.book_calls.specs.declared.entry.Entry.{Entry}
use Rattle.book_calls.specs.Entries.{entries_of}
use Rattle.script_events.specs.declared.events.Ending.TheVariants as ending
use Rattle.script_events.specs.declared.events.Transcript.{Transcript}
use Rattle.script_events.specs.Endings.{HasText}
use Rattle.script_runs.specs.Documents.{EachDocument}
use Rattle.script_runs.proofs.DocumentLemmas.{each-after, each-seen, each-with}
use Rattle.script_runs.specs.Runs.{document_run}
use Rattle.script_scenarios.specs.declared.document.Document.{Document}
use Rattle.script_scenarios.specs.declared.scenario.Scenario.{Scenario}
use Rattle.link_traits.specs.Links.{LinkTold}
use Rattle.fetch_wire.specs.Exchanges.{Answering}
use Rattle.play_definitions.specs.Worlds.{Outside}
use Rattle.play_definitions.proofs.WorldLemmas.{outside-is}
use Rattle.play_definitions.specs.Playing.{RunCameTo, RunPlayed}
use Rattle.play_definitions.specs.Seats.{AreRefused, DocumentCameTo, Seat}
use Rattle.play_definitions.specs.declared.seating.Seating.{Seating}
use Rattle.book_turns.specs.Passes.{IsOneHistory}
use Rattle.book_turns.specs.declared.pass.TurnPass.{TurnPass}
use Rattle.play_seats.specs.Links.{way_of}
use Rattle.play_seats.specs.Passes.{ArePasses}
use Rattle.play_seats.specs.Seated.{HasOwn, IsFresh, links_in, passes_in, seat_seen}
use Rattle.play_seats.proofs.ClosedLemmas.{HasCalled, called-on, ran-calls, ran-of, seat_way, fresh-seats}
use Rattle.play_seats.proofs.ClosedLemmas.{legal-history, named-history, own-entries, turns-closed, ways-of}
use Rattle.play_links.specs.Refused.{NoneOrAllPlayed, RanInHistory}
use Rattle.play_definitions.specs.Plays.{IsPlayOver, IsTranscript, opening_book, outside_on}

-- ---- one document

-- its transcript is that of its document, over the entries of the pass's own
transcript-of : {State : Type 0} (by : Answering State) (scenario : Scenario) (base : ℕ) (history : List Entry)
    (number : ℕ) (document : Document) (old new : Seat State) (transcript : Transcript)
    → transcript.ending ≢ ending.Memory → DocumentCameTo by scenario base number document old new transcript
    → old.outside.own ≡ [] → entries_of number history ≡ new.outside.own
    → IsTranscript by scenario base history number document (seat_way old) (seat_way new) transcript
transcript-of {State} by scenario base history number document old new transcript told is none own =
    let ran = ran-of by scenario.body_limit number (document_run scenario.cookies base document) old.outside
    transcript.events transcript.ending transcript.clock new.outside told is.came in
    record {
      document_is = is.number_is;
      key_is = is.key_is told;
      run_is = record {
        before = old.outside.left;
        behind = new.outside.left;
        ran = subst (λ (o : Outside State). RunPlayed by scenario.body_limit number
            (document_run scenario.cookies base document)
            o transcript.events transcript.ending transcript.clock
            (outside_on (seat_way new) (entries_of number history) new.outside.left))
            (outside-is old.outside (outside_on (seat_way old) [] old.outside.left) refl refl refl none refl)
            (subst (λ (o : Outside State). RunPlayed by scenario.body_limit number
            (document_run scenario.cookies base document)
            old.outside transcript.events transcript.ending transcript.clock o)
            (outside-is new.outside (outside_on (seat_way new) (entries_of number history) new.outside.left) refl refl
            refl
            (sym own) refl) ran);
      };
    }

-- ---- all documents

-- it did not end for memory
abbrev HasEnded : Transcript → Type 0
HasEnded transcript = transcript.ending ≢ ending.Memory

transcripts-of : {State : Type 0} (by : Answering State) (scenario : Scenario) (base : ℕ) (history : List Entry)
    {number : ℕ} {documents : List Document} {olds news : List (Seat State)} {transcripts : List Transcript}
    → EachDocument (DocumentCameTo by scenario base) number documents olds news transcripts → HasText transcripts
    → All IsFresh olds → All (HasOwn history) news
    → EachDocument (IsTranscript by scenario base history) number documents (map seat_way olds) (map seat_way news)
    transcripts
transcripts-of by scenario base history played text fresh own =
    each-seen seat_way (λ number document old new transcript is.
    transcript-of by scenario base history number document old new transcript is.3 is.0 is.1.own_is
    (subst (λ (d : ℕ). entries_of d history ≡ new.outside.own) is.0.document_is is.2))
    (each-with IsFresh (HasOwn history) HasEnded fresh own text played)

-- the run of one document came, over the entries of the pass's own
has-run : {State : Type 0} (by : Answering State) (scenario : Scenario) (base : ℕ) (history : List Entry)
    (number : ℕ) (document : Document) (old new : Seat State) (transcript : Transcript)
    → DocumentCameTo by scenario base number document old new transcript → old.outside.own ≡ []
    → entries_of number history ≡ new.outside.own
    → RanInHistory by scenario base history number document (seat_way old) (seat_way new) transcript
has-run {State} by scenario base history number document old new transcript is none own =
    let whole = document_run scenario.cookies base document in
    record {
      before = old.outside.left;
      behind = new.outside.left;
      came = subst (λ (o : Outside State). RunCameTo by scenario.body_limit number whole
          o transcript.events transcript.ending transcript.clock
          (outside_on (seat_way new) (entries_of number history) new.outside.left))
          (outside-is old.outside (outside_on (seat_way old) [] old.outside.left) refl refl refl none refl)
          (subst (λ (o : Outside State). RunCameTo by scenario.body_limit number whole
          old.outside transcript.events transcript.ending transcript.clock o)
          (outside-is new.outside (outside_on (seat_way new) (entries_of number history) new.outside.left) refl refl
          refl
          (sym own) refl) is.came);
      few = is.few;
    }

have-run : {State : Type 0} (by : Answering State) (scenario : Scenario) (base : ℕ) (history : List Entry)
    {number : ℕ} {documents : List Document} {olds news : List (Seat State)} {transcripts : List Transcript}
    → EachDocument (DocumentCameTo by scenario base) number documents olds news transcripts → All IsFresh olds
    → All (HasOwn history) news
    → EachDocument (RanInHistory by scenario base history) number documents (map seat_way olds) (map seat_way news)
    transcripts
have-run by scenario base history {transcripts = transcripts} played fresh own =
    each-seen seat_way (λ number document old new transcript is.
    has-run by scenario base history number document old new transcript is.0 is.1.own_is
    (subst (λ (d : ℕ). entries_of d history ≡ new.outside.own) is.0.document_is is.2))
    (each-with IsFresh (HasOwn history) (λ transcript. Unit {0}) fresh own (λ k d within. tt) played)

called-of : {State : Type 0} (by : Answering State) (scenario : Scenario) (base : ℕ)
    {number : ℕ} {documents : List Document} {olds news : List (Seat State)} {transcripts : List Transcript}
    → EachDocument (DocumentCameTo by scenario base) number documents olds news transcripts → HasText transcripts
    → All IsFresh olds → All HasCalled news
called-of by scenario base played text fresh =
    each-after HasCalled (λ number document old new transcript is.
    let ran = ran-of by scenario.body_limit number (document_run scenario.cookies base document) old.outside
    transcript.events transcript.ending transcript.clock new.outside is.3 is.0.came in
    let few = is.0.few in
    called-on old new is.1
    (ran-calls by scenario.body_limit number (document_run scenario.cookies base document) old.outside
    transcript.events transcript.ending transcript.clock new.outside ran) (omega (arith, few, is.1.left_is)))
    (each-with IsFresh (λ seat. Unit {0}) HasEnded fresh (λ k d within. tt) text played)

-- ---- the whole

-- seats that were made with the book's passes, and their passes as they came back to a book that is closed
module _ {L State : Type 0} (by : Answering State) (told : L → LinkTold State) (scenario : Scenario)
    (base : ℕ) (id : _) (first : TurnPass) (made back : List (Seating L TurnPass)) (book : Book)
    (history : List Entry) (are : ArePasses id (opening_book scenario) (length scenario.documents) first
    (passes_in made))
    (documents : map (λ (p : TurnPass). p.document) (passes_in back) ≡ range_with_len 0 (length scenario.documents))
    (closed : IsOneHistory (first ∷ passes_in back) book history) where
  -- what was played on the seats, with the history of the closed book, is a play
  pub closed-play : (transcripts : List Transcript)
      → EachDocument (DocumentCameTo by scenario base) 0 scenario.documents (map (seat_seen told) made)
      (map (seat_seen told) back) transcripts → HasText transcripts
      → IsPlayOver by scenario base (map (way_of told) (links_in made)) (map (way_of told) (links_in back))
      transcripts history
  closed-play transcripts played text = record {
    legal = legal-history told scenario id first made back book history are documents closed;
    turns = turns-closed told scenario id first made back book history are documents closed
        (called-of by scenario base played text (fresh-seats told scenario id first made back book history are
        documents closed));
    named = named-history told scenario id first made back book history are documents closed;
    runs = rw (
      ← ways-of told scenario id first made back book history are documents closed made,
      ← ways-of told scenario id first made back book history are documents closed back,
    )
        (transcripts-of by scenario base history played text (fresh-seats told scenario id first made back book
        history are documents closed)
        (own-entries told scenario id first made back book history are documents closed));
  }

  -- and where memory was refused, no document was played or each was
  pub closed-played : (transcripts : List Transcript)
      → EachDocument (DocumentCameTo by scenario base) 0 scenario.documents (map (seat_seen told) made)
      (map (seat_seen told) back) transcripts
      → NoneOrAllPlayed by scenario base (map (way_of told) (links_in made))
      (map (way_of told) (links_in back))
  closed-played transcripts played = inr (record {
    history = history;
    legal = legal-history told scenario id first made back book history are documents closed;
    named = named-history told scenario id first made back book history are documents closed;
    transcripts = transcripts;
    runs = rw (
      ← ways-of told scenario id first made back book history are documents closed made,
      ← ways-of told scenario id first made back book history are documents closed back,
    )
        (have-run by scenario base history played (fresh-seats told scenario id first made back book history are
        documents closed)
        (own-entries told scenario id first made back book history are documents closed));
  })

  pub closed-refused : AreRefused by scenario base (map (seat_seen told) made)
      (map (seat_seen told) back)
      → NoneOrAllPlayed by scenario base (map (way_of told) (links_in made))
      (map (way_of told) (links_in back))
  closed-refused (inl same) = inl (sym (ways-of told scenario id first made back book history are documents closed back)
      ∙ ap (map seat_way) same ∙ ways-of told scenario id first made back book history are documents closed made)
  closed-refused (inr were) = closed-played were.transcripts were.played
