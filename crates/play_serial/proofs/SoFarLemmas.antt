-- One document more, behind those that were played.
use Rattle.std.proofs.Common.{◌≡◌, ◌≢◌, ◌≤◌, ◌<◌, ◌+◌, ◌-◌, ℕ, List, [], ◌∷◌, ◌++◌, length, ap, sym, subst, ◌∙◌}
use Rattle.std.proofs.Common.{arith, length-take, take_all}
use Rattle.std.proofs.lemmas.List.{append-nil}
use Rattle.std.proofs.lemmas.List.Elements.{All-nil, All-push}
use Rattle.std.specs.List.{AllByRecursion, slice_get}
use Rattle.std.specs.Prelude.{Some}
use Rattle.value_lemmas.proofs.Lists.{AllByRecursion-append}
use Rattle.book_calls.proofs.EntryLemmas.{book-on, each-document, entries_of-all, entries_of-append, entries_of-none}
use Rattle.book_calls.proofs.EntryLemmas.{legal-on}
use Rattle.book_calls.specs.Entries.{AreInOrderFrom, HasTurnsFrom, Legal, book_after, entries_of}
use Rattle.book_calls.specs.Solo.{AreOf, Solo, solo_account}
use Rattle.book_calls.specs.declared.book.Book.{Book}
use Rattle.book_calls.specs.declared.entry.Entry.{Entry}
use Rattle.play_definitions.specs.Playing.{RunCameTo}
use Rattle.play_definitions.specs.Plays.{IsPlay, IsTranscript, RunsOver, Way, by_rules, opening_book, outside_on}
use Rattle.play_definitions.specs.Plays.{way_to_servers}
use Rattle.play_definitions.specs.Worlds.{KeepsPass, outside}
use Rattle.play_seats.proofs.ServedLemmas.{fresh_link, one-more-came, served-run, way_of_servers}
use Rattle.play_seats.proofs.ServerLemmas.{by_bytes, sim_told}
use Rattle.play_serial.specs.Private.SoFar.{CameSoFar, ways_of}
use Rattle.play_serial.specs.declared.in_turn.SoFar.{SoFar}
use Rattle.play_seats.specs.Sim.{SimState}
use Rattle.script_events.specs.declared.events.Ending.TheVariants.{Memory}
use Rattle.script_events.specs.declared.events.Transcript.{Transcript}
use Rattle.script_runs.specs.Documents.{EachDocument}
use Rattle.script_runs.specs.Runs.{document_client, document_run}
use Rattle.script_scenarios.specs.declared.document.Document.{Document}
use Rattle.script_scenarios.specs.declared.scenario.Scenario.{Scenario}
use Rattle.script_scenarios.specs.declared.servers.Server.{Server}

-- ---- entries

-- the entries name earlier documents
abbrev AreEarlier : ℕ → List Entry → Type 0
AreEarlier number entries = AllByRecursion (λ (entry : Entry). entry.document < number) entries

none-earlier : (number : ℕ) (entries : List Entry) → AreEarlier number entries → entries_of number entries ≡ []
none-earlier number entries earlier = entries_of-none number entries
    (each-document (λ n. n < number) (λ n. n ≢ number) entries (λ n lt is. omega (arith, lt, is)) earlier)

none-of-others : (document number : ℕ) (entries : List Entry) → document < number → AreOf number entries
    → entries_of document entries ≡ []
none-of-others document number entries below of = entries_of-none document entries
    (each-document (λ n. n ≡ number) (λ n. n ≢ document) entries (λ n at is. omega (arith, below, at, is)) of)

named-more : (number : ℕ) (entries more : List Entry) → AreEarlier number entries → AreOf number more
    → AreEarlier (number + 1) (entries ++ more)
named-more number entries more earlier of =
    AllByRecursion-append (λ (e : Entry). e.document < number + 1) entries more
    (each-document (λ n. n < number) (λ n. n < number + 1) entries (λ n lt. omega (arith, lt)) earlier)
    (each-document (λ n. n ≡ number) (λ n. n < number + 1) more (λ n at. omega (arith, at)) of)

-- those of one document are in order, from each before it on
of-in-order : (first number : ℕ) (entries : List Entry) → first ≤ number → AreOf number entries
    → AreInOrderFrom first entries
of-in-order first number [] le of = tt
of-in-order first number (e ∷ es) le of =
    (omega (arith, le, of.0), of-in-order e.document number es (omega (arith, of.0)) of.1)

-- and so they are behind those of earlier documents
order-more : (first number : ℕ) (entries more : List Entry) → first ≤ number → AreInOrderFrom first entries
    → AreEarlier number entries → AreOf number more → AreInOrderFrom first (entries ++ more)
order-more first number [] more le order earlier of = of-in-order first number more le of
order-more first number (e ∷ es) more le order earlier of =
    (order.0, order-more e.document number es more (omega (arith, earlier.0)) order.1 earlier.1 of)

-- ---- transcripts

module _ (scenario : Scenario) (number : ℕ) (entries more : List Entry) (of : AreOf number more) where
  stays : (n : ℕ) (document : Document) (old new : Way (List Server)) (transcript : Transcript) → n < number
      → IsTranscript by_rules scenario scenario.now entries n document old new transcript
      → IsTranscript by_rules scenario scenario.now (entries ++ more) n document old new transcript
  stays n document old new transcript below is =
      let same : entries_of n entries ≡ entries_of n (entries ++ more) =
      sym (entries_of-append n entries more
      ∙ ap (λ (l : List Entry). entries_of n entries ++ l) (none-of-others n number more below of)
      ∙ append-nil (entries_of n entries)) in
      record {
        document_is = is.document_is;
        key_is = is.key_is;
        run_is = subst (λ (l : List Entry). RunsOver by_rules scenario.body_limit n old new l
            (document_run scenario.cookies scenario.now document) transcript.events transcript.ending
            transcript.clock) same is.run_is;
      }

  -- those of earlier documents are what they were
  each-stays : {n : ℕ} {documents : List Document} {olds news : List (Way (List Server))}
      {transcripts : List Transcript} → n + length documents ≤ number
      → EachDocument (IsTranscript by_rules scenario scenario.now entries) n documents olds news transcripts
      → EachDocument (IsTranscript by_rules scenario scenario.now (entries ++ more)) n documents olds news transcripts
  each-stays few EachDocument.none = EachDocument.none
  each-stays few (EachDocument.one_more is rest) =
      EachDocument.one_more (stays _ _ _ _ _ (omega (arith, few)) is) (each-stays (omega (arith, few)) rest)

-- ---- one document more

-- the pass of a document, behind these entries
abbrev fresh_pass : ℕ → Book → List Entry → Solo
fresh_pass number opening behind =
    record { document = number; opening = opening; behind = behind; entries = []; calls = 0 }

module _ (scenario : Scenario) (number : ℕ) (old : SoFar) (document : Document) (first last : Solo)
    (link link' : SimState) (transcript : Transcript) (came : CameSoFar scenario number old)
    (begun : first ≡ fresh_pass number old.book old.history) where
  abbrev more : List Entry
  more = last.entries

  -- the document's entries are those that its pass has added
  own-entries : (history : List Entry) → history ≡ old.history ++ more → AreOf number more
      → entries_of number history ≡ more
  own-entries history grown of = ap (entries_of number) grown
      ∙ (entries_of-append number old.history more
      ∙ (ap (λ (l : List Entry). l ++ entries_of number more) (none-earlier number old.history came.named)
      ∙ entries_of-all number more of))

  -- over them it comes to its transcript
  comes : (history : List Entry) → history ≡ old.history ++ more → AreOf number more → link ≡ fresh_link scenario
      → transcript.document ≡ number → transcript.key ≡ (document_client document).key → transcript.ending ≢ Memory
      → RunCameTo by_bytes scenario.body_limit first.document (document_run scenario.cookies scenario.now document)
      (outside solo_account sim_told first link) transcript.events transcript.ending transcript.clock
      (outside solo_account sim_told last link')
      → IsTranscript by_rules scenario scenario.now history number document (way_to_servers scenario)
      (way_to_servers scenario) transcript
  comes history grown of opened numbered keyed told ran =
      let whole = document_run scenario.cookies scenario.now document in
      let limit = scenario.body_limit in
      let left' = 4294967295 - last.calls in
      served-run scenario number history document (4294967295 - 0) left' link' transcript numbered keyed told
      (subst (λ (l : List Entry). RunCameTo by_bytes limit number whole
      (outside_on (way_to_servers scenario) [] (4294967295 - 0)) transcript.events transcript.ending transcript.clock
      (outside_on (way_of_servers link'.servers) l left')) (sym (own-entries history grown of))
      (subst (λ (p : Solo). RunCameTo by_bytes limit p.document whole
      (outside solo_account sim_told p (fresh_link scenario)) transcript.events transcript.ending transcript.clock
      (outside solo_account sim_told last link')) begun
      (subst (λ (l : SimState). RunCameTo by_bytes limit first.document whole (outside solo_account sim_told first l)
      transcript.events transcript.ending transcript.clock (outside solo_account sim_told last link')) opened ran)))

  pub next-came : (new : SoFar) (share : List Entry) (most : ℕ) → slice_get scenario.documents number ≡ Some document
      → share ≡ old.history → link ≡ fresh_link scenario
      → KeepsPass solo_account (λ (p : Solo). p.behind ≡ share) most first last
      → transcript.document ≡ number → transcript.key ≡ (document_client document).key → transcript.ending ≢ Memory
      → RunCameTo by_bytes scenario.body_limit first.document (document_run scenario.cookies scenario.now document)
      (outside solo_account sim_told first link) transcript.events transcript.ending transcript.clock
      (outside solo_account sim_told last link')
      → new.book ≡ book_after last.opening more → new.history ≡ last.behind ++ more → Legal last.opening more
      → AreOf last.document more → HasTurnsFrom 0 new.history
      → new.transcripts ≡ old.transcripts ++ transcript ∷ [] → CameSoFar scenario (number + 1) new
  next-came new share most at shared opened kept numbered keyed told ran left grows legal of turns added =
      let opening : last.opening ≡ old.book = kept.opening ∙ ap (λ (p : Solo). p.opening) begun in
      let behind : last.behind ≡ old.history = kept.belongs_to ∙ shared in
      let mine : AreOf number more =
      subst (λ (n : ℕ). AreOf n more) (kept.document ∙ ap (λ (p : Solo). p.document) begun) of in
      let grown : new.history ≡ old.history ++ more = grows ∙ ap (λ (l : List Entry). l ++ more) behind in
      let before = opening_book scenario in
      record {
        book_is = book-on before old.book old.history more new.history came.book_is grown new.book
            (left ∙ ap (λ (b : Book). book_after b more) opening);
        legal = legal-on before old.book old.history more new.history came.book_is grown came.legal
            (subst (λ (b : Book). Legal b more) opening legal) turns;
        turns = turns;
        named = subst (AreEarlier (number + 1)) (sym grown) (named-more number old.history more came.named mine);
        in_order = subst (AreInOrderFrom 0) (sym grown)
            (order-more 0 number old.history more (omega arith) came.in_order came.named mine);
        runs = rw (added) (one-more-came scenario new.history number old.transcripts document transcript at
            (rw (grown) (each-stays scenario number old.history more mine
            (omega (arith, length-take number scenario.documents)) came.runs))
            (comes new.history grown mine opened numbered keyed told ran));
        told = rw (added) (All-push (λ (t : Transcript). t.ending ≢ Memory) old.transcripts transcript came.told told);
      }

-- ---- all documents

-- none was played yet
pub none-came : (scenario : Scenario) (so_far : SoFar) → so_far.book ≡ opening_book scenario → so_far.history ≡ []
    → so_far.transcripts ≡ [] → CameSoFar scenario 0 so_far
none-came scenario so_far book_is none empty = record {
  book_is = book_is ∙ ap (book_after (opening_book scenario)) (sym none);
  legal = rw (none) tt;
  turns = rw (none) tt;
  named = rw (none) tt;
  in_order = rw (none) tt;
  runs = rw (empty) EachDocument.none;
  told = rw (empty) (All-nil (λ (t : Transcript). t.ending ≢ Memory));
}

-- all are a play
pub all-came : (scenario : Scenario) (number : ℕ) (so_far : SoFar) → CameSoFar scenario number so_far
    → number ≡ length scenario.documents → IsPlay scenario so_far.transcripts so_far.history
all-came scenario number so_far came all = record {
  legal = came.legal;
  turns = came.turns;
  named = subst (λ (n : ℕ). AreEarlier n so_far.history) all came.named;
  runs = subst (λ (l : List Document). EachDocument (IsTranscript by_rules scenario scenario.now so_far.history) 0 l
      (ways_of scenario l) (ways_of scenario l) so_far.transcripts)
      (take_all number scenario.documents (omega (arith, all))) came.runs;
}
