-- Scripts that were played, and reports that were delivered behind them over scripted servers, are a play with reports.
use Rattle.std.proofs.Common.{◌≡◌, ◌≢◌, ℕ, suc, ◌+◌, ◌<◌, ◌≤◌, List, [], ◌∷◌, ◌++◌, length, map, get_or, zero, Option}
use Rattle.std.proofs.Common.{Some, None, refl, ap, sym, subst, ◌∙◌, arith, append_assoc}
use Rattle.std.specs.Prelude.{slice_get}
use Rattle.std.specs.List.{All, AllByRecursion}
use Rattle.std.proofs.lemmas.List.{append-nil}
use Rattle.std.proofs.lemmas.List.Elements.{All-nil, All-cons, All-head, All-tail, All-map}
use Rattle.value_lemmas.proofs.Lists.{AllByRecursion-append}
use Rattle.book_calls.specs.declared.book.Book.{Book}
use Rattle.book_calls.specs.declared.entry.Entry.{Entry}
use Rattle.book_calls.specs.Entries.{AreInOrderFrom, HasTurnsFrom, Legal, book_after, entries_of}
use Rattle.book_calls.specs.Solo.{AreOf}
use Rattle.book_calls.proofs.EntryLemmas.{book-on, each-document, legal-on}
use Rattle.play_definitions.specs.Plays.{IsPlay, IsPlayOver, IsTranscript, RunsOver, Way, by_rules, opening_book}
use Rattle.play_definitions.specs.Plays.{outside_on, way_to_servers}
use Rattle.link_traits.specs.Links.{IsForetold, LinkTold}
use Rattle.link_traits.specs.declared.routes.Route.{Route}
use Rattle.fetch_wire.specs.Exchanges.{Answering}
use Rattle.play_definitions.specs.Playing.{RunPlayed}
use Rattle.play_definitions.specs.Seats.{DocumentCameTo, Seat}
use Rattle.play_definitions.specs.declared.seating.Seating.{Seating}
use Rattle.play_seats.specs.Links.{AreOpened, for_documents, way_of}
use Rattle.play_seats.specs.Passes.{ArePasses}
use Rattle.play_seats.specs.Seated.{links_in, passes_in}
use Rattle.play_seats.proofs.ClosedLemmas.{ran-of}
use Rattle.play_seats.proofs.ListLemmas.{unmap}
use Rattle.play_seats.proofs.ServerLemmas.{by_bytes, ran-by-rules, ran-state, sim_told}
use Rattle.script_events.specs.Endings.{HasText}
use Rattle.report_delivery.specs.declared.delivery.Delivered.{Delivered}
use Rattle.report_delivery.specs.Reporting.{ending_of, reporting}
use Rattle.report_play.specs.Plays.{EachReported, IsReported, IsReportedInOrder, IsReportedPlay}
use Rattle.report_play.specs.Private.Delivered.{AreDelivered, CanReport, EachDelivered, IsDelivered, IsLinkTo}
use Rattle.report_play.specs.Private.Delivered.{WasReported}
use Rattle.report_play.proofs.ClockLemmas.{document-early, ran-early}
use Rattle.report_play.proofs.HistoryLemmas.{order-above, order-from, order-of, own-among}
use Rattle.script_events.specs.declared.events.Ending.{Ending}
use Rattle.script_events.specs.declared.events.Ending.TheVariants.{Memory}
use Rattle.script_events.specs.declared.events.Event.{Event}
use Rattle.script_events.specs.declared.events.Transcript.{Transcript}
use Rattle.script_runs.proofs.DocumentLemmas.{each-after, each-so as documents-so, each-with}
use Rattle.script_runs.specs.Documents.{EachDocument}
use Rattle.script_runs.specs.Play.{Play}
use Rattle.script_runs.specs.Runs.{document_run}
use Rattle.script_scenarios.specs.Valid.{IsValidDocument}
use Rattle.script_scenarios.specs.declared.document.Document.{Document}
use Rattle.script_scenarios.specs.declared.scenario.Scenario.{Scenario}
use Rattle.script_scenarios.specs.declared.servers.Server.{Server}
use Rattle.play_seats.specs.Sim.{SimState}
use Rattle.book_turns.specs.Passes.{IsOneHistory, opening_of}
use Rattle.book_turns.specs.declared.pass.TurnPass.{TurnPass}

-- ---- one document

abbrev HasEnded : Transcript → Type 0
HasEnded transcript = transcript.ending ≢ Memory

-- the documents of the scenario from this number on
abbrev AreFrom : Scenario → ℕ → List Document → Type 0
AreFrom scenario number documents = (i : ℕ) → slice_get scenario.documents (number + i) ≡ slice_get documents i

from-next : (scenario : Scenario) (number : ℕ) (document : Document) (documents : List Document)
    → AreFrom scenario number (document ∷ documents) → AreFrom scenario (number + 1) documents
from-next scenario number document documents from i =
    ap (slice_get scenario.documents) (further number i) ∙ from (suc i)
  where
    further : (n k : ℕ) → n + 1 + k ≡ n + suc k
    further n k = omega arith

-- the run of a script
script-ran : {State : Type 0} (by : Answering State) (scenario : Scenario) (number : ℕ) (document : Document)
    (old new : Seat State) (transcript : Transcript)
    → DocumentCameTo by scenario scenario.now number document old new transcript → HasEnded transcript
    → RunPlayed by scenario.body_limit number (document_run scenario.cookies scenario.now document) old.outside
    transcript.events transcript.ending transcript.clock new.outside
script-ran by scenario number document old new transcript is told =
    ran-of by scenario.body_limit number (document_run scenario.cookies scenario.now document) old.outside
    transcript.events transcript.ending transcript.clock new.outside told is.came

-- ---- what may be reported

-- each transcript is of one of the scenario's documents, and ended early
pub can-report : {State : Type 0} (by : Answering State) (scenario : Scenario) {number : ℕ} {documents : List Document}
    {olds mids : List (Seat State)} {transcripts : List Transcript}
    → EachDocument (DocumentCameTo by scenario scenario.now) number documents olds mids transcripts
    → HasText transcripts
    → scenario.now ≤ 1099511627776 → All IsValidDocument documents
    → number + length documents ≡ length scenario.documents → All (CanReport scenario) transcripts
can-report by scenario EachDocument.none text soon valid many = All-nil (CanReport scenario)
can-report by scenario {number} (EachDocument.one_more {document = document} {old = old} {new = mid}
    {transcript = transcript} {documents = documents} {transcripts = transcripts} was played) text soon valid many =
    let here = All-head IsValidDocument document documents valid in
    All-cons (CanReport scenario) transcript transcripts (
      omega (arith, was.number_is, many),
      ran-early by scenario.body_limit number (document_run scenario.cookies scenario.now document) old.outside
          transcript.events transcript.ending transcript.clock mid.outside
          (script-ran by scenario number document old mid transcript was
          (All-head HasEnded transcript transcripts text))
          (document-early scenario.cookies scenario.now document soon here.script.valid),
    )
    (can-report by scenario played (All-tail HasEnded transcript transcripts text) soon
    (All-tail IsValidDocument document documents valid) (omega (arith, many)))

-- and so it is of a play
pub can-report-played : {State : Type 0} (by : Answering State) (scenario : Scenario) (scripts : List Entry)
    {number : ℕ} {documents : List Document} {olds news : List (Way State)} {transcripts : List Transcript}
    → EachDocument (IsTranscript by scenario scenario.now scripts) number documents olds news transcripts
    → scenario.now ≤ 1099511627776 → All IsValidDocument documents
    → number + length documents ≡ length scenario.documents → All (CanReport scenario) transcripts
can-report-played by scenario scripts EachDocument.none soon valid many = All-nil (CanReport scenario)
can-report-played by scenario scripts {number} (EachDocument.one_more {document = document} {old = old} {new = new}
    {transcript = transcript} {documents = documents} {transcripts = transcripts} is played) soon valid many =
    let here = All-head IsValidDocument document documents valid in
    All-cons (CanReport scenario) transcript transcripts (
      omega (arith, is.document_is, many),
      ran-early by scenario.body_limit number (document_run scenario.cookies scenario.now document)
          (outside_on old [] is.run_is.before) transcript.events transcript.ending transcript.clock
          (outside_on new (entries_of number scripts) is.run_is.behind) is.run_is.ran
          (document-early scenario.cookies scenario.now document soon here.script.valid),
    )
    (can-report-played by scenario scripts played soon (All-tail IsValidDocument document documents valid)
    (omega (arith, many)))

-- as many transcripts as documents
pub many-transcripts : {State : Type 0} {Is : ℕ → Document → State → State → Transcript → Type 0} {number : ℕ}
    {documents : List Document} {olds news : List State} {transcripts : List Transcript}
    → EachDocument Is number documents olds news transcripts → length transcripts ≡ length documents
many-transcripts EachDocument.none = refl
many-transcripts (EachDocument.one_more is played) = ap suc (many-transcripts played)

-- ---- the history

-- the book that the scripts leave
pub closed-book : {L : Type 0} (id : _) (opening : Book) (count : ℕ) (first : TurnPass)
    (made back : List (Seating L TurnPass)) (book : Book) (history : List Entry)
    → ArePasses id opening count first (passes_in made) → IsOneHistory (first ∷ passes_in back) book history
    → book ≡ book_after opening history
closed-book id opening count first made back book history are closed =
    let Legals : TurnPass → Type 0 =
    λ p. p.document ≡ 4294967295 → Legal (opening_of p) history × (book ≡ book_after (opening_of p) history) in
    subst (λ (b : Book). book ≡ book_after b history) are.first_is.opening_is
    (All-head Legals first (passes_in back) closed.legal are.first_is.document_is).1

-- it stays legal, and its turns have no gap
history-legal : {L State : Type 0} (by : Answering State) (told : L → LinkTold State) (scenario : Scenario)
    (opening : Book) {book last : Book} {history whole : List Entry} {transcripts : List Transcript} {links : List L}
    {delivereds : List Delivered}
    → EachDelivered (IsDelivered by told scenario) book history transcripts links delivereds last whole
    → Legal opening history → HasTurnsFrom 0 history → book ≡ book_after opening history
    → Legal opening whole × HasTurnsFrom 0 whole
history-legal by told scenario opening EachDelivered.none legal turns is = (legal, turns)
history-legal by told scenario opening (EachDelivered.one_more {book = book} {after = after} {history = history}
    {longer = longer} one more) legal turns is =
    history-legal by told scenario opening more
    (legal-on opening book history one.entries longer is one.whole_is legal one.legal one.turns) one.turns
    (book-on opening book history one.entries longer is one.whole_is after one.last_is)

-- ---- over scripted servers

-- the servers of a way
abbrev Serves : Scenario → Way (List Server) → Type 0
Serves scenario way = way.state ≡ Some scenario.servers

abbrev ServesAt : Scenario → SimState → Type 0
ServesAt scenario link = Serves scenario (way_of sim_told link)

-- a link to them tells nothing else
to-servers : (scenario : Scenario) (link : SimState) → ServesAt scenario link
    → way_of sim_told link ≡ way_to_servers scenario
to-servers scenario link is =
    ap (λ (o : Option (List Server)). record { state = o; received = None; faults = 0 }) is

-- they are the same after a run
serves-after : (scenario : Scenario) (limit number : ℕ) (old new : Way (List Server)) (entries : List Entry)
    (whole : Play) (events : List Event) (ending : Ending) (clock : ℕ) → Serves scenario old
    → RunsOver by_bytes limit number old new entries whole events ending clock → Serves scenario new
serves-after scenario limit number old new entries whole events ending clock served run =
    ran-state limit number whole (outside_on old [] run.before) events ending clock
    (outside_on new entries run.behind) run.ran ∙ served

-- a run over links to them is one over the servers by their rules
by-the-rules : (limit number : ℕ) (old new old' new' : Way (List Server)) (entries : List Entry) (whole : Play)
    (events : List Event) (ending : Ending) (clock : ℕ) → old ≡ old' → new ≡ new'
    → RunsOver by_bytes limit number old new entries whole events ending clock
    → RunsOver by_rules limit number old' new' entries whole events ending clock
by-the-rules limit number old new old' new' entries whole events ending clock first last run =
    subst (λ (w : Way (List Server)). RunsOver by_rules limit number w new' entries whole events ending clock) first
    (subst (λ (w : Way (List Server)). RunsOver by_rules limit number old w entries whole events ending clock) last
    (record {
      before = run.before;
      behind = run.behind;
      ran = ran-by-rules limit number whole (outside_on old [] run.before) events ending clock
          (outside_on new entries run.behind) run.ran;
    }))

-- ---- the scripts

module _ (scenario : Scenario) (scripts : List Entry) where
  -- the ways that are all to the servers
  to-each : {Is : ℕ → Document → Way (List Server) → Way (List Server) → Transcript → Type 0} {number : ℕ}
      {documents : List Document} {olds news : List (Way (List Server))} {transcripts : List Transcript}
      → EachDocument Is number documents olds news transcripts
      → All (λ (w : Way (List Server)). w ≡ way_to_servers scenario) olds
      → All (λ (w : Way (List Server)). w ≡ way_to_servers scenario) news
      → EachDocument Is number documents (map (λ (d : Document). way_to_servers scenario) documents)
      (map (λ (d : Document). way_to_servers scenario) documents) transcripts
  to-each EachDocument.none opened closed = EachDocument.none
  to-each {Is} {number} (EachDocument.one_more {document = document} {old = old} {new = new}
      {transcript = transcript} {olds = olds} {news = news} is more) opened closed =
      let To : Way (List Server) → Type 0 = λ w. w ≡ way_to_servers scenario in
      EachDocument.one_more
      (subst (λ (w : Way (List Server)). Is number document w (way_to_servers scenario) transcript)
      (All-head To old olds opened)
      (subst (λ (w : Way (List Server)). Is number document old w transcript) (All-head To new news closed) is))
      (to-each more (All-tail To old olds opened) (All-tail To new news closed))

  -- those of links to the servers
  all-to : (links : List SimState) → All (ServesAt scenario) links
      → All (λ (w : Way (List Server)). w ≡ way_to_servers scenario) (map (way_of sim_told) links)
  all-to links served = All-map (λ (w : Way (List Server)). w ≡ way_to_servers scenario) (way_of sim_told) links
      (λ k d lt. to-servers scenario (get_or links k d) (served k d lt))

  -- the links are to the same servers once the scripts have ended
  all-serve : (made links : List SimState) (transcripts : List Transcript) → All (ServesAt scenario) made
      → EachDocument (IsTranscript by_bytes scenario scenario.now scripts) 0 scenario.documents
      (map (way_of sim_told) made) (map (way_of sim_told) links) transcripts → All (ServesAt scenario) links
  all-serve made links transcripts served runs =
      unmap (Serves scenario) (way_of sim_told) links
      (each-after (Serves scenario) (λ number document old new transcript is. serves-after scenario scenario.body_limit
      number old new (entries_of number scripts) (document_run scenario.cookies scenario.now document)
      transcript.events transcript.ending transcript.clock is.1 is.0.run_is)
      (each-with (Serves scenario) (λ way. Unit {0}) (λ transcript. Unit {0})
      (All-map (Serves scenario) (way_of sim_told) made served) (λ i e lt. tt) (λ i e lt. tt) runs))

  -- they are a play
  scripts-play : (made links : List SimState) (transcripts : List Transcript) → All (ServesAt scenario) made
      → All (ServesAt scenario) links
      → IsPlayOver by_bytes scenario scenario.now (map (way_of sim_told) made) (map (way_of sim_told) links)
      transcripts scripts
      → IsPlay scenario transcripts scripts
  scripts-play made links transcripts served serve play = record {
    legal = play.legal;
    turns = play.turns;
    named = play.named;
    runs = to-each (documents-so (λ number document old new transcript is. record {
      document_is = is.document_is;
      key_is = is.key_is;
      run_is = by-the-rules scenario.body_limit number old new old new (entries_of number scripts)
          (document_run scenario.cookies scenario.now document) transcript.events transcript.ending transcript.clock
          refl refl is.run_is;
    }) play.runs) (all-to made served) (all-to links serve);
  }

-- the transcripts are of these documents, whose numbers go on from this one
abbrev AreNumbered : ℕ → List Document → List Transcript → Type 0
AreNumbered number [] [] = Unit {0}
AreNumbered number (document ∷ documents) (transcript ∷ transcripts) =
    (transcript.document ≡ number) × AreNumbered (number + 1) documents transcripts
AreNumbered number documents transcripts = ⊥

are-numbered : {State : Type 0} (by : Answering State) (scenario : Scenario) (scripts : List Entry) {number : ℕ}
    {documents : List Document} {olds news : List (Way State)} {transcripts : List Transcript}
    → EachDocument (IsTranscript by scenario scenario.now scripts) number documents olds news transcripts
    → AreNumbered number documents transcripts
are-numbered by scenario scripts EachDocument.none = tt
are-numbered by scenario scripts (EachDocument.one_more is more) =
    (is.document_is, are-numbered by scenario scripts more)

-- ---- the reports

-- What the reports of the documents from this number on have added to the history.
record Added (scenario : Scenario) (number : ℕ) (documents : List Document) (transcripts : List Transcript)
    (delivereds : List Delivered) (history whole : List Entry) : Type 0 where
  pub rest : List Entry
  pub whole_is : whole ≡ history ++ rest
  pub in_order : AreInOrderFrom number rest
  pub named : AllByRecursion (λ (e : Entry). e.document < length scenario.documents) rest
  pub each : (done : List Entry) → AllByRecursion (λ (e : Entry). e.document < number) done
      → EachReported (IsReported scenario (done ++ rest)) number documents transcripts delivereds

-- the reports of one document
is-reported : (scenario : Scenario) (reports : List Entry) (number : ℕ) (document : Document) (book last : Book)
    (history longer : List Entry) (transcript : Transcript) (link : SimState) (delivered : Delivered)
    (one : IsDelivered by_bytes sim_told scenario transcript book history link delivered last longer)
    → slice_get scenario.documents (number + 0) ≡ Some document → transcript.document ≡ number
    → ServesAt scenario link → entries_of number reports ≡ one.entries
    → IsReported scenario reports number document transcript delivered
is-reported scenario reports number document book last history longer transcript link delivered one at is served own =
    let limit = scenario.body_limit in
    let whole = reporting scenario.cookies document transcript.clock transcript.events in
    let ran = one.came document (ap (slice_get scenario.documents) (same transcript.document number is) ∙ at) in
    let old = way_of sim_told link in
    let new = way_of sim_told one.left in
    let ended = ending_of delivered.ending in
    let serves = serves-after scenario limit transcript.document old new one.entries whole delivered.events ended
    transcript.clock served ran in
    record {
      document_is = one.number_is ∙ is;
      run_is = subst (λ (l : List Entry). RunsOver by_rules limit number (way_to_servers scenario)
          (way_to_servers scenario) l whole delivered.events ended transcript.clock) (sym own)
          (subst (λ (n : ℕ). RunsOver by_rules limit n (way_to_servers scenario) (way_to_servers scenario) one.entries
          whole delivered.events ended transcript.clock) is
          (by-the-rules limit transcript.document old new (way_to_servers scenario) (way_to_servers scenario)
          one.entries whole delivered.events ended transcript.clock (to-servers scenario link served)
          (to-servers scenario one.left serves) ran));
    }
  where
    same : (d n : ℕ) → d ≡ n → d ≡ n + 0
    same d n e = omega (arith, e)

-- those of one document, and of the documents behind it
added-more : (scenario : Scenario) (number : ℕ) (document : Document) (documents : List Document) (book last : Book)
    (history longer whole : List Entry) (transcript : Transcript) (transcripts : List Transcript) (link : SimState)
    (delivered : Delivered) (delivereds : List Delivered) → AreFrom scenario number (document ∷ documents)
    → number < length scenario.documents → transcript.document ≡ number → ServesAt scenario link
    → IsDelivered by_bytes sim_told scenario transcript book history link delivered last longer
    → Added scenario (number + 1) documents transcripts delivereds longer whole
    → Added scenario number (document ∷ documents) (transcript ∷ transcripts) (delivered ∷ delivereds) history whole
added-more scenario number document documents book last history longer whole transcript transcripts link delivered
    delivereds from few is served one more =
    let mine = one.entries in
    let of : AreOf number mine = subst (λ (n : ℕ). AreOf n mine) is one.of_document in
    record {
      rest = mine ++ more.rest;
      whole_is = more.whole_is ∙ (ap (λ (l : List Entry). l ++ more.rest) one.whole_is
          ∙ append_assoc history mine more.rest);
      in_order = order-of number number mine more.rest (omega arith) of
          (order-from number (number + 1) more.rest (omega arith) more.in_order);
      named = AllByRecursion-append (λ (e : Entry). e.document < length scenario.documents) mine more.rest
          (each-document (λ n. n ≡ number) (λ n. n < length scenario.documents) mine
          (λ n at. omega (arith, at, few)) of) more.named;
      each = λ done below. EachReported.one_more
          (is-reported scenario (done ++ (mine ++ more.rest)) number document book last history longer transcript link
          delivered one (from 0) is served
          (own-among number done mine more.rest of below (order-above (number + 1) more.rest more.in_order)))
          (subst (λ (l : List Entry). EachReported (IsReported scenario l) (number + 1) documents transcripts
          delivereds) (append_assoc done mine more.rest)
          (more.each (done ++ mine) (AllByRecursion-append (λ (e : Entry). e.document < number + 1) done mine
          (each-document (λ n. n < number) (λ n. n < number + 1) done (λ n lt. omega (arith, lt)) below)
          (each-document (λ n. n ≡ number) (λ n. n < number + 1) mine (λ n at. omega (arith, at)) of))));
    }

added : (scenario : Scenario) {number : ℕ} {documents : List Document} {book last : Book} {history whole : List Entry}
    {transcripts : List Transcript} {links : List SimState} {delivereds : List Delivered}
    → EachDelivered (IsDelivered by_bytes sim_told scenario) book history transcripts links delivereds last whole
    → AreNumbered number documents transcripts → AreFrom scenario number documents
    → number + length documents ≡ length scenario.documents → All (ServesAt scenario) links
    → Added scenario number documents transcripts delivereds history whole
added scenario {number} {documents = []} (EachDelivered.none {history = history}) are from many served = record {
  rest = [];
  whole_is = sym (append-nil history);
  in_order = tt;
  named = tt;
  each = λ done below. EachReported.none;
}
added scenario {number} {documents = document ∷ documents} EachDelivered.none are from many served = absurd are
added scenario {number} {documents = []} (EachDelivered.one_more one more) are from many served = absurd are
added scenario {number} {documents = document ∷ documents} (EachDelivered.one_more {book = book} {after = after}
    {history = history} {longer = longer} {whole = whole} {transcript = transcript} {link = link}
    {delivered = delivered} {transcripts = transcripts} {links = links} {delivereds = delivereds} one more) are from
    many served =
    added-more scenario number document documents book after history longer whole transcript transcripts link delivered
    delivereds from (omega (arith, many)) are.0 (All-head (ServesAt scenario) link links served) one
    (added scenario {number = number + 1} more are.1 (from-next scenario number document documents from)
    (omega (arith, many)) (All-tail (ServesAt scenario) link links served))

-- ---- the whole

zero_before : (n : ℕ) → 0 + n ≡ n
zero_before n = omega arith

-- reports that were delivered behind a play, over links to its servers
reported-behind : (scenario : Scenario) (links : List SimState) (transcripts : List Transcript)
    (delivereds : List Delivered) (scripts history : List Entry) → IsPlay scenario transcripts scripts
    → All (ServesAt scenario) links
    → AreDelivered by_bytes sim_told scenario (book_after (opening_book scenario) scripts) scripts transcripts links
    delivereds history
    → (reported : IsReportedPlay scenario transcripts delivereds history) × (reported.scripts ≡ scripts)
reported-behind scenario links transcripts delivereds scripts history play served delivered =
    let more = history-legal by_bytes sim_told scenario (opening_book scenario) delivered.1 play.legal play.turns refl
    in
    let came = added scenario delivered.1 (are-numbered by_rules scenario scripts play.runs)
    (λ i. ap (slice_get scenario.documents) (zero_before i)) (zero_before (length scenario.documents)) served in (
      record {
        scripts = scripts;
        reports = came.rest;
        play = play;
        history_is = came.whole_is;
        legal = more.0;
        turns = more.1;
        named = subst (AllByRecursion (λ (e : Entry). e.document < length scenario.documents)) (sym came.whole_is)
            (AllByRecursion-append (λ (e : Entry). e.document < length scenario.documents) scripts came.rest play.named
            came.named);
        in_order = came.in_order;
        documents = came.each [] tt;
      },
      refl,
    )

-- and so the scripts may have come one after another
pub reported-in-order : (scenario : Scenario) (links : List SimState) (transcripts : List Transcript)
    (delivereds : List Delivered) (scripts history : List Entry) → IsPlay scenario transcripts scripts
    → AreInOrderFrom 0 scripts → All (IsLinkTo scenario) links
    → AreDelivered by_bytes sim_told scenario (book_after (opening_book scenario) scripts) scripts transcripts links
    delivereds history
    → IsReportedInOrder scenario transcripts delivereds history
reported-in-order scenario links transcripts delivereds scripts history play order served delivered =
    let behind = reported-behind scenario links transcripts delivereds scripts history play
    (λ k d lt. ap (λ (s : List Server). let o : Option (List Server) = Some s in o) (served k d lt)) delivered in
    record { reported = behind.0; in_order = subst (AreInOrderFrom 0) (sym behind.1) order }

pub reported-play : (scenario : Scenario) (made : List (Seating SimState TurnPass)) (transcripts : List Transcript)
    (delivereds : List Delivered) (history : List Entry) (link : SimState)
    (opening : ℕ → ℕ → List Route → Option SimState)
    → link.servers ≡ scenario.servers → ((k number : ℕ) (by : List Route) → opening k number by ≡ Some link)
    → AreOpened (for_documents opening scenario.routes) (links_in made)
    → WasReported by_bytes sim_told scenario made transcripts delivereds history
    → IsReportedPlay scenario transcripts delivereds history
reported-play scenario made transcripts delivereds history link opening servers opens opened was =
    let scripts = was.scripts in
    let play = was.play in
    let first : All (ServesAt scenario) (links_in made) = λ k d lt. at (links_in made) opened k d lt in
    let then = all-serve scenario scripts (links_in made) was.links transcripts first play.runs in
    (reported-behind scenario was.links transcripts delivereds scripts history
    (scripts-play scenario scripts (links_in made) was.links transcripts first then play) then was.delivered).0
  where
    read : (links : List SimState) (k : ℕ) (d : SimState) → k < length links
        → slice_get links k ≡ Some (get_or links k d)
    read [] k d lt = absurd (omega arith)
    read (l ∷ ls) zero d lt = refl
    read (l ∷ ls) (suc k) d lt = read ls k d (omega arith)

    at : (links : List SimState) → AreOpened (for_documents opening scenario.routes) links → (k : ℕ) (d : SimState)
        → k < length links → ServesAt scenario (get_or links k d)
    at links are k d lt =
        ap (λ (l : SimState). let o : Option (List Server) = Some l.servers in o)
        (subst (λ (o : Option SimState). IsForetold o (get_or links k d)) (opens k k scenario.routes)
        (are k (get_or links k d) (read links k d lt)))
        ∙ ap (λ (s : List Server). let o : Option (List Server) = Some s in o) servers
