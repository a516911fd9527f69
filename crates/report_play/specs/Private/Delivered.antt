-- The reports of documents, delivered one document after another (private contracts).
use Rattle.std.specs.Prelude.{◌≡◌, ℕ, ◌<◌, ◌^◌, List, [], ◌∷◌, ◌++◌, length, map, slice_get, Some}
use Rattle.book_calls.specs.declared.book.Book.{Book}
use Rattle.book_calls.specs.declared.entry.Entry.{Entry}
use Rattle.book_calls.specs.Entries.{HasTurnsFrom, Legal, book_after}
use Rattle.book_calls.specs.Solo.{AreOf}
use Rattle.play_definitions.specs.Plays.{IsPlayOver, RunsOver, opening_book}
use Rattle.link_traits.specs.Links.{LinkTold}
use Rattle.fetch_wire.specs.Exchanges.{Answering}
use Rattle.play_definitions.specs.declared.seating.Seating.{Seating}
use Rattle.play_seats.specs.Links.{way_of}
use Rattle.play_seats.specs.Seated.{links_in}
use Rattle.play_seats.specs.Sim.{SimState}
use Rattle.report_delivery.specs.declared.delivery.Delivered.{Delivered}
use Rattle.report_delivery.specs.Reporting.{ending_of, reporting}
use Rattle.script_events.specs.declared.events.Transcript.{Transcript}
use Rattle.script_scenarios.specs.declared.document.Document.{Document}
use Rattle.script_scenarios.specs.declared.scenario.Scenario.{Scenario}
use Rattle.book_turns.specs.declared.pass.TurnPass.{TurnPass}

-- the transcript is of one of the scenario's documents, and ended early enough
abbrev pub CanReport : Scenario → Transcript → Type 0
CanReport scenario transcript = (transcript.document < length scenario.documents) × (transcript.clock < 2 ^ 48)

-- the link is to the scenario's servers
abbrev pub IsLinkTo : Scenario → SimState → Type 0
IsLinkTo scenario link = link.servers ≡ scenario.servers

-- The reports of a document, which its transcript tells, were delivered over its link and over a book that they had for
-- themselves. The history has grown by their entries, which are the document's and legal from that book, and leave the
-- last one; its entry i has turn i.
pub record IsDelivered {L State : Type 0} (by : Answering State) (told : L → LinkTold State) (scenario : Scenario)
    (transcript : Transcript) (book : Book) (history : List Entry) (link : L) (delivered : Delivered) (last : Book)
    (whole : List Entry) : Type 0 where
  pub number_is : delivered.document ≡ transcript.document
  pub entries : List Entry
  pub whole_is : whole ≡ history ++ entries
  pub last_is : last ≡ book_after book entries
  pub legal : Legal book entries
  pub of_document : AreOf transcript.document entries
  pub turns : HasTurnsFrom 0 whole
  -- the link as they left it
  pub left : L
  pub came : (one : Document) → slice_get scenario.documents transcript.document ≡ Some one
      → RunsOver by scenario.body_limit transcript.document (way_of told link) (way_of told left) entries
      (reporting scenario.cookies one transcript.clock transcript.events) delivered.events
      (ending_of delivered.ending) transcript.clock

-- Those of each, in order: book and history go from document to document.
pub data EachDelivered {L : Type 0} (Is : Transcript → Book → List Entry → L → Delivered → Book → List Entry → Type 0)
    : Book → List Entry → List Transcript → List L → List Delivered → Book → List Entry → Type 0 where
  none : {book : Book} {history : List Entry} → EachDelivered Is book history [] [] [] book history
  one_more : {book after last : Book} {history longer whole : List Entry} {transcript : Transcript} {link : L}
      {delivered : Delivered} {transcripts : List Transcript} {links : List L} {delivereds : List Delivered}
      → Is transcript book history link delivered after longer
      → EachDelivered Is after longer transcripts links delivereds last whole
      → EachDelivered Is book history (transcript ∷ transcripts) (link ∷ links) (delivered ∷ delivereds) last whole

-- those of the documents of these transcripts
abbrev pub AreDelivered : {L State : Type 0} → Answering State → (L → LinkTold State) → Scenario → Book → List Entry
    → List Transcript → List L → List Delivered → List Entry → Type 0
AreDelivered by told scenario book history transcripts links delivereds whole =
    (last : Book)
    × EachDelivered (IsDelivered by told scenario) book history transcripts links delivereds last whole

-- Each document was played on its seat; then the reports of each were delivered over its link, from the book and the
-- history that the scripts have left.
pub record WasReported {L State : Type 0} (by : Answering State) (told : L → LinkTold State) (scenario : Scenario)
    (made : List (Seating L TurnPass)) (transcripts : List Transcript) (delivereds : List Delivered)
    (history : List Entry) : Type 0 where
  pub scripts : List Entry
  pub links : List L
  pub play : IsPlayOver by scenario scenario.now (map (way_of told) (links_in made)) (map (way_of told) links)
      transcripts scripts
  pub delivered : AreDelivered by told scenario (book_after (opening_book scenario) scripts) scripts transcripts links
      delivereds history
