-- A play of a scenario: one history of the shared book, and the run of each document over what its link answers and
-- over the document's own entries of that history (this project's own; what a run does is script_runs's definition,
-- what comes of its acts that of `Worlds`, and a fetch is the whole one, Fetch, section 4.1).
use Rattle.std.specs.Prelude.{◌≡◌, ℕ, ◌<◌, List, [], ◌∷◌, length, map, Option, Some, None}
use Rattle.play_definitions.specs.Words.{AllByRecursion, Answering, Book, Document, EachDocument, Ending, Entry, Event}
use Rattle.play_definitions.specs.Words.{KnownHost, Legal, Note, Play, Scenario, Server, Transcript, after, answer}
use Rattle.play_definitions.specs.Words.{HasTurnsFrom, document_client, document_run, empty, entries_of}
use Rattle.play_definitions.specs.Playing.{RunPlayed}
use Rattle.play_definitions.specs.Worlds.{Outside}

-- ---- the book

-- the book with these hosts noted at the time 0, one after another; an equal one replaces the one before
abbrev pub with_hosts : List KnownHost → Book → Book
with_hosts [] book = book
with_hosts (known ∷ more) book =
    with_hosts more (after book (Note known.host (record { age = known.until; subdomains = known.subdomains }) 0))

-- the book that a play opens with
abbrev pub opening_book : Scenario → Book
opening_book scenario = with_hosts scenario.hosts empty

-- ---- documents

-- what is told of a document's link at one moment: its state and how many bytes of each answer were received, where it
-- tells them, and how often it has failed
pub record Way (State : Type 0) : Type 0 where
  pub state : Option State
  pub received : Option (List ℕ)
  pub faults : ℕ

-- what is outside of the document then: these are its entries so far, and it may make this many calls more
abbrev pub outside_on : {State : Type 0} → Way State → List Entry → ℕ → Outside State
outside_on way own left = record {
  state = way.state;
  received = way.received;
  faults = way.faults;
  own = own;
  left = left;
}

-- From one moment of its link to another, over its answers, the document's run shows these events and comes to this
-- ending; a body of more than `limit` bytes is too big. It makes the calls of these entries, in order, and no others.
-- (How many more it might make does not matter.)
pub record RunsOver {State : Type 0} (by : Answering State) (limit document : ℕ) (old new : Way State)
    (entries : List Entry) (whole : Play) (events : List Event) (ending : Ending) (clock : ℕ) : Type 0 where
  pub before : ℕ
  pub behind : ℕ
  pub ran : RunPlayed by limit document whole (outside_on old [] before) events ending clock
      (outside_on new entries behind)

-- The transcript is that of the scenario's document of this number: its key is its client's, and its run from this time
-- on, over the document's entries of the history, comes to this ending with these events.
pub record IsTranscript {State : Type 0} (by : Answering State) (scenario : Scenario) (base : ℕ)
    (history : List Entry) (number : ℕ) (document : Document) (old new : Way State) (transcript : Transcript)
    : Type 0 where
  pub document_is : transcript.document ≡ number
  pub key_is : transcript.key ≡ (document_client document).key
  pub run_is : RunsOver by scenario.body_limit number old new (entries_of number history)
      (document_run scenario.cookies base document) transcript.events transcript.ending transcript.clock

-- ---- the whole

-- A play of the scenario from this time on, over links from their first moments to their last, with this history: it is
-- legal from the book that the scenario opens with, its entry i has turn i, each entry names a document, and each
-- document's run makes just the calls of its entries.
pub record IsPlayOver {State : Type 0} (by : Answering State) (scenario : Scenario) (base : ℕ)
    (olds news : List (Way State)) (transcripts : List Transcript) (history : List Entry) : Type 0 where
  pub legal : Legal (opening_book scenario) history
  pub turns : HasTurnsFrom 0 history
  pub named : AllByRecursion (λ (entry : Entry). entry.document < length scenario.documents) history
  pub runs : EachDocument (IsTranscript by scenario base history) 0 scenario.documents olds news transcripts

-- ---- the servers of the scenario

-- the servers answer a request by its method and its target, and stay as they are
abbrev pub by_rules : Answering (List Server)
by_rules = record {
  answer = λ servers hop. answer servers hop.origin hop.method hop.url;
  next = λ servers hop. servers;
}

-- a document's way to the servers, at each moment: they tell their state, and never fail
abbrev pub way_to_servers : Scenario → Way (List Server)
way_to_servers scenario = record { state = Some scenario.servers; received = None; faults = 0 }

-- each document's
abbrev pub ways_to_servers : Scenario → List (Way (List Server))
ways_to_servers scenario = map (λ document. way_to_servers scenario) scenario.documents

-- a play of the scenario over its own servers, from its own time on
abbrev pub IsPlay : Scenario → List Transcript → List Entry → Type 0
IsPlay scenario transcripts history =
    IsPlayOver by_rules scenario scenario.now (ways_to_servers scenario) (ways_to_servers scenario) transcripts history
