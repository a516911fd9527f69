-- The transcripts of a scenario with a history.
use Rattle.std.proofs.Common.{None, ◌≡◌, ◌+◌, ℕ, List, [], ◌∷◌, ◌++◌, Some, map, refl, ap, sym, ◌∙◌}
use Rattle.book_calls.specs.declared.entry.Entry.{Entry}
use Rattle.book_calls.specs.Entries.{entries_of}
use Rattle.link_http1.specs.HeadLaws.{HasOneEnd}
use Rattle.script_events.specs.declared.events.Ending.{Ending}
use Rattle.script_events.specs.declared.events.Transcript.{Transcript}
use Rattle.script_scenarios.specs.declared.document.Document.{Document}
use Rattle.script_scenarios.specs.declared.scenario.Scenario.{Scenario}
use Rattle.script_scenarios.specs.declared.servers.Server.{Server}
use Rattle.script_runs.specs.Documents.{EachDocument}
use Rattle.script_runs.specs.Play.{PlayRun, run_play}
use Rattle.fetch_wire.specs.Exchanges.{Answering}
use Rattle.play_isolation.specs.Isolated.{run_in, run_of}
use Rattle.play_laws.specs.Once.{CallsFollow, PlaysOnce, TapesOnce, TellsWithoutFaults}
use Rattle.play_definitions.specs.Plays.{IsTranscript, Way, by_rules}
use Rattle.play_laws.proofs.OnceLemmas.{once, opened-same, part}
use Rattle.play_laws.proofs.OrderLemmas.{idle, ordered-document}

some-same : {A : Type 0} {a b : A} → Some a ≡ Some b → a ≡ b
some-same is = cc

transcript-is : (a b : Transcript) → a.document ≡ b.document → a.key ≡ b.key → a.events ≡ b.events → a.ending ≡ b.ending
    → a.clock ≡ b.clock → a ≡ b
transcript-is a b document key events ending clock = rw (document, key, events, ending, clock) refl

-- of equal runs
transcript-by : (a b : Transcript) → a.document ≡ b.document → a.key ≡ b.key → run_of a ≡ run_of b → a ≡ b
transcript-by a b document key runs =
    let ended : (a.ending, a.clock) ≡ (b.ending, b.clock) = some-same (ap (λ (r : PlayRun). r.ending) runs) in
    transcript-is a b document key (ap (λ (r : PlayRun). r.events) runs)
    (ap (λ (end : Ending × ℕ). end.0) ended) (ap (λ (end : Ending × ℕ). end.1) ended)

module _ (law : HasOneEnd) {State : Type 0} (by : Answering State) (scenario : Scenario) (base : ℕ)
    (history : List Entry) where
  module _ (number : ℕ) (document : Document) (old new : Way State) (transcript different : Transcript)
      (told : TellsWithoutFaults old new)
      (one : IsTranscript by scenario base history number document old new transcript)
      (two : IsTranscript by scenario base history number document old new different) where
    tape-once : one.run_is.ran.tape ≡ two.run_is.ran.tape
    tape-once =
        let x = one.run_is.ran in
        let y = two.run_is.ran in
        once by scenario.body_limit number law x.trace y.trace idle
        (ordered-document scenario.cookies base document)
        (opened-same by scenario.body_limit number told.state x.first y.first
        (ap (λ o. o.own) x.from ∙ sym (ap (λ o. o.own) y.from)) (ap (λ o. o.state) x.from ∙ told.told)
        (ap (λ o. o.state) y.from ∙ told.told))
        (ap (λ o. o.own) x.to ∙ sym (ap (λ o. o.own) y.to)) (ap (λ o. o.faults) x.to ∙ told.none)
        (ap (λ o. o.faults) y.to ∙ told.none)

    transcript-once : transcript ≡ different
    transcript-once =
        transcript-by transcript different (one.document_is ∙ sym two.document_is) (one.key_is ∙ sym two.key_is)
        (sym one.run_is.ran.runs ∙ ap (run_play (run_in scenario base document)) tape-once ∙ two.run_is.ran.runs)

pub tapes-once : HasOneEnd → (State : Type 0) → TapesOnce State
unfolding tape-once
tapes-once law State by scenario base history number document old new transcript different told one two = (
  tape-once law by scenario base history number document old new transcript different told one two,
  transcript-once law by scenario base history number document old new transcript different told one two,
)

-- ---- in two histories

pub calls-follow : HasOneEnd → (State : Type 0) → CallsFollow State
calls-follow law State by scenario base history others number document old new transcript different told one two =
    let x = one.run_is.ran in
    let y = two.run_is.ran in
    let opened : x.first.own ≡ [] = ap (λ o. o.own) x.from in
    let opens : y.first.own ≡ [] = ap (λ o. o.own) y.from in
    part by scenario.body_limit number law x.trace y.trace idle
    (ordered-document scenario.cookies base document)
    (opened-same by scenario.body_limit number told.state x.first y.first (opened ∙ sym opens)
    (ap (λ o. o.state) x.from ∙ told.told) (ap (λ o. o.state) y.from ∙ told.told))
    (ap (λ o. o.faults) x.to ∙ told.none) (ap (λ o. o.faults) y.to ∙ told.none)
    (entries_of number history) (entries_of number others)
    (ap (λ o. o.own) x.to ∙ ap (λ (l : List Entry). l ++ entries_of number history) (sym opened))
    (ap (λ o. o.own) y.to ∙ ap (λ (l : List Entry). l ++ entries_of number others) (sym opens))

-- ---- over the servers of a scenario

-- the way to the servers
abbrev pub way : List Server → Way (List Server)
way servers = record { state = Some servers; received = None; faults = 0 }

pub way-told : (servers : List Server) → TellsWithoutFaults (way servers) (way servers)
way-told servers = record { state = servers; told = refl; none = refl }

-- the ways of these documents
abbrev pub ways : List Server → List Document → List (Way (List Server))
ways servers documents = map (λ document. way servers) documents

transcripts-once : HasOneEnd → (scenario : Scenario) (history : List Entry) (number : ℕ) (documents : List Document)
    {transcripts others : List Transcript}
    → EachDocument (IsTranscript by_rules scenario scenario.now history) number documents
    (ways scenario.servers documents) (ways scenario.servers documents) transcripts
    → EachDocument (IsTranscript by_rules scenario scenario.now history) number documents
    (ways scenario.servers documents) (ways scenario.servers documents) others → transcripts ≡ others
transcripts-once law scenario history number [] EachDocument.none EachDocument.none = refl
transcripts-once law scenario history number (document ∷ documents)
    (EachDocument.one_more {transcript = transcript} {transcripts = transcripts} is are)
    (EachDocument.one_more {transcript = other} same more) =
    ap (λ (t : Transcript). t ∷ transcripts)
    (transcript-once law by_rules scenario scenario.now history number document (way scenario.servers)
    (way scenario.servers) transcript other (way-told scenario.servers) is same)
    ∙ ap (λ (l : List Transcript). other ∷ l)
    (transcripts-once law scenario history (number + 1) documents are more)

pub plays-once : HasOneEnd → PlaysOnce
plays-once law scenario transcripts others history play again =
    transcripts-once law scenario history 0 scenario.documents play.runs again.runs
