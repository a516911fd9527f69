-- The faults of the links of a play are shown and counted, by the laws of play_faults.
use Rattle.std.proofs.Common.{◌≡◌, ℕ, ◌+◌, ◌≤◌, List, [], map, arith, ap, sym, ◌∙◌}
use Rattle.std.proofs.lemmas.Simd.{map-map}
use Rattle.book_calls.specs.declared.entry.Entry.{Entry}
use Rattle.link_traits.specs.Counts.{counted_on, grown_by}
use Rattle.script_events.specs.declared.events.Transcript.{Transcript}
use Rattle.script_runs.specs.Documents.{EachDocument}
use Rattle.script_runs.specs.Runs.{document_run}
use Rattle.script_scenarios.specs.declared.document.Document.{Document}
use Rattle.script_scenarios.specs.declared.scenario.Scenario.{Scenario}
use Rattle.fetch_wire.specs.Exchanges.{Answering}
use Rattle.play_faults.specs.Laws.{FaultsCounted, FaultsPlaced, RanShown}
use Rattle.play_faults.specs.Numbers.{faults_of}
use Rattle.play_definitions.specs.Plays.{IsTranscript, Way, outside_on}
use Rattle.book_calls.specs.Entries.{entries_of}
use Rattle.play_links.specs.Faults.{AllAreTold, all_faults}
use Rattle.play_seats.specs.Links.{grown_by_all, way_of}
use Rattle.play_seats.specs.Makers.{Maker, TookAllBack}
use Rattle.link_traits.specs.Links.{LinkTold}

-- so many more of so many more
grown-sum : (start old new faults rest : ℕ) → new ≡ counted_on old faults
    → grown_by start (faults + rest) ≤ grown_by (grown_by start new) rest
grown-sum start old new faults rest counted = omega (arith, counted)

module _ {State : Type 0} (by : Answering State) (scenario : Scenario) (base : ℕ) (history : List Entry)
    (placed : FaultsPlaced) (counted : FaultsCounted State) (shown : RanShown State) where
  -- the faults in each run are told
  pub told-faults : {number : ℕ} {documents : List Document} {olds news : List (Way State)}
      {transcripts : List Transcript}
      (runs : EachDocument (IsTranscript by scenario base history) number documents olds news transcripts)
      → AllAreTold runs
  told-faults EachDocument.none = tt
  told-faults {number} (EachDocument.one_more {document = document} {old = old} {new = new} {transcript = t} is more) =
      let whole = document_run scenario.cookies base document in
      let before = outside_on old [] is.run_is.before in
      let behind = outside_on new (entries_of number history) is.run_is.behind in (
        record {
          placed = placed scenario.cookies base document;
          shown = shown by scenario.body_limit number scenario.cookies base document before t.events t.ending t.clock
              behind
              is.run_is.ran;
          counted = counted by scenario.body_limit number whole before t.events t.ending t.clock behind is.run_is.ran;
        },
        told-faults more,
      )

  -- and all of them are counted
  counted-from : (start : ℕ) {number : ℕ} {documents : List Document} {olds news : List (Way State)}
      {transcripts : List Transcript}
      (runs : EachDocument (IsTranscript by scenario base history) number documents olds news transcripts)
      → AllAreTold runs → grown_by start (all_faults runs) ≤ grown_by_all start (map (λ (w : Way State). w.faults) news)
  counted-from start EachDocument.none told = omega arith
  counted-from start (EachDocument.one_more {document = document} {old = old} {new = new} is more) told =
      let rest = counted-from (grown_by start new.faults) more told.1 in
      let here = faults_of (document_run scenario.cookies base document) is.run_is.ran.tape in
      omega (arith, rest, grown-sum start old.faults new.faults here (all_faults more) told.0.counted)

-- what made the links has counted them
pub counted-faults : {L State : Type 0} (by : Answering State) (told : L → LinkTold State)
    (scenario : Scenario) (base : ℕ) (history : List Entry) (placed : FaultsPlaced) (counted : FaultsCounted State)
    (shown : RanShown State) (old new : Maker L) (made back : List L) (transcripts : List Transcript) → TookAllBack told
    old new back
    → (runs : EachDocument (IsTranscript by scenario base history) 0 scenario.documents
    (map (way_of told) made) (map (way_of told) back) transcripts)
    → grown_by old.faults (all_faults runs) ≤ new.faults
counted-faults {L} {State} by told scenario base history placed counted shown old new made back transcripts took
    runs =
    let all = counted-from by scenario base history placed counted shown old.faults runs
    (told-faults by scenario base history placed counted shown runs) in
    let same : grown_by_all old.faults (map (λ (w : Way State). w.faults) (map (way_of told) back)) ≡ new.faults =
    ap (grown_by_all old.faults) (map-map (λ (w : Way State). w.faults) (way_of told) back) ∙ sym took.counted in
    omega (arith, all, same)
