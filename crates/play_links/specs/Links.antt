-- A play over the links that are made for its documents, in their order, and that are taken back in the same order.
use Rattle.std.specs.Prelude.{ℕ, ◌≤◌, List, length, map}
use Rattle.book_calls.specs.declared.entry.Entry.{Entry}
use Rattle.link_traits.specs.Counts.{grown_by}
use Rattle.link_traits.specs.Links.{LinkTold}
use Rattle.script_events.specs.declared.events.Transcript.{Transcript}
use Rattle.script_scenarios.specs.declared.scenario.Scenario.{Scenario}
use Rattle.fetch_wire.specs.Exchanges.{Answering}
use Rattle.play_definitions.specs.Plays.{IsPlayOver}
use Rattle.play_seats.specs.Links.{AreOpened, for_documents, way_of}
use Rattle.play_seats.specs.Makers.{Maker, TookAllBack}
use Rattle.play_links.specs.Faults.{AllAreTold, all_faults}
use Rattle.play_links.specs.Refused.{NoneOrAllPlayed}

-- A play over links as they were made for the documents, one for each, and as they were taken back. Each document's
-- outcomes show the faults of its tape, and its link's count rose by just as many. The count of what made the links
-- rose by as many as all tapes have, at least.
pub record IsPlayOverLinks {L State : Type 0} (by : Answering State) (told : L → LinkTold State) (old new : Maker L)
    (scenario : Scenario) (base : ℕ) (transcripts : List Transcript) (history : List Entry) : Type 0 where
  pub made : List L
  pub back : List L
  pub opened : AreOpened (for_documents old.opening scenario.routes) made
  pub took : TookAllBack told old new back
  pub play : IsPlayOver by scenario base (map (way_of told) made) (map (way_of told) back) transcripts history
  pub tells : AllAreTold play.runs
  pub counted : grown_by old.faults (all_faults play.runs) ≤ new.faults

-- A play that was refused, over links as they were made for documents, at most one for each, and as they were taken
-- back, in the same order: each link came back as it was made; or each document was played, over one legal history.
pub record WasRefused {L State : Type 0} (by : Answering State) (told : L → LinkTold State) (old new : Maker L)
    (scenario : Scenario) (base : ℕ) : Type 0 where
  pub made : List L
  pub back : List L
  pub opened : AreOpened (for_documents old.opening scenario.routes) made
  pub few : length made ≤ length scenario.documents
  pub took : TookAllBack told old new back
  pub left : NoneOrAllPlayed by scenario base (map (way_of told) made) (map (way_of told) back)
