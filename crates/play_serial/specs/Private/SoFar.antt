-- The documents of a scenario that were played so far.
use Rattle.std.specs.Prelude.{◌≡◌, ℕ, ◌<◌, List, map, take}
use Rattle.std.specs.List.{AllByRecursion}
use Rattle.book_calls.specs.Entries.{AreInOrderFrom, HasTurnsFrom, Legal, book_after}
use Rattle.book_calls.specs.declared.entry.Entry.{Entry}
use Rattle.play_definitions.specs.Plays.{IsTranscript, Way, by_rules, opening_book, way_to_servers}
use Rattle.play_serial.specs.declared.in_turn.SoFar.{SoFar}
use Rattle.script_events.specs.Endings.{HasText}
use Rattle.script_runs.specs.Documents.{EachDocument}
use Rattle.script_scenarios.specs.declared.document.Document.{Document}
use Rattle.script_scenarios.specs.declared.scenario.Scenario.{Scenario}
use Rattle.script_scenarios.specs.declared.servers.Server.{Server}

-- the ways of these documents to the servers
abbrev pub ways_of : Scenario → List Document → List (Way (List Server))
ways_of scenario documents = map (λ document. way_to_servers scenario) documents

-- The documents before this number came to these transcripts, which have a text, over the history so far: it is legal
-- from the book that the scenario opens with, which it leaves as this one; its entry i has turn i; and its entries name
-- those documents, in order.
pub record CameSoFar (scenario : Scenario) (number : ℕ) (so_far : SoFar) : Type 0 where
  pub book_is : so_far.book ≡ book_after (opening_book scenario) so_far.history
  pub legal : Legal (opening_book scenario) so_far.history
  pub turns : HasTurnsFrom 0 so_far.history
  pub named : AllByRecursion (λ (entry : Entry). entry.document < number) so_far.history
  pub in_order : AreInOrderFrom 0 so_far.history
  pub runs : let documents = take number scenario.documents in
      EachDocument (IsTranscript by_rules scenario scenario.now so_far.history) 0 documents
      (ways_of scenario documents) (ways_of scenario documents) so_far.transcripts
  pub told : HasText so_far.transcripts
