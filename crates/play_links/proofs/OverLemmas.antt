-- Plays over links, from what was played on seats whose links were taken back; and those that were refused.
use Rattle.std.proofs.Common.{ℕ, List, length, refl, inl, sym, ◌∙◌}
use Rattle.std.proofs.lemmas.List.{length-map}
use Rattle.book_calls.specs.declared.entry.Entry.{Entry}
use Rattle.script_events.specs.declared.events.Transcript.{Transcript}
use Rattle.script_scenarios.specs.declared.scenario.Scenario.{Scenario}
use Rattle.fetch_wire.specs.Exchanges.{Answering}
use Rattle.play_definitions.specs.declared.seating.Seating.{Seating}
use Rattle.book_turns.specs.declared.pass.TurnPass.{TurnPass}
use Rattle.play_definitions.specs.Plays.{IsPlayOver, Way}
use Rattle.play_seats.specs.Seated.{links_in}
use Rattle.play_links.specs.Links.{IsPlayOverLinks, WasRefused}
use Rattle.play_seats.specs.Makers.{CameBack, Maker, TookAllBack, WereMade}
use Rattle.play_links.specs.Unseated.{AreUnseated}
use Rattle.play_links.specs.Refused.{NoneOrAllPlayed}
use Rattle.play_faults.specs.Laws.{FaultsCounted, FaultsPlaced, RanShown}
use Rattle.play_links.proofs.FaultLemmas.{counted-faults, told-faults}
use Rattle.play_seats.proofs.LinkLemmas.{took-all}
use Rattle.link_traits.specs.Links.{LinkTold}

module _ {L State : Type 0} (by : Answering State) (told : L → LinkTold State) (scenario : Scenario)
    (base : ℕ) where
  -- the links that were made came back as they were
  pub opening-refused : {old new : Maker L} → CameBack told old new scenario → WasRefused by told old new scenario base
  opening-refused x = record {
    made = x.made;
    back = x.made;
    opened = x.opened;
    few = x.few;
    took = x.took;
    left = inl refl;
  }

  -- the links of the seats came back
  took-unseated : (old mid new : Maker L) (seats : List (Seating L TurnPass))
      {AreSo : List (Way State) → List (Way State) → Type 0} → WereMade old mid scenario (links_in seats)
      → (x : AreUnseated told mid.lent new.lent mid.faults new.faults seats AreSo) → TookAllBack told old new x.back
  took-unseated old mid new seats made x = took-all told old mid new x.back (length (links_in seats)) made.out
      made.faults (x.many ∙ sym (length-map seats (λ (s : Seating L TurnPass). s.link))) x.taken x.counted

  -- or as the documents' runs have left them
  pub played-refused : (old mid new : Maker L) (seats : List (Seating L TurnPass))
      → WereMade old mid scenario (links_in seats)
      → AreUnseated told mid.lent new.lent mid.faults new.faults seats (NoneOrAllPlayed by scenario base)
      → WasRefused by told old new scenario base
  played-refused old mid new seats made unseated = record {
    made = links_in seats;
    back = unseated.back;
    opened = made.opened;
    few = made.few;
    took = took-unseated old mid new seats made unseated;
    left = unseated.are_so;
  }

  -- a play on the seats is one over their links, where the laws of faults hold
  pub played-over : FaultsPlaced → FaultsCounted State → RanShown State → (old mid new : Maker L)
      (seats : List (Seating L TurnPass)) (transcripts : List Transcript) (history : List Entry)
      → WereMade old mid scenario (links_in seats)
      → AreUnseated told mid.lent new.lent mid.faults new.faults seats
      (λ olds news. IsPlayOver by scenario base olds news transcripts history)
      → IsPlayOverLinks by told old new scenario base transcripts history
  played-over placed counted shown old mid new seats transcripts history made unseated =
      let took = took-unseated old mid new seats made unseated in
      record {
        made = links_in seats;
        back = unseated.back;
        opened = made.opened;
        took = took;
        play = unseated.are_so;
        tells = told-faults by scenario base history placed counted shown unseated.are_so.runs;
        counted = counted-faults by told scenario base history placed counted shown old new (links_in seats)
            unseated.back transcripts took unseated.are_so.runs;
      }
