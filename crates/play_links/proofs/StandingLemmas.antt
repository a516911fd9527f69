-- Plays over links to scripted servers as plays over the servers by their rules.
use Rattle.std.proofs.Common.{◌≡◌, ℕ, zero, suc, ◌<◌, List, [], ◌∷◌, length, map, get_or, refl, ap, subst, ◌∙◌, arith}
use Rattle.std.proofs.Common.{Option, Some, None}
use Rattle.std.specs.Prelude.{slice_get}
use Rattle.std.specs.List.{All}
use Rattle.std.proofs.lemmas.List.Elements.{All-head, All-tail, All-map}
use Rattle.book_calls.specs.declared.entry.Entry.{Entry}
use Rattle.book_calls.specs.Entries.{entries_of}
use Rattle.script_events.specs.declared.events.Ending.{Ending}
use Rattle.script_events.specs.declared.events.Event.{Event}
use Rattle.script_events.specs.declared.events.Transcript.{Transcript}
use Rattle.script_runs.specs.Documents.{EachDocument}
use Rattle.script_runs.specs.Play.{Play}
use Rattle.script_runs.specs.Runs.{document_run}
use Rattle.script_scenarios.specs.declared.document.Document.{Document}
use Rattle.script_scenarios.specs.declared.scenario.Scenario.{Scenario}
use Rattle.script_scenarios.specs.declared.servers.Server.{Server}
use Rattle.play_seats.specs.Sim.{SimState}
use Rattle.play_definitions.specs.Playing.{RunPlayed}
use Rattle.link_traits.specs.Links.{IsForetold}
use Rattle.link_traits.specs.declared.routes.Route.{Route}
use Rattle.play_seats.specs.Links.{way_of}
use Rattle.play_seats.proofs.ServerLemmas.{by_bytes, ran-by-rules, ran-state, sim_told}
use Rattle.play_seats.specs.Makers.{Maker}
use Rattle.play_links.specs.Links.{IsPlayOverLinks}
use Rattle.play_definitions.specs.Plays.{IsPlay, IsTranscript, RunsOver, Way, by_rules, outside_on, way_to_servers}

-- nor does it tell what was received, and it never fails
abbrev pub IsQuiet : Way (List Server) → Type 0
IsQuiet way = (way.received ≡ None) × (way.faults ≡ 0)

-- such a link tells the same at the end of a run
way-behind : (limit document : ℕ) (old new : Way (List Server)) (entries : List Entry) (whole : Play)
    (events : List Event) (ending : Ending) (clock : ℕ) (servers : List Server) → old.state ≡ Some servers
    → IsQuiet new → RunsOver by_bytes limit document old new entries whole events ending clock
    → new ≡ record { state = Some servers; received = None; faults = 0 }
way-behind limit document old new entries whole events ending clock servers is quiet run =
    way-is new (record { state = Some servers; received = None; faults = 0 })
    (ran-state limit document whole (outside_on old [] run.before) events ending clock
    (outside_on new entries run.behind) run.ran ∙ is) quiet.0 quiet.1
  where
    way-is : (a b : Way (List Server)) → a.state ≡ b.state → a.received ≡ b.received → a.faults ≡ b.faults → a ≡ b
    way-is a b s r f = rw (s, r, f) refl

transcripts-by-rules : (scenario : Scenario) (base : ℕ) (history : List Entry) {number : ℕ}
    {documents : List Document} {olds news : List (Way (List Server))} {transcripts : List Transcript}
    → EachDocument (IsTranscript by_bytes scenario base history) number documents olds news transcripts
    → All (λ (w : Way (List Server)). w ≡ way_to_servers scenario) olds
    → All IsQuiet news
    → EachDocument (IsTranscript by_rules scenario base history) number documents
    (map (λ (d : Document). way_to_servers scenario) documents) (map (λ (d : Document). way_to_servers scenario)
    documents)
    transcripts
transcripts-by-rules scenario base history EachDocument.none opened quiet = EachDocument.none
transcripts-by-rules scenario base history {number} (EachDocument.one_more {document = document} {old = old}
    {new = new} {transcript = transcript} {olds = olds} {news = news} is more) opened quiet =
    let Opened : Way (List Server) → Type 0 = λ w. w ≡ way_to_servers scenario in
    let whole = document_run scenario.cookies base document in
    let first = All-head Opened old olds opened in
    let last = way-behind scenario.body_limit number old new (entries_of number history) whole transcript.events
    transcript.ending transcript.clock scenario.servers (ap (λ (w : Way (List Server)). w.state) first)
    (All-head IsQuiet new news quiet) is.run_is in
    EachDocument.one_more (record {
      document_is = is.document_is;
      key_is = is.key_is;
      run_is = record {
        before = is.run_is.before;
        behind = is.run_is.behind;
        ran = ran-by-rules scenario.body_limit number whole (outside_on (way_to_servers scenario) [] is.run_is.before)
            transcript.events transcript.ending transcript.clock
            (outside_on (way_to_servers scenario) (entries_of number history) is.run_is.behind)
            (subst (λ (w : Way (List Server)). RunPlayed by_bytes scenario.body_limit number whole
            (outside_on (way_to_servers scenario) [] is.run_is.before) transcript.events transcript.ending
            transcript.clock
            (outside_on w (entries_of number history) is.run_is.behind)) last
            (subst (λ (w : Way (List Server)). RunPlayed by_bytes scenario.body_limit number whole
            (outside_on w [] is.run_is.before) transcript.events transcript.ending transcript.clock
            (outside_on new (entries_of number history) is.run_is.behind)) first is.run_is.ran));
      };
    })
    (transcripts-by-rules scenario base history more (All-tail Opened old olds opened)
    (All-tail IsQuiet new news quiet))

-- a play over links to the scenario's servers is one over the servers
pub scripted-play : (scenario : Scenario) (transcripts : List Transcript) (history : List Entry) (link : SimState)
    (old new : Maker SimState) → link.servers ≡ scenario.servers
    → ((k number : ℕ) (by : List Route) → old.opening k number by ≡ Some link)
    → IsPlayOverLinks by_bytes sim_told old new scenario scenario.now transcripts history
    → IsPlay scenario transcripts history
scripted-play scenario transcripts history link old new servers opens x =
    let way : SimState → Way (List Server) = way_of sim_told in
    record {
      legal = x.play.legal;
      turns = x.play.turns;
      named = x.play.named;
      runs = transcripts-by-rules scenario scenario.now history x.play.runs
          (All-map (λ (w : Way (List Server)). w ≡ way_to_servers scenario) way x.made
          (λ k d lt. let told : get_or x.made k d ≡ link =
          subst (λ (o : Option SimState). IsForetold o (get_or x.made k d)) (opens k k scenario.routes)
          (x.opened k (get_or x.made k d) (read x.made k d lt)) in
          ap way told ∙ ap (λ (s : List Server). record { state = Some s; received = None; faults = 0 }) servers))
          (All-map IsQuiet way x.back (λ k d lt. (refl, refl)));
    }
  where
    read : (links : List SimState) (k : ℕ) (d : SimState) → k < length links
        → slice_get links k ≡ Some (get_or links k d)
    read [] k d lt = absurd (omega arith)
    read (l ∷ ls) zero d lt = refl
    read (l ∷ ls) (suc k) d lt = read ls k d (omega arith)
