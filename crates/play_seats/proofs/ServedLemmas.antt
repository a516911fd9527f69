-- What a document's run over a link to its scenario's servers comes to, and the documents of such runs.
use Rattle.std.proofs.Common.{◌≡◌, ◌≢◌, ℕ, ◌+◌, ◌<◌, List, [], ◌∷◌, ◌++◌, length, map, take, ap, sym, subst, ◌∙◌}
use Rattle.std.proofs.Common.{arith, add-one, length-take, refl, suc, zero, Option, Some, None}
use Rattle.std.proofs.Math.Seq.{take-suc}
use Rattle.std.proofs.lemmas.List.{map_push}
use Rattle.std.proofs.lemmas.Option.{get_or_from_slice_get, slice_get_within}
use Rattle.std.specs.List.{slice_get}
use Rattle.book_calls.specs.declared.entry.Entry.{Entry}
use Rattle.book_calls.specs.Entries.{entries_of}
use Rattle.play_definitions.specs.Playing.{RunCameTo, RunPlayed}
use Rattle.play_definitions.specs.Plays.{IsTranscript, Way, by_rules, outside_on, way_to_servers}
use Rattle.play_seats.specs.Sim.{SimState}
use Rattle.play_seats.proofs.ClosedLemmas.{ran-of}
use Rattle.play_seats.proofs.ServerLemmas.{by_bytes, ran-by-rules, ran-state}
use Rattle.script_events.specs.declared.events.Ending.TheVariants as ending
use Rattle.script_events.specs.declared.events.Transcript.{Transcript}
use Rattle.script_runs.proofs.DocumentLemmas.{each-more}
use Rattle.script_runs.specs.Documents.{EachDocument}
use Rattle.script_runs.specs.Runs.{document_client, document_run}
use Rattle.script_scenarios.specs.declared.document.Document.{Document}
use Rattle.script_scenarios.specs.declared.scenario.Scenario.{Scenario}
use Rattle.script_scenarios.specs.declared.servers.Server.{Server}

-- a link to the servers with nothing to come
abbrev pub fresh_link : Scenario → SimState
fresh_link scenario = record { servers = scenario.servers; piece = scenario.piece; left = [] }

-- what is told of a link to these servers
abbrev pub way_of_servers : List Server → Way (List Server)
way_of_servers servers = record { state = Some servers; received = None; faults = 0 }

-- with its entries of a history for its own, the document comes to its transcript over that history
pub served-run : (scenario : Scenario) (number : ℕ) (history : List Entry) (document : Document) (left left' : ℕ)
    (link : SimState) (transcript : Transcript) → transcript.document ≡ number
    → transcript.key ≡ (document_client document).key → transcript.ending ≢ ending.Memory
    → RunCameTo by_bytes scenario.body_limit number (document_run scenario.cookies scenario.now document)
    (outside_on (way_to_servers scenario) [] left) transcript.events transcript.ending transcript.clock
    (outside_on (way_of_servers link.servers) (entries_of number history) left')
    → IsTranscript by_rules scenario scenario.now history number document (way_to_servers scenario)
    (way_to_servers scenario) transcript
served-run scenario number history document left left' link transcript numbered keyed told came =
    let whole = document_run scenario.cookies scenario.now document in
    let old = outside_on (way_to_servers scenario) [] left in
    let new = outside_on (way_of_servers link.servers) (entries_of number history) left' in
    let ran = ran-of by_bytes scenario.body_limit number whole old transcript.events transcript.ending transcript.clock
    new told came in
    let servers : Some link.servers ≡ Some scenario.servers =
    ran-state scenario.body_limit number whole old transcript.events transcript.ending transcript.clock new ran in
    record {
      document_is = numbered;
      key_is = keyed;
      run_is = record {
        before = left;
        behind = left';
        ran = ran-by-rules scenario.body_limit number whole old transcript.events transcript.ending transcript.clock
            (outside_on (way_to_servers scenario) (entries_of number history) left')
            (subst (λ (s : Option (List Server)). RunPlayed by_bytes scenario.body_limit number whole old
            transcript.events transcript.ending transcript.clock
            (outside_on (record { state = s; received = None; faults = 0 }) (entries_of number history) left'))
            servers ran);
      };
    }

-- a document of this number
pub document-at : (documents : List Document) (number : ℕ) → number < length documents
    → (document : Document) × (slice_get documents number ≡ Some document)
document-at [] number below = absurd (omega (arith, below))
document-at (document ∷ documents) zero below = (document, refl)
document-at (document ∷ documents) (suc number) below = document-at documents number (omega (arith, below))

-- the ways of these documents to the servers
abbrev pub ways_of : Scenario → List Document → List (Way (List Server))
ways_of scenario documents = map (λ document. way_to_servers scenario) documents

-- the documents before this number came to these transcripts over the history
abbrev pub CameBefore : Scenario → List Entry → ℕ → List Transcript → Type 0
CameBefore scenario history number transcripts =
    let documents = take number scenario.documents in
    EachDocument (IsTranscript by_rules scenario scenario.now history) 0 documents (ways_of scenario documents)
    (ways_of scenario documents) transcripts

-- and the next one to this
pub one-more-came : (scenario : Scenario) (history : List Entry) (number : ℕ) (transcripts : List Transcript)
    (document : Document) (transcript : Transcript) → slice_get scenario.documents number ≡ Some document
    → CameBefore scenario history number transcripts
    → IsTranscript by_rules scenario scenario.now history number document (way_to_servers scenario)
    (way_to_servers scenario) transcript
    → CameBefore scenario history (number + 1) (transcripts ++ transcript ∷ [])
one-more-came scenario history number transcripts document transcript at came comes =
    let documents = scenario.documents in
    let Is = IsTranscript by_rules scenario scenario.now history in
    let way : Document → Way (List Server) = λ d. way_to_servers scenario in
    let within : number < length documents = slice_get_within documents number document at in
    let one : take (number + 1) documents ≡ take number documents ++ document ∷ [] =
    ap (λ (m : ℕ). take m documents) (add-one number) ∙ take-suc documents number document within
    ∙ ap (λ (d : Document). take number documents ++ d ∷ [])
    (get_or_from_slice_get documents number document document at) in
    let ways : map way (take number documents ++ document ∷ [])
    ≡ map way (take number documents) ++ way_to_servers scenario ∷ [] =
    map_push way (take number documents) document in
    let size : 0 + length (take number documents) ≡ number = omega (arith, within, length-take number documents) in
    subst (λ (l : List Document). EachDocument Is 0 l (map way l) (map way l) (transcripts ++ transcript ∷ []))
    (sym one)
    (subst (λ (w : List (Way (List Server))). EachDocument Is 0 (take number documents ++ document ∷ []) w w
    (transcripts ++ transcript ∷ [])) (sym ways)
    (each-more came (subst (λ (n : ℕ). IsTranscript by_rules scenario scenario.now history n document
    (way_to_servers scenario) (way_to_servers scenario) transcript) (sym size) comes)))
