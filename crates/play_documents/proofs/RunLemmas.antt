-- Whole runs.
use Rattle.policy_csp_text.specs.declared.policy.Policy.{Policy}
use Rattle.script_runs.specs.Traces.{stop}
use Rattle.value_requests.specs.declared.client.Cookie.{Cookie}
use Rattle.value_requests.specs.declared.client.Client.{Client}
use Rattle.play_definitions.specs.Playing.{RunCameTo, RunCut, RunPlayed}
use Rattle.play_documents.specs.Private.Parts.{ended_by}
use Rattle.play_documents.proofs.Words.{[], ℕ, ◌++◌, ◌∙◌, ◌≡◌, ◌≢◌, Answering, Document, Ending, Err, Event, IsAtEnd}
use Rattle.play_documents.proofs.Words.{IsIdle}
use Rattle.play_documents.proofs.Words.{List, Memory, None, Ok, Option, OutOfMemory, Outside, PartCut, PartReached}
use Rattle.play_documents.proofs.Words.{Play}
use Rattle.play_documents.proofs.Words.{PlayRun, Result, Rule, RuleCameTo, Settles, Some, Standing, Steps, WorldAnswers}
use Rattle.play_documents.proofs.Words.{ap}
use Rattle.play_documents.proofs.Words.{append-nil, append_assoc, arith, beginning, document_client, document_run}
use Rattle.play_documents.proofs.Words.{finished}
use Rattle.play_documents.proofs.Words.{outside_of, over, play-run, refl, script_run, setting, sym}
use Rattle.play_definitions.proofs.WorldLemmas.{refuses-none, still}
use Rattle.play_documents.proofs.PartLemmas.{cut-here, played-cut}

-- ---- a script as the whole run

module _ {State : Type 0} (by : Answering State) {whole : Play} (old now : Standing State) {from to : Outside State}
    (idle : IsIdle old.world.exchange) (begins : outside_of old.world ≡ from) (ends : outside_of now.world ≡ to)
    (none : old.progress.shown ≡ []) where
  -- it came to an ending
  ran : {N : Type 0} {part rest : N → Play} (n : N) {ending : Ending} {clock : ℕ} → part n ≡ whole
      → rest n ≡ over ending clock → PartReached by part old rest now
      → RunPlayed by old.terms.limit old.terms.document whole from now.progress.shown ending clock to
  ran n {ending = ending} {clock = clock} is stops x =
      let shows : x.made ≡ now.progress.shown = sym (x.added ∙ ap (λ (l : List Event). l ++ x.made) none) in
      let trace = rw (is, stops, shows) at (x.trace n) in
      record {
        first = old.world;
        idle = idle;
        from = begins;
        tape = x.tape;
        last = now.world;
        trace = trace;
        to = ends;
        runs = simp append-nil at
            (play-run (WorldAnswers by old.terms.limit old.terms.document) Settles trace []);
      }

  -- it was cut off
  cut : {N : Type 0} {part : N → Play} (n : N) → part n ≡ whole → PartCut by part old now
      → RunCut by old.terms.limit old.terms.document whole from now.progress.shown to
  cut n is x =
      let shows : x.lost.noted ≡ now.progress.shown =
      sym (x.lost.added ∙ ap (λ (l : List Event). l ++ x.lost.noted) none) in
      let trace = rw (is, x.lost.parts, shows) at (x.played.trace n) in
      record {
        first = old.world;
        idle = idle;
        from = begins;
        tape = x.played.tape;
        missed = x.lost.missed;
        few = x.lost.few;
        place = x.place n;
        last = x.last.world;
        trace = trace;
        left = rw (← ends) x.lost.refused;
        runs = simp (append-nil, append_assoc) at (ap (λ (r : PlayRun). r.events)
            (play-run (WorldAnswers by old.terms.limit old.terms.document) Settles trace []));
      }

  -- what the script came to, the run did
  pub run-came : (script : Steps) (result : Result (Option Ending) OutOfMemory)
      → script_run old.terms.setting script finished old.progress ≡ whole
      → RuleCameTo by (λ lent. script_run lent script) old result now
      → RunCameTo by old.terms.limit old.terms.document whole from now.progress.shown (ended_by result)
      now.progress.clock to
  unfolding ran cut
  run-came script (Ok None) is x = ran finished is refl x.played
  run-came script (Ok (Some Memory)) is x = cut finished is (played-cut x.played cut-here)
  run-came script (Ok (Some ending)) is x = ran finished is refl x.played
  run-came script (Err refused) is x = cut finished is x

-- nothing is to come where memory was not refused
pub run-rests : {State : Type 0} (by : Answering State) (rule : Rule) (old now : Standing State)
    (result : Result (Option Ending) OutOfMemory) → RuleCameTo by rule old result now → ended_by result ≢ Memory
    → IsAtEnd now.world.exchange.left
run-rests by rule old now (Ok ending) x told = x.rests
run-rests by rule old now (Err refused) x told = absurd (told refl)

-- a script in the setting of its document is the document's run
pub run-of : (document : Document) (client : Client) (policies : List Policy) (cookies : List Cookie) (base : ℕ)
    → client ≡ document_client document → policies ≡ document.policies
    → script_run (setting client policies cookies) document.script finished (beginning base)
    ≡ document_run cookies base document
run-of document client policies cookies base is all = rw (is, all) refl

-- memory was refused before it began
pub run-unbegun : {State : Type 0} (by : Answering State) (limit document : ℕ) (whole : Play) (old new : Outside State)
    → new ≡ old → RunCut by limit document whole old [] new
run-unbegun by limit document whole old new kept = rw kept (record {
  first = still old;
  idle = record { end = refl; framing_is = refl };
  from = refl;
  tape = [];
  missed = [];
  few = omega arith;
  place = whole;
  last = still old;
  trace = stop;
  left = refuses-none old;
  runs = refl;
})
