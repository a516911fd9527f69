-- Documents that come to their transcripts, one after another.
use Rattle.std.proofs.Common.{◌≢◌, ◌<◌, ◌+◌, ℕ, List, [], ◌∷◌, ◌++◌, arith, below_more}
use Rattle.std.proofs.lemmas.List.Elements.{All-nil, All-push}
use Rattle.audit_verdict.specs.Private.Runs.{CameTo}
use Rattle.audit_verdict.specs.Verdicts.{Comes}
use Rattle.book_calls.specs.declared.entry.Entry.{Entry}
use Rattle.play_seats.proofs.ServedLemmas.{CameBefore}
use Rattle.play_seats.proofs.ServedLemmas.{one-more-came as further}
use Rattle.script_events.specs.Endings.{HasText}
use Rattle.script_events.specs.declared.events.Ending.TheVariants.{Memory}
use Rattle.script_events.specs.declared.events.Transcript.{Transcript}
use Rattle.script_runs.specs.Documents.{EachDocument}
use Rattle.script_scenarios.specs.declared.scenario.Scenario.{Scenario}

-- the documents before this number came to these transcripts, which have a text
pub record CameSoFar (scenario : Scenario) (history : List Entry) (count : ℕ) (transcripts : List Transcript)
    : Type 0 where
  pub runs : CameBefore scenario history count transcripts
  pub told : HasText transcripts
  pub before : (earlier : ℕ) → earlier < count → Comes scenario history earlier

pub none-yet : (scenario : Scenario) (history : List Entry) → CameSoFar scenario history 0 []
none-yet scenario history = record {
  runs = EachDocument.none;
  told = All-nil (λ (t : Transcript). t.ending ≢ Memory);
  before = λ earlier below. absurd (omega (arith, below));
}

pub one-more-came : (scenario : Scenario) (history : List Entry) (count : ℕ) (transcripts : List Transcript)
    (transcript : Transcript) → CameSoFar scenario history count transcripts
    → CameTo scenario history count transcript
    → CameSoFar scenario history (count + 1) (transcripts ++ transcript ∷ [])
one-more-came scenario history count transcripts transcript so_far came =
    record {
      runs = further scenario history count transcripts came.document transcript came.document_is so_far.runs came.comes;
      told = All-push (λ (t : Transcript). t.ending ≢ Memory) transcripts transcript so_far.told came.told;
      before = below_more _ _ so_far.before (record {
        document = came.document;
        document_is = came.document_is;
        transcript = transcript;
        comes = came.comes;
      });
    }
