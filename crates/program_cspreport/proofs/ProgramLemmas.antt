-- What the program's account of its answer says of each status.
use Rattle.std.proofs.Common.{◌≡◌, ◌≢◌, ℕ, ◌⊎◌, Bool, true, false, inl, inr, List, length}
use Rattle.std.proofs.Common.{Result, Ok, Err, refl, ap, sym, subst, ◌∙◌}
use Rattle.std.specs.Prelude.{suc}
use Rattle.book_calls.specs.declared.entry.Entry.{Entry}
use Rattle.link_traits.specs.Sinks.{FailedOnce, SinkTold}
use Rattle.link_traits.specs.Sources.{SourceTold}
use Rattle.play_text.specs.declared.failure.Failure.{Failure}
use Rattle.play_text.specs.declared.failure.Failure.TheVariants as failure
use Rattle.play_text.specs.Writes.{Writes}
use Rattle.program_shell.proofs.ProgramLemmas.{answer-by, answer-or, answer-told, answer-verdict, answer-write}
use Rattle.program_shell.proofs.ProgramLemmas.{played-usage, played-write, text-answers, written-played}
use Rattle.program_shell.specs.Complaints.{IsAnswer}
use Rattle.program_shell.specs.Inputs.{IsRead, Reads, Refuses}
use Rattle.program_shell.specs.Program.{IsPlayed, IsWritten}
use Rattle.program_shell.specs.declared.status.Status.{Status}
use Rattle.program_shell.specs.declared.status.Status.TheVariants as status
use Rattle.report_delivery.specs.declared.delivery.Delivered.{Delivered}
use Rattle.report_play.specs.Plays.{EachReported, IsReportedPlay}
use Rattle.program_cspreport.specs.Program.{Answers, IsVerdict, most_input}
use Rattle.program_cspreport.specs.Scenarios.{reported_scenario}
use Rattle.program_cspreport.specs.Statuses.{complaint, written_status}
use Rattle.program_cspreport.specs.Text.{IsReportText, report_text}
use Rattle.program_cspreport.specs.Words.{are_accepted}
use Rattle.script_reading.specs.declared.place.Place.{Place}
use Rattle.script_events.specs.declared.events.Transcript.{Transcript}
use Rattle.script_scenarios.specs.declared.document.Document.{Document}
use Rattle.script_scenarios.specs.declared.scenario.Scenario.{Scenario}

-- ---- the text

-- as many transcripts as deliveries
many-each : {Is : ℕ → Document → Transcript → Delivered → Type 0} {number : ℕ} {documents : List Document}
    {transcripts : List Transcript} {delivereds : List Delivered}
    → EachReported Is number documents transcripts delivereds → length transcripts ≡ length delivereds
many-each EachReported.none = refl
many-each (EachReported.one_more is more) = ap suc (many-each more)

pub many-reported : (scenario : Scenario) (transcripts : List Transcript) (delivereds : List Delivered)
    (history : List Entry) → IsReportedPlay scenario transcripts delivereds history
    → length transcripts ≡ length delivereds
many-reported scenario transcripts delivereds history play = many-each play.documents

-- the verdict by what came of writing a text that may be written
text-written : (IsText : List ℕ → Type 0) (text : List ℕ) (output output' : SinkTold)
    (written : Result (Unit {0}) Failure) → IsText text → Writes output output' text written
    → IsWritten IsText output output' (written_status written)
text-written IsText text output output' (Ok _) is w =
    record { text = text; is_text = is; took = w.ok; quiet = (w.faults, w.zeros) }
text-written IsText text output output' (Err failure.OutOfMemory) is w =
    (record { text = text; is_text = is; took = w.err }, (w.faults, w.zeros))
text-written IsText text output output' (Err failure.Fault) is w =
    (record { text = text; is_text = is; took = w.err }, inl (w.faults, w.zeros))
text-written IsText text output output' (Err failure.TookNothing) is w =
    (record { text = text; is_text = is; took = w.err }, inr (w.faults, w.zeros))

-- the scenario was played, and the text of its reports written
pub reports-played : (input input' : SourceTold) (output output' : SinkTold) (scenario : Scenario)
    (transcripts : List Transcript) (delivereds : List Delivered) (history : List Entry)
    (written : Result (Unit {0}) Failure)
    → IsRead most_input (Reads reported_scenario) (Refuses reported_scenario) input input' scenario
    → IsReportedPlay scenario transcripts delivereds history
    → Writes output output' (report_text transcripts delivereds history) written
    → IsPlayed most_input reported_scenario IsReportText input input' output output' (written_status written)
reports-played input input' output output' scenario transcripts delivereds history written read play writes =
    written-played most_input reported_scenario IsReportText input input' output output' scenario
    (written_status written) read
    (text-written (IsReportText scenario) (report_text transcripts delivereds history) output output' written
    (record {
      transcripts = transcripts;
      delivereds = delivereds;
      history = history;
      play = play;
      text_is = refl;
    })
    writes)

-- ---- the whole

module _ (input input' : SourceTold) (output output' : SinkTold) where
  abbrev Verdict : Bool → Status Place → Type 0
  Verdict accepted verdict = IsVerdict accepted input input' output output' verdict

  not_accepted-of : (accepted : Bool) → Verdict accepted status.Usage → accepted ≡ false
  not_accepted-of false v = refl
  not_accepted-of true v =
      absurd (played-usage most_input reported_scenario IsReportText input input' output output' v)

  write-of : (accepted : Bool) → Verdict accepted status.WriteFault → FailedOnce output output'
  write-of false v = cc (v.0)
  write-of true v = played-write most_input reported_scenario IsReportText input input' output output' v

  -- the account of an answer says what the program promises
  pub answers : (words : List (List ℕ)) (c c' : SinkTold) (answer : Status Place)
      → IsAnswer (Verdict (are_accepted words)) complaint c c' answer
      → Answers words input input' output output' c c' answer
  answers words c c' answer a = record {
    is_answer = a;
    usage = λ is. not_accepted-of (are_accepted words)
        (subst (Verdict (are_accepted words)) is (answer-verdict a (λ e. cc (is, e))));
    not_accepted = λ no_words. answer-or a (λ v. (v ≡ status.Usage) ⊎ ((v ≡ status.WriteFault) × FailedOnce c c'))
        (λ v is. inl (subst (λ (b : Bool). Verdict b v) no_words is).0) (λ failed. inr failed);
    play = λ accepted. text-answers most_input reported_scenario IsReportText input input' output output'
        (answer-by a (λ v is. subst (λ (b : Bool). Verdict b v) accepted is));
    write_fault = answer-write a (FailedOnce output output') (write-of (are_accepted words));
    complained = answer-told a;
  }
