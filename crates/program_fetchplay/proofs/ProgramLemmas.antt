-- What the program's account of its answer says of each status.
use Rattle.std.proofs.Common.{◌≡◌, ◌≢◌, ℕ, ◌⊎◌, inl, inr, List, Option, Some, None, Result, Ok, Err, refl, sym}
use Rattle.std.proofs.Common.{subst, ◌∙◌}
use Rattle.book_calls.specs.declared.entry.Entry.{Entry}
use Rattle.link_traits.specs.Links.{LinkTold}
use Rattle.link_traits.specs.Sinks.{FailedOnce, SinkTold}
use Rattle.link_traits.specs.Sources.{SourceTold}
use Rattle.fetch_wire.specs.Exchanges.{Answering}
use Rattle.play_seats.specs.Makers.{HasTakenBack}
use Rattle.play_seats.proofs.LinkLemmas.{none-taken}
use Rattle.play_text.specs.declared.failure.Failure.{Failure}
use Rattle.play_text.specs.declared.failure.Failure.TheVariants as failure
use Rattle.play_text.specs.Text.{play_text}
use Rattle.play_text.specs.Writes.{Writes}
use Rattle.program_shell.proofs.ProgramLemmas.{Ends, answer-by, answer-or, answer-told, answer-verdict, answer-write}
use Rattle.program_shell.proofs.ProgramLemmas.{done-usage, done-write, input-answers, is-reading, played-usage}
use Rattle.program_shell.proofs.ProgramLemmas.{played-write, text-answers, written-ends}
use Rattle.program_shell.specs.Complaints.{IsAnswer}
use Rattle.program_shell.specs.Inputs.{Reads, Refuses}
use Rattle.program_shell.specs.Program.{IsExcused, IsWritten}
use Rattle.program_shell.specs.declared.status.Status.{Status}
use Rattle.program_shell.specs.declared.status.Status.TheVariants as status
use Rattle.script_reading.specs.Scenarios.{scenario_of}
use Rattle.script_reading.specs.declared.place.Place.{Place}
use Rattle.script_events.specs.declared.events.Transcript.{Transcript}
use Rattle.script_scenarios.specs.declared.scenario.Scenario.{Scenario}
use Rattle.program_fetchplay.specs.Program.{Answers, AnswersCount, IsLinked, IsOver, IsPlayText, IsScripted, IsSummary}
use Rattle.program_fetchplay.specs.Program.{IsSummed}
use Rattle.program_fetchplay.specs.Program.{IsUntouched, IsVerdict, most_input}
use Rattle.program_fetchplay.specs.Statuses.{complaint, written_status}
use Rattle.program_fetchplay.specs.Streams.{Net}
use Rattle.program_fetchplay.specs.Words.{subcommand_of}
use Rattle.program_fetchplay.specs.declared.words.Subcommand.{Subcommand}
use Rattle.program_fetchplay.specs.declared.words.Subcommand.TheVariants.{Gen, Net as Over, Play}

-- ---- what was written

-- the verdict by what came of writing a text that may be written
pub text-written : (IsText : List ℕ → Type 0) (text : List ℕ) (output output' : SinkTold)
    (written : Result (Unit {0}) Failure) → IsText text → Writes output output' text written
    → IsWritten IsText output output' (written_status written)
text-written IsText text output output' (Ok _) is w =
    record { text = text; is_text = is; took = w.ok; quiet = (w.faults, w.zeros) }
text-written IsText text output output' (Err failure.OutOfMemory) is w =
    (record { text = text; is_text = is; took = w.err }, (w.faults, w.zeros))
text-written IsText text output output' (Err failure.Fault) is w =
    (record { text = text; is_text = is; took = w.err }, inl (w.faults, w.zeros))
text-written IsText text output output' (Err failure.TookNothing) is w =
    (record { text = text; is_text = is; took = w.err }, inr (w.faults, w.zeros))

-- so it is of the text of a play
pub play-written : (Plays : Scenario → List Transcript → List Entry → Type 0) (scenario : Scenario)
    (transcripts : List Transcript) (history : List Entry) (output output' : SinkTold)
    (written : Result (Unit {0}) Failure) → Plays scenario transcripts history
    → Writes output output' (play_text transcripts history) written
    → IsWritten (IsPlayText Plays scenario) output output' (written_status written)
play-written Plays scenario transcripts history output output' written play =
    text-written (IsPlayText Plays scenario) (play_text transcripts history) output output' written
    (record { transcripts = transcripts; history = history; play = play; text_is = refl })

-- ---- a generated scenario

summed-ends : (count : ℕ) (output output' : SinkTold) (v : Status Place) → IsSummed count output output' v
    → Ends (λ (one : Status Place). one ≡ status.Ok) output output' v
summed-ends count output output' v s = elim s [
  | inl refused ↦ subst (Ends (λ (one : Status Place). one ≡ status.Ok) output output') (sym refused.0) tt
  | inr w ↦ written-ends (IsSummary count) output output' v w
]

-- ---- links and clock

module _ {L State : Type 0} (by : Answering State) (told : L → LinkTold State) (net net' : Net L)
    (input input' : SourceTold) (output output' : SinkTold) where
  over-ends : (scenario : Scenario) (v : Status Place) → IsOver by told net net' output output' scenario v
      → Ends (λ (one : Status Place). one ≡ status.Ok) output output' v
  over-ends scenario v over = elim over [
    | inl refused ↦ subst (Ends (λ (one : Status Place). one ≡ status.Ok) output output') (sym refused.verdict_is) tt
    | inr w ↦ written-ends (IsPlayText (IsLinked by told net net') scenario) output output' v w
  ]

  -- each link that was made was taken back
  over-back : (scenario : Scenario) (v : Status Place) → IsOver by told net net' output output' scenario v
      → HasTakenBack told net.links net'.links
  over-back scenario v over = elim over [
    | inl r ↦ record { back = r.refused.back; took = r.refused.took }
    | inr w ↦ written v w
  ]
    where
      linked : (text : List ℕ) → IsPlayText (IsLinked by told net net') scenario text
          → HasTakenBack told net.links net'.links
      linked text is = record { back = is.play.over.back; took = is.play.over.took }

      written : (v : Status Place) → IsWritten (IsPlayText (IsLinked by told net net') scenario) output output' v
          → HasTakenBack told net.links net'.links
      written status.Ok w = linked w.text w.is_text
      written status.WriteFault w = linked w.0.text w.0.is_text
      written status.OutOfMemory w = linked w.0.text w.0.is_text
      written status.Usage w = absurd w
      written (status.Refused place) w = absurd w
      written status.ReadFault w = absurd w
      written status.InputTooLong w = absurd w
      written status.OwnFault w = absurd w

  untouched-back : IsUntouched by told net net' output output' → HasTakenBack told net.links net'.links
  untouched-back is =
      subst (λ (n : Net L). HasTakenBack told net.links n.links) (sym is.1) (none-taken told net.links)

  -- ---- the verdict

  abbrev Verdict : Option Subcommand → Status Place → Type 0
  Verdict asked verdict = IsVerdict by told net net' asked input input' output output' verdict

  usage-none : (asked : Option Subcommand) → Verdict asked status.Usage → asked ≡ None
  usage-none None v = refl
  usage-none (Some Play) v =
      absurd (played-usage most_input scenario_of (IsPlayText IsScripted) input input' output output' v.0)
  usage-none (Some Over) v = absurd (done-usage most_input (Reads scenario_of) (Refuses scenario_of)
      (IsUntouched by told net net' output output') (IsOver by told net net' output output') (is-reading scenario_of)
      (λ one. one ≡ status.Ok) input input' output output' over-ends v)
  usage-none (Some (Gen count)) v = absurd (summed-ends count output output' status.Usage v.0)

  write-failed : (asked : Option Subcommand) → Verdict asked status.WriteFault → FailedOnce output output'
  write-failed None v = cc (v.0)
  write-failed (Some Play) v =
      played-write most_input scenario_of (IsPlayText IsScripted) input input' output output' v.0
  write-failed (Some Over) v = done-write most_input (Reads scenario_of) (Refuses scenario_of)
      (IsUntouched by told net net' output output') (IsOver by told net net' output output') (is-reading scenario_of)
      (λ one. one ≡ status.Ok) input input' output output' over-ends v
  write-failed (Some (Gen count)) v = summed-ends count output output' status.WriteFault v.0

  kept-of : (asked : Option Subcommand) (v : Status Place) → Verdict asked v → asked ≢ Some Over → net' ≡ net
  kept-of None v is other = is.3
  kept-of (Some Play) v is other = is.1
  kept-of (Some Over) v is other = absurd (other refl)
  kept-of (Some (Gen count)) v is other = is.2

  back-of : (v : Status Place) → Verdict (Some Over) v → HasTakenBack told net.links net'.links
  back-of v is = elim is.cause [
    | inl x ↦ untouched-back x.1
    | inr x ↦ elim x [ inl refused ↦ untouched-back refused.2 | inr w ↦ over-back w.asked v w.works ]
  ]

  -- ---- the whole

  count-answers : {c c' : SinkTold} {answer : Status Place} (count : ℕ)
      → IsAnswer (Verdict (Some (Gen count))) complaint c c' answer
      → AnswersCount count input input' output output' c c' answer
  count-answers {c = c} {c' = c'} {answer = answer} count b = record {
    unread = b.is_verdict.1;
    cause = λ other. (answer-verdict b other).0;
    complete = answer-or b (λ v. (v ≡ status.Ok) ⊎ IsExcused output output' c c' v)
        (λ v is. ended v (summed-ends count output output' v is.0)) (λ x. inr (inr (x.0, inr x.1)));
  }
    where
      ended : (v : Status Place) → Ends (λ (one : Status Place). one ≡ status.Ok) output output' v
          → (v ≡ status.Ok) ⊎ IsExcused output output' c c' v
      ended status.Ok e = inl e
      ended (status.Refused reason) e = inl e
      ended status.OwnFault e = inl e
      ended status.WriteFault e = inr (inr (refl, inl e))
      ended status.OutOfMemory e = inr (inl refl)
      ended status.Usage e = absurd e
      ended status.ReadFault e = absurd e
      ended status.InputTooLong e = absurd e

  module _ (words : List (List ℕ)) (c c' : SinkTold) (answer : Status Place)
      (a : IsAnswer (Verdict (subcommand_of words)) complaint c c' answer) where
    -- the account by what the words are known to ask for
    asked-at : (asked : Option Subcommand) → subcommand_of words ≡ asked → IsAnswer (Verdict asked) complaint c c' answer
    asked-at asked is = answer-by a (λ v found. subst (λ (o : Option Subcommand). Verdict o v) is found)

    -- the account of an answer says what the program promises
    pub answers : Answers by told words input input' output output' c c' net net' answer
    answers = record {
      is_answer = a;
      usage = λ is. usage-none (subcommand_of words)
          (subst (Verdict (subcommand_of words)) is (answer-verdict a (λ e. cc (is, e))));
      not_accepted = λ none. answer-or (asked-at None none)
          (λ v. (v ≡ status.Usage) ⊎ ((v ≡ status.WriteFault) × FailedOnce c c')) (λ v is. inl is.0)
          (λ failed. inr failed);
      play = λ is. text-answers most_input scenario_of (IsPlayText IsScripted) input input' output output'
          (answer-by (asked-at (Some Play) is) (λ v found. found.0));
      net = λ is. input-answers most_input (Reads scenario_of) (Refuses scenario_of)
          (IsUntouched by told net net' output output') (IsOver by told net net' output output')
          (is-reading scenario_of) (λ one. one ≡ status.Ok) input input' output output' over-ends c c'
          (asked-at (Some Over) is);
      gen = λ count is. count-answers count (asked-at (Some (Gen count)) is);
      kept = kept-of (subcommand_of words) a.verdict a.is_verdict;
      back = λ is. back-of a.verdict (subst (λ (o : Option Subcommand). Verdict o a.verdict) is a.is_verdict);
      write_fault = answer-write a (FailedOnce output output') (write-failed (subcommand_of words));
      complained = answer-told a;
    }
