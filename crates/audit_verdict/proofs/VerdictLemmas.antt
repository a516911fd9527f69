-- The verdict by what each step of an audit comes to.
use Rattle.std.proofs.Common.{◌≡◌, ℕ, List, [], ◌∷◌, None, Some, Ok}
use Rattle.std.proofs.lemmas.List.Elements.{All-cons, All-nil}
use Rattle.std.specs.List.{All}
use Rattle.book_calls.specs.declared.entry.Entry.{Entry}
use Rattle.book_calls.specs.Ops.{InRange}
use Rattle.script_events.specs.declared.events.Transcript.{Transcript}
use Rattle.play_text.specs.Text.{play_text}
use Rattle.script_reading.specs.Scenarios.{scenario_of}
use Rattle.script_scenarios.specs.declared.scenario.Scenario.{Scenario}
use Rattle.play_definitions.specs.Plays.{opening_book}
use Rattle.audit_replay.specs.Legality.{IsIllegalAt}
use Rattle.audit_replay.specs.Differences.{AreCompared}
use Rattle.audit_text.specs.Histories.{AreLinesOf, Holds}
use Rattle.audit_verdict.specs.Verdicts.{HasRun, IsGiven, IsLegal, IsVerdict, StopsAt, stranger_in}
use Rattle.audit_verdict.specs.Private.Runs.{AllCame}
use Rattle.audit_verdict.specs.declared.verdict.Verdict.{Verdict}
use Rattle.audit_verdict.specs.declared.verdict.Verdict.TheVariants as verdict

-- the ops of a history that a text holds are in range
lines-in-range : (lines : List (List ℕ)) (history : List Entry) → AreLinesOf lines history
    → All (λ (e : Entry). InRange e.op) history
lines-in-range [] [] are = All-nil (λ (e : Entry). InRange e.op)
lines-in-range [] (e ∷ history) are = absurd are
lines-in-range (line ∷ lines) [] are = absurd are
lines-in-range (line ∷ lines) (e ∷ history) are =
    All-cons (λ (e : Entry). InRange e.op) e history are.0.is_entry.op (lines-in-range lines history are.1)

pub held-in-range : (play : List ℕ) (history : List Entry) → Holds play history
    → All (λ (e : Entry). InRange e.op) history
held-in-range play history holds = lines-in-range holds.lines history holds.entries

-- this is the verdict on each text of the scenario
abbrev pub IsVerdictFor : Scenario → List ℕ → Verdict → Type 0
IsVerdictFor scenario play one = (bytes : List ℕ) → scenario_of bytes ≡ Ok scenario → IsVerdict bytes play one

module _ (scenario : Scenario) (play : List ℕ) (history : List Entry) (holds : Holds play history) where
  pub illegal-verdict : (index : ℕ) → IsIllegalAt (opening_book scenario) history index
      → IsVerdictFor scenario play (verdict.Illegal index)
  illegal-verdict index is bytes read =
      (record { scenario = scenario; read = read; history = history; holds = holds }, is)

  module _ (given : IsGiven scenario history) where
    pub stranger-verdict : (index : ℕ) → stranger_in scenario history ≡ Some index
        → IsVerdictFor scenario play (verdict.Stranger index)
    stranger-verdict index is bytes read =
        (record { scenario = scenario; read = read; history = history; holds = holds }, given, is)

    module _ (named : stranger_in scenario history ≡ None) where
      legal : (bytes : List ℕ) → scenario_of bytes ≡ Ok scenario → IsLegal bytes play
      legal bytes read = record {
        of = record { scenario = scenario; read = read; history = history; holds = holds };
        given = given;
        named = named;
      }

      pub calls-verdict : (number : ℕ) → StopsAt scenario history number
          → IsVerdictFor scenario play (verdict.Calls number)
      unfolding legal
      calls-verdict number stops bytes read = (legal bytes read, stops)

      ran : (transcripts : List Transcript) → AllCame scenario history transcripts → (bytes : List ℕ)
          → scenario_of bytes ≡ Ok scenario → HasRun bytes play
      unfolding legal
      ran transcripts came bytes read =
          record { legal = legal bytes read; transcripts = transcripts; runs = came.runs }

      pub text-verdict : (transcripts : List Transcript) (offset : ℕ) → AllCame scenario history transcripts
          → AreCompared (play_text transcripts history) play (Some offset)
          → IsVerdictFor scenario play (verdict.Text offset)
      unfolding ran legal
      text-verdict transcripts offset came differs bytes read = (ran transcripts came bytes read, differs)

      pub play-verdict : (transcripts : List Transcript) → AllCame scenario history transcripts
          → AreCompared (play_text transcripts history) play None → IsVerdictFor scenario play verdict.Play
      unfolding ran legal
      play-verdict transcripts came same bytes read = (ran transcripts came bytes read, same)
