-- What the program answers to its words: its verdict by the words and the input, and what it tells the complaints. Why
-- it comes to a verdict on an input, and what it has written then, program_shell's definitions say.
use Rattle.std.specs.Prelude.{◌≡◌, ◌≢◌, ℕ, ◌⊎◌, Bool, true, false, List}
use Rattle.value_text.specs.Texts.{Text}
use Rattle.link_traits.specs.Sinks.{FailedOnce, SinkTold}
use Rattle.link_traits.specs.Sources.{SourceTold}
use Rattle.program_shell.specs.Complaints.{HasComplained, IsAnswer}
use Rattle.program_shell.specs.Program.{AnswersText, IsPlayed}
use Rattle.program_shell.specs.declared.status.Status.{Status}
use Rattle.program_shell.specs.declared.status.Status.TheVariants as status
use Rattle.program_cspreport.specs.Scenarios.{reported_scenario}
use Rattle.program_cspreport.specs.Statuses.{complaint}
use Rattle.program_cspreport.specs.Text.{IsReportText}
use Rattle.program_cspreport.specs.Words.{are_accepted}
use Rattle.script_reading.specs.declared.place.Place.{Place}

-- the longest input, in bytes
abbrev pub most_input : ℕ
most_input = 4194304

-- The verdict: Usage exactly where the words are not accepted, and then nothing was read or written. Else the scenario
-- of the input is played, and the text of its reports is written.
abbrev pub IsVerdict : Bool → SourceTold → SourceTold → SinkTold → SinkTold → Status Place → Type 0
IsVerdict false input input' output output' verdict =
    (verdict ≡ status.Usage) × (input' ≡ input) × (output' ≡ output)
IsVerdict true input input' output output' verdict =
    IsPlayed most_input reported_scenario IsReportText input input' output output' verdict

-- What the program promises of its answer. The first field says all; the others are what it says of each status.
pub record Answers (words : List Text) (input input' : SourceTold)
    (output output' complaints complaints' : SinkTold) (answer : Status Place) : Type 0 where
  pub is_answer : IsAnswer (IsVerdict (are_accepted words) input input' output output') complaint complaints complaints'
      answer
  -- Usage only where the words are not accepted, and there always, unless the complaints failed
  pub usage : answer ≡ status.Usage → are_accepted words ≡ false
  pub not_accepted : are_accepted words ≡ false
      → (answer ≡ status.Usage) ⊎ ((answer ≡ status.WriteFault) × FailedOnce complaints complaints')
  -- accepted words, by the scenario that the input is and by the texts of the reports of its plays
  pub play : are_accepted words ≡ true → AnswersText most_input reported_scenario IsReportText input input' output
      output' complaints complaints' answer
  -- WriteFault only where a sink failed or took nothing
  pub write_fault : answer ≡ status.WriteFault → FailedOnce output output' ⊎ FailedOnce complaints complaints'
  -- another answer is told by its whole line, and Ok by none
  pub complained : answer ≢ status.WriteFault → HasComplained (complaint answer) complaints complaints'
