-- What the program answers to its words: its status by the words and the bytes of the input, what it has written then,
-- and what it tells the complaints. What a verdict is, audit_verdict defines, and what every program promises of its
-- input, program_shell.
use Rattle.std.specs.Prelude.{◌≡◌, ◌≢◌, ℕ, ◌⊎◌, List, [], ◌∷◌}
use Rattle.value_text.specs.Texts.{Text}
use Rattle.link_traits.specs.Counts.{one_more}
use Rattle.link_traits.specs.Sinks.{FailedOnce, NeverFailed, SinkTold, Took, TookPart}
use Rattle.link_traits.specs.Sources.{SourceTold}
use Rattle.audit_text.specs.Frames.{IsFramed}
use Rattle.audit_verdict.specs.Verdicts.{IsVerdict}
use Rattle.audit_verdict.specs.declared.verdict.Verdict.{Verdict}
use Rattle.program_shell.specs.Complaints.{HasComplained, IsAnswer}
use Rattle.program_shell.specs.Program.{AnswersInput, IsDone as IsDoneWith}
use Rattle.program_shell.specs.declared.status.Status.{Status}
use Rattle.program_shell.specs.declared.status.Status.TheVariants as status
use Rattle.program_playaudit.specs.Statuses.{complaint, status_of, verdict_line}

-- the longest input, in bytes
abbrev pub most_input : ℕ
most_input = 67108864

-- ---- an input

-- a scenario, and a text that claims to be the printed play of it
pub record Parts : Type 0 where
  pub scenario : Text
  pub play : Text

-- the bytes are these two in a frame
abbrev pub Reads : Text → Parts → Type 0
Reads bytes parts = IsFramed bytes parts.scenario parts.play

-- the bytes are none such
abbrev pub IsUnframed : Text → Type 0
IsUnframed bytes = (scenario play : Text) → ¬ (IsFramed bytes scenario play)

-- that is the program's own fault
abbrev pub Refuses : Text → Status Verdict → Type 0
Refuses bytes found = (found ≡ status.OwnFault) × IsUnframed bytes

-- what comes of writing the line of a verdict
abbrev pub IsWritten : Verdict → SinkTold → SinkTold → Status Verdict → Type 0
IsWritten one old new status.WriteFault = TookPart old.taken new.taken (verdict_line one) × FailedOnce old new
IsWritten one old new status.OutOfMemory = new ≡ old
IsWritten one old new found =
    (found ≡ status_of one) × Took old.taken new.taken (verdict_line one) × NeverFailed old new

-- The verdict on a scenario and a play, and what came of writing its line.
pub record IsAudited (output output' : SinkTold) (parts : Parts) (found : Status Verdict) : Type 0 where
  pub one : Verdict
  pub verdict_is : IsVerdict parts.scenario parts.play one
  pub written : IsWritten one output output' found

-- the status by an input
abbrev pub IsDone : SourceTold → SourceTold → SinkTold → SinkTold → Status Verdict → Type 0
IsDone input input' output output' found =
    IsDoneWith most_input Reads Refuses (output' ≡ output) (IsAudited output output') input input' found

-- by the words: Usage exactly where there are some, and then nothing was read or written
abbrev pub IsFound : List Text → SourceTold → SourceTold → SinkTold → SinkTold → Status Verdict → Type 0
IsFound [] input input' output output' found = IsDone input input' output output' found
IsFound (word ∷ words) input input' output output' found =
    (found ≡ status.Usage) × (input' ≡ input) × (output' ≡ output)

-- ---- the whole

-- Ok, or Refused by some verdict
abbrev pub IsVerdictTold : Status Verdict → Type 0
IsVerdictTold answer = (answer ≡ status.Ok) ⊎ ((one : Verdict) × (answer ≡ status.Refused one))

-- What the program promises of its answer. The first field says all; the others are what it says of each status.
pub record Answers (words : List Text) (input input' : SourceTold)
    (output output' complaints complaints' : SinkTold) (answer : Status Verdict) : Type 0 where
  pub is_answer : IsAnswer (IsFound words input input' output output') complaint complaints complaints' answer
  -- Usage only where there are words, and there always, unless the complaints failed; then nothing was read or written
  pub usage : answer ≡ status.Usage → words ≢ []
  pub some_words : words ≢ [] → (input' ≡ input) × (output' ≡ output)
      × ((answer ≡ status.Usage) ⊎ ((answer ≡ status.WriteFault) × FailedOnce complaints complaints'))
  -- what the input has, where there are none: a framed one is audited, and the line of its verdict is written
  pub no_words : words ≡ [] → AnswersInput most_input Reads Refuses (output' ≡ output) (IsAudited output output')
      IsVerdictTold input input' output output' complaints complaints' answer
  -- faults of the input and of what is written only where a count rose by one
  pub read_fault : answer ≡ status.ReadFault → input'.faults ≡ one_more input.faults
  pub write_fault : answer ≡ status.WriteFault → FailedOnce output output' ⊎ FailedOnce complaints complaints'
  -- a status other than WriteFault is told by its whole line, and Ok and Refused by none
  pub told_whole : answer ≢ status.WriteFault → HasComplained (complaint answer) complaints complaints'
