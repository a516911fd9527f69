-- What the program answers to its words: its verdict by the words and the bytes of the input, what it has written
-- then, and what it tells the complaints. What a play is, and that in it each document sends and sees what it would
-- alone, play_isolation's definitions say; why a program comes to a verdict on an input, program_shell's.
use Rattle.std.specs.Prelude.{◌≡◌, ◌≢◌, ℕ, ◌≤◌, ◌⊎◌, min, List, Option, Some, None}
use Rattle.program_shell.specs.declared.status.Status.TheVariants as status
use Rattle.program_fetchplay.specs.Terms.{AllAreAlone, Answering, AnswersInput, AnswersText, Entry, FailedOnce}
use Rattle.program_fetchplay.specs.Terms.{HasComplained, HasTakenBack, IsAnswer, IsDone, IsExcused, IsIsolated}
use Rattle.program_fetchplay.specs.Terms.{IsPlay, IsPlayOverLinks, IsPlayed, IsWritten, LinkTold, Place, Reads, Refuses}
use Rattle.program_fetchplay.specs.Terms.{Scenario, SinkTold, SourceTold, Status, Text, Transcript, WasRefused}
use Rattle.program_fetchplay.specs.Terms.{by_rules, generated, play_text, scenario_of, summary_text}
use Rattle.program_fetchplay.specs.Terms.{ways_to_servers}
use Rattle.program_fetchplay.specs.Statuses.{complaint}
use Rattle.program_fetchplay.specs.Streams.{Net}
use Rattle.program_fetchplay.specs.Words.{subcommand_of}
use Rattle.program_fetchplay.specs.declared.words.Subcommand.{Subcommand}
use Rattle.program_fetchplay.specs.declared.words.Subcommand.TheVariants.{Gen, Net as Over, Play}

-- the longest input, in bytes
abbrev pub most_input : ℕ
most_input = 4194304

-- ---- plays

-- a play of the scenario over its own servers, in which what each document sends and sees is what it would alone
abbrev pub IsScripted : Scenario → List Transcript → List Entry → Type 0
IsScripted scenario transcripts history =
    IsIsolated by_rules scenario scenario.now (ways_to_servers scenario) (ways_to_servers scenario) transcripts history

-- the latest time at which a play over links begins, in seconds
abbrev pub most_base : ℕ
most_base = 1099511627776

-- the time at which it begins: the clock's answer, where told, if that is not too late
abbrev pub IsBase : Option ℕ → ℕ → Type 0
IsBase None base = base ≤ most_base
IsBase (Some time) base = base ≡ min time most_base

-- ---- the text of a play

-- The text is that of a play of the scenario, by what a play is.
pub record IsPlayText (Plays : Scenario → List Transcript → List Entry → Type 0) (scenario : Scenario) (text : Text)
    : Type 0 where
  pub transcripts : List Transcript
  pub history : List Entry
  pub play : Plays scenario transcripts history
  pub text_is : text ≡ play_text transcripts history

-- ---- over links

-- By what answers over them, what a link tells of itself, and links and clock at first and at last:
module _ {L State : Type 0} (by : Answering State) (told : L → LinkTold State) (old new : Net L) where
  -- A play of the scenario over the links that are made for its documents, from the clock's time on, in which what each
  -- document sends and sees is what it would alone.
  pub record IsLinked (scenario : Scenario) (transcripts : List Transcript) (history : List Entry) : Type 0 where
    pub base : ℕ
    pub base_is : IsBase old.time base
    pub over : IsPlayOverLinks by told old.links new.links scenario base transcripts history
    pub alone : AllAreAlone over.play.runs

  -- A play of the scenario was refused for want of memory, and nothing was written.
  pub record HasRefused (scenario : Scenario) (output output' : SinkTold) (verdict : Status Place) : Type 0 where
    pub verdict_is : verdict ≡ status.OutOfMemory
    pub base : ℕ
    pub base_is : IsBase old.time base
    pub refused : WasRefused by told old.links new.links scenario base
    pub unwritten : output' ≡ output

  -- what comes of a play of the scenario, whose text is written
  abbrev pub IsOver : SinkTold → SinkTold → Scenario → Status Place → Type 0
  IsOver output output' scenario verdict =
      HasRefused scenario output output' verdict ⊎ IsWritten (IsPlayText IsLinked scenario) output output' verdict

  -- nothing was written, and links and clock are as they were
  abbrev pub IsUntouched : SinkTold → SinkTold → Type 0
  IsUntouched output output' = (output' ≡ output) × (new ≡ old)

  -- the verdict on an input that is played over links
  abbrev pub IsPlayedOver : SourceTold → SourceTold → SinkTold → SinkTold → Status Place → Type 0
  IsPlayedOver input input' output output' verdict =
      IsDone most_input (Reads scenario_of) (Refuses scenario_of) (IsUntouched output output') (IsOver output output')
      input input' verdict

-- ---- a generated scenario

-- The text is the summary of a play of the generated scenario of so many documents.
pub record IsSummary (count : ℕ) (text : Text) : Type 0 where
  pub transcripts : List Transcript
  pub history : List Entry
  pub play : IsPlay (generated count) transcripts history
  pub text_is : text ≡ summary_text count transcripts history

-- the verdict on it: memory was refused to play it, or the summary was written
abbrev pub IsSummed : ℕ → SinkTold → SinkTold → Status Place → Type 0
IsSummed count output output' verdict =
    ((verdict ≡ status.OutOfMemory) × (output' ≡ output)) ⊎ IsWritten (IsSummary count) output output' verdict

-- ---- the whole

-- By what answers over the links, what a link tells of itself, and the links and the clock at first and at last:
module _ {L State : Type 0} (by : Answering State) (told : L → LinkTold State) (net net' : Net L) where
  -- The verdict, by what the words ask for: Usage exactly where they are not accepted, and then nothing was read or
  -- written; with `gen` nothing was read. With `net` alone links and the clock are used.
  abbrev pub IsVerdict : Option Subcommand → SourceTold → SourceTold → SinkTold → SinkTold → Status Place → Type 0
  IsVerdict None input input' output output' verdict =
      (verdict ≡ status.Usage) × (input' ≡ input) × (output' ≡ output) × (net' ≡ net)
  IsVerdict (Some Play) input input' output output' verdict =
      IsPlayed most_input scenario_of (IsPlayText IsScripted) input input' output output' verdict × (net' ≡ net)
  IsVerdict (Some Over) input input' output output' verdict =
      IsPlayedOver by told net net' input input' output output' verdict
  IsVerdict (Some (Gen count)) input input' output output' verdict =
      IsSummed count output output' verdict × (input' ≡ input) × (net' ≡ net)

-- What the program promises of its answer to `gen`.
pub record AnswersCount (count : ℕ) (input input' : SourceTold) (output output' complaints complaints' : SinkTold)
    (answer : Status Place) : Type 0 where
  -- the input is left unread
  pub unread : input' ≡ input
  -- an answer has its cause: the output has taken the summary of a play, or a prefix of one, or nothing
  pub cause : answer ≢ status.WriteFault → IsSummed count output output' answer
  -- the answer is Ok, but for the excuses
  pub complete : (answer ≡ status.Ok) ⊎ IsExcused output output' complaints complaints' answer

-- What the program promises of its answer. The first field says all; the others are what it says of each
-- status.
pub record Answers {L State : Type 0} (by : Answering State) (told : L → LinkTold State)
    (words : List Text) (input input' : SourceTold) (output output' complaints complaints' : SinkTold)
    (outer outer' : Net L) (answer : Status Place) : Type 0 where
  pub is_answer : IsAnswer (IsVerdict by told outer outer' (subcommand_of words) input input' output output') complaint
      complaints complaints' answer
  -- Usage only where the words are not accepted, and there always, unless the complaints failed
  pub usage : answer ≡ status.Usage → subcommand_of words ≡ None
  pub not_accepted : subcommand_of words ≡ None
      → (answer ≡ status.Usage) ⊎ ((answer ≡ status.WriteFault) × FailedOnce complaints complaints')
  -- what the accepted words ask for
  pub play : subcommand_of words ≡ Some Play → AnswersText most_input scenario_of (IsPlayText IsScripted) input input'
      output output' complaints complaints' answer
  pub net : subcommand_of words ≡ Some Over → AnswersInput most_input (Reads scenario_of) (Refuses scenario_of)
      (IsUntouched by told outer outer' output output') (IsOver by told outer outer' output output')
      (λ one. one ≡ status.Ok) input input' output output' complaints complaints' answer
  pub gen : (count : ℕ) → subcommand_of words ≡ Some (Gen count)
      → AnswersCount count input input' output output' complaints complaints' answer
  -- with other words than `net` links and clock are left as they were, and with `net` each link that was made was
  -- taken back
  pub kept : subcommand_of words ≢ Some Over → outer' ≡ outer
  pub back : subcommand_of words ≡ Some Over → HasTakenBack told outer.links outer'.links
  -- WriteFault only where a sink failed or took nothing
  pub write_fault : answer ≡ status.WriteFault → FailedOnce output output' ⊎ FailedOnce complaints complaints'
  -- another answer is told by its whole line, and Ok by none
  pub complained : answer ≢ status.WriteFault → HasComplained (complaint answer) complaints complaints'
