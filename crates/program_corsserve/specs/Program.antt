-- What the program answers to its words: its verdict by the words, the bytes of the input and the connections, what it
-- has written then, and what it tells the complaints. What every program promises of its input, program_shell's
-- definitions say.
use Rattle.std.specs.Prelude.{◌≡◌, ◌≢◌, false, ℕ, ◌⊎◌, List, Option, Some, None}
use Rattle.value_text.specs.Texts.{Text}
use Rattle.link_traits.specs.Accepts.{Opened}
use Rattle.link_traits.specs.Counts.{one_more}
use Rattle.link_traits.specs.Sinks.{FailedOnce, SinkTold}
use Rattle.link_traits.specs.Sources.{SourceTold}
use Rattle.program_shell.specs.Complaints.{HasComplained, IsAnswer}
use Rattle.program_shell.specs.Inputs.{Reads, Refuses}
use Rattle.program_shell.specs.Program.{AnswersInput, IsDone as IsDoneWith, IsExcused}
use Rattle.program_shell.specs.declared.status.Status.{Status}
use Rattle.program_shell.specs.declared.status.Status.TheVariants as status
use Rattle.server_tables.specs.Reading.{table_of}
use Rattle.server_tables.specs.Serving.{PeerTold}
use Rattle.server_tables.specs.declared.read.BadLine.{BadLine}
use Rattle.server_tables.specs.declared.table.Row.{Row}
use Rattle.server_words.specs.Words.{are_texts, task_of}
use Rattle.server_words.specs.declared.words.Task.{Task}
use Rattle.program_corsserve.specs.Complaints.{complaint}
use Rattle.program_corsserve.specs.Connections.{AcceptsTold, Serves}

-- the longest input, in bytes
abbrev pub most_input : ℕ
most_input = 1048832

-- By what is told of an end of a connection:
module _ {End : Type 0} (told : End → PeerTold) where
  -- ---- a table

  -- The address is listened at.
  pub record Listens (address : Text) (old new : AcceptsTold End) : Type 0 where
    pub opened : Opened old.opened new.opened address
    pub coming_is : new.coming ≡ old.coming
    pub lent_is : new.lent ≡ old.lent
    pub faults_are : new.faults ≡ old.faults

  -- The address could not be listened at.
  pub record CannotListen (old new : AcceptsTold End) (output output' : SinkTold)
      (verdict : Status BadLine) : Type 0 where
    pub verdict_is : verdict ≡ status.OwnFault
    pub cause : new.faults ≡ one_more old.faults
    pub opened_is : new.opened ≡ old.opened
    pub coming_is : new.coming ≡ old.coming
    pub lent_is : new.lent ≡ old.lent
    pub unwritten : output' ≡ output

  -- The address is listened at, and connections were served there by the table.
  pub record HasListened (table : List Row) (task : Task) (old new : AcceptsTold End) (output output' : SinkTold)
      (verdict : Status BadLine) : Type 0 where
    pub mid : AcceptsTold End
    pub listens : Listens task.address old mid
    pub serves : Serves told table task.count mid new output output' verdict

  -- the verdict on a table
  abbrev pub IsServed : List Row → Task → AcceptsTold End → AcceptsTold End → SinkTold → SinkTold → Status BadLine
      → Type 0
  IsServed table task old new output output' verdict =
      CannotListen old new output output' verdict ⊎ HasListened table task old new output output' verdict

  -- ---- an input

  -- nothing was listened at or written
  abbrev pub IsUntouched : AcceptsTold End → AcceptsTold End → SinkTold → SinkTold → Type 0
  IsUntouched old new output output' = (new ≡ old) × (output' ≡ output)

  -- the verdict on an input: it is a table, by which is served, or it is refused
  abbrev pub IsDone : SourceTold → SourceTold → Task → AcceptsTold End → AcceptsTold End → SinkTold → SinkTold
      → Status BadLine → Type 0
  IsDone input input' task old new output output' verdict =
      IsDoneWith most_input (Reads table_of) (Refuses table_of) (IsUntouched old new output output')
      (λ table. IsServed table task old new output output') input input' verdict

  -- The verdict by what the words ask for. Where they are not accepted it is Usage, or memory was refused to read them,
  -- and nothing was done.
  abbrev pub IsVerdict : Option Task → SourceTold → SourceTold → AcceptsTold End → AcceptsTold End → SinkTold
      → SinkTold → Status BadLine → Type 0
  IsVerdict None input input' old new output output' verdict =
      ((verdict ≡ status.Usage) ⊎ (verdict ≡ status.OutOfMemory)) × (input' ≡ input)
      × IsUntouched old new output output'
  IsVerdict (Some task) input input' old new output output' verdict =
      IsDone input input' task old new output output' verdict

-- ---- the whole

-- all connections were served, or what accepts them failed
abbrev pub Finishes : {End : Type 0} → AcceptsTold End → AcceptsTold End → Status BadLine → Type 0
Finishes accepts accepts' answer =
    (answer ≡ status.Ok) ⊎ ((answer ≡ status.OwnFault) × (accepts'.faults ≡ one_more accepts.faults))

-- What the program promises of its answer. The first field says all; the others are what it says of each status.
pub record Answers {End : Type 0} (told : End → PeerTold) (words : List Text) (input input' : SourceTold)
    (accepts accepts' : AcceptsTold End) (output output' complaints complaints' : SinkTold)
    (answer : Status BadLine) : Type 0 where
  pub is_answer : IsAnswer (IsVerdict told (task_of words) input input' accepts accepts' output output') complaint
      complaints complaints' answer
  -- Usage only where the words are not accepted, and there always, but for the excuses
  pub usage : answer ≡ status.Usage → task_of words ≡ None
  pub not_accepted : task_of words ≡ None
      → (answer ≡ status.Usage) ⊎ IsExcused output output' complaints complaints' answer
  -- a word that is empty or begins with `-` is refused first, also where memory would be refused
  pub first : are_texts words ≡ false
      → (answer ≡ status.Usage) ⊎ ((answer ≡ status.WriteFault) × FailedOnce complaints complaints')
  -- what accepted words ask for: the input is read as a table, by which so many connections are served
  pub accepted : (task : Task) → task_of words ≡ Some task
      → AnswersInput most_input (Reads table_of) (Refuses table_of) (IsUntouched told accepts accepts' output output')
      (λ table. IsServed told table task accepts accepts' output output') (Finishes accepts accepts') input input'
      output output' complaints complaints' answer
  -- faults of the input, of the connections and of what is written only where a count rose by one
  pub read_fault : answer ≡ status.ReadFault → input'.faults ≡ one_more input.faults
  pub accept_fault : answer ≡ status.OwnFault → accepts'.faults ≡ one_more accepts.faults
  pub write_fault : answer ≡ status.WriteFault → FailedOnce output output' ⊎ FailedOnce complaints complaints'
  -- another answer than WriteFault is told by its whole line, and Ok by none
  pub told_whole : answer ≢ status.WriteFault → HasComplained (complaint answer) complaints complaints'
