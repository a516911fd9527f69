-- Why a program comes to its verdict on an input, and what it promises of its answer. Each program says what bytes are
-- read as, which are refused, and what comes of the work on what they are; the rest is the same for all (this project's
-- own).
use Rattle.std.specs.Prelude.{◌≡◌, ◌≢◌, ℕ, ◌+◌, ◌≤◌, ◌<◌, ◌⊎◌, length, Some, Result}
use Rattle.value_text.specs.Texts.{Text}
use Rattle.link_traits.specs.Counts.{one_more}
use Rattle.link_traits.specs.Sinks.{FailedOnce, NeverFailed, SinkTold, Took, TookPart}
use Rattle.link_traits.specs.Sources.{Gave, SourceTold}
use Rattle.program_shell.specs.Inputs.{GaveFor, IsWhole, IsWhyStopped, Reads, Refuses}
use Rattle.program_shell.specs.declared.status.Status.{Status}
use Rattle.program_shell.specs.declared.status.Status.TheVariants as status

-- ---- excuses

-- the answers that any run may have besides: OutOfMemory, or that the complaints or the output failed or took nothing
abbrev pub IsExcused : {R : Type 0} → SinkTold → SinkTold → SinkTold → SinkTold → Status R → Type 0
IsExcused output output' complaints complaints' answer =
    (answer ≡ status.OutOfMemory)
    ⊎ ((answer ≡ status.WriteFault) × (FailedOnce output output' ⊎ FailedOnce complaints complaints'))

-- where an input was read, it may have failed too
abbrev pub IsExcusedRead : {R : Type 0} → SourceTold → SourceTold → SinkTold → SinkTold → SinkTold → SinkTold
    → Status R → Type 0
IsExcusedRead input input' output output' complaints complaints' answer =
    ((answer ≡ status.ReadFault) × (input'.faults ≡ one_more input.faults))
    ⊎ IsExcused output output' complaints complaints' answer

-- ---- an input

-- By how many bytes an input has at most, by what bytes are read as, by which verdict refuses them, by what is as it
-- was where nothing was done, and by what comes of the work on what was read:
module _ {A R : Type 0} (most : ℕ) (Reads : Text → A → Type 0) (Refuses : Text → Status R → Type 0)
    (Untouched : Type 0) (Works : A → Status R → Type 0) where
  -- the bytes of a whole input are refused by the verdict, and nothing was done
  abbrev pub IsRefused : Text → SourceTold → SourceTold → Status R → Type 0
  IsRefused bytes input input' verdict = IsWhole most bytes input input' × Refuses bytes verdict × Untouched

  -- the bytes of a whole input were read, and the work on what they are came to the verdict
  pub record HasWorked (bytes : Text) (input input' : SourceTold) (verdict : Status R) : Type 0 where
    pub whole : IsWhole most bytes input input'
    pub asked : A
    pub reads : Reads bytes asked
    pub works : Works asked verdict

  -- Why the program comes to a verdict on the bytes that the input gave: the input was not read whole, or memory was
  -- refused, and nothing was done; or its bytes are refused; or the work on what they are came to it.
  abbrev pub IsCause : Text → SourceTold → SourceTold → Status R → Type 0
  IsCause bytes input input' verdict =
      (IsWhyStopped most bytes input input' verdict × Untouched)
      ⊎ IsRefused bytes input input' verdict
      ⊎ HasWorked bytes input input' verdict

  -- the verdict on an input
  pub record IsDone (input input' : SourceTold) (verdict : Status R) : Type 0 where
    -- the bytes that the input gave
    pub bytes : Text
    pub gave : Gave input.left input'.left bytes
    pub cause : IsCause bytes input input' verdict

  -- What the program promises of its answer to an input, by what it comes to where the input is accepted.
  pub record AnswersInput (Finishes : Status R → Type 0) (input input' : SourceTold)
      (output output' complaints complaints' : SinkTold) (answer : Status R) : Type 0 where
    -- an answer has its cause
    pub cause : answer ≢ status.WriteFault → GaveFor input input' (λ bytes. IsCause bytes input input' answer)
    -- ReadFault only where the input failed
    pub read_fault : answer ≡ status.ReadFault → input'.faults ≡ one_more input.faults
    -- an input that is accepted is finished, but for the excuses
    pub complete : (bytes : Text) (asked : A) → input.left ≡ Some bytes → length bytes ≤ most → Reads bytes asked
        → Finishes answer ⊎ IsExcusedRead input input' output output' complaints complaints' answer
    -- one that is refused has that answer, but for the excuses
    pub refused : (bytes : Text) (verdict : Status R) → input.left ≡ Some bytes → length bytes ≤ most
        → Refuses bytes verdict
        → (answer ≡ verdict) ⊎ IsExcusedRead input input' output output' complaints complaints' answer
    -- one that is longer has InputTooLong, but for the excuses
    pub longer : (bytes : Text) → input.left ≡ Some bytes → most < length bytes
        → (answer ≡ status.InputTooLong) ⊎ IsExcusedRead input input' output output' complaints complaints' answer
    -- at most one byte more than the longest input is read
    pub bound : GaveFor input input' (λ bytes. length bytes ≤ most + 1)

-- ---- a text

-- By which texts may be written:
module _ (IsText : Text → Type 0) where
  -- the output has taken such a text, and nothing else, and did not fail
  pub record WritesText (old new : SinkTold) : Type 0 where
    pub text : Text
    pub is_text : IsText text
    pub took : Took old.taken new.taken text
    pub quiet : NeverFailed old new

  -- it has taken nothing, or a prefix of such a text
  pub record WritesPart (old new : SinkTold) : Type 0 where
    pub text : Text
    pub is_text : IsText text
    pub took : TookPart old.taken new.taken text

  -- what comes of the work on such a text
  abbrev pub IsWritten : {R : Type 0} → SinkTold → SinkTold → Status R → Type 0
  IsWritten old new status.Ok = WritesText old new
  IsWritten old new status.WriteFault = WritesPart old new × FailedOnce old new
  IsWritten old new status.OutOfMemory = WritesPart old new × NeverFailed old new
  IsWritten old new _ = ⊥

-- A program that writes a text for what its input is, by which texts these are:
module _ {A R : Type 0} (most : ℕ) (reading : Text → Result A R) (IsTextFor : A → Text → Type 0) where
  -- the verdict on an input
  abbrev pub IsPlayed : SourceTold → SourceTold → SinkTold → SinkTold → Status R → Type 0
  IsPlayed input input' output output' verdict =
      IsDone most (Reads reading) (Refuses reading) (output' ≡ output)
      (λ asked. IsWritten (IsTextFor asked) output output') input input' verdict

  -- what the program promises of its answer to one
  abbrev pub AnswersText : SourceTold → SourceTold → SinkTold → SinkTold → SinkTold → SinkTold → Status R → Type 0
  AnswersText input input' output output' complaints complaints' answer =
      AnswersInput most (Reads reading) (Refuses reading) (output' ≡ output)
      (λ asked. IsWritten (IsTextFor asked) output output') (λ one. one ≡ status.Ok) input input' output output'
      complaints complaints' answer
