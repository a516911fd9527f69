-- How a program tells what it came to: by one line on the complaints, or by none.
use Rattle.std.specs.Prelude.{◌≡◌, ◌⊎◌, Option, Some, None, Result, Ok, Err}
use Rattle.value_text.specs.Texts.{Text}
use Rattle.link_traits.specs.Sinks.{FailedOnce, NeverFailed, SinkTold, Took, TookPart}
use Rattle.link_traits.specs.declared.sink.WriteFault.{WriteFault}
use Rattle.program_shell.specs.declared.status.Status.{Status}
use Rattle.program_shell.specs.declared.status.Status.TheVariants as status

-- the complaints have taken the line, where there is one, and did not fail
abbrev pub HasComplained : Option Text → SinkTold → SinkTold → Type 0
HasComplained None old new = new ≡ old
HasComplained (Some line) old new = Took old.taken new.taken line × NeverFailed old new

-- they have taken a part of it, since they failed
abbrev pub CannotComplain : Option Text → SinkTold → SinkTold → Type 0
CannotComplain None old new = ⊥
CannotComplain (Some line) old new = TookPart old.taken new.taken line × FailedOnce old new

-- what comes of writing the line
abbrev pub IsComplained : Option Text → SinkTold → SinkTold → Result (Unit {0}) WriteFault → Type 0
IsComplained line old new (Ok _) = HasComplained line old new
IsComplained line old new (Err _) = CannotComplain line old new

-- the answer by a verdict, once its line was written, or could not be
abbrev pub told : {R : Type 0} → Status R → Result (Unit {0}) WriteFault → Status R
told verdict (Ok _) = verdict
told verdict (Err _) = status.WriteFault

-- the answer is the verdict, which was told by this line; or it is WriteFault, since the line could not be written
abbrev pub IsTold : {R : Type 0} → Option Text → SinkTold → SinkTold → Status R → Status R → Type 0
IsTold line old new verdict answer =
    ((answer ≡ verdict) × HasComplained line old new)
    ⊎ ((answer ≡ status.WriteFault) × CannotComplain line old new)

-- How a program came to its answer: it came to a verdict first, and told it then; by what a verdict is, and by the line
-- that tells one.
pub record IsAnswer {R : Type 0} (IsVerdict : Status R → Type 0) (complaint : Status R → Option Text)
    (old new : SinkTold) (answer : Status R) : Type 0 where
  pub verdict : Status R
  pub is_verdict : IsVerdict verdict
  pub is_told : IsTold (complaint verdict) old new verdict answer
