-- What a sink has taken, where it tells.
use Rattle.std.specs.Prelude.{◌≡◌, ◌⊎◌, ℕ, ◌≤◌, ◌<◌, ◌++◌, take, length, Option, Some, None, Result, Ok, Err}
use Rattle.value_text.specs.Texts.{Text}
use Rattle.link_traits.specs.declared.sink.WriteFault.{WriteFault}
use Rattle.link_traits.specs.declared.sink.WriteFault.TheVariants as write
use Rattle.link_traits.specs.Counts.{one_more}

-- what was taken grew by the text
abbrev pub Took : Option Text → Option Text → Text → Type 0
Took None new text = Unit {0}
Took (Some old) new text = new ≡ Some (old ++ text)

-- it grew by a prefix of the text
abbrev pub TookPart : Option Text → Option Text → Text → Type 0
TookPart old new text = (n : ℕ) × Took old new (take n text)

-- the count of answers 0 to a piece that is not empty: it rises by one with each, and with no other answer
pub record CountsZero {E : Type 0} (before now : ℕ) (result : Result ℕ E) (piece : Text) : Type 0 where
  pub later : before ≤ now
  pub zero : result ≡ Ok 0 → 0 < length piece → now ≡ one_more before
  pub cause : before < now → (result ≡ Ok 0) × (0 < length piece)

-- what a sink tells: the bytes taken, where told, how often it failed, and how often it took nothing of a piece that is
-- not empty
pub record SinkTold : Type 0 where
  pub taken : Option Text
  pub faults : ℕ
  pub zeros : ℕ

-- it failed once, or once took nothing of a piece that is not empty
abbrev pub FailedOnce : SinkTold → SinkTold → Type 0
FailedOnce old new =
    ((new.faults ≡ one_more old.faults) × (new.zeros ≡ old.zeros))
    ⊎ ((new.faults ≡ old.faults) × (new.zeros ≡ one_more old.zeros))

-- neither: its counts are as they were
abbrev pub NeverFailed : SinkTold → SinkTold → Type 0
NeverFailed old new = (new.faults ≡ old.faults) × (new.zeros ≡ old.zeros)

-- what is told of one that is no sink
abbrev pub no_sink : SinkTold
no_sink = record { taken = None; faults = 0; zeros = 0 }

-- the count of faults after a text that was to be written whole: one more where the sink failed
abbrev pub faults_written : {A : Type 0} → ℕ → Result A WriteFault → ℕ
faults_written faults (Err write.Fault) = one_more faults
faults_written faults _ = faults

-- and that of answers 0: one more where it took nothing
abbrev pub zeros_written : {A : Type 0} → ℕ → Result A WriteFault → ℕ
zeros_written zeros (Err write.TookNothing) = one_more zeros
zeros_written zeros _ = zeros

-- how often a sink failed, and how often it took nothing of a piece that is not empty
pub record SinkCounts : Type 0 where
  pub faults : ℕ
  pub zeros : ℕ
