-- What a call that writes a text to a sink tells of its answer (the output of the programs).
use Rattle.std.specs.Prelude.{◌≡◌, ℕ, Result, Err, OnOk, OnErr}
use Rattle.value_text.specs.Texts.{Text}
use Rattle.link_traits.specs.Counts.{one_more}
use Rattle.link_traits.specs.Sinks.{SinkTold, Took, TookPart}
use Rattle.play_text.specs.declared.failure.Failure.{Failure}
use Rattle.play_text.specs.declared.failure.Failure.TheVariants.{Fault, TookNothing}

-- the count of faults after it: one more where the sink failed
abbrev pub faults_after : {A : Type 0} → ℕ → Result A Failure → ℕ
faults_after faults (Err Fault) = one_more faults
faults_after faults _ = faults

-- and that of answers 0 to a piece that is not empty: one more where the sink took nothing
abbrev pub zeros_after : {A : Type 0} → ℕ → Result A Failure → ℕ
zeros_after zeros (Err TookNothing) = one_more zeros
zeros_after zeros _ = zeros

-- the sink took the whole text, or a first part of it where the call failed; of its counts the cause rose by one
pub record Writes {A : Type 0} (old new : SinkTold) (text : Text) (result : Result A Failure) : Type 0 where
  pub ok : OnOk result (Took old.taken new.taken text)
  pub err : OnErr result (TookPart old.taken new.taken text)
  pub faults : new.faults ≡ faults_after old.faults result
  pub zeros : new.zeros ≡ zeros_after old.zeros result
