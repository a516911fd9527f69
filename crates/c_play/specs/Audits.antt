-- What the call tells of an audit: the line of the verdict, as `playaudit` prints it.
use Rattle.std.specs.Prelude.{ℕ}
use Rattle.value_text.specs.Texts.{Text}
use Rattle.audit_verdict.specs.Verdicts.{IsVerdict}
use Rattle.audit_verdict.specs.declared.verdict.Verdict.{Verdict}
use Rattle.audit_verdict.specs.declared.verdict.Verdict.TheVariants as verdict
use Rattle.program_playaudit.specs.Statuses.{verdict_line}
use Rattle.c_handle.specs.Codes.{IsWritten}
use Rattle.c_play.specs.Plays.{IsRefusedAt}

-- the line of a verdict is written, and NO stands where a text that is written has OK, but for `play`
abbrev pub IsVerdictTold : Verdict → Text → Text → ℕ → ℕ → Type 0
IsVerdictTold verdict.Play = IsWritten (verdict_line verdict.Play)
IsVerdictTold other = IsRefusedAt (verdict_line other)

-- The verdict on a scenario and a play is told.
pub record IsAudited (scenario play room after : Text) (len code : ℕ) : Type 0 where
  pub one : Verdict
  pub verdict_is : IsVerdict scenario play one
  pub told : IsVerdictTold one room after len code
