-- The line of a verdict, as the call tells it.
use Rattle.std.proofs.Common.{◌≡◌, ◌≢◌, ℕ, List, refl}
use Rattle.audit_verdict.specs.declared.verdict.Verdict.{Verdict}
use Rattle.audit_verdict.specs.declared.verdict.Verdict.TheVariants as verdict
use Rattle.c_play.specs.Audits.{IsVerdictTold}
use Rattle.c_play.specs.Plays.{IsRefusedAt}
use Rattle.program_playaudit.specs.Statuses.{verdict_line}

-- another verdict than `play` is told as a refusal
pub told-refused : (one : Verdict) (line room after : List ℕ) (len code : ℕ) → one ≢ verdict.Play
    → line ≡ verdict_line one → IsRefusedAt line room after len code → IsVerdictTold one room after len code
told-refused verdict.Play line room after len code other is told = absurd (other refl)
told-refused (verdict.Scenario place) line room after len code other is told = rw is at told
told-refused (verdict.History number) line room after len code other is told = rw is at told
told-refused (verdict.Illegal index) line room after len code other is told = rw is at told
told-refused (verdict.Stranger index) line room after len code other is told = rw is at told
told-refused (verdict.Calls number) line room after len code other is told = rw is at told
told-refused (verdict.Text offset) line room after len code other is told = rw is at told
