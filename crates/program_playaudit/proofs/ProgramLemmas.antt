-- What the program's account of its answer says of each status.
use Rattle.std.proofs.Common.{◌≡◌, ◌≢◌, ℕ, ◌⊎◌, inl, inr, List, [], ◌∷◌, refl, sym, subst, ◌∙◌}
use Rattle.link_traits.specs.Counts.{one_more}
use Rattle.link_traits.specs.Sinks.{FailedOnce, SinkTold}
use Rattle.link_traits.specs.Sources.{SourceTold}
use Rattle.audit_verdict.specs.declared.verdict.Verdict.{Verdict}
use Rattle.audit_verdict.specs.declared.verdict.Verdict.TheVariants as verdict
use Rattle.program_shell.proofs.ProgramLemmas.{Ends, IsOwn, IsReading, answer-by, answer-or, answer-told}
use Rattle.program_shell.proofs.ProgramLemmas.{answer-verdict}
use Rattle.program_shell.proofs.ProgramLemmas.{answer-write, done-read, done-usage, done-write, input-answers}
use Rattle.program_shell.specs.Complaints.{IsAnswer}
use Rattle.program_shell.specs.declared.status.Status.{Status}
use Rattle.program_shell.specs.declared.status.Status.TheVariants as status
use Rattle.program_playaudit.specs.Program.{Answers, IsAudited, IsDone, IsFound, IsVerdictTold, Parts, Reads, Refuses}
use Rattle.program_playaudit.specs.Program.{most_input}
use Rattle.program_playaudit.specs.Statuses.{complaint, status_of}

-- ---- a frame

framing : IsReading Reads Refuses
framing = record {
  apart = λ bytes parts found framed x. x.1 parts.scenario parts.play framed;
  one = λ bytes found other x y. x.0 ∙ sym y.0;
  own = λ bytes found x. subst IsOwn (sym x.0) tt;
}

-- ---- a verdict

status-is : (one : Verdict) → IsVerdictTold (status_of one)
status-is verdict.Play = inl refl
status-is (verdict.Scenario place) = inr (verdict.Scenario place, refl)
status-is (verdict.History n) = inr (verdict.History n, refl)
status-is (verdict.Illegal n) = inr (verdict.Illegal n, refl)
status-is (verdict.Stranger n) = inr (verdict.Stranger n, refl)
status-is (verdict.Calls n) = inr (verdict.Calls n, refl)
status-is (verdict.Text n) = inr (verdict.Text n, refl)

module _ (input input' : SourceTold) (output output' : SinkTold) where
  told-ends : (found : Status Verdict) → IsVerdictTold found → Ends IsVerdictTold output output' found
  told-ends found is = elim is [
    | inl ok ↦ subst (Ends IsVerdictTold output output') (sym ok) (inl refl)
    | inr x ↦ subst (Ends IsVerdictTold output output') (sym x.1) (inr (x.0, refl))
  ]

  by-status : (found : Status Verdict) (one : Verdict) → found ≡ status_of one
      → Ends IsVerdictTold output output' found
  by-status found one is = told-ends found (subst IsVerdictTold (sym is) (status-is one))

  audited-ends : (parts : Parts) (found : Status Verdict) → IsAudited output output' parts found
      → Ends IsVerdictTold output output' found
  audited-ends parts status.WriteFault a = a.written.1
  audited-ends parts status.OutOfMemory a = tt
  audited-ends parts status.Ok a = by-status status.Ok a.one a.written.0
  audited-ends parts status.Usage a = by-status status.Usage a.one a.written.0
  audited-ends parts (status.Refused one) a = by-status (status.Refused one) a.one a.written.0
  audited-ends parts status.ReadFault a = by-status status.ReadFault a.one a.written.0
  audited-ends parts status.InputTooLong a = by-status status.InputTooLong a.one a.written.0
  audited-ends parts status.OwnFault a = by-status status.OwnFault a.one a.written.0

  -- ---- what was found

  abbrev Found : List (List ℕ) → Status Verdict → Type 0
  Found words found = IsFound words input input' output output' found

  usage-some : (words : List (List ℕ)) → Found words status.Usage → words ≢ []
  usage-some [] found none = done-usage most_input Reads Refuses (output' ≡ output) (IsAudited output output') framing
      IsVerdictTold input input' output output' audited-ends found
  usage-some (word ∷ words) found none = cc

  read-rose : (words : List (List ℕ)) → Found words status.ReadFault → input'.faults ≡ one_more input.faults
  read-rose [] found = done-read most_input Reads Refuses (output' ≡ output) (IsAudited output output') framing
      IsVerdictTold input input' output output' audited-ends found
  read-rose (word ∷ words) found = cc (found.0)

  write-failed : (words : List (List ℕ)) → Found words status.WriteFault → FailedOnce output output'
  write-failed [] found = done-write most_input Reads Refuses (output' ≡ output) (IsAudited output output') framing
      IsVerdictTold input input' output output' audited-ends found
  write-failed (word ∷ words) found = cc (found.0)

  some-words : (words : List (List ℕ)) (found : Status Verdict) → words ≢ [] → Found words found
      → (found ≡ status.Usage) × (input' ≡ input) × (output' ≡ output)
  some-words [] found some is = absurd (some refl)
  some-words (word ∷ words) found some is = is

  -- ---- the whole

  pub answers : (words : List (List ℕ)) (c c' : SinkTold) (answer : Status Verdict)
      → IsAnswer (Found words) complaint c c' answer → Answers words input input' output output' c c' answer
  answers words c c' answer a = record {
    is_answer = a;
    usage = λ is. usage-some words (at is (λ e. cc (e)));
    some_words = λ some.
        let x = some-words words a.verdict some a.is_verdict in (
          x.1,
          x.2,
          answer-or a (λ v. (v ≡ status.Usage) ⊎ ((v ≡ status.WriteFault) × FailedOnce c c'))
              (λ v is. inl (some-words words v some is).0) (λ failed. inr failed),
        );
    no_words = λ none. input-answers most_input Reads Refuses (output' ≡ output) (IsAudited output output') framing
        IsVerdictTold input input' output output' audited-ends c c'
        (answer-by a (λ v is. subst (λ (w : List (List ℕ)). Found w v) none is));
    read_fault = λ is. read-rose words (at is (λ e. cc (e)));
    write_fault = answer-write a (FailedOnce output output') (write-failed words);
    told_whole = answer-told a;
  }
    where
      at : {wanted : Status Verdict} → answer ≡ wanted → wanted ≢ status.WriteFault → Found words wanted
      at is other = subst (Found words) is (answer-verdict a (λ e. other (sym is ∙ e)))
