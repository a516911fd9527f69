-- What the program's account of its answer says of each status.
use Rattle.std.proofs.Common.{◌≡◌, ◌≢◌, false, ℕ, ◌⊎◌, inl, inr, List, [], Option, Some, None, refl, sym, subst, ◌∙◌}
use Rattle.std.proofs.Common.{ap, arith}
use Rattle.link_traits.proofs.SourceLemmas.{gave-nothing}
use Rattle.link_traits.specs.Counts.{one_more}
use Rattle.link_traits.specs.Sinks.{FailedOnce, SinkTold}
use Rattle.link_traits.specs.Sources.{Gave, SourceTold}
use Rattle.program_shell.proofs.ProgramLemmas.{Ends, answer-by, answer-or, answer-told, answer-verdict, answer-write}
use Rattle.program_shell.proofs.ProgramLemmas.{cannot-failed}
use Rattle.program_shell.proofs.ProgramLemmas.{done-read, done-usage, done-write, input-answers, is-reading}
use Rattle.program_shell.specs.Complaints.{IsAnswer}
use Rattle.program_shell.specs.Inputs.{Reads, Refuses}
use Rattle.program_shell.specs.Program.{IsExcused}
use Rattle.program_shell.specs.declared.status.Status.{Status}
use Rattle.program_shell.specs.declared.status.Status.TheVariants as status
use Rattle.server_tables.specs.Reading.{table_of}
use Rattle.server_tables.specs.Serving.{PeerTold}
use Rattle.server_tables.specs.declared.read.BadLine.{BadLine}
use Rattle.server_tables.specs.declared.table.Row.{Row}
use Rattle.server_words.specs.Words.{are_texts, task_of}
use Rattle.server_words.specs.declared.words.Task.{Task}
use Rattle.program_corsserve.specs.Complaints.{complaint}
use Rattle.program_corsserve.specs.Connections.{AcceptsTold, Serves}
use Rattle.program_corsserve.specs.Program.{Answers, Finishes, IsServed, IsUntouched, IsVerdict, most_input}

module _ {End : Type 0} (told : End → PeerTold) (input input' : SourceTold) (accepts accepts' : AcceptsTold End)
    (output output' : SinkTold) where
  abbrev Verdict : Option Task → Status BadLine → Type 0
  Verdict task verdict = IsVerdict told task input input' accepts accepts' output output' verdict

  abbrev Served : Task → List Row → Status BadLine → Type 0
  Served task table verdict = IsServed told table task accepts accepts' output output' verdict

  abbrev Untouched : Type 0
  Untouched = IsUntouched told accepts accepts' output output'

  -- ---- what serving comes to

  serves-ends : (table : List Row) (task : Task) (mid : AcceptsTold End) (v : Status BadLine)
      → mid.faults ≡ accepts.faults → Serves told table task.count mid accepts' output output' v
      → Ends (Finishes accepts accepts') output output' v
  serves-ends table task mid status.Ok quiet s = inl refl
  serves-ends table task mid status.WriteFault quiet s = s.failed
  serves-ends table task mid status.OutOfMemory quiet s = tt
  serves-ends table task mid status.OwnFault quiet s =
      inr (refl, s.cause ∙ ap one_more quiet)
  serves-ends table task mid status.Usage quiet s = s
  serves-ends table task mid (status.Refused bad) quiet s = absurd s
  serves-ends table task mid status.ReadFault quiet s = s
  serves-ends table task mid status.InputTooLong quiet s = s

  served-ends : (task : Task) (table : List Row) (v : Status BadLine) → Served task table v
      → Ends (Finishes accepts accepts') output output' v
  served-ends task table v served = elim served [
    | inl cannot ↦ subst (Ends (Finishes accepts accepts') output output') (sym cannot.verdict_is)
        (inr (refl, cannot.cause))
    | inr listened ↦ serves-ends table task listened.mid v listened.listens.faults_are listened.serves
  ]

  -- memory was refused to read accepted words
  pub refused-words : (task : Option Task) → input' ≡ input → Untouched → Verdict task status.OutOfMemory
  refused-words None unread untouched = (inr refl, unread, untouched)
  refused-words (Some task) unread untouched = record {
    bytes = [];
    gave = subst (λ (s : SourceTold). Gave input.left s.left []) (sym unread) (gave-nothing input.left);
    cause = inl ((omega arith, ap (λ (s : SourceTold). s.faults) unread), untouched);
  }

  -- ---- the verdict

  usage-none : (task : Option Task) → Verdict task status.Usage → task ≡ None
  usage-none None verdict = refl
  usage-none (Some task) verdict = absurd (done-usage most_input (Reads table_of) (Refuses table_of) Untouched
      (Served task) (is-reading table_of) (Finishes accepts accepts') input input' output output' (served-ends task)
      verdict)

  read-rose : (task : Option Task) → Verdict task status.ReadFault → input'.faults ≡ one_more input.faults
  read-rose None verdict = elim verdict.0 [ inl x ↦ cc (x) | inr x ↦ cc (x) ]
  read-rose (Some task) verdict = done-read most_input (Reads table_of) (Refuses table_of) Untouched
      (Served task) (is-reading table_of) (Finishes accepts accepts') input input' output output' (served-ends task)
      verdict

  write-failed : (task : Option Task) → Verdict task status.WriteFault → FailedOnce output output'
  write-failed None verdict = elim verdict.0 [ inl x ↦ cc (x) | inr x ↦ cc (x) ]
  write-failed (Some task) verdict = done-write most_input (Reads table_of) (Refuses table_of) Untouched
      (Served task) (is-reading table_of) (Finishes accepts accepts') input input' output output' (served-ends task)
      verdict

  accept-rose : (task : Option Task) → Verdict task status.OwnFault → accepts'.faults ≡ one_more accepts.faults
  accept-rose None verdict = elim verdict.0 [ inl x ↦ cc (x) | inr x ↦ cc (x) ]
  accept-rose (Some task) verdict = elim verdict.cause [
    | inl stopped ↦ absurd stopped.0
    | inr x ↦ elim x [
      | inl refused ↦ cc (refused.1.1)
      | inr worked ↦ elim (served-ends task worked.asked status.OwnFault worked.works) [
        | inl is ↦ cc (is)
        | inr accepts ↦ accepts.1
      ]
    ]
  ]

  -- ---- the whole

  pub answers : (words : List (List ℕ)) (c c' : SinkTold) (answer : Status BadLine)
      (a : IsAnswer (Verdict (task_of words)) complaint c c' answer)
      → (are_texts words ≡ false → a.verdict ≡ status.Usage)
      → Answers told words input input' accepts accepts' output output' c c' answer
  answers words c c' answer a first = record {
    is_answer = a;
    usage = λ is. usage-none (task_of words) (at is (λ e. cc (e)));
    not_accepted = λ none. answer-or a (λ v. (v ≡ status.Usage) ⊎ IsExcused output output' c c' v)
        (λ v is. elim (subst (λ (t : Option Task). Verdict t v) none is).0 [
          | inl usage ↦ inl usage
          | inr memory ↦ inr (inl memory)
        ])
        (λ x. inr (inr (x.0, inr x.1)));
    first = λ none. elim a.is_told [
      | inl x ↦ inl (x.0 ∙ first none)
      | inr x ↦ inr (x.0, cannot-failed (complaint a.verdict) c c' x.1)
    ];
    accepted = λ task some. input-answers most_input (Reads table_of) (Refuses table_of) Untouched (Served task)
        (is-reading table_of) (Finishes accepts accepts') input input' output output' (served-ends task) c c'
        (answer-by a (λ v is. subst (λ (t : Option Task). Verdict t v) some is));
    read_fault = λ is. read-rose (task_of words) (at is (λ e. cc (e)));
    accept_fault = λ is. accept-rose (task_of words) (at is (λ e. cc (e)));
    write_fault = answer-write a (FailedOnce output output') (write-failed (task_of words));
    told_whole = answer-told a;
  }
    where
      at : {wanted : Status BadLine} → answer ≡ wanted → wanted ≢ status.WriteFault → Verdict (task_of words) wanted
      at is other = subst (Verdict (task_of words)) is (answer-verdict a (λ e. other (sym is ∙ e)))
