-- What a program's account of its answer says of each status.
use Rattle.std.proofs.Common.{◌≡◌, ◌≢◌, ℕ, ◌+◌, ◌≤◌, ◌<◌, ◌⊎◌, inl, inr, List, length}
use Rattle.std.proofs.Common.{Option, Some, None, Result, Ok, Err, OnErr, OnOk, refl, ap, sym, subst, ◌∙◌, arith}
use Rattle.link_traits.proofs.SinkLemmas.{written-failed}
use Rattle.link_traits.proofs.SourceLemmas.{gave-all, gave-short}
use Rattle.link_traits.specs.Counts.{one_more}
use Rattle.link_traits.specs.Sinks.{FailedOnce, SinkTold, Took, TookPart, faults_written, zeros_written}
use Rattle.link_traits.specs.declared.sink.WriteFault.{WriteFault}
use Rattle.link_traits.specs.Sources.{Gave, SourceTold}
use Rattle.program_shell.specs.Complaints.{CannotComplain, HasComplained, IsAnswer, IsComplained}
use Rattle.program_shell.specs.Inputs.{IsRead, IsUnread, IsWhole, IsWhyStopped, Reads}
use Rattle.program_shell.specs.Inputs.{Refuses}
use Rattle.program_shell.specs.Program.{AnswersInput, AnswersText, IsCause, IsDone, IsExcusedRead, IsPlayed, IsWritten}
use Rattle.program_shell.specs.declared.status.Status.{Status}
use Rattle.program_shell.specs.declared.status.Status.TheVariants as status

-- ---- what was told

-- what comes of writing a line of complaint
pub complained : (text : List ℕ) (c c' : SinkTold) (r : Result (Unit {0}) WriteFault)
    → OnOk r (Took c.taken c'.taken text) → OnErr r (TookPart c.taken c'.taken text)
    → c'.faults ≡ faults_written c.faults r → c'.zeros ≡ zeros_written c.zeros r → IsComplained (Some text) c c' r
complained text c c' (Ok done) ok err faults zeros = (ok, (faults, zeros))
complained text c c' (Err fault) ok err faults zeros =
    (err, written-failed {A = Unit {0}} (Err fault) c c' faults zeros)

pub cannot-failed : (line : Option (List ℕ)) (c c' : SinkTold) → CannotComplain line c c' → FailedOnce c c'
cannot-failed None c c' t = absurd t
cannot-failed (Some line) c c' t = t.1

module _ {R : Type 0} {V : Status R → Type 0} {complaint : Status R → Option (List ℕ)} {c c' : SinkTold}
    {answer : Status R} (a : IsAnswer V complaint c c' answer) where
  -- what holds of each verdict, and where a complaint failed, holds of the answer
  pub answer-or : (W : Status R → Type 0) → ((v : Status R) → V v → W v)
      → ((answer ≡ status.WriteFault) × FailedOnce c c' → W answer) → W answer
  answer-or W of failed = elim a.is_told [
    | inl x ↦ subst W (sym x.0) (of a.verdict a.is_verdict)
    | inr x ↦ failed (x.0, cannot-failed (complaint a.verdict) c c' x.1)
  ]

  -- an answer other than WriteFault is the verdict, and was told by its line
  pub answer-verdict : answer ≢ status.WriteFault → V answer
  answer-verdict other = elim a.is_told [ inl x ↦ subst V (sym x.0) a.is_verdict | inr x ↦ absurd (other x.0) ]

  pub answer-told : answer ≢ status.WriteFault → HasComplained (complaint answer) c c'
  answer-told other = elim a.is_told [
    | inl x ↦ subst (λ (v : Status R). HasComplained (complaint v) c c') (sym x.0) x.1
    | inr x ↦ absurd (other x.0)
  ]

  pub answer-write : (F : Type 0) → (V status.WriteFault → F) → answer ≡ status.WriteFault → F ⊎ FailedOnce c c'
  answer-write F of is = elim a.is_told [
    | inl x ↦ inl (of (subst V (sym x.0 ∙ is) a.is_verdict))
    | inr x ↦ inr (cannot-failed (complaint a.verdict) c c' x.1)
  ]

  -- the same account by a weaker verdict
  pub answer-by : {W : Status R → Type 0} → ((v : Status R) → V v → W v) → IsAnswer W complaint c c' answer
  answer-by of = record { verdict = a.verdict; is_verdict = of a.verdict a.is_verdict; is_told = a.is_told }

-- ---- an input that was read

-- the verdict is one that refuses an input
abbrev pub IsOwn : {R : Type 0} → Status R → Type 0
IsOwn (status.Refused reason) = Unit {0}
IsOwn status.OwnFault = Unit {0}
IsOwn _ = ⊥

-- what work may come to, by what finishes it and by the output
abbrev pub Ends : {R : Type 0} → (Status R → Type 0) → SinkTold → SinkTold → Status R → Type 0
Ends finishes output output' status.Usage = ⊥
Ends finishes output output' status.ReadFault = ⊥
Ends finishes output output' status.InputTooLong = ⊥
Ends finishes output output' status.OutOfMemory = Unit {0}
Ends finishes output output' status.WriteFault = FailedOnce output output'
Ends finishes output output' verdict = finishes verdict

-- no bytes are both read and refused; they are refused by one verdict, which is Refused or OwnFault
pub record IsReading {A R : Type 0} (Reads : List ℕ → A → Type 0) (Refuses : List ℕ → Status R → Type 0)
    : Type 0 where
  pub apart : (bytes : List ℕ) (asked : A) (verdict : Status R) → Reads bytes asked → Refuses bytes verdict → ⊥
  pub one : (bytes : List ℕ) (verdict other : Status R) → Refuses bytes verdict → Refuses bytes other
      → verdict ≡ other
  pub own : (bytes : List ℕ) (verdict : Status R) → Refuses bytes verdict → IsOwn verdict

-- so it is where a function reads them
pub is-reading : {A R : Type 0} (reading : List ℕ → Result A R) → IsReading (Reads reading) (Refuses reading)
is-reading {A} {R} reading = record {
  apart = λ bytes asked verdict reads refuses. apart (reading bytes) asked refuses.0 reads refuses.2;
  one = λ bytes verdict other x y.
      x.1 ∙ ap status.Refused (same (reading bytes) x.0 y.0 x.2 y.2) ∙ sym y.1;
  own = λ bytes verdict x. subst IsOwn (sym x.1) tt;
}
  where
    apart : (read : Result A R) (asked : A) (reason : R) → read ≡ Ok asked → read ≡ Err reason → ⊥
    apart read asked reason x y = cc

    same : (read : Result A R) (a b : R) → read ≡ Err a → read ≡ Err b → a ≡ b
    same read a b x y = cc

module _ {A R : Type 0} (most : ℕ) (Reads : List ℕ → A → Type 0) (Refuses : List ℕ → Status R → Type 0)
    (Untouched : Type 0) (Works : A → Status R → Type 0) where
  abbrev Cause : List ℕ → SourceTold → SourceTold → Status R → Type 0
  Cause bytes input input' verdict = IsCause most Reads Refuses Untouched Works bytes input input' verdict

  abbrev Done : SourceTold → SourceTold → Status R → Type 0
  Done input input' verdict = IsDone most Reads Refuses Untouched Works input input' verdict

  -- nothing was done where the input was not read
  pub unread-done : (input input' : SourceTold) (verdict : Status R) → Untouched
      → IsUnread most Reads Refuses input input' verdict → Done input input' verdict
  unread-done input input' verdict untouched u = record {
    bytes = u.bytes;
    gave = u.gave;
    cause = elim u.why [ inl stopped ↦ inl (stopped, untouched) | inr x ↦ inr (inl (x.0, x.1, untouched)) ];
  }

  -- memory was refused before anything was done
  pub refused-done : (input input' : SourceTold) (asked : A) → Untouched
      → IsRead most Reads Refuses input input' asked → Done input input' status.OutOfMemory
  refused-done input input' asked untouched r =
      record { bytes = r.bytes; gave = r.given.gave; cause = inl ((r.given.whole.short, r.given.whole.quiet), untouched) }

  -- the work came to the verdict
  pub worked-done : (input input' : SourceTold) (asked : A) (verdict : Status R)
      → IsRead most Reads Refuses input input' asked → Works asked verdict → Done input input' verdict
  worked-done input input' asked verdict r works = record {
    bytes = r.bytes;
    gave = r.given.gave;
    cause = inr (inr (record { whole = r.given.whole; asked = asked; reads = r.reads; works = works }));
  }

  -- By what finishes the work:
  module _ (is_reading : IsReading Reads Refuses) (Finishes : Status R → Type 0) (input input' : SourceTold)
      (output output' : SinkTold)
      (ends : (asked : A) (v : Status R) → Works asked v → Ends Finishes output output' v) where
    pub done-usage : Done input input' status.Usage → ⊥
    done-usage d = elim d.cause [
      | inl x ↦ x.0
      | inr x ↦ elim x [ inl y ↦ is_reading.own d.bytes status.Usage y.1 | inr w ↦ ends w.asked status.Usage w.works ]
    ]

    pub done-read : Done input input' status.ReadFault → input'.faults ≡ one_more input.faults
    done-read d = elim d.cause [
      | inl x ↦ x.0.1
      | inr x ↦ elim x [
        | inl y ↦ absurd (is_reading.own d.bytes status.ReadFault y.1)
        | inr w ↦ absurd (ends w.asked status.ReadFault w.works)
      ]
    ]

    pub done-write : Done input input' status.WriteFault → FailedOnce output output'
    done-write d = elim d.cause [
      | inl x ↦ absurd x.0
      | inr x ↦ elim x [
        | inl y ↦ absurd (is_reading.own d.bytes status.WriteFault y.1)
        | inr w ↦ ends w.asked status.WriteFault w.works
      ]
    ]

    module _ (c c' : SinkTold) where
      abbrev Excused : Status R → Type 0
      Excused answer = IsExcusedRead input input' output output' c c' answer

      stopped : (bytes : List ℕ) (v : Status R) → IsWhyStopped most bytes input input' v
          → ((v ≡ status.InputTooLong) × (length bytes ≡ most + 1)) ⊎ Excused v
      stopped bytes status.ReadFault why = inr (inl (refl, why.1))
      stopped bytes status.InputTooLong why = inl (refl, why.0)
      stopped bytes status.OutOfMemory why = inr (inr (inl refl))
      stopped bytes status.Ok why = absurd why
      stopped bytes status.Usage why = absurd why
      stopped bytes (status.Refused reason) why = absurd why
      stopped bytes status.WriteFault why = absurd why
      stopped bytes status.OwnFault why = absurd why

      finished : (v : Status R) → Ends Finishes output output' v → Finishes v ⊎ Excused v
      finished status.Ok e = inl e
      finished (status.Refused reason) e = inl e
      finished status.OwnFault e = inl e
      finished status.WriteFault e = inr (inr (inr (refl, inl e)))
      finished status.OutOfMemory e = inr (inr (inl refl))
      finished status.Usage e = absurd e
      finished status.ReadFault e = absurd e
      finished status.InputTooLong e = absurd e

      cause-bound : (bytes : List ℕ) (v : Status R) → Cause bytes input input' v → length bytes ≤ most + 1
      cause-bound bytes v cause = elim cause [
        | inl x ↦ why-bound v x.0
        | inr x ↦ elim x [ inl y ↦ omega (arith, y.0.short) | inr w ↦ omega (arith, w.whole.short) ]
      ]
        where
          why-bound : (v : Status R) → IsWhyStopped most bytes input input' v → length bytes ≤ most + 1
          why-bound status.ReadFault why = omega (arith, why.0)
          why-bound status.InputTooLong why = omega (arith, why.0)
          why-bound status.OutOfMemory why = omega (arith, why.0)
          why-bound status.Ok why = absurd why
          why-bound status.Usage why = absurd why
          why-bound (status.Refused reason) why = absurd why
          why-bound status.WriteFault why = absurd why
          why-bound status.OwnFault why = absurd why

      -- where the input tells its bytes
      module _ (bytes : List ℕ) (tells : input.left ≡ Some bytes) where
        same-whole : (given : List ℕ) → Gave input.left input'.left given → IsWhole most given input input' → given ≡ bytes
        same-whole given gave whole = gave-all bytes given input.left input'.left tells gave whole.end

        not-longer : (given : List ℕ) → Gave input.left input'.left given → length bytes ≤ most
            → length given ≡ most + 1 → ⊥
        not-longer given gave short long =
            omega (arith, gave-short bytes given input.left input'.left tells gave, long, short)

        done-complete : (asked : A) → length bytes ≤ most → Reads bytes asked → (v : Status R) → Done input input' v
            → Finishes v ⊎ Excused v
        done-complete asked short reads v d = elim d.cause [
          | inl x ↦ elim (stopped d.bytes v x.0) [
            | inl long ↦ absurd (not-longer d.bytes d.gave short long.1)
            | inr excused ↦ inr excused
          ]
          | inr x ↦ elim x [
            | inl y ↦ absurd (is_reading.apart bytes asked v reads
                (subst (λ (l : List ℕ). Refuses l v) (same-whole d.bytes d.gave y.0) y.1))
            | inr w ↦ finished v (ends w.asked v w.works)
          ]
        ]

        done-refused : (wanted : Status R) → length bytes ≤ most → Refuses bytes wanted → (v : Status R)
            → Done input input' v → (v ≡ wanted) ⊎ Excused v
        done-refused wanted short refuses v d = elim d.cause [
          | inl x ↦ elim (stopped d.bytes v x.0) [
            | inl long ↦ absurd (not-longer d.bytes d.gave short long.1)
            | inr excused ↦ inr excused
          ]
          | inr x ↦ elim x [
            | inl y ↦ inl (is_reading.one bytes v wanted
                (subst (λ (l : List ℕ). Refuses l v) (same-whole d.bytes d.gave y.0) y.1) refuses)
            | inr w ↦ absurd (is_reading.apart bytes w.asked wanted
                (subst (λ (l : List ℕ). Reads l w.asked) (same-whole d.bytes d.gave w.whole) w.reads) refuses)
          ]
        ]

        done-longer : most < length bytes → (v : Status R) → Done input input' v
            → (v ≡ status.InputTooLong) ⊎ Excused v
        done-longer long v d = elim d.cause [
          | inl x ↦ elim (stopped d.bytes v x.0) [ inl is ↦ inl is.0 | inr excused ↦ inr excused ]
          | inr x ↦ elim x [ inl y ↦ absurd (whole-not y.0) | inr w ↦ absurd (whole-not w.whole) ]
        ]
          where
            whole-not : IsWhole most d.bytes input input' → ⊥
            whole-not whole = omega (arith, ap length (same-whole d.bytes d.gave whole), whole.short, long)

      pub input-answers : {complaint : Status R → Option (List ℕ)} {answer : Status R}
          → IsAnswer (Done input input') complaint c c' answer
          → AnswersInput most Reads Refuses Untouched Works Finishes input input' output output' c c' answer
      input-answers {complaint} {answer} a = record {
        cause = λ other.
            let d = answer-verdict a other in
            record { bytes = d.bytes; gave = d.gave; reason_is = d.cause };
        read_fault = λ is.
            done-read (subst (Done input input') is (answer-verdict a (λ e. cc (is, e))));
        complete = λ bytes asked tells short reads.
            or-excused Finishes (done-complete bytes tells asked short reads);
        refused = λ bytes wanted tells short refuses.
            or-excused (λ v. v ≡ wanted) (done-refused bytes tells wanted short refuses);
        longer = λ bytes tells long.
            or-excused (λ v. v ≡ status.InputTooLong) (done-longer bytes tells long);
        bound = record {
          bytes = a.is_verdict.bytes;
          gave = a.is_verdict.gave;
          reason_is = cause-bound a.is_verdict.bytes a.verdict a.is_verdict.cause;
        };
      }
        where
          or-excused : (Wanted : Status R → Type 0)
              → ((v : Status R) → Done input input' v → Wanted v ⊎ Excused v) → Wanted answer ⊎ Excused answer
          or-excused Wanted of =
              answer-or a (λ v. Wanted v ⊎ Excused v) of (λ x. inr (inr (inr (x.0, inr x.1))))

-- ---- a text

-- writing one ends so
pub written-ends : {R : Type 0} (IsText : List ℕ → Type 0) (output output' : SinkTold) (v : Status R)
    → IsWritten IsText output output' v → Ends (λ (one : Status R). one ≡ status.Ok) output output' v
written-ends IsText output output' status.Ok w = refl
written-ends IsText output output' status.WriteFault w = w.1
written-ends IsText output output' status.OutOfMemory w = tt
written-ends IsText output output' status.Usage w = w
written-ends IsText output output' (status.Refused reason) w = absurd w
written-ends IsText output output' status.ReadFault w = w
written-ends IsText output output' status.InputTooLong w = w
written-ends IsText output output' status.OwnFault w = absurd w

-- a program that writes a text for what its input is
module _ {A R : Type 0} (most : ℕ) (reading : List ℕ → Result A R) (IsTextFor : A → List ℕ → Type 0)
    (input input' : SourceTold) (output output' : SinkTold) where
  abbrev Played : SinkTold → Status R → Type 0
  Played after verdict = IsPlayed most reading IsTextFor input input' output after verdict

  abbrev Written : A → Status R → Type 0
  Written asked verdict = IsWritten (IsTextFor asked) output output' verdict

  pub unread-played : (verdict : Status R) → IsUnread most (Reads reading) (Refuses reading) input input' verdict
      → Played output verdict
  unread-played verdict u = unread-done most (Reads reading) (Refuses reading) (output ≡ output)
      (λ asked. IsWritten (IsTextFor asked) output output) input input' verdict refl u

  pub refused-played : (asked : A) → IsRead most (Reads reading) (Refuses reading) input input' asked
      → Played output status.OutOfMemory
  refused-played asked r = refused-done most (Reads reading) (Refuses reading) (output ≡ output)
      (λ one. IsWritten (IsTextFor one) output output) input input' asked refl r

  pub written-played : (asked : A) (verdict : Status R) → IsRead most (Reads reading) (Refuses reading) input input' asked
      → Written asked verdict → Played output' verdict
  written-played asked verdict r w = worked-done most (Reads reading) (Refuses reading) (output' ≡ output) Written input
      input' asked verdict r w

  text-ends : (asked : A) (v : Status R) → Written asked v
      → Ends (λ (one : Status R). one ≡ status.Ok) output output' v
  text-ends asked v w = written-ends (IsTextFor asked) output output' v w

  pub played-usage : Played output' status.Usage → ⊥
  played-usage d = done-usage most (Reads reading) (Refuses reading) (output' ≡ output) Written (is-reading reading)
      (λ one. one ≡ status.Ok) input input' output output' text-ends d

  pub played-write : Played output' status.WriteFault → FailedOnce output output'
  played-write d = done-write most (Reads reading) (Refuses reading) (output' ≡ output) Written (is-reading reading)
      (λ one. one ≡ status.Ok) input input' output output' text-ends d

  pub text-answers : {complaint : Status R → Option (List ℕ)} {c c' : SinkTold} {answer : Status R}
      → IsAnswer (Played output') complaint c c' answer
      → AnswersText most reading IsTextFor input input' output output' c c' answer
  text-answers {c = c} {c' = c'} a = input-answers most (Reads reading) (Refuses reading) (output' ≡ output) Written
      (is-reading reading) (λ one. one ≡ status.Ok) input input' output output' text-ends c c' a
