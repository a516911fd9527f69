-- A scenario and a text have one verdict: step by step, one of two cases applies, and its value is one.
use Rattle.std.proofs.Common.{◌≡◌, ◌≤◌, ◌<◌, ◌+◌, ◌⊎◌, inl, inr, ℕ, zero, suc, List, [], ◌∷◌, length, map, take}
use Rattle.std.proofs.Common.{refl, ap, sym, subst, ◌∙◌, arith, Some, None, Result, Ok, Err}
use Rattle.std.proofs.lemmas.Bool.{cases_order}
use Rattle.std.proofs.lemmas.Option.{same_Some}
use Rattle.std.specs.List.{slice_get}
use Rattle.book_calls.specs.declared.book.Book.{Book}
use Rattle.book_calls.specs.declared.entry.Entry.{Entry}
use Rattle.book_calls.specs.Book.{after}
use Rattle.book_calls.specs.Entries.{book_after}
use Rattle.script_events.specs.declared.events.Transcript.{Transcript}
use Rattle.play_text.specs.Text.{play_text}
use Rattle.script_reading.specs.declared.place.Place.{Place}
use Rattle.script_reading.specs.Scenarios.{scenario_of}
use Rattle.script_scenarios.specs.declared.document.Document.{Document}
use Rattle.script_scenarios.specs.declared.scenario.Scenario.{Scenario}
use Rattle.script_runs.specs.Documents.{EachDocument}
use Rattle.play_laws.specs.Once.{PlaysOnce}
use Rattle.play_definitions.specs.Plays.{IsTranscript, by_rules, opening_book, way_to_servers, ways_to_servers}
use Rattle.audit_replay.specs.Legality.{AreRight, IsIllegalAt, IsRight}
use Rattle.audit_replay.specs.Differences.{DifferAt}
use Rattle.audit_text.specs.Histories.{HasFault, Holds}
use Rattle.audit_text.specs.Laws.{HoldsOne, ReadsOnce}
use Rattle.audit_text.specs.declared.history.Reading.TheVariants.{Entries, Fault}
use Rattle.audit_verdict.proofs.LawLemmas.{play-of}
use Rattle.audit_verdict.specs.Laws.{HasOneVerdict}
use Rattle.audit_verdict.specs.Verdicts.{ComesTo, HasHistory, IsGiven, IsScenario, IsVerdict, StopsAt, stranger_in}
use Rattle.audit_verdict.specs.declared.verdict.Verdict.{Verdict}
use Rattle.audit_verdict.specs.declared.verdict.Verdict.TheVariants as verdict

-- ---- numbers and lists

-- where neither of two numbers can be the smaller, they are one
only-one : (a b : ℕ) → ¬ (a < b) → ¬ (b < a) → a ≡ b
only-one a b x y = elim (cases_order a b) [
  | inl same ↦ same
  | inr z ↦ elim z [ inl lt ↦ absurd (x lt) | inr lt ↦ absurd (y lt) ]
]

get-take : {X : Type 0} (l : List X) (a b : ℕ) → a < b → slice_get (take b l) a ≡ slice_get l a
get-take l a zero below = absurd (omega (arith, below))
get-take [] a (suc b) below = refl
get-take (x ∷ l) zero (suc b) below = refl
get-take (x ∷ l) (suc a) (suc b) below = get-take l a b (omega (arith, below))

take-take : {X : Type 0} (l : List X) (a b : ℕ) → a ≤ b → take a (take b l) ≡ take a l
take-take l zero b le = refl
take-take l (suc a) zero le = absurd (omega (arith, le))
take-take [] (suc a) (suc b) le = refl
take-take {X = X} (x ∷ l) (suc a) (suc b) le =
    ap (λ (m : List X). x ∷ m) (take-take l a b (omega (arith, le)))

-- ---- the text

-- two texts differ first at one offset
differ-once : (text play : List ℕ) (a b : ℕ) → DifferAt text play a → DifferAt text play b → a ≡ b
differ-once text play a b x y = only-one a b (before a b x y) (before b a y x)
  where
    before : (a b : ℕ) → DifferAt text play a → DifferAt text play b → a < b → ⊥
    before a b x y below =
        x.differs (sym (get-take text a b below) ∙ ap (λ (l : List ℕ). slice_get l a) y.front
        ∙ get-take play a b below)

abbrev Compared : List ℕ → List ℕ → Verdict → Type 0
Compared text play one =
    ((offset : ℕ) × (one ≡ verdict.Text offset) × DifferAt text play offset)
    ⊎ ((one ≡ verdict.Play) × (text ≡ play))

compared-once : (text play : List ℕ) (one other : Verdict) → Compared text play one → Compared text play other
    → one ≡ other
compared-once text play one other x y = elim x [
  | inl a ↦ elim y [
    | inl b ↦ a.1 ∙ ap (λ (n : ℕ). verdict.Text n) (differ-once text play a.0 b.0 a.2 b.2) ∙ sym b.1
    | inr b ↦ absurd (a.2.differs (ap (λ (l : List ℕ). slice_get l a.0) b.1))
  ]
  | inr a ↦ elim y [
    | inl b ↦ absurd (b.2.differs (ap (λ (l : List ℕ). slice_get l b.0) a.1))
    | inr b ↦ a.0 ∙ sym b.0
  ]
]

-- ---- the documents

module _ (scenario : Scenario) (history : List Entry) where
  abbrev Runs : List Transcript → Type 0
  Runs transcripts =
      EachDocument (IsTranscript by_rules scenario scenario.now history) 0 scenario.documents
      (ways_to_servers scenario) (ways_to_servers scenario) transcripts

  each-comes : (number : ℕ) (documents : List Document) (transcripts : List Transcript) (index : ℕ)
      → EachDocument (IsTranscript by_rules scenario scenario.now history) number documents
      (map (λ (d : Document). way_to_servers scenario) documents)
      (map (λ (d : Document). way_to_servers scenario) documents) transcripts
      → index < length documents
      → (document : Document) × (slice_get documents index ≡ Some document) × (transcript : Transcript)
      × ComesTo scenario history (number + index) document transcript
  each-comes number [] transcripts index EachDocument.none below = absurd (omega (arith, below))
  each-comes number (document ∷ documents) [] index runs below = elim runs [ ]
  each-comes number (document ∷ documents) (transcript ∷ transcripts) zero (EachDocument.one_more is more) below =
      let sum : number ≡ number + 0 = omega arith in
      (document, refl, transcript, subst (λ (n : ℕ). ComesTo scenario history n document transcript) sum is)
  each-comes number (document ∷ documents) (transcript ∷ transcripts) (suc index) (EachDocument.one_more is more)
      below =
      let rest = each-comes (number + 1) documents transcripts index more (omega (arith, below)) in
      let sum : number + 1 + index ≡ number + suc index = omega arith in (
        rest.0,
        rest.1,
        rest.2,
        subst (λ (n : ℕ). ComesTo scenario history n rest.0 rest.2) sum rest.3,
      )

  -- where all documents come to transcripts, none stops
  run-stops : (transcripts : List Transcript) (number : ℕ) → Runs transcripts → StopsAt scenario history number → ⊥
  run-stops transcripts number runs stops =
      let one = each-comes 0 scenario.documents transcripts number runs stops.within in
      let sum : 0 + number ≡ number = omega arith in
      stops.stops (record {
        document = one.0;
        document_is = one.1;
        transcript = one.2;
        comes = subst (λ (n : ℕ). ComesTo scenario history n one.0 one.2) sum one.3;
      })

  stop-once : (a b : ℕ) → StopsAt scenario history a → StopsAt scenario history b → a ≡ b
  stop-once a b x y = only-one a b (λ below. x.stops (y.before a below)) (λ below. y.stops (x.before b below))

  abbrev Ran : List ℕ → Verdict → Type 0
  Ran play one =
      ((number : ℕ) × (one ≡ verdict.Calls number) × StopsAt scenario history number)
      ⊎ ((transcripts : List Transcript) × Runs transcripts × Compared (play_text transcripts history) play one)

  -- ---- the history

  abbrev Named : List ℕ → Verdict → Type 0
  Named play one =
      ((index : ℕ) × (one ≡ verdict.Stranger index) × (stranger_in scenario history ≡ Some index))
      ⊎ ((stranger_in scenario history ≡ None) × Ran play one)

  abbrev Given : List ℕ → Verdict → Type 0
  Given play one =
      ((index : ℕ) × (one ≡ verdict.Illegal index) × IsIllegalAt (opening_book scenario) history index)
      ⊎ (IsGiven scenario history × Named play one)

  module _ (law : PlaysOnce) (play : List ℕ) (one other : Verdict) where
    ran-once : IsGiven scenario history → stranger_in scenario history ≡ None → Ran play one → Ran play other
        → one ≡ other
    ran-once given named x y = elim x [
      | inl a ↦ elim y [
        | inl b ↦ a.1 ∙ ap (λ (n : ℕ). verdict.Calls n) (stop-once a.0 b.0 a.2 b.2) ∙ sym b.1
        | inr b ↦ absurd (run-stops b.0 a.0 b.1 a.2)
      ]
      | inr a ↦ elim y [
        | inl b ↦ absurd (run-stops a.0 b.0 a.1 b.2)
        | inr b ↦
            let same : b.0 ≡ a.0 = law scenario b.0 a.0 history (play-of scenario b.0 history given named b.1)
            (play-of scenario a.0 history given named a.1) in
            compared-once (play_text a.0 history) play one other a.2
            (subst (λ (t : List Transcript). Compared (play_text t history) play other) same b.2)
      ]
    ]

    named-once : IsGiven scenario history → Named play one → Named play other → one ≡ other
    named-once given x y = elim x [
      | inl a ↦ elim y [
        | inl b ↦ a.1 ∙ ap (λ (n : ℕ). verdict.Stranger n) (same_Some _ _ (sym a.2 ∙ b.2)) ∙ sym b.1
        | inr b ↦ let both = sym a.2 ∙ b.0 in absurd (cc (both))
      ]
      | inr a ↦ elim y [
        | inl b ↦ let both = sym b.2 ∙ a.0 in absurd (cc (both))
        | inr b ↦ ran-once given a.0 a.1 b.1
      ]
    ]

-- an entry of a history that is right is right
right-at : (book : Book) (turn : ℕ) (history : List Entry) (index : ℕ) (entry : Entry) → AreRight book turn history
    → slice_get history index ≡ Some entry → IsRight (book_after book (take index history)) (turn + index) entry
right-at book turn [] index entry are at = absurd (cc)
right-at book turn (e ∷ history) zero entry are at =
    let sum : turn ≡ turn + 0 = omega arith in
    subst (λ (n : ℕ). IsRight book n entry) sum (subst (IsRight book turn) (same_Some _ _ at) are.0)
right-at book turn (e ∷ history) (suc index) entry are at =
    let sum : turn + 1 + index ≡ turn + suc index = omega arith in
    subst (λ (n : ℕ). IsRight (book_after (after book e.op) (take index history)) n entry) sum
    (right-at (after book e.op) (turn + 1) history index entry are.1 at)

illegal-right : (book : Book) (history : List Entry) (index : ℕ) → IsIllegalAt book history index
    → AreRight book 0 history → ⊥
illegal-right book history index is are =
    let sum : 0 + index ≡ index = omega arith in
    is.wrong (subst (λ (n : ℕ). IsRight (book_after book (take index history)) n is.entry) sum
    (right-at book 0 history index is.entry are is.entry_is))

illegal-once : (book : Book) (history : List Entry) (a b : ℕ) → IsIllegalAt book history a
    → IsIllegalAt book history b → a ≡ b
illegal-once book history a b x y = only-one a b (before a b x y) (before b a y x)
  where
    before : (a b : ℕ) → IsIllegalAt book history a → IsIllegalAt book history b → a < b → ⊥
    before a b x y below =
        let sum : 0 + a ≡ a = omega arith in
        let le : a ≤ b = omega (arith, below) in
        x.wrong (subst (λ (n : ℕ). IsRight (book_after book (take a history)) n x.entry) sum
        (subst (λ (l : List Entry). IsRight (book_after book l) (0 + a) x.entry) (take-take history a b le)
        (right-at book 0 (take b history) a x.entry y.before (get-take history a b below ∙ x.entry_is))))

given-once : (law : PlaysOnce) (scenario : Scenario) (history : List Entry) (play : List ℕ) (one other : Verdict)
    → Given scenario history play one → Given scenario history play other → one ≡ other
given-once law scenario history play one other x y = elim x [
  | inl a ↦ elim y [
    | inl b ↦
        a.1 ∙ ap (λ (n : ℕ). verdict.Illegal n) (illegal-once (opening_book scenario) history a.0 b.0 a.2 b.2)
        ∙ sym b.1
    | inr b ↦ absurd (illegal-right (opening_book scenario) history a.0 a.2 b.0)
  ]
  | inr a ↦ elim y [
    | inl b ↦ absurd (illegal-right (opening_book scenario) history b.0 b.2 a.0)
    | inr b ↦ named-once scenario history law play one other a.0 a.1 b.1
  ]
]

-- ---- the whole

abbrev Told : List ℕ → List ℕ → Verdict → Type 0
Told bytes play one =
    ((place : Place) × (one ≡ verdict.Scenario place) × (scenario_of bytes ≡ Err place))
    ⊎ ((number : ℕ) × (one ≡ verdict.History number) × IsScenario bytes × HasFault play number)
    ⊎ ((of : HasHistory bytes play) × Given of.scenario of.history play one)

told : (bytes play : List ℕ) (one : Verdict) → IsVerdict bytes play one → Told bytes play one
told bytes play (verdict.Scenario place) is = inl (place, refl, is)
told bytes play (verdict.History number) is = inr (inl (number, refl, is.0, is.1))
told bytes play (verdict.Illegal index) is = inr (inr (is.0, inl (index, refl, is.1)))
told bytes play (verdict.Stranger index) is = inr (inr (is.0, inr (is.1, inl (index, refl, is.2))))
told bytes play (verdict.Calls number) is =
    inr (inr (is.0.of, inr (is.0.given, inr (is.0.named, inl (number, refl, is.1)))))
told bytes play (verdict.Text offset) is =
    let legal = is.0.legal in
    inr (inr (
      legal.of,
      inr (
        legal.given,
        inr (
          legal.named,
          inr (
            is.0.transcripts,
            is.0.runs,
            inl (offset, refl, is.1),
          ),
        ),
      ),
    ))
told bytes play verdict.Play is =
    let legal = is.0.legal in
    inr (inr (legal.of, inr (legal.given, inr (legal.named, inr (is.0.transcripts, is.0.runs, inr (refl, is.1))))))

no-both : (read : Result Scenario Place) (scenario : Scenario) (place : Place) → read ≡ Ok scenario → read ≡ Err place
    → ⊥
no-both read scenario place x y = cc

one-place : (read : Result Scenario Place) (a b : Place) → read ≡ Err a → read ≡ Err b → a ≡ b
one-place read a b x y = cc

one-scenario : (read : Result Scenario Place) (a b : Scenario) → read ≡ Ok a → read ≡ Ok b → a ≡ b
one-scenario read a b x y = cc

one-number : (a b : ℕ) → Fault a ≡ Fault b → a ≡ b
one-number a b is = cc

no-fault : ReadsOnce → (play : List ℕ) (history : List Entry) (number : ℕ) → Holds play history
    → HasFault play number → ⊥
no-fault law play history number holds fault =
    let both : Entries history ≡ Fault number = law play (Entries history) (Fault number) holds fault in cc

pub one-verdict : HoldsOne → ReadsOnce → PlaysOnce → HasOneVerdict
one-verdict holds reads plays bytes play one other x y =
    elim (told bytes play one x) [
      | inl a ↦ elim (told bytes play other y) [
        | inl b ↦ a.1 ∙ ap (λ (p : Place). verdict.Scenario p) (one-place (scenario_of bytes) a.0 b.0 a.2 b.2) ∙ sym b.1
        | inr z ↦ elim z [
          | inl b ↦ absurd (no-both (scenario_of bytes) b.2.scenario a.0 b.2.read a.2)
          | inr b ↦ absurd (no-both (scenario_of bytes) b.0.scenario a.0 b.0.read a.2)
        ]
      ]
      | inr w ↦ elim w [
        | inl a ↦ elim (told bytes play other y) [
          | inl b ↦ absurd (no-both (scenario_of bytes) a.2.scenario b.0 a.2.read b.2)
          | inr z ↦ elim z [
            | inl b ↦
                a.1 ∙ ap (λ (n : ℕ). verdict.History n)
                (one-number a.0 b.0 (reads play (Fault a.0) (Fault b.0) a.3 b.3)) ∙ sym b.1
            | inr b ↦ absurd (no-fault reads play b.0.history a.0 b.0.holds a.3)
          ]
        ]
        | inr a ↦ elim (told bytes play other y) [
          | inl b ↦ absurd (no-both (scenario_of bytes) a.0.scenario b.0 a.0.read b.2)
          | inr z ↦ elim z [
            | inl b ↦ absurd (no-fault reads play a.0.history b.0 a.0.holds b.3)
            | inr b ↦
                given-once plays a.0.scenario a.0.history play one other a.1
                (subst (λ (s : Scenario). Given s a.0.history play other)
                (one-scenario (scenario_of bytes) b.0.scenario a.0.scenario b.0.read a.0.read)
                (subst (λ (h : List Entry). Given b.0.scenario h play other)
                (holds play b.0.history a.0.history b.0.holds a.0.holds) b.1))
          ]
        ]
      ]
    ]
